-- A waiting seat is served within four turns, and no other seat twice before it, whatever happens between the turns.
use Rattle.std.proofs.Common.{◌≡◌, ℕ, ◌+◌, ◌-◌, ◌%◌, ◌<◌, ◌≤◌, Bool, true, false, cond, ◌||◌, eqb, ltb, ◌⊎◌, List, [], ◌∷◌, sym, refl, ap, ◌∙◌, inl, inr, arith, get_or-set_other, ltb-false, ltb-true, lt-ltb, eqb-true}
use mathlib.Core.Bool.{false≢true}
use borrow.Author.Tests.{eqb-false}
use Rattle.bench.specs.Exports.{said}
use Rattle.bench.proofs.Exports.{neither}
use Rattle.seats.specs.declared.queues.Queue.{Queue}
use Rattle.seats.specs.declared.Seats.{Seats}
use Rattle.seats.specs.Queues.{entered_in, served_in}
use Rattle.seats.specs.State.{no_queue, queue_in, waits, next_after, next_of}
use Rattle.seats.specs.Queueing.{queue_code, queue_at}
use Rattle.seats.specs.Turn.{TurnTold, seats_after, turn_at, second_at}
use Rattle.seats.specs.Events.{Event, queue, turn, second, turns_in, sent_by, serves, serves_any, times_served}
use Rattle.seats.proofs.States.{turn_one}
use Rattle.seats.proofs.Good.{GoodSeats, good_sound, enters, queue_leaves, event_keeps, replaced}

-- How many seats stand before w in the order of turns after `last`.
abbrev pub before : ℕ → ℕ → ℕ
before last w = (w + 3 - last) % 4

-- The next seat stands no later than any that waits.
apart : (qs : List Queue) (w n : ℕ) → waits qs w ≡ true → waits qs n ≡ false → w ≡ n → ⊥
apart qs w n here gone same = false≢true (sym gone ∙ rw (← same) here)

pub next_first : (qs : List Queue) (last w : ℕ) → last < 4 → w < 4 → waits qs w ≡ true
    → (next_after qs last < 4) × (before last (next_after qs last) ≤ before last w)
unfolding next_after
next_first qs last w l h here =
    go (waits qs ((last + 1) % 4)) (waits qs ((last + 2) % 4)) (waits qs ((last + 3) % 4)) (waits qs last) refl refl refl refl
  where
    go : (a b c d : Bool) → waits qs ((last + 1) % 4) ≡ a → waits qs ((last + 2) % 4) ≡ b → waits qs ((last + 3) % 4) ≡ c → waits qs last ≡ d
        → (cond a ((last + 1) % 4) (cond b ((last + 2) % 4) (cond c ((last + 3) % 4) (cond d last 4))) < 4)
        × (before last (cond a ((last + 1) % 4) (cond b ((last + 2) % 4) (cond c ((last + 3) % 4) (cond d last 4)))) ≤ before last w)
    go true b c d p q r t = (omega arith, omega arith)
    go false true c d p q r t = (omega arith, omega (arith, apart qs w ((last + 1) % 4) here p))
    go false false true d p q r t = (omega arith, omega (arith, apart qs w ((last + 1) % 4) here p, apart qs w ((last + 2) % 4) here q))
    go false false false true p q r t =
        (omega arith, omega (arith, apart qs w ((last + 1) % 4) here p, apart qs w ((last + 2) % 4) here q, apart qs w ((last + 3) % 4) here r))
    go false false false false p q r t =
        absurd (omega (arith, apart qs w ((last + 1) % 4) here p, apart qs w ((last + 2) % 4) here q, apart qs w ((last + 3) % 4) here r, apart qs w last here t))

-- The order of turns without remainders: w is above the last seat, or not.
abbrev Placed : ℕ → ℕ → ℕ → Type 0
Placed last w x = ((last < w) × (x + last + 1 ≡ w)) ⊎ ((w ≤ last) × (x + last ≡ w + 3))

placed : (last w : ℕ) → last < 4 → w < 4 → Placed last w (before last w)
placed last w l h = go (ltb last w) refl
  where
    go : (b : Bool) → ltb last w ≡ b → Placed last w (before last w)
    go true is = let up = ltb-true last w is in inl (up, omega arith)
    go false is = let down = ltb-false last w is in inr (down, omega arith)

-- Places differ where seats do, and a turn moves those behind it up.
same_place : (last n w x y : ℕ) → n < 4 → w < 4 → Placed last n x → Placed last w y → x ≡ y → n ≡ w
same_place last n w x y a b (inl p) (inl q) e = omega arith
same_place last n w x y a b (inl p) (inr q) e = omega arith
same_place last n w x y a b (inr p) (inl q) e = omega arith
same_place last n w x y a b (inr p) (inr q) e = omega arith

moves_up : (last n w x y z : ℕ) → last < 4 → n < 4 → w < 4 → Placed last n x → Placed last w y → Placed n w z → x < y → z + x + 1 ≡ y
moves_up last n w x y z l a b (inl p) (inl q) (inl r) h = omega arith
moves_up last n w x y z l a b (inl p) (inl q) (inr r) h = omega arith
moves_up last n w x y z l a b (inl p) (inr q) (inl r) h = omega arith
moves_up last n w x y z l a b (inl p) (inr q) (inr r) h = omega arith
moves_up last n w x y z l a b (inr p) (inl q) (inl r) h = omega arith
moves_up last n w x y z l a b (inr p) (inl q) (inr r) h = omega arith
moves_up last n w x y z l a b (inr p) (inr q) (inl r) h = omega arith
moves_up last n w x y z l a b (inr p) (inr q) (inr r) h = omega arith

up : (last n w : ℕ) → last < 4 → n < 4 → w < 4 → before last n < before last w → before n w + before last n + 1 ≡ before last w
up last n w l a b h = moves_up last n w _ _ _ l a b (placed last n l a) (placed last w l b) (placed n w a b) h

strictly : (x y : ℕ) → x ≤ y → (x ≡ y → ⊥) → x < y
strictly x y h k = omega arith

ahead : (last n w : ℕ) → last < 4 → n < 4 → w < 4 → (n ≡ w → ⊥) → before last n ≤ before last w → before last n < before last w
ahead last n w l a b other h =
    strictly (before last n) (before last w) h (λ e. other (same_place last n w (before last n) (before last w) a b (placed last n l a) (placed last w l b) e))

below_by : (x y z : ℕ) → z + x + 1 ≡ y → z < y
below_by x y z e = omega arith

-- After the turn of another seat that stood before it, w is nearer,
nearer : (last n w : ℕ) → last < 4 → n < 4 → w < 4 → (n ≡ w → ⊥) → before last n ≤ before last w → before n w < before last w
nearer last n w l a b other h = below_by (before last n) (before last w) (before n w) (up last n w l a b (ahead last n w l a b other h))

-- and stays before any seat that stood behind it;
both_up : (x y u z t : ℕ) → z + x + 1 ≡ y → t + x + 1 ≡ u → y < u → z < t
both_up x y u z t p q h = omega arith

between : (x y u : ℕ) → x < y → y < u → x < u
between x y u h k = omega arith

stays_before : (last n w v : ℕ) → last < 4 → n < 4 → w < 4 → v < 4 → (n ≡ w → ⊥) → before last n ≤ before last w → before last w < before last v
    → before n w < before n v
stays_before last n w v l a b c other h k =
    let first = ahead last n w l a b other h in
    both_up (before last n) (before last w) (before last v) (before n w) (before n v) (up last n w l a b first)
    (up last n v l a c (between (before last n) (before last w) (before last v) first k)) k

-- the seat that was served stands last.
served_last : (v w : ℕ) → v < 4 → w < 4 → (v ≡ w → ⊥) → before v w < before v v
served_last v w a b other = omega arith

-- What the events do to a seat that waits.
waits_on : (s : Seats) → GoodSeats s → (w : ℕ) → waits s.queues w ≡ true → (seat : ℕ) (bytes : List ℕ) → waits (queue_at s seat bytes).seats.queues w ≡ true
waits_on s good w here seat bytes = go (eqb (queue_code s seat bytes) 0) refl
  where
    go : (b : Bool) → eqb (queue_code s seat bytes) 0 ≡ b → waits (queue_at s seat bytes).seats.queues w ≡ true
    go true is =
        let got = enters s (good_sound s good) seat bytes (eqb-true (queue_code s seat bytes) 0 is) in
        let q = queue_in s.queues seat in
        rw got.becomes (replaced s.queues seat (entered_in q (said bytes)) (λ p. ltb 0 p.count ≡ true) good.four got.below
        (lt-ltb 0 (q.count + 1) (omega arith)) w here)
    go false is = rw (queue_leaves s seat bytes is) here

last_on : (s : Seats) → GoodSeats s → (seat : ℕ) (bytes : List ℕ) → (queue_at s seat bytes).seats.last ≡ s.last
last_on s good seat bytes = go (eqb (queue_code s seat bytes) 0) refl
  where
    go : (b : Bool) → eqb (queue_code s seat bytes) 0 ≡ b → (queue_at s seat bytes).seats.last ≡ s.last
    go true is = ap (λ (t : Seats). t.last) (enters s (good_sound s good) seat bytes (eqb-true (queue_code s seat bytes) 0 is)).becomes
    go false is = ap (λ (t : Seats). t.last) (queue_leaves s seat bytes is)

pub second_on : (s : Seats) → GoodSeats s → ((second_at s).seats.queues ≡ s.queues) × ((second_at s).seats.last ≡ s.last)
unfolding second_at
second_on s good = (rw (good_sound s good), rw (good_sound s good))

-- What a turn does where some seat is next.
or-false : (b : Bool) → (b || false) ≡ b
or-false true = refl
or-false false = refl

pub turn-serves : (s : Seats) → GoodSeats s → next_of s < 4 → (v : ℕ) → serves v s turn ≡ eqb (next_of s) v
turn-serves s good below v = ap (λ (t : TurnTold). sent_by v t.records) (sym (turn_one s (good_sound s good) below)) ∙ or-false (eqb (next_of s) v)

pub turn_seats : (s : Seats) → GoodSeats s → next_of s < 4 → (turn_at s).seats ≡ seats_after s (next_of s)
turn_seats s good below = ap (λ (t : TurnTold). t.seats) (sym (turn_one s (good_sound s good) below))

other_waits : (s : Seats) (n w : ℕ) → waits s.queues w ≡ true → (w ≡ n → ⊥) → waits (seats_after s n).queues w ≡ true
other_waits s n w here other = rw (get_or-set_other s.queues n w (served_in (queue_in s.queues n)) no_queue other) here

pub record Turns (s : Seats) (w : ℕ) : Type 0 where
  pub below : next_of s < 4
  pub first : before s.last (next_of s) ≤ before s.last w
  pub last : (turn_at s).seats.last ≡ next_of s
  pub served : (v : ℕ) → serves v s turn ≡ eqb (next_of s) v
  pub waiting : (next_of s ≡ w → ⊥) → waits (turn_at s).seats.queues w ≡ true

pub turns : (s : Seats) → GoodSeats s → (w : ℕ) → w < 4 → waits s.queues w ≡ true → Turns s w
turns s good w h here =
    let next = next_first s.queues s.last w good.last h here in
    let becomes = turn_seats s good next.0 in
    record {
      below = next.0;
      first = next.1;
      last = ap (λ (t : Seats). t.last) becomes;
      served = turn-serves s good next.0;
      waiting = λ other. rw becomes (other_waits s (next_of s) w here (λ e. other (sym e)));
    }

-- "A waiting seat is served within four turns, whatever the others send": it is served as soon as there are more turns than seats before it.
fair_by : (es : List Event) (s : Seats) → GoodSeats s → (w : ℕ) → w < 4 → waits s.queues w ≡ true → before s.last w < turns_in es
    → serves_any w s es ≡ true
fair_by [] s good w h here enough = absurd (omega arith)
fair_by (queue seat bytes ∷ es) s good w h here enough =
    fair_by es (queue_at s seat bytes).seats (event_keeps s good (queue seat bytes)) w h (waits_on s good w here seat bytes) (rw (last_on s good seat bytes) enough)
fair_by (second ∷ es) s good w h here enough =
    fair_by es (second_at s).seats (event_keeps s good second) w h (rw (second_on s good).0 here) (rw (second_on s good).1 enough)
fair_by (turn ∷ es) s good w h here enough = go (eqb (next_of s) w) refl (fair_by es (turn_at s).seats (event_keeps s good turn) w h)
  where
    t : Turns s w
    t = turns s good w h here

    go : (b : Bool) → eqb (next_of s) w ≡ b
        → (waits (turn_at s).seats.queues w ≡ true → before (turn_at s).seats.last w < turns_in es → serves_any w (turn_at s).seats es ≡ true)
        → (serves w s turn || serves_any w (turn_at s).seats es) ≡ true
    go true is later = rw (t.served w, is)
    go false is later =
        let other = eqb-false (next_of s) w is in
        let near = nearer s.last (next_of s) w good.last t.below h other t.first in
        rw (t.served w, is) (later (t.waiting other) (rw t.last (omega arith)))

pub fair : (s : Seats) → GoodSeats s → (w : ℕ) → w < 4 → waits s.queues w ≡ true → (es : List Event) → 4 ≤ turns_in es → serves_any w s es ≡ true
fair s good w h here es four = fair_by es s good w h here (omega arith)

-- "while a seat waits, no other seat is served twice before it"
record Once (v w : ℕ) (s : Seats) (es : List Event) : Type 0 where
  once : times_served v s es ≤ 1
  never : before s.last w < before s.last v → times_served v s es ≡ 0

once_by : (es : List Event) (s : Seats) → GoodSeats s → (w v : ℕ) → w < 4 → v < 4 → (v ≡ w → ⊥) → waits s.queues w ≡ true
    → serves_any w s es ≡ false → Once v w s es
once_by [] s good w v h k other here unserved = record { once = omega arith; never = λ b. refl }
once_by (queue seat bytes ∷ es) s good w v h k other here unserved =
    let later = once_by es (queue_at s seat bytes).seats (event_keeps s good (queue seat bytes)) w v h k other (waits_on s good w here seat bytes) unserved in
    record { once = later.once; never = λ b. later.never (rw (last_on s good seat bytes) b) }
once_by (second ∷ es) s good w v h k other here unserved =
    let later = once_by es (second_at s).seats (event_keeps s good second) w v h k other (rw (second_on s good).0 here) unserved in
    record { once = later.once; never = λ b. later.never (rw (second_on s good).1 b) }
once_by (turn ∷ es) s good w v h k other here unserved =
    go (eqb (next_of s) v) refl (once_by es (turn_at s).seats (event_keeps s good turn) w v h k other (t.waiting not_w) parts.1)
  where
    t : Turns s w
    t = turns s good w h here

    parts : (serves w s turn ≡ false) × (serves_any w (turn_at s).seats es ≡ false)
    parts = neither (serves w s turn) (serves_any w (turn_at s).seats es) unserved

    not_w : next_of s ≡ w → ⊥
    not_w = eqb-false (next_of s) w (sym (t.served w) ∙ parts.0)

    go : (b : Bool) → eqb (next_of s) v ≡ b → Once v w (turn_at s).seats es → Once v w s (turn ∷ es)
    go true is later =
        let same = eqb-true (next_of s) v is in
        let none : times_served v (turn_at s).seats es ≡ 0 = later.never (rw (t.last, same) (served_last v w k h other)) in
        record {
          once = rw (t.served v, is, none) (omega arith);
          never = λ b. absurd (let f : before s.last v ≤ before s.last w = rw same at t.first in omega arith);
        }
    go false is later =
        record {
          once = rw (t.served v, is) later.once;
          never = λ b. rw (t.served v, is)
              (later.never (rw t.last (stays_before s.last (next_of s) w v good.last t.below h k not_w t.first b)));
        }

pub no_other_twice : (s : Seats) → GoodSeats s → (w v : ℕ) → w < 4 → v < 4 → (v ≡ w → ⊥) → waits s.queues w ≡ true
    → (es : List Event) → serves_any w s es ≡ false → times_served v s es ≤ 1
no_other_twice s good w v h k other here es unserved = (once_by es s good w v h k other here unserved).once
