-- Soundness: fresh seats are sound, every event keeps them so, and so no state that is reached gets 27.
use Rattle.std.proofs.Common.{◌≡◌, ℕ, zero, suc, ◌-◌, ◌<◌, ◌≤◌, Bool, true, false, eqb, ltb, leb, List, [], ◌∷◌, ◌++◌, length, get_or, take, drop, set, sym, refl, ◌∙◌, add-one, arith, length-append, length-drop, length-set, length-take, get_or-set_other, get_or-set_same, take-take, take-suc-set, ltb-false, ltb-true, eq-eqb, eqb-true, le-leb, leb-false, leb-true}
use lib.ListN.{get_or-replicate}
use lib.Seq.{take-append-le}
use borrow.Author.Tests.{eqb-false}
use Rattle.bench.specs.Exports.{Command, said, judge_code}
use Rattle.bench.specs.Events as shared
use Rattle.bench.proofs.Exports.{both, read_allowed}
use Rattle.bench.proofs.Sound.{GoodBench}
use Rattle.bench.proofs.Demands.{fresh_is_sound, events_keep_soundness}
use Rattle.seats.specs.declared.queues.Queue.{Queue}
use Rattle.seats.specs.declared.Seats.{Seats}
use Rattle.seats.specs.Queues.{empty_command, empty_queue, waiting, oldest, passes_args, all_pass, queue_holds, shifted_of, entered_in, served_in}
use Rattle.seats.specs.State.{fresh_seats, no_queue, queue_in, waits, seats_sound, next_of}
use Rattle.seats.specs.Queueing.{full, front_code, entered_at, queue_code, queue_at}
use Rattle.seats.specs.Turn.{seats_after, turn_at, second_at}
use Rattle.seats.specs.Events.{Event, queue, turn, second, after_one, after, Reached}
use Rattle.seats.proofs.Fronts.{front_zero}
use Rattle.seats.proofs.States.{parts_sound, next_waits, queue_code_lem, turn_nobody, turn_one}

-- A sound queue, whose array has its length and whose count its width, as every program's have.
pub record GoodQueue (q : Queue) : Type 0 where
  pub holds : queue_holds q ≡ true
  pub long : length q.commands ≡ 32
  pub small : q.queued < 4294967296

-- Sound seats.
pub record GoodSeats (s : Seats) : Type 0 where
  pub last : s.last < 4
  pub bench : GoodBench s.bench
  pub four : length s.queues ≡ 4
  pub each : (v : ℕ) → v < 4 → GoodQueue (queue_in s.queues v)

-- They pass the test of 27.
pub good_sound : (s : Seats) → GoodSeats s → seats_sound s ≡ true
good_sound s good =
    let holds : (v : ℕ) → v < 4 → queue_holds (queue_in s.queues v) ≡ true = λ v h. (good.each v h).holds in
    parts_sound s (record {
      rules = record {
        last = good.last;
        queues = rw (holds 0 (omega arith), holds 1 (omega arith), holds 2 (omega arith)) (holds 3 (omega arith));
      };
      bench = good.bench.sound;
    })

-- What a queue that holds says of its commands.
pub short : (q : Queue) → GoodQueue q → q.count ≤ 32
unfolding queue_holds
short q good = leb-true q.count 32 (both (leb q.count 32) (all_pass (waiting q)) good.holds).0

pub all_pass_lem : (q : Queue) → GoodQueue q → all_pass (waiting q) ≡ true
unfolding queue_holds
all_pass_lem q good = (both (leb q.count 32) (all_pass (waiting q)) good.holds).1

holding : (q : Queue) → q.count ≤ 32 → all_pass (waiting q) ≡ true → queue_holds q ≡ true
unfolding queue_holds
holding q h all = rw (le-leb q.count 32 h) all

all_append : (xs ys : List Command) → all_pass xs ≡ true → all_pass ys ≡ true → all_pass (xs ++ ys) ≡ true
unfolding all_pass
all_append [] ys h k = k
all_append (x ∷ xs) ys h k =
    let parts = both (passes_args x) (all_pass xs) h in
    rw parts.0 (all_append xs ys parts.1 k)

pub pass_parts : (x : Command) (xs : List Command) → all_pass (x ∷ xs) ≡ true → (judge_code x ≡ 0) × (all_pass xs ≡ true)
unfolding all_pass
pass_parts x xs h =
    let parts = both (passes_args x) (all_pass xs) h in
    (eqb-true (judge_code x) 0 parts.0, parts.1)

all_one : (c : Command) → judge_code c ≡ 0 → all_pass (c ∷ []) ≡ true
unfolding all_pass
all_one c e = rw e

-- What waits after one more entered, and after the oldest was served.
pub waiting_entered : (q : Queue) (c : Command) → q.count < length q.commands → waiting (entered_in q c) ≡ waiting q ++ (c ∷ [])
waiting_entered q c h = rw add-one (take-suc-set q.commands q.count c h)

shifted_front : (cs : List Command) (count : ℕ) → length cs ≡ 32 → 0 < count → count ≤ 32
    → take count cs ≡ get_or cs 0 empty_command ∷ take (count - 1) (shifted_of cs)
shifted_front [] count long some few = absurd (omega arith)
shifted_front (c ∷ cs) zero long some few = absurd (omega arith)
shifted_front (c ∷ cs) (suc n) long some few =
    let less : suc n - 1 ≡ n = omega arith in
    let front : take n (take 31 cs ++ drop 31 (c ∷ cs)) ≡ take n cs =
    take-append-le n (take 31 cs) (drop 31 (c ∷ cs)) (omega (arith, length-take 31 cs)) ∙ take-take n 31 cs (omega arith) in
    rw (less, front)

pub waiting_served : (q : Queue) → GoodQueue q → 0 < q.count → waiting q ≡ oldest q ∷ waiting (served_in q)
waiting_served q good some = shifted_front q.commands q.count good.long some (short q good)

length_shifted : (cs : List Command) → length cs ≡ 32 → length (shifted_of cs) ≡ 32
length_shifted cs long =
    length-append (take 31 (drop 1 cs)) (drop 31 cs)
    ∙ (let e : _ ≡ 32 = omega (arith, length-take 31 (drop 1 cs), length-drop 1 cs, length-drop 31 cs) in e)

entered_good : (q : Queue) (c : Command) → GoodQueue q → q.count < 32 → judge_code c ≡ 0 → GoodQueue (entered_in q c)
entered_good q c good room passes =
    let all = all_append (waiting q) (c ∷ []) (all_pass_lem q good) (all_one c passes) in
    record {
      holds = holding (entered_in q c) (omega arith) (rw (waiting_entered q c (omega (arith, good.long))) all);
      long = length-set q.commands q.count c ∙ good.long;
      small = omega arith;
    }

-- The oldest passed 8 to 10, and so did those behind it.
served_parts : (q : Queue) → GoodQueue q → 0 < q.count → (judge_code (oldest q) ≡ 0) × (all_pass (waiting (served_in q)) ≡ true)
served_parts q good some = pass_parts (oldest q) (waiting (served_in q)) (rw (← waiting_served q good some) (all_pass_lem q good))

pub oldest_passes : (q : Queue) → GoodQueue q → 0 < q.count → judge_code (oldest q) ≡ 0
oldest_passes q good some = (served_parts q good some).0

served_good : (q : Queue) → GoodQueue q → 0 < q.count → GoodQueue (served_in q)
served_good q good some =
    record {
      holds = holding (served_in q) (omega (arith, short q good)) (served_parts q good some).1;
      long = length_shifted q.commands good.long;
      small = good.small;
    }

-- One queue replaced.
pub replaced : (qs : List Queue) (seat : ℕ) (q : Queue) (P : Queue → Type 0) → length qs ≡ 4 → seat < 4 → P q → (v : ℕ) → P (queue_in qs v)
    → P (queue_in (set qs seat q) v)
replaced qs seat q P four below new v old = go (eqb v seat) refl
  where
    go : (b : Bool) → eqb v seat ≡ b → P (queue_in (set qs seat q) v)
    go true is = rw (eqb-true v seat is, get_or-set_same qs seat q no_queue (omega arith)) new
    go false is = rw (get_or-set_other qs seat v q no_queue (eqb-false v seat is)) old

-- What queueing with code 0 says: the seat is one of the four, it has room, the command passes 8 to 10, and it enters.
pub record Enters (s : Seats) (seat : ℕ) (bytes : List ℕ) : Type 0 where
  pub below : seat < 4
  pub room : (queue_in s.queues seat).count < 32
  pub passes : judge_code (said bytes) ≡ 0
  pub becomes : (queue_at s seat bytes).seats ≡ entered_at s seat (said bytes)

pub enters : (s : Seats) → seats_sound s ≡ true → (seat : ℕ) (bytes : List ℕ) → queue_code s seat bytes ≡ 0 → Enters s seat bytes
unfolding queue_at
enters s sound seat bytes is0 =
    let front : front_code seat bytes ≡ 0 = clear (eqb (front_code seat bytes) 0) refl in
    let at = front_zero seat bytes front in
    record {
      below = at.0;
      room = roomy front (full s seat) refl;
      passes = read_allowed bytes at.1;
      becomes = rw (eq-eqb (queue_code s seat bytes) 0 is0);
    }
  where
    clear : (b : Bool) → eqb (front_code seat bytes) 0 ≡ b → front_code seat bytes ≡ 0
    clear true is = eqb-true (front_code seat bytes) 0 is
    clear false is = sym (queue_code_lem s seat bytes sound ∙ rw is) ∙ is0

    roomy : front_code seat bytes ≡ 0 → (b : Bool) → full s seat ≡ b → (queue_in s.queues seat).count < 32
    roomy front false is = leb-false 32 (queue_in s.queues seat).count is
    roomy front true is = absurd (let z : 52 ≡ 0 = sym (queue_code_lem s seat bytes sound ∙ rw (front, is)) ∙ is0 in omega arith)

-- With any other code it leaves everything.
pub queue_leaves : (s : Seats) (seat : ℕ) (bytes : List ℕ) → eqb (queue_code s seat bytes) 0 ≡ false → (queue_at s seat bytes).seats ≡ s
unfolding queue_at
queue_leaves s seat bytes refused = rw refused

-- Every event keeps soundness.
enter_keeps : (s : Seats) → GoodSeats s → (seat : ℕ) (bytes : List ℕ) → Enters s seat bytes → GoodSeats (entered_at s seat (said bytes))
enter_keeps s good seat bytes got =
    let q = queue_in s.queues seat in
    let new = entered_good q (said bytes) (good.each seat got.below) got.room got.passes in
    record {
      last = good.last;
      bench = good.bench;
      four = length-set s.queues seat (entered_in q (said bytes)) ∙ good.four;
      each = λ v h. replaced s.queues seat (entered_in q (said bytes)) GoodQueue good.four got.below new v (good.each v h);
    }

queue_keeps : (s : Seats) → GoodSeats s → (seat : ℕ) (bytes : List ℕ) → GoodSeats (queue_at s seat bytes).seats
queue_keeps s good seat bytes = go (eqb (queue_code s seat bytes) 0) refl
  where
    go : (b : Bool) → eqb (queue_code s seat bytes) 0 ≡ b → GoodSeats (queue_at s seat bytes).seats
    go true is =
        let got = enters s (good_sound s good) seat bytes (eqb-true (queue_code s seat bytes) 0 is) in
        rw got.becomes (enter_keeps s good seat bytes got)
    go false is = rw (queue_leaves s seat bytes is) good

serve_keeps : (s : Seats) → GoodSeats s → (seat : ℕ) → seat < 4 → waits s.queues seat ≡ true → GoodSeats (seats_after s seat)
serve_keeps s good seat below here =
    let q = queue_in s.queues seat in
    let new = served_good q (good.each seat below) (ltb-true 0 q.count here) in
    record {
      last = below;
      bench = events_keep_soundness s.bench good.bench (shared.command (oldest q));
      four = length-set s.queues seat (served_in q) ∙ good.four;
      each = λ v h. replaced s.queues seat (served_in q) GoodQueue good.four below new v (good.each v h);
    }

turn_keeps : (s : Seats) → GoodSeats s → GoodSeats (turn_at s).seats
turn_keeps s good = go (ltb (next_of s) 4) refl
  where
    sound : seats_sound s ≡ true
    sound = good_sound s good

    go : (b : Bool) → ltb (next_of s) 4 ≡ b → GoodSeats (turn_at s).seats
    go true is =
        let below = ltb-true (next_of s) 4 is in
        rw (← turn_one s sound below) (serve_keeps s good (next_of s) below (next_waits s.queues s.last below))
    go false is = rw (← turn_nobody s sound (ltb-false (next_of s) 4 is)) good

second_keeps : (s : Seats) → GoodSeats s → GoodSeats (second_at s).seats
unfolding second_at
second_keeps s good =
    rw (good_sound s good) (record {
      last = good.last;
      bench = events_keep_soundness s.bench good.bench shared.second;
      four = good.four;
      each = good.each;
    })

pub event_keeps : (s : Seats) → GoodSeats s → (e : Event) → GoodSeats (after_one s e)
event_keeps s good (queue seat bytes) = queue_keeps s good seat bytes
event_keeps s good turn = turn_keeps s good
event_keeps s good second = second_keeps s good

pub after_keeps : (s : Seats) → GoodSeats s → (es : List Event) → GoodSeats (after s es)
after_keeps s good [] = good
after_keeps s good (e ∷ es) = after_keeps (after_one s e) (event_keeps s good e) es

-- Fresh seats are sound.
empty_good : GoodQueue empty_queue
unfolding queue_holds all_pass
empty_good = record { holds = refl; long = refl; small = omega arith }

pub fresh_good : GoodSeats fresh_seats
fresh_good =
    record {
      last = omega arith;
      bench = fresh_is_sound;
      four = refl;
      each = λ v h. rw (get_or-replicate 4 v empty_queue no_queue h) empty_good;
    }

-- So every state that is reached is.
pub reached_good : (s : Seats) → Reached s → GoodSeats s
reached_good s r = rw (← r.reached) (after_keeps fresh_seats fresh_good r.events)
