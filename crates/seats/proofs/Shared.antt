-- The shared bench: what happens to the seats is to it a list of its own events, so that its own theorems hold of it. Demand 3 is among them: a macro
-- that a turn starts hands over group k of its written-out list in second k, whatever the seats queue and whichever turns are taken meanwhile.
use Rattle.std.proofs.Common.{◌≡◌, ℕ, suc, ◌+◌, ◌-◌, ◌<◌, ◌≤◌, Bool, true, false, cond, eqb, ltb, List, [], ◌∷◌, ◌++◌, length, sym, refl, ap, ◌∙◌, append_assoc, ltb-false, ltb-true, eqb-true}
use Rattle.bench.specs.Exports.{Kind, byte_at, is_run, is_stop, is_closed, written_out}
use Rattle.bench.specs.declared.Bench.{Bench}
use Rattle.bench.specs.Status as shown
use Rattle.bench.specs.Carry.{carry_out}
use Rattle.bench.specs.Second as passing
use Rattle.bench.specs.Events as shared
use Rattle.bench.proofs.MacroRun.{run_command, after-append}
use Rattle.bench.proofs.Demands as demands
use Rattle.seats.specs.declared.Seats.{Seats}
use Rattle.seats.specs.Queues.{oldest}
use Rattle.seats.specs.State.{fresh_seats, queue_in, seats_sound, next_of}
use Rattle.seats.specs.Queueing.{queue_code, queue_at}
use Rattle.seats.specs.Turn.{TurnTold, record_at, turn_at, passed_as, second_at, status_at}
use Rattle.seats.specs.Events.{Event, queue, turn, second, after_one, after, Reached, seconds_in, bench_at, bench_in}
use Rattle.seats.proofs.States.{turn_nobody}
use Rattle.seats.proofs.Good.{GoodSeats, good_sound, enters, queue_leaves, event_keeps, after_keeps, fresh_good, reached_good}
use Rattle.seats.proofs.Fair.{turn_seats}

-- One event.
queue_bench : (s : Seats) → GoodSeats s → (seat : ℕ) (bytes : List ℕ) → (queue_at s seat bytes).seats.bench ≡ s.bench
queue_bench s good seat bytes = go (eqb (queue_code s seat bytes) 0) refl
  where
    go : (b : Bool) → eqb (queue_code s seat bytes) 0 ≡ b → (queue_at s seat bytes).seats.bench ≡ s.bench
    go true is = ap (λ (t : Seats). t.bench) (enters s (good_sound s good) seat bytes (eqb-true (queue_code s seat bytes) 0 is)).becomes
    go false is = ap (λ (t : Seats). t.bench) (queue_leaves s seat bytes is)

turn_bench : (s : Seats) → GoodSeats s → (turn_at s).seats.bench ≡ shared.after s.bench (bench_at s turn)
turn_bench s good = go (ltb (next_of s) 4) refl
  where
    sound : seats_sound s ≡ true
    sound = good_sound s good

    go : (b : Bool) → ltb (next_of s) 4 ≡ b → (turn_at s).seats.bench ≡ shared.after s.bench (bench_at s turn)
    go true is = ap (λ (t : Seats). t.bench) (turn_seats s good (ltb-true (next_of s) 4 is)) ∙ rw (sound, is)
    go false is = ap (λ (t : TurnTold). t.seats.bench) (sym (turn_nobody s sound (ltb-false (next_of s) 4 is))) ∙ rw (sound, is)

second_bench : (s : Seats) → GoodSeats s → (second_at s).seats.bench ≡ shared.after s.bench (bench_at s second)
unfolding second_at
second_bench s good = rw (good_sound s good)

one_bench : (s : Seats) → GoodSeats s → (e : Event) → (after_one s e).bench ≡ shared.after s.bench (bench_at s e)
one_bench s good (queue seat bytes) = queue_bench s good seat bytes
one_bench s good turn = turn_bench s good
one_bench s good second = second_bench s good

-- Several: the bench goes through its own events, and as many seconds pass.
pub bench_after : (es : List Event) (s : Seats) → GoodSeats s → (after s es).bench ≡ shared.after s.bench (bench_in s es)
bench_after [] s good = refl
bench_after (e ∷ es) s good =
    bench_after es (after_one s e) (event_keeps s good e)
    ∙ ap (λ (b : Bench). shared.after b (bench_in (after_one s e) es)) (one_bench s good e)
    ∙ sym (after-append s.bench (bench_at s e) (bench_in (after_one s e) es))

pub same_seconds : (es : List Event) (s : Seats) → GoodSeats s → shared.seconds_in (bench_in s es) ≡ seconds_in es
same_seconds [] s good = refl
same_seconds (queue seat bytes ∷ es) s good = same_seconds es (queue_at s seat bytes).seats (event_keeps s good (queue seat bytes))
same_seconds (turn ∷ es) s good = go (ltb (next_of s) 4) refl (same_seconds es (turn_at s).seats (event_keeps s good turn))
  where
    go : (b : Bool) → ltb (next_of s) 4 ≡ b → shared.seconds_in (bench_in (turn_at s).seats es) ≡ seconds_in es
        → shared.seconds_in (bench_at s turn ++ bench_in (turn_at s).seats es) ≡ seconds_in es
    go true is later = rw (good_sound s good, is) later
    go false is later = rw (good_sound s good, is) later
same_seconds (second ∷ es) s good = rw (good_sound s good) (ap (λ n. suc n) (same_seconds es (second_at s).seats (event_keeps s good second)))

-- A second more at the end.
in_append : (xs ys : List Event) (s : Seats) → bench_in s (xs ++ ys) ≡ bench_in s xs ++ bench_in (after s xs) ys
in_append [] ys s = refl
in_append (x ∷ xs) ys s =
    let next = after_one s x in
    ap (λ l. bench_at s x ++ l) (in_append xs ys next) ∙ sym (append_assoc (bench_at s x) (bench_in next xs) (bench_in (after next xs) ys))

then_second : (es : List Event) (s : Seats) → GoodSeats s → bench_in s (es ++ (second ∷ [])) ≡ bench_in s es ++ (shared.second ∷ [])
then_second es s good = in_append es (second ∷ []) s ∙ rw (good_sound (after s es) (after_keeps s good es))

-- So the bench of reached seats is one that is reached.
pub bench_reached : (s : Seats) → Reached s → shared.Reached s.bench
bench_reached s r =
    record {
      events = bench_in fresh_seats r.events;
      reached = sym (bench_after r.events fresh_seats fresh_good) ∙ ap (λ (t : Seats). t.bench) r.reached;
    }

-- Seconds and status of sound seats are those of their bench.
pub second_through : (s : Seats) → GoodSeats s → second_at s ≡ passed_as s (passing.second_at s.bench)
unfolding second_at
second_through s good = rw (good_sound s good)

pub status_through : (s : Seats) → GoodSeats s → status_at s ≡ shown.status_at s.bench
unfolding status_at
status_through s good = rw (good_sound s good)

-- # Demand 3, as the bench's own file has it (bench, proofs/Demands), with turns and queueing as events

-- What the seats say: macro m runs, or none where m is 255, and n seconds are left, in the bench and in the status frame that is asked of the seats.
pub record Says (s : Seats) (m n : ℕ) : Type 0 where
  pub bench : demands.Says s.bench m n
  pub status : status_at s ≡ shown.status_at s.bench

-- What the next second hands over.
pub record Hands (s : Seats) (ks : List Kind) : Type 0 where
  pub code : (second_at s).told.code ≡ 0
  pub handed : (second_at s).handed ≡ ks

-- The events between the start and second k, where none of the commands that turns carry out is an accepted STOP.
pub record UpTo (k : ℕ) (start : Seats) (es : List Event) : Type 0 where
  pub seconds : seconds_in es + 1 ≡ k
  pub no_stop : shared.accepts_any is_stop start.bench (bench_in start es) ≡ false

pub record Demand3 (m : ℕ) (w : List (List Kind)) (start : Seats) : Type 0 where
  pub hands : (k : ℕ) (es : List Event) → UpTo k start es → k ≤ length w → Hands (after start es) (demands.group w k)
  pub busy : (k : ℕ) (es : List Event) → UpTo k start es → k ≤ length w → Says (after start es) m (length w - (k - 1))
  pub idle : (es : List Event) → UpTo (length w) start es → let last = after start (es ++ (second ∷ [])) in
      (later : List Event) → shared.accepts_any is_run last.bench (bench_in last later) ≡ false → Says (after last later) 255 0 × Hands (after last later) []
  pub least : 1 ≤ length w
  pub most : length w ≤ 600
  pub ends : (k : ℕ) (es : List Event) → UpTo k start es → k ≤ length w
      → Says (after start (es ++ (second ∷ []))) (cond (ltb k (length w)) m 255) (length w - k)

module _ (m : ℕ) (w : List (List Kind)) (start : Seats) (good : GoodSeats start) (own : demands.Demand3 m w start.bench) where
  -- The bench's own events up to second k.
  up_to : (k : ℕ) (es : List Event) → UpTo k start es → demands.UpTo k start.bench (bench_in start es)
  up_to k es up = record { seconds = ap (λ n. n + 1) (same_seconds es start good) ∙ up.seconds; no_stop = up.no_stop }

  keeps : (es : List Event) → GoodSeats (after start es)
  keeps es = after_keeps start good es

  says_of : (s : Seats) → GoodSeats s → (a n : ℕ) → demands.Says s.bench a n → Says s a n
  says_of s sound a n says = record { bench = says; status = status_through s sound }

  hands_of : (s : Seats) → GoodSeats s → (ks : List Kind) → demands.Hands s.bench ks → Hands s ks
  hands_of s sound ks hands = record { code = rw (second_through s sound) hands.code; handed = rw (second_through s sound) hands.handed }

  -- After a second more.
  next_bench : (es : List Event) → (after start (es ++ (second ∷ []))).bench ≡ shared.after start.bench (bench_in start es ++ (shared.second ∷ []))
  next_bench es = bench_after (es ++ (second ∷ [])) start good ∙ ap (shared.after start.bench) (then_second es start good)

  pub by_bench : Demand3 m w start
  by_bench =
      record {
        hands = λ k es up within.
            hands_of (after start es) (keeps es) (demands.group w k) (rw (bench_after es start good) (own.hands k (bench_in start es) (up_to k es up) within));
        busy = λ k es up within.
            says_of (after start es) (keeps es) m (length w - (k - 1)) (rw (bench_after es start good) (own.busy k (bench_in start es) (up_to k es up) within));
        idle = λ es up later none.
            let last = after start (es ++ (second ∷ [])) in
            let sound = keeps (es ++ (second ∷ [])) in
            let there = next_bench es in
            let still : demands.Idle (after last later).bench =
            rw (bench_after later last sound, there) (own.idle (bench_in start es) (up_to (length w) es up) (bench_in last later) (rw (← there) none)) in
            let later_good = after_keeps last sound later in
            (says_of (after last later) later_good 255 0 still.says, hands_of (after last later) later_good [] still.hands);
        least = own.least;
        most = own.most;
        ends = λ k es up within.
            says_of (after start (es ++ (second ∷ []))) (keeps (es ++ (second ∷ []))) (cond (ltb k (length w)) m 255) (length w - k)
            (rw (next_bench es) (own.ends k (bench_in start es) (up_to k es up) within));
      }

-- A turn whose command is RUN m, on an idle bench of reached seats where m is closed: its record has code 0, and what is demanded holds from there on.
pub demand_3 : (s : Seats) → Reached s → next_of s < 4 → (m : ℕ) → oldest (queue_in s.queues (next_of s)) ≡ run_command m
    → s.bench.store.running ≡ 255 → is_closed s.bench.store m ≡ true
    → (byte_at (record_at s (next_of s)) 1 ≡ 0) × Demand3 m (written_out s.bench.store m) (turn_at s).seats
demand_3 s r below m runs free closed =
    let good = reached_good s r in
    let started = demands.demand_3_command s.bench (bench_reached s r) free m closed in
    let becomes = turn_seats s good below in
    let w = written_out s.bench.store m in
    let own : demands.Demand3 m w (turn_at s).seats.bench = rw (becomes, runs) started.run in
    (ap (λ c. (carry_out s.bench c).told.code) runs ∙ started.accepted, by_bench m w (turn_at s).seats (event_keeps s good turn) own)
