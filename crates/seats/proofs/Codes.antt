-- The codes of queueing in their order, which of them depend on the seat and the bytes alone, what a turn's record says, and that no state which is
-- reached gets 27.
use Rattle.std.proofs.Common.{◌≡◌, ℕ, ◌<◌, Bool, true, false, not, ◌&&◌, eqb, leb, ◌≢◌, List, [], ◌∷◌, ◌++◌, sym, refl, ap, ◌∙◌, true≢false, arith, ltb-true, ne_eqb, leb-true}
use borrow.Author.Tests.{not-true}
use Rattle.bench.specs.Exports.{Check, ◌when◌, Command, no_stray, plain, told_for, said_parts, read_checks, byte_at}
use Rattle.bench.specs.Carry.{carry_out}
use Rattle.bench.proofs.Exports.{both, NoneDue, Order, order, apart, lacks, lacks_on}
use Rattle.bench.proofs.Outcomes.{OfState}
use Rattle.bench.proofs.Rows.{up_to, read_apart}
use Rattle.bench.proofs.Report.{Carries, record_carries}
use Rattle.bench.proofs.Demands.{demand_2_passed_codes}
use Rattle.seats.specs.declared.Seats.{Seats}
use Rattle.seats.specs.Queues.{oldest}
use Rattle.seats.specs.State.{queue_in, seats_sound, sound_check, number_at, next_of}
use Rattle.seats.specs.Queueing.{follows, front_code, full, queue_checks, queue_code, queue_at}
use Rattle.seats.specs.Turn.{TurnTold, code_at, record_at, turn_at, second_at, status_at}
use Rattle.seats.specs.Events.{Reached}
use Rattle.seats.proofs.States.{next_waits, queue_code_lem, turn_one}
use Rattle.seats.proofs.Good.{GoodSeats, good_sound, reached_good, oldest_passes}
use Rattle.seats.proofs.Calls.{turn_order, second_order, status_order}

-- No row of reading is above 10, so a row behind them differs from all of them, and the codes of the whole list differ.
differs : (a n : ℕ) → a ≢ n → not (eqb a n) ≡ true
differs a n h = rw (ne_eqb a n h)

beyond : (n : ℕ) (cs : List Check) → 10 < n → up_to 10 cs ≡ true → lacks n cs ≡ true
beyond n [] h most = refl
beyond n (c ∷ cs) h most =
    let parts = both (leb c.code 10) (up_to 10 cs) most in
    let own = leb-true c.code 10 parts.0 in
    rw (differs c.code n (λ e. omega arith)) (beyond n cs h parts.1)

lacks-append : (n : ℕ) (xs ys : List Check) → lacks n xs ≡ true → lacks n ys ≡ true → lacks n (xs ++ ys) ≡ true
lacks-append n [] ys h k = k
lacks-append n (x ∷ xs) ys h k =
    let on = lacks_on n x xs h in
    rw (differs x.code n on.0) (lacks-append n xs ys on.1 k)

one_behind : (xs : List Check) (n : ℕ) (due : Bool) → n ≢ 0 → apart xs ≡ true → lacks n xs ≡ true → apart (xs ++ (n when due ∷ [])) ≡ true
one_behind [] n due some a h = rw (differs n 0 some)
one_behind (x ∷ xs) n due some a h =
    let parts = both (not (eqb x.code 0)) (lacks x.code xs && apart xs) a in
    let later = both (lacks x.code xs) (apart xs) parts.1 in
    let on = lacks_on n x xs h in
    let last : lacks x.code (n when due ∷ []) ≡ true = rw (differs n x.code (λ e. on.0 (sym e))) in
    rw (parts.0, lacks-append x.code xs (n when due ∷ []) later.0 last) (one_behind xs n due some later.1 on.1)

rows_apart : (s : Seats) (seat : ℕ) (bytes : List ℕ) → apart (queue_checks s seat bytes) ≡ true
rows_apart s seat bytes =
    let read = read_apart bytes in
    let follow : List Check = 53 when follows bytes ∷ [] in
    let room : List Check = 52 when full s seat ∷ [] in
    let front = one_behind (read_checks bytes) 53 (follows bytes) (λ e. omega arith) read.0 (beyond 53 (read_checks bytes) (omega arith) read.1) in
    let without_52 = lacks-append 52 (read_checks bytes) follow (beyond 52 (read_checks bytes) (omega arith) read.1) refl in
    let rest = one_behind (read_checks bytes ++ follow) 52 (full s seat) (λ e. omega arith) front without_52 in
    rw (other s 51 seat bytes (omega arith) refl refl, other s 27 seat bytes (omega arith) refl refl) rest
  where
    other : (s : Seats) (n seat : ℕ) (bytes : List ℕ) → 10 < n → eqb 53 n ≡ false → eqb 52 n ≡ false
        → lacks n ((read_checks bytes ++ (53 when follows bytes ∷ [])) ++ (52 when full s seat ∷ [])) ≡ true
    other s n seat bytes h a b =
        let read = beyond n (read_checks bytes) h (read_apart bytes).1 in
        let follow = lacks-append n (read_checks bytes) (53 when follows bytes ∷ []) read (rw a) in
        lacks-append n (read_checks bytes ++ (53 when follows bytes ∷ [])) (52 when full s seat ∷ []) follow (rw b)

-- "27 first ..; in queueing then 51 seat above 3, 1 to 10, 53 bytes follow, 52 when 32 wait": the code is that of the first row that is due.
pub queue_order : (s : Seats) (seat : ℕ) (bytes : List ℕ) → Order (queue_checks s seat bytes) (queue_at s seat bytes).told.code
unfolding queue_at queue_code
queue_order s seat bytes = order (queue_checks s seat bytes) (rows_apart s seat bytes)

-- On sound seats a code other than 0 and 52 is what the seat and the bytes alone say,
from_bytes : (s : Seats) → seats_sound s ≡ true → (seat : ℕ) (bytes : List ℕ) → queue_code s seat bytes ≢ 0 → queue_code s seat bytes ≢ 52
    → queue_code s seat bytes ≡ front_code seat bytes
from_bytes s sound seat bytes some room = go (eqb (front_code seat bytes) 0) (full s seat) refl refl
  where
    go : (a b : Bool) → eqb (front_code seat bytes) 0 ≡ a → full s seat ≡ b → queue_code s seat bytes ≡ front_code seat bytes
    go false b e f = queue_code_lem s seat bytes sound ∙ rw e
    go true true e f = absurd (room (queue_code_lem s seat bytes sound ∙ rw (e, f)))
    go true false e f = absurd (some (queue_code_lem s seat bytes sound ∙ rw (e, f)))

-- so 51, 1 to 10 and 53 are the same, with what is told beside them, whatever else the other seats did: on any two sound states.
pub alone : (s t : Seats) → seats_sound s ≡ true → seats_sound t ≡ true → (seat : ℕ) (bytes : List ℕ)
    → (queue_at s seat bytes).told.code ≢ 0 → (queue_at s seat bytes).told.code ≢ 52 → (queue_at t seat bytes).told ≡ (queue_at s seat bytes).told
unfolding queue_at
alone s t sound other seat bytes some room =
    let front = from_bytes s sound seat bytes some room in
    let code : queue_code t seat bytes ≡ queue_code s seat bytes =
    queue_code_lem t seat bytes other ∙ rw (ne_eqb (front_code seat bytes) 0 (λ e. some (front ∙ e))) (sym front) in
    ap (λ n. told_for n (said_parts bytes)) code

-- None of those is 27, nor is 52: on sound seats queueing never answers 27.
pub queue_answers : (s : Seats) → seats_sound s ≡ true → (seat : ℕ) (bytes : List ℕ) → (queue_at s seat bytes).told.code ≢ 27
unfolding queue_at
queue_answers s sound seat bytes is = go (((queue_order s seat bytes).placed 0 (omega arith)).0 is).due
  where
    go : not (seats_sound s) ≡ true → ⊥
    go bad = absurd (let z : ◌≡◌ {A = Bool} true false = sym sound ∙ not-true (seats_sound s) bad in true≢false z)

-- The record of a turn carries the seat that was next, the whole verdict on its oldest command, and that command's number; the verdict has 0 or a code
-- that asks for the state (11 to 19, 25, 26), so neither parameter nor value.
pub record Recorded (s : Seats) : Type 0 where
  pub records : (turn_at s).records ≡ record_at s (next_of s) ∷ []
  pub carries : Carries (record_at s (next_of s)) (next_of s) (carry_out s.bench (oldest (queue_in s.queues (next_of s)))).told (number_at s (next_of s))
  pub code : OfState (byte_at (record_at s (next_of s)) 1)

pub turn_record : (s : Seats) → GoodSeats s → next_of s < 4 → Recorded s
turn_record s good below =
    record {
      records = ap (λ (t : TurnTold). t.records) (sym (turn_one s (good_sound s good) below));
      carries = rw whole (record_carries n (plain (code_at s n)) (number_at s n));
      code = told.0;
    }
  where
    n : ℕ
    n = next_of s

    waited : 0 < (queue_in s.queues n).count
    waited = ltb-true 0 (queue_in s.queues n).count (next_waits s.queues s.last below)

    c : Command
    c = oldest (queue_in s.queues n)

    told : OfState (code_at s n) × ((carry_out s.bench c).told.stray ≡ no_stray)
    told = demand_2_passed_codes s.bench good.bench.sound c (oldest_passes (queue_in s.queues n) (good.each n below) waited)

    whole : (carry_out s.bench c).told ≡ plain (code_at s n)
    whole = rw (← told.1)

-- No state that is reached gets 27, from any call.
pub record Answers (s : Seats) : Type 0 where
  pub queue : (seat : ℕ) (bytes : List ℕ) → (queue_at s seat bytes).told.code ≢ 27
  pub turn : (turn_at s).code ≡ 0
  pub second : (second_at s).told.code ≡ 0
  pub status : (status_at s).code ≡ 0

pub reached_answers : (s : Seats) → Reached s → Answers s
reached_answers s r =
    let sound = good_sound s (reached_good s r) in
    let none : NoneDue (sound_check s ∷ []) = (rw sound, tt) in
    record {
      queue = queue_answers s sound;
      turn = (turn_order s).accepted.1 none;
      second = (second_order s).accepted.1 none;
      status = (status_order s).accepted.1 none;
    }
