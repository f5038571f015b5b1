-- Laws behind the functions on the four seats.
use Rattle.std.proofs.Common.{◌≡◌, ℕ, zero, suc, ◌+◌, ◌%◌, ◌<◌, ◌≤◌, Bool, true, false, cond, eqb, ltb, List, [], ◌∷◌, ◌++◌, sym, refl, ap, ◌∙◌, arith, ltb-true, le-ltb, lt-ltb}
use Rattle.std.specs.Prelude.{Result, Ok, Err}
use Rattle.bench.specs.Exports.{Check, ◌when◌, Command, plain, told_by, Answer, said, read_checks}
use Rattle.bench.specs.declared.Bench.{Bench}
use Rattle.bench.specs.Status.{StatusTold, bench_sound}
use Rattle.bench.specs.Status as shared
use Rattle.bench.specs.declared.Rejection.{Rejection}
use Rattle.bench.specs.Carry.{verdict_of, outcome_of, carry_out}
use Rattle.bench.specs.Second.{SecondTold}
use Rattle.bench.specs.Second as passing
use Rattle.bench.proofs.Exports.{both, Coded, first_append}
use Rattle.bench.proofs.Outcomes.{read_coded}
use Rattle.bench.proofs.Rows.{command_most, command_unsound}
use Rattle.seats.specs.declared.queues.Queue.{Queue}
use Rattle.seats.specs.declared.Seats.{Seats}
use Rattle.seats.specs.declared.queueing.Refusal.{Refusal}
use Rattle.seats.specs.State.{waits, queues_hold, rules_hold, seats_sound, next_after, next_of}
use Rattle.seats.specs.Queueing.{follows, front_checks, front_code, front_of, front_at, refusal_told, QueueTold, full, room_for, queue_code, queue_at}
use Rattle.seats.specs.Turn.{served_at, stays, turn_at}
use Rattle.seats.specs.Turn.{passed_as, passed_not, second_at, status_at}
use Rattle.seats.proofs.Fronts.{front_zero}

-- Soundness by its parts.
pub bad_last : (s : Seats) → 4 ≤ s.last → false ≡ rules_hold s
unfolding rules_hold
bad_last s h = rw (le-ltb s.last 4 h)

pub by_queues : (s : Seats) (t : Bool) → s.last < 4 → t ≡ queues_hold s.queues → t ≡ rules_hold s
unfolding rules_hold
by_queues s t h is = is ∙ rw (lt-ltb s.last 4 h)

pub bad_rules : (s : Seats) → rules_hold s ≡ false → seats_sound s ≡ false
unfolding seats_sound
bad_rules s e = rw e

pub by_bench : (s : Seats) → rules_hold s ≡ true → seats_sound s ≡ bench_sound s.bench
unfolding seats_sound
by_bench s e = rw e

pub record Rules (s : Seats) : Type 0 where
  pub last : s.last < 4
  pub queues : queues_hold s.queues ≡ true

pub rules_parts : (s : Seats) → rules_hold s ≡ true → Rules s
unfolding rules_hold
rules_parts s e =
    let parts = both (ltb s.last 4) (queues_hold s.queues) e in
    record { last = ltb-true s.last 4 parts.0; queues = parts.1 }

pub record Sound (s : Seats) : Type 0 where
  pub rules : Rules s
  pub bench : bench_sound s.bench ≡ true

pub parts_sound : (s : Seats) → Sound s → seats_sound s ≡ true
parts_sound s h = by_bench s (sym (by_queues s true h.rules.last (sym h.rules.queues))) ∙ h.bench

-- A seat that is next waits.
pub next_waits : (qs : List Queue) (last : ℕ) → next_after qs last < 4 → waits qs (next_after qs last) ≡ true
unfolding next_after
next_waits qs last h =
    go (waits qs ((last + 1) % 4)) (waits qs ((last + 2) % 4)) (waits qs ((last + 3) % 4)) (waits qs last) refl refl refl refl h
  where
    go : (a b c d : Bool) → waits qs ((last + 1) % 4) ≡ a → waits qs ((last + 2) % 4) ≡ b → waits qs ((last + 3) % 4) ≡ c → waits qs last ≡ d
        → cond a ((last + 1) % 4) (cond b ((last + 2) % 4) (cond c ((last + 3) % 4) (cond d last 4))) < 4
        → waits qs (cond a ((last + 1) % 4) (cond b ((last + 2) % 4) (cond c ((last + 3) % 4) (cond d last 4)))) ≡ true
    go true b c d p q r t h = p
    go false true c d p q r t h = q
    go false false true d p q r t h = r
    go false false false true p q r t h = t
    go false false false false p q r t h = absurd (omega arith)

-- The search for it: none of the seats before this step waits, and the one at it does, or no step is left.
abbrev pub NoneTo : List Queue → ℕ → ℕ → Type 0
NoneTo qs last n = (v : ℕ) → v < n → waits qs ((last + 1 + v) % 4) ≡ false

module _ (qs : List Queue) (last : ℕ) (below : last < 4) where
  behind : (b : Bool) (v at : ℕ) → (last + 1 + v) % 4 ≡ at → waits qs ((last + 1 + v) % 4) ≡ b → waits qs at ≡ b
  behind b v at is waited = rw (← is) waited

  pub next_found : (n : ℕ) → n < 4 → NoneTo qs last n → waits qs ((last + 1 + n) % 4) ≡ true → (last + 1 + n) % 4 ≡ next_after qs last
  unfolding next_after
  next_found zero h before here =
      let at : (last + 1 + 0) % 4 ≡ (last + 1) % 4 = omega arith in
      at ∙ rw (behind true 0 _ at here) refl
  next_found (suc zero) h before here =
      let at : (last + 1 + 1) % 4 ≡ (last + 2) % 4 = omega arith in
      at ∙ rw (behind false 0 ((last + 1) % 4) (omega arith) (before 0 (omega arith)), behind true 1 _ at here) refl
  next_found (suc (suc zero)) h before here =
      let at : (last + 1 + 2) % 4 ≡ (last + 3) % 4 = omega arith in
      at
      ∙ rw (
        behind false 0 ((last + 1) % 4) (omega arith) (before 0 (omega arith)),
        behind false 1 ((last + 2) % 4) (omega arith) (before 1 (omega arith)),
        behind true 2 _ at here,
      ) refl
  next_found (suc (suc (suc zero))) h before here =
      let at : (last + 1 + 3) % 4 ≡ last = omega (arith, below) in
      at
      ∙ rw (
        behind false 0 ((last + 1) % 4) (omega arith) (before 0 (omega arith)),
        behind false 1 ((last + 2) % 4) (omega arith) (before 1 (omega arith)),
        behind false 2 ((last + 3) % 4) (omega arith) (before 2 (omega arith)),
        behind true 3 last at here,
      ) refl
  next_found (suc (suc (suc (suc n)))) h before here = absurd (omega arith)

  pub next_none : (n : ℕ) → 4 ≤ n → NoneTo qs last n → 4 ≡ next_after qs last
  unfolding next_after
  next_none n all before =
      rw (
        behind false 0 ((last + 1) % 4) (omega arith) (before 0 (omega arith)),
        behind false 1 ((last + 2) % 4) (omega arith) (before 1 (omega arith)),
        behind false 2 ((last + 3) % 4) (omega arith) (before 2 (omega arith)),
        behind false 3 last (omega (arith, below)) (before 3 (omega arith)),
      ) refl

-- Queueing: the rows one after another.
coded_append : (xs ys : List Check) → Coded xs → Coded ys → Coded (xs ++ ys)
coded_append [] ys h k = k
coded_append (x ∷ xs) ys h k = (h.0, coded_append xs ys h.1 k)

front_coded : (seat : ℕ) (s : List ℕ) → Coded (front_checks seat s)
front_coded seat s = (omega arith, coded_append (read_checks s) (53 when follows s ∷ []) (read_coded s) (omega arith, tt))

pub queue_code_lem : (s : Seats) (seat : ℕ) (bytes : List ℕ) → seats_sound s ≡ true
    → queue_code s seat bytes ≡ cond (eqb (front_code seat bytes) 0) (cond (full s seat) 52 0) (front_code seat bytes)
unfolding queue_code front_code
queue_code_lem s seat bytes sound = rw sound (first_append (front_checks seat bytes) (52 when full s seat ∷ []) (front_coded seat bytes))

pub queue_unsound : (s : Seats) (seat : ℕ) (bytes : List ℕ) → seats_sound s ≡ false
    → ◌≡◌ {A = QueueTold} (record { told = plain 27; seats = s }) (queue_at s seat bytes)
unfolding queue_at queue_code
queue_unsound s seat bytes e = rw e

-- A front that refuses has a code, and what is told is told of the bytes.
front_refuses : (seat : ℕ) (bytes : List ℕ) (refusal : Refusal) → front_of (Err refusal) ≡ front_at seat bytes → eqb (front_code seat bytes) 0 ≡ false
front_refuses seat bytes refusal e = go (eqb (front_code seat bytes) 0) refl
  where
    go : (b : Bool) → eqb (front_code seat bytes) 0 ≡ b → eqb (front_code seat bytes) 0 ≡ false
    go false is = is
    go true is = absurd (
        let same : [] ≡ cond (eqb (front_code seat bytes) 0) (said bytes ∷ []) [] = ap (λ (a : Answer). a.taken) e in
        let z : ◌≡◌ {A = ℕ} 0 1 = cc (rw is at same) in omega arith)

pub queue_refused : (s : Seats) (seat : ℕ) (bytes : List ℕ) (refusal : Refusal) → seats_sound s ≡ true → front_of (Err refusal) ≡ front_at seat bytes
    → ◌≡◌ {A = QueueTold} (record { told = refusal_told refusal; seats = s }) (queue_at s seat bytes)
unfolding queue_at
queue_refused s seat bytes refusal sound e =
    let none = front_refuses seat bytes refusal e in
    let told : refusal_told refusal ≡ _ = ap (λ (a : Answer). a.told) e in
    let code : queue_code s seat bytes ≡ front_code seat bytes = queue_code_lem s seat bytes sound ∙ rw none in
    rw (code, none, told)

pub record Takes (seat : ℕ) (bytes : List ℕ) (c : Command) : Type 0 where
  pub code : front_code seat bytes ≡ 0
  pub command : c ≡ said bytes
  pub below : seat < 4

pub front_takes : (seat : ℕ) (bytes : List ℕ) (c : Command) → front_of (Ok c) ≡ front_at seat bytes → Takes seat bytes c
front_takes seat bytes c e =
    let code : 0 ≡ front_code seat bytes = ap (λ (a : Answer). a.told.code) e in
    let same : c ∷ [] ≡ cond (eqb (front_code seat bytes) 0) (said bytes ∷ []) [] = ap (λ (a : Answer). a.taken) e in
    record { code = sym code; command = cc (rw (← code) at same); below = (front_zero seat bytes (sym code)).0 }

pub queue_taken : (s : Seats) (seat : ℕ) (bytes : List ℕ) (c : Command) (r : QueueTold) → seats_sound s ≡ true
    → front_of (Ok c) ≡ front_at seat bytes → r ≡ room_for s seat c → r ≡ queue_at s seat bytes
unfolding queue_at
queue_taken s seat bytes c r sound e is = is ∙ go (full s seat) refl
  where
    at : Takes seat bytes c
    at = front_takes seat bytes c e

    go : (b : Bool) → full s seat ≡ b → room_for s seat c ≡ queue_at s seat bytes
    go true f = rw (queue_code_lem s seat bytes sound, at.code, f)
    go false f = rw (queue_code_lem s seat bytes sound, at.code, f, at.command)

-- Turns.
pub turn_unsound : (s : Seats) → seats_sound s ≡ false → stays 27 s ≡ turn_at s
unfolding turn_at
turn_unsound s e = rw e

pub turn_nobody : (s : Seats) → seats_sound s ≡ true → 4 ≤ next_of s → stays 0 s ≡ turn_at s
unfolding turn_at
turn_nobody s e h = rw (e, le-ltb (next_of s) 4 h)

pub turn_one : (s : Seats) → seats_sound s ≡ true → next_of s < 4 → served_at s (next_of s) ≡ turn_at s
unfolding turn_at
turn_one s e h = rw (e, lt-ltb (next_of s) 4 h)

-- The bench's own code tells whether it is sound.
pub told_unsound : (b : Bench) (c : Command) → (carry_out b c).told.code ≡ 27 → bench_sound b ≡ false
told_unsound b c is = go (bench_sound b) refl
  where
    go : (t : Bool) → bench_sound b ≡ t → bench_sound b ≡ false
    go false e = e
    go true e = absurd (omega (arith, command_most b e c))

pub told_sound : (b : Bench) (c : Command) → ((carry_out b c).told.code ≡ 27 → ⊥) → bench_sound b ≡ true
told_sound b c other = go (bench_sound b) refl
  where
    go : (t : Bool) → bench_sound b ≡ t → bench_sound b ≡ true
    go true e = e
    go false e = absurd (other (command_unsound b e c))

-- What is told of carrying out, and the bench that is left: on a refusal the one that was handed in.
pub told_outcome : (b : Bench) (r : Result Bench Rejection) → (outcome_of b r).told ≡ told_by verdict_of r
told_outcome b (Ok after) = refl
told_outcome b (Err rejection) = refl

-- Where the seats' own rules hold, all is by the bench's soundness.
module _ (s : Seats) (rules : rules_hold s ≡ true) where
  pub turn_idle : 4 ≤ next_of s → cond (bench_sound s.bench) (stays 0 s) (stays 27 s) ≡ turn_at s
  unfolding turn_at
  turn_idle none = rw (by_bench s rules, le-ltb (next_of s) 4 none)

  pub turn_served : next_of s < 4 → cond (bench_sound s.bench) (served_at s (next_of s)) (stays 27 s) ≡ turn_at s
  unfolding turn_at
  turn_served some = rw (by_bench s rules, lt-ltb (next_of s) 4 some)

  pub second_by : passed_as s (passing.second_at s.bench) ≡ second_at s
  unfolding second_at passing.second_at
  second_by = rw (by_bench s rules) (go (bench_sound s.bench) refl)
    where
      go : (t : Bool) → bench_sound s.bench ≡ t
          → passed_as s (passing.second_at s.bench) ≡ cond t (passed_as s (passing.second_at s.bench)) (passed_not s)
      go true e = refl
      go false e = rw e

  pub status_by : shared.status_at s.bench ≡ status_at s
  unfolding status_at shared.status_at
  status_by = rw (by_bench s rules) (go (bench_sound s.bench) refl)
    where
      go : (t : Bool) → bench_sound s.bench ≡ t → shared.status_at s.bench ≡ cond t (shared.status_at s.bench) (record { code = 27; shown = [] })
      go true e = refl
      go false e = rw e

-- Seconds and status of a state that is not sound.
pub second_unsound : (s : Seats) → seats_sound s ≡ false → passed_not s ≡ second_at s
unfolding second_at
second_unsound s e = rw e

pub status_unsound : (s : Seats) → seats_sound s ≡ false → ◌≡◌ {A = StatusTold} (record { code = 27; shown = [] }) (status_at s)
unfolding status_at
status_unsound s e = rw e

-- The seats around the bench's own answer.
pub second_goes : (s : Seats) → rules_hold s ≡ true → (told : SecondTold) → told ≡ passing.second_at s.bench → passed_as s told ≡ second_at s
second_goes s rules told is = ap (passed_as s) is ∙ second_by s rules
