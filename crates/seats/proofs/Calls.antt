-- Demand 1 of the seats: what each call judges, that a refusal leaves everything, on any state, sound or not, and that a turn with none waiting does
-- nothing. (The rows of queueing are in Codes.)
use Rattle.std.proofs.Common.{◌≡◌, ℕ, ◌+◌, ◌%◌, ◌<◌, Bool, true, false, ltb, ◌≢◌, List, [], ◌∷◌, sym, refl, subst, arith, ne_eqb}
use Rattle.bench.specs.Exports.{first_of}
use Rattle.bench.specs.Status.{bench_sound}
use Rattle.bench.specs.Status as shared
use Rattle.bench.specs.Second as passing
use Rattle.bench.proofs.Exports.{both, Order, order}
use Rattle.seats.specs.declared.Seats.{Seats}
use Rattle.seats.specs.State.{waits, rules_hold, seats_sound, sound_check, next_after, next_of}
use Rattle.seats.specs.Queueing.{queue_code, queue_at}
use Rattle.seats.specs.Turn.{stays, turn_at, second_at, status_at}
use Rattle.seats.proofs.States.{rules_parts, turn_nobody}

-- Sound seats have a sound bench.
pub sound_bench : (s : Seats) → seats_sound s ≡ true → bench_sound s.bench ≡ true
unfolding seats_sound
sound_bench s e = (both (rules_hold s) (bench_sound s.bench) e).1

sound_last : (s : Seats) → seats_sound s ≡ true → s.last < 4
unfolding seats_sound
sound_last s e = (rules_parts s (both (rules_hold s) (bench_sound s.bench) e).0).last

-- A turn, a second and the status have row 27 alone.
turn_code : (s : Seats) → (turn_at s).code ≡ first_of (sound_check s ∷ [])
unfolding turn_at
turn_code s = go (seats_sound s) (ltb (next_of s) 4) refl refl
  where
    go : (a b : Bool) → seats_sound s ≡ a → ltb (next_of s) 4 ≡ b → (turn_at s).code ≡ first_of (sound_check s ∷ [])
    go false b e f = rw e
    go true true e f = rw (e, f)
    go true false e f = rw (e, f)

second_code : (s : Seats) → (second_at s).told.code ≡ first_of (sound_check s ∷ [])
unfolding second_at passing.second_at
second_code s = go (seats_sound s) refl
  where
    go : (a : Bool) → seats_sound s ≡ a → (second_at s).told.code ≡ first_of (sound_check s ∷ [])
    go false e = rw e
    go true e = rw (e, sound_bench s e)

status_code : (s : Seats) → (status_at s).code ≡ first_of (sound_check s ∷ [])
unfolding status_at shared.status_at
status_code s = go (seats_sound s) refl
  where
    go : (a : Bool) → seats_sound s ≡ a → (status_at s).code ≡ first_of (sound_check s ∷ [])
    go false e = rw e
    go true e = rw (e, sound_bench s e)

pub turn_order : (s : Seats) → Order (sound_check s ∷ []) (turn_at s).code
turn_order s = subst (Order (sound_check s ∷ [])) (sym (turn_code s)) (order (sound_check s ∷ []) refl)

pub second_order : (s : Seats) → Order (sound_check s ∷ []) (second_at s).told.code
second_order s = subst (Order (sound_check s ∷ [])) (sym (second_code s)) (order (sound_check s ∷ []) refl)

pub status_order : (s : Seats) → Order (sound_check s ∷ []) (status_at s).code
status_order s = subst (Order (sound_check s ∷ [])) (sym (status_code s)) (order (sound_check s ∷ []) refl)

-- Refusals leave everything; a turn that is refused has no record, and a second hands over nothing.
pub refused_queue : (s : Seats) (seat : ℕ) (bytes : List ℕ) → (queue_at s seat bytes).told.code ≢ 0 → (queue_at s seat bytes).seats ≡ s
unfolding queue_at
refused_queue s seat bytes refused = rw (ne_eqb (queue_code s seat bytes) 0 refused)

pub refused_turn : (s : Seats) → (turn_at s).code ≢ 0 → turn_at s ≡ stays 27 s
unfolding turn_at
refused_turn s refused = go (seats_sound s) (ltb (next_of s) 4) refl refl
  where
    go : (a b : Bool) → seats_sound s ≡ a → ltb (next_of s) 4 ≡ b → turn_at s ≡ stays 27 s
    go false b e f = rw e
    go true true e f = absurd (refused (rw (e, f)))
    go true false e f = absurd (refused (rw (e, f)))

pub refused_second : (s : Seats) → (second_at s).told.code ≢ 0 → ((second_at s).seats ≡ s) × ((second_at s).handed ≡ []) × ((second_at s).codes ≡ [])
unfolding second_at passing.second_at
refused_second s refused = go (seats_sound s) refl
  where
    go : (a : Bool) → seats_sound s ≡ a → ((second_at s).seats ≡ s) × ((second_at s).handed ≡ []) × ((second_at s).codes ≡ [])
    go false e = (rw e, rw e, rw e)
    go true e = absurd (refused (rw (e, sound_bench s e)))

-- "with none waiting it does nothing"
none_next : (s : Seats) → s.last < 4 → ((v : ℕ) → v < 4 → waits s.queues v ≡ false) → next_of s ≡ 4
unfolding next_after
none_next s below none =
    let last = s.last in
    rw (none ((last + 1) % 4) (omega arith), none ((last + 2) % 4) (omega arith), none ((last + 3) % 4) (omega arith), none last below)

pub none_waits : (s : Seats) → seats_sound s ≡ true → ((v : ℕ) → v < 4 → waits s.queues v ≡ false) → turn_at s ≡ stays 0 s
none_waits s sound none =
    let next = none_next s (sound_last s sound) none in
    sym (turn_nobody s sound (omega (arith, next)))
