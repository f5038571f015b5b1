-- Queueing a command from bytes (02, Q-13): 27, then 51, 1 to 10 and 53 on the seat and the bytes alone, then 52.
use Rattle.std.specs.Prelude.{ℕ, Bool, cond, leb, List, [], ◌∷◌, ◌++◌, length, ◌==◌, nat_le, nat_lt, slice_set, Result, Ok, Err}
use Rattle.bench.specs.Exports.{Check, ◌when◌, first_of, Command, Parts, Told, plain, told_of, told_by, told_for, Answer, answer_for, said_parts, said, read_checks, span_of}
use Rattle.seats.specs.declared.Seats.{Seats}
use Rattle.seats.specs.declared.queueing.Refusal.{Refusal}
use Rattle.seats.specs.Queues.{entered_in}
use Rattle.seats.specs.State.{queue_in, sound_check}

-- The number of each refusal and, beside 8, what was wrong with the number.
abbrev pub refusal_told : Refusal → Told
refusal_told Refusal.Unsound = plain 27
refusal_told Refusal.NoSeat = plain 51
refusal_told (Refusal.Misread refusal) = told_of refusal
refusal_told Refusal.BytesFollow = plain 53
refusal_told Refusal.Full = plain 52

-- The same of each answer: 0 where the command was queued.
abbrev pub entry_told : {A : Type 0} → Result A Refusal → Told
entry_told = told_by refusal_told

-- "53 bytes follow": there are more than those of the command at the front.
abbrev pub follows : List ℕ → Bool
follows s = nat_lt (span_of s) (length s)

-- "then 51 seat above 3, 1 to 10, 53 bytes follow": what the seat and the bytes alone say.
abbrev pub front_checks : ℕ → List ℕ → List Check
front_checks seat s = 51 when leb 4 seat ∷ (read_checks s ++ (53 when follows s ∷ []))

unfoldable pub front_code : ℕ → List ℕ → ℕ
front_code seat s = first_of (front_checks seat s)

abbrev pub front_of : Result Command Refusal → Answer
front_of (Ok c) = record { told = plain 0; taken = c ∷ [] }
front_of (Err refusal) = record { told = refusal_told refusal; taken = [] }

abbrev pub front_at : ℕ → List ℕ → Answer
front_at seat s = answer_for (front_code seat s) (said_parts s) (said s)

-- What queueing answers: a code with what is told beside it, and the state afterwards, on a refusal the one that was handed in.
pub record QueueTold : Type 0 where
  pub told : Told
  pub seats : Seats

abbrev pub queued_of : Seats → Result Seats Refusal → QueueTold
queued_of s (Ok after) = record { told = plain 0; seats = after }
queued_of s (Err refusal) = record { told = refusal_told refusal; seats = s }

-- "52 when 32 wait"
abbrev pub full : Seats → ℕ → Bool
full s seat = nat_le 32 (queue_in s.queues seat).count

-- The state with one command more in the queue of a seat.
abbrev pub entered_at : Seats → ℕ → Command → Seats
entered_at s seat c =
    record { bench = s.bench; queues = slice_set s.queues seat (entered_in (queue_in s.queues seat) c); last = s.last }

-- A refusal leaves everything.
abbrev pub queue_for : ℕ → Parts → Seats → ℕ → Command → QueueTold
queue_for code parts s seat c = record { told = told_for code parts; seats = cond (code == 0) (entered_at s seat c) s }

-- 52 alone, on a command that passed the others: nothing is told of a number.
abbrev pub room_for : Seats → ℕ → Command → QueueTold
room_for s seat c = cond (full s seat) (record { told = plain 52; seats = s }) (record { told = plain 0; seats = entered_at s seat c })

-- All checks in their order.
abbrev pub queue_checks : Seats → ℕ → List ℕ → List Check
queue_checks s seat bytes = sound_check s ∷ (front_checks seat bytes ++ (52 when full s seat ∷ []))

unfoldable pub queue_code : Seats → ℕ → List ℕ → ℕ
queue_code s seat bytes = first_of (queue_checks s seat bytes)

unfoldable pub queue_at : Seats → ℕ → List ℕ → QueueTold
unfolding queue_code
queue_at s seat bytes = queue_for (queue_code s seat bytes) (said_parts bytes) s seat (said bytes)
