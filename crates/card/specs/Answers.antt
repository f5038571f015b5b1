-- 02, Q-4, what the calls answer and leave in the room: "Refusals: 20 first for a raw list above 4,096 bytes"; what a list's own commands are refused for;
-- and "37 bytes left over; 20 where the raw list would pass 4,096 bytes; 24 for room".
use Rattle.std.specs.Prelude.{ℕ, List, [], ◌∷◌, ◌++◌, cond, not, length, drop, ltb, eqb}
use Rattle.words.specs.BigEndian.{has_room}
use Rattle.words.specs.Codes.{Check, ◌when◌, first_of}
use Rattle.wire.specs.declared.kinds.Command.{Command}
use Rattle.wire.specs.declared.judging.Refusal.{Refusal}
use Rattle.wire.specs.declared.judging.Told.{Told}
use Rattle.wire.specs.Judge.{plain, told_of}
use Rattle.wire.specs.Write.{list_bytes}
use Rattle.card.specs.declared.answers.Fault.{Fault}
use Rattle.card.specs.declared.answers.Refused.{Refused}
use Rattle.std.specs.Prelude.{Result as Outcome, Ok, Err}
use Rattle.card.specs.List.{stored_bytes, Said, said, bad, stored_says, raw_says}

-- What is told of each fault.
abbrev pub told_fault : Fault → Told
told_fault (Fault.Wire refusal) = told_of refusal
told_fault Fault.TooLong = plain 20
told_fault Fault.Ended = plain 34
told_fault Fault.Overlong = plain 35
told_fault Fault.NotOne = plain 36
told_fault Fault.LeftOver = plain 37
told_fault Fault.BadFlag = plain 38

-- A fault that belongs to no command, as too little room does.
abbrev pub of_none : Fault → Refused
of_none fault = record { number = 0; fault = fault }

abbrev pub no_room : Refused
no_room = of_none (Fault.Wire Refusal.NoRoom)

-- What is told of a fault and a number.
abbrev pub told_refused : Refused → Told
told_refused refused = told_fault refused.fault

-- What is answered: what is told, the number of the command at which it was found (0 where it belongs to none), and how many bytes were written.
pub record Answer : Type 0 where
  pub told : Told
  pub number : ℕ
  pub bytes : ℕ

abbrev pub answer : Told → ℕ → ℕ → Answer
answer told number bytes = record { told = told; number = number; bytes = bytes }

-- Moved: how many bytes; or why not, and the number of the command at which that was found.
abbrev pub Moved : Type 0
Moved = Outcome ℕ Refused

abbrev pub answer_of : Moved → Answer
answer_of (Ok bytes) = answer (plain 0) 0 bytes
answer_of (Err refused) = answer (told_fault refused.fault) refused.number 0

-- An answer, and the room afterwards.
pub record Result : Type 0 where
  pub answer : Answer
  pub room : List ℕ

-- Demand 1: "a refused call writes nothing into lent memory".
abbrev pub refused_as : Told → ℕ → List ℕ → Result
refused_as told number room = record { answer = answer told number 0; room = room }

-- Bytes that passed these checks stand at the front, and the rest is as it was.
abbrev pub put_unless : List Check → List ℕ → List ℕ → Result
put_unless checks bytes room =
    cond (eqb (first_of checks) 0)
    (record { answer = answer (plain 0) 0 (length bytes); room = bytes ++ drop (length bytes) room })
    (refused_as (plain (first_of checks)) 0 room)

-- "24 for room"
abbrev pub too_small : List ℕ → List ℕ → Check
too_small bytes room = 24 when not (has_room bytes room)

-- Raw to stored, behind 20: the first bad command's code with its number; 24.
abbrev pub stored_by : Said → List ℕ → Result
stored_by (said cs end) room = put_unless (too_small (stored_bytes cs) room ∷ []) (stored_bytes cs) room
stored_by (bad number told) room = refused_as told number room

unfoldable pub to_card : List ℕ → List ℕ → Result
to_card s room = cond (ltb 4096 (length s)) (refused_as (plain 20) 0 room) (stored_by (raw_says s) room)

-- Stored to raw: "37 bytes left over", where a list of so many bytes does not end with its last command.
abbrev pub left_over : ℕ → ℕ → Check
left_over size end = 37 when not (eqb end size)

-- "20 where the raw list would pass 4,096 bytes"
abbrev pub too_long : List Command → Check
too_long cs = 20 when ltb 4096 (length (list_bytes cs))

-- Behind a stored list's last command.
abbrev pub end_checks : ℕ → List Command → ℕ → List ℕ → List Check
end_checks size cs end room = left_over size end ∷ too_long cs ∷ too_small (list_bytes cs) room ∷ []

abbrev pub raw_by : ℕ → Said → List ℕ → Result
raw_by size (said cs end) room = put_unless (end_checks size cs end room) (list_bytes cs) room
raw_by size (bad number told) room = refused_as told number room

unfoldable pub from_card : List ℕ → List ℕ → Result
from_card s room = raw_by (length s) (stored_says s) room
