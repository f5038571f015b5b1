-- What a writer of text answers.
use Rattle.std.specs.Prelude.{ℕ, List, cond, length}
use Rattle.words.specs.BigEndian.{has_room}
use Rattle.std.specs.Prelude.{Result, Ok, Err}
use Rattle.words.specs.declared.codes.NoRoom.{NoRoom}

-- 01's code, and how many bytes were put.
pub record Answer : Type 0 where
  pub code : ℕ
  pub bytes : ℕ

abbrev pub answer_of : Result ℕ NoRoom → Answer
answer_of (Ok bytes) = record { code = 0; bytes = bytes }
answer_of (Err refusal) = record { code = 24; bytes = 0 }

abbrev pub answer_for : List ℕ → List ℕ → Answer
answer_for bytes room = cond (has_room bytes room) (record { code = 0; bytes = length bytes }) (record { code = 24; bytes = 0 })
