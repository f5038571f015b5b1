-- A record: "sender (1 kit, 2 pupil), code, parameter (0 unless code 8), 0, then its number in its own list, 32 bits, from 1" and, by 02's Q-6, the
-- value: "the record grows to 12 bytes, the last four the value, 0 unless the code is 8".
use Rattle.std.specs.Prelude.{ℕ, List, [], ◌∷◌, ◌++◌, cond, Result}
use Rattle.words.specs.BigEndian.{word_bytes, has_room}
use Rattle.words.specs.Codes.{answer_code}
use Rattle.words.specs.declared.codes.NoRoom.{NoRoom}

abbrev pub record_bytes : ℕ → ℕ → ℕ → ℕ → ℕ → List ℕ
record_bytes sender code par number value = (sender ∷ code ∷ par ∷ 0 ∷ []) ++ word_bytes number ++ word_bytes value

-- The bytes of a record, and of the report's room: "Code 21 now reads 12,288 bytes."
abbrev pub record_length : ℕ
record_length = 12

abbrev pub report_room : ℕ
report_room = 12288

-- 01's number of each answer: too short a part gets 24.
abbrev pub code_of : Result Unit NoRoom → ℕ
code_of = answer_code (λ _. 24)

abbrev pub put_code : List ℕ → List ℕ → ℕ
put_code bytes room = cond (has_room bytes room) 0 24
