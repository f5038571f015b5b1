-- 02, Q-11, the codes: "Refusals for reading, in order at each item: 47 fewer bytes than it takes, 48 unexpected tag, 49 wrong length; then 50 bytes left
-- over. Writing gives 24."
use Rattle.std.specs.Prelude.{ℕ, ◌+◌, List, [], ◌∷◌, ◌++◌, cond, not, length, eqb, ltb, Result, Ok, Err}
use Rattle.words.specs.BigEndian.{byte_at, has_room}
use Rattle.words.specs.Codes.{Check, ◌when◌, first_of, answer_code}
use Rattle.words.specs.declared.codes.NoRoom.{NoRoom}
use Rattle.housekeeping.specs.declared.Housekeeping.{Housekeeping}
use Rattle.housekeeping.specs.declared.Item.{Item}
use Rattle.housekeeping.specs.declared.Refusal.{Refusal}
use Rattle.housekeeping.specs.Frame.{row_of, end_of, frame_bytes, frame_at}

-- 02's number of each refusal.
abbrev pub code_of : Refusal → ℕ
code_of Refusal.CutOff = 47
code_of Refusal.WrongTag = 48
code_of Refusal.WrongLength = 49
code_of Refusal.LeftOver = 50

-- What a reading says: a code, and the four numbers where it is 0.
pub record Answer : Type 0 where
  pub code : ℕ
  pub taken : List Housekeeping

abbrev pub answer_of : Result Housekeeping Refusal → Answer
answer_of (Ok h) = record { code = 0; taken = h ∷ [] }
answer_of (Err refusal) = record { code = code_of refusal; taken = [] }

-- The rows of one item,
abbrev pub item_checks : Item → List ℕ → List Check
item_checks item s =
    47 when ltb (length s) (end_of item)
    ∷ 48 when not (eqb (byte_at s (row_of item).at) (row_of item).tag)
    ∷ 49 when not (eqb (byte_at s ((row_of item).at + 1)) (row_of item).size)
    ∷ []

-- those of all four, one after another,
abbrev pub items_checks : List ℕ → List Check
items_checks s = item_checks Item.Received s ++ item_checks Item.Failed s ++ item_checks Item.Code s ++ item_checks Item.Free s

-- and the row of what is left over behind them.
abbrev pub read_checks : List ℕ → List Check
read_checks s = items_checks s ++ (50 when ltb (end_of Item.Free) (length s) ∷ [])

unfoldable pub read_code : List ℕ → ℕ
read_code s = first_of (read_checks s)

unfoldable pub read_of : List ℕ → Answer
unfolding read_code
read_of s = record { code = read_code s; taken = cond (eqb (read_code s) 0) (frame_at s ∷ []) [] }

-- What a writing says.
abbrev pub wrote_of : Result Unit NoRoom → ℕ
wrote_of = answer_code (λ _. 24)

abbrev pub write_checks : Housekeeping → List ℕ → List Check
write_checks h room = 24 when not (has_room (frame_bytes h) room) ∷ []

unfoldable pub write_code : Housekeeping → List ℕ → ℕ
write_code h room = first_of (write_checks h room)
