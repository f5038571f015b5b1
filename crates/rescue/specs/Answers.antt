-- 02, Q-10, what is answered and left in the rooms: "Refusals: 20, then 24 when either output has too little room."
use Rattle.std.specs.Prelude.{ℕ, ◌*◌, List, [], ◌∷◌, ◌++◌, cond, not, ◌||◌, length, drop, eqb, ltb, Result, Ok, Err}
use Rattle.words.specs.BigEndian.{has_room}
use Rattle.words.specs.Codes.{Check, ◌when◌, first_of}
use Rattle.rescue.specs.declared.Rescued.{Rescued}
use Rattle.rescue.specs.declared.Refusal.{Refusal}
use Rattle.rescue.specs.Pieces.{kept_of, stretches_of, table_of}

-- The table of the stretches that a rescue skips.
abbrev pub skipped_of : List ℕ → List ℕ
skipped_of s = table_of (stretches_of s)

abbrev pub rescue_checks : List ℕ → List ℕ → List ℕ → List Check
rescue_checks s room table =
    20 when ltb 4096 (length s)
    ∷ 24 when (not (has_room (kept_of s) room) || not (has_room (skipped_of s) table))
    ∷ []

unfoldable pub rescue_code : List ℕ → List ℕ → List ℕ → ℕ
rescue_code s room table = first_of (rescue_checks s room table)

-- What is answered: a code and, where it is 0, how many bytes were kept and how many stretches skipped.
pub record Answer : Type 0 where
  pub code : ℕ
  pub kept : ℕ
  pub stretches : ℕ

abbrev pub answer : ℕ → ℕ → ℕ → Answer
answer code kept stretches = record { code = code; kept = kept; stretches = stretches }

abbrev pub refusal_code : Refusal → ℕ
refusal_code Refusal.TooLong = 20
refusal_code Refusal.NoRoom = 24

abbrev pub answer_of : Result Rescued Refusal → Answer
answer_of (Ok done) = answer 0 done.kept done.stretches
answer_of (Err refusal) = answer (refusal_code refusal) 0 0

-- The bytes that so many stretches take in a table: four each. No list that is taken has more than 456 stretches, and no more are counted.
abbrev pub table_size : ℕ → ℕ
table_size stretches = cond (ltb stretches 456) (stretches * 4) 1824

unfoldable pub rescued_as : List ℕ → List ℕ → List ℕ → Answer
unfolding rescue_code
rescued_as s room table =
    cond (eqb (rescue_code s room table) 0)
    (answer 0 (length (kept_of s)) (length (stretches_of s)))
    (answer (rescue_code s room table) 0 0)

-- A room afterwards: where the code is 0 the bytes stand at its front and the rest is as it was, else all of it is.
abbrev pub after : ℕ → List ℕ → List ℕ → List ℕ
after code bytes room = cond (eqb code 0) (bytes ++ drop (length bytes) room) room

-- The room for the commands, and the table's.
unfoldable pub room_after : List ℕ → List ℕ → List ℕ → List ℕ
unfolding rescue_code
room_after s room table = after (rescue_code s room table) (kept_of s) room

unfoldable pub table_after : List ℕ → List ℕ → List ℕ → List ℕ
unfolding rescue_code
table_after s room table = after (rescue_code s room table) (skipped_of s) table
