-- 02, Q-14, the codes: "20, then 54 when the offsets handed in (none is fine) number above 512, do not start at 0, do not rise, or lie outside the list,
-- then 24 when the index has too little room."
use Rattle.std.specs.Prelude.{ℕ, List, [], ◌∷◌, ◌++◌, Bool, true, cond, not, ◌&&◌, ◌||◌, length, drop, eqb, ltb, Result, Ok, Err}
use Rattle.words.specs.Codes.{Check, ◌when◌, first_of}
use Rattle.index.specs.declared.Refusal.{Refusal}
use Rattle.index.specs.Index.{index_of}

-- The first offset is 0.
abbrev pub from_zero : List ℕ → Bool
from_zero [] = true
from_zero (o ∷ os) = eqb o 0

-- Each offset is above the one before it.
abbrev pub rising : List ℕ → Bool
rising [] = true
rising (o ∷ []) = true
rising (o ∷ p ∷ os) = ltb o p && rising (p ∷ os)

-- Each offset lies in a list of so many bytes.
abbrev pub within : ℕ → List ℕ → Bool
within n [] = true
within n (o ∷ os) = ltb o n && within n os

-- Offsets that no index of a list of so many bytes has.
abbrev pub unfit : ℕ → List ℕ → Bool
unfit n old = ltb 512 (length old) || (not (from_zero old) || (not (rising old) || not (within n old)))

-- Too little room: fewer places than the index needs. No index has more than 512 offsets; only offsets that were not built for the list lead there.
abbrev pub too_small : List ℕ → List ℕ → Bool
too_small index room = ltb 512 (length index) || ltb (length room) (length index)

abbrev pub build_checks : List ℕ → List ℕ → List ℕ → List Check
build_checks s old room =
    20 when ltb 4096 (length s)
    ∷ 54 when unfit (length s) old
    ∷ 24 when too_small (index_of s old) room
    ∷ []

unfoldable pub build_code : List ℕ → List ℕ → List ℕ → ℕ
build_code s old room = first_of (build_checks s old room)

-- What is answered: a code, and how many offsets the index has where it is 0.
pub record Answer : Type 0 where
  pub code : ℕ
  pub count : ℕ

abbrev pub refusal_code : Refusal → ℕ
refusal_code Refusal.TooLong = 20
refusal_code Refusal.BadOffsets = 54
refusal_code Refusal.NoRoom = 24

abbrev pub answer_of : Result ℕ Refusal → Answer
answer_of (Ok count) = record { code = 0; count = count }
answer_of (Err refusal) = record { code = refusal_code refusal; count = 0 }

unfoldable pub built_as : List ℕ → List ℕ → List ℕ → Answer
unfolding build_code
built_as s old room = record { code = build_code s old room; count = cond (eqb (build_code s old room) 0) (length (index_of s old)) 0 }

-- The room afterwards: where the code is 0 the index stands at its front and the rest is as it was, else all of it is.
unfoldable pub room_after : List ℕ → List ℕ → List ℕ → List ℕ
unfolding build_code
room_after s old room = cond (eqb (build_code s old room) 0) (index_of s old ++ drop (length (index_of s old)) room) room
