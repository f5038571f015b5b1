-- The readings of 02, Q-14, on small lists, as claims that the machine computes.
use Prim.Native.Nat.{ℕ}
use mathlib.Core.Path.{◌≡◌, refl}
use mathlib.Core.List.{List, [], ◌∷◌, ◌++◌}
use mathlib.Core.Bool.{true, false}
use lib.ListN.{take}
use Rattle.wire.specs.Read.{span_of}
use Rattle.walk.specs.Walk.{rests}
use Rattle.index.specs.Index.{starts_from, index_of, built}
use Rattle.index.specs.Answers.{unfit}
use Rattle.index.specs.Found.{found_of}

-- A FLUSH; eight bytes that say a length of 1, which is code 2; and eight that say 4, which is code 3 where fewer than sixteen are left.
abbrev flush : List ℕ
flush = 1 ∷ 90 ∷ 0 ∷ 2 ∷ 1 ∷ 90 ∷ 0 ∷ 2 ∷ []

abbrev length_one : List ℕ
length_one = 1 ∷ 90 ∷ 0 ∷ 1 ∷ 1 ∷ 90 ∷ 0 ∷ 1 ∷ []

abbrev length_four : List ℕ
length_four = 1 ∷ 83 ∷ 0 ∷ 4 ∷ 0 ∷ 0 ∷ 0 ∷ 0 ∷ []

-- Built anew: the start of each command, also of one that ended the list.
pub anew :
    (built [] ≡ [])
    × (built (flush ++ flush) ≡ 0 ∷ 8 ∷ [])
    × (built (flush ++ take 7 flush) ≡ 0 ∷ 8 ∷ [])
    × (built (flush ++ length_one ++ flush) ≡ 0 ∷ 8 ∷ [])
    × (built (flush ++ length_four) ≡ 0 ∷ 8 ∷ [])
unfolding index_of starts_from rests span_of
anew = (refl, refl, refl, refl, refl)

-- Extended: the last command is read anew. It may have been whole, cut off (codes 1 and 3), or of a length that no command has (code 2).
pub extended :
    (index_of (flush ++ flush) (0 ∷ []) ≡ 0 ∷ 8 ∷ [])
    × (index_of (flush ++ flush ++ flush) (0 ∷ 8 ∷ []) ≡ 0 ∷ 8 ∷ 16 ∷ [])
    × (index_of (flush ++ length_four ++ flush ++ flush) (0 ∷ 8 ∷ []) ≡ 0 ∷ 8 ∷ 24 ∷ [])
    × (index_of (flush ++ length_one ++ flush) (0 ∷ 8 ∷ []) ≡ 0 ∷ 8 ∷ [])
unfolding index_of starts_from rests span_of
extended = (refl, refl, refl, refl)

-- Offsets that were not built for the list, and pass 54: all but the last stay as they are.
pub another : index_of (flush ++ flush) (0 ∷ 4 ∷ []) ≡ 0 ∷ 4 ∷ 12 ∷ []
unfolding index_of starts_from rests span_of
another = refl

-- 54, on both sides.
pub offsets :
    (unfit 0 [] ≡ false)
    × (unfit 0 (0 ∷ []) ≡ true)
    × (unfit 9 (0 ∷ 8 ∷ []) ≡ false)
    × (unfit 8 (0 ∷ 8 ∷ []) ≡ true)
    × (unfit 9 (1 ∷ 8 ∷ []) ≡ true)
    × (unfit 9 (0 ∷ 8 ∷ 8 ∷ []) ≡ true)
    × (unfit 9 (0 ∷ 8 ∷ 7 ∷ []) ≡ true)
offsets = (refl, refl, refl, refl, refl, refl, refl)

-- Looked up: no number 0, none past the offsets, none outside the list.
pub found :
    (found_of (flush ++ length_one) (0 ∷ 8 ∷ []) 0 ≡ [])
    × (found_of (flush ++ length_one) (0 ∷ 8 ∷ []) 1 ≡ flush)
    × (found_of (flush ++ length_one) (0 ∷ 8 ∷ []) 2 ≡ length_one)
    × (found_of (flush ++ length_one) (0 ∷ 8 ∷ []) 3 ≡ [])
    × (found_of (flush ++ length_one) (0 ∷ 15 ∷ []) 2 ≡ 1 ∷ [])
    × (found_of (flush ++ length_one) (0 ∷ 16 ∷ []) 2 ≡ [])
unfolding span_of
found = (refl, refl, refl, refl, refl, refl)
