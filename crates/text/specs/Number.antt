-- "A whole number has one to five digits; a goal is one, alone or ending in .25, .5 or .75". Leading zeros are allowed.
use Rattle.std.specs.Prelude.{ℕ, zero, suc, ◌+◌, ◌*◌, List, [], ◌∷◌, Bool, true, false, cond, ◌&&◌, length, take, drop, leb, ltb, eqb}
use Rattle.words.specs.Text.{ascii, value_from}
use Rattle.text.specs.declared.number.Digits.{Digits}
use Rattle.text.specs.Split.{same_text}
use Rattle.std.specs.Prelude.{Option, Some, None}

abbrev pub is_digit : ℕ → Bool
is_digit b = leb 48 b && leb b 57

-- How many digits stand at the front, up to so many.
unfoldable pub digits_in : ℕ → List ℕ → ℕ
digits_in zero s = 0
digits_in (suc most) [] = 0
digits_in (suc most) (b ∷ s) = cond (is_digit b) (suc (digits_in most s)) 0

abbrev pub most_digits : ℕ
most_digits = 5

-- The digits at the front of a text: what they say, and how many they are.
abbrev pub digits_of : List ℕ → Digits
digits_of s = let count = digits_in most_digits s in record { value = value_from 0 (take count s); count = count }

-- A whole number: one to five digits and nothing else.
unfoldable pub whole_of : List ℕ → Option ℕ
whole_of s =
    let digits = digits_of s in
    cond (ltb 0 digits.count && eqb digits.count (length s)) (Some digits.value) None

-- The quarters that the end of a goal says.
unfoldable pub fraction_of : List ℕ → Option ℕ
unfolding same_text
fraction_of s =
    cond (eqb (length s) 0) (Some 0)
    (cond (same_text s (ascii ".25")) (Some 1)
    (cond (same_text s (ascii ".5")) (Some 2)
    (cond (same_text s (ascii ".75")) (Some 3) None)))

abbrev pub quarters_with : ℕ → Option ℕ → Option ℕ
quarters_with value (Some quarters) = Some (value * 4 + quarters)
quarters_with value None = None

-- A goal, in quarters.
unfoldable pub quarters_of : List ℕ → Option ℕ
unfolding fraction_of
quarters_of s =
    let digits = digits_of s in
    cond (ltb 0 digits.count) (quarters_with digits.value (fraction_of (drop digits.count s))) None

-- Is it no number?
abbrev pub is_malformed : Option ℕ → Bool
is_malformed (Some value) = false
is_malformed None = true

-- What it says; 0 where it is none.
abbrev pub value_of : Option ℕ → ℕ
value_of (Some value) = value
value_of None = 0
