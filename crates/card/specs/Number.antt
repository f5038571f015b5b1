-- 02, Q-4: "Every number is in groups of seven bits, lowest first, high bit set on all but the last, never a group more than needed".
use Rattle.std.specs.Prelude.{ℕ, zero, suc, ◌+◌, ◌*◌, ◌/◌, ◌%◌, List, [], ◌∷◌, Bool, cond, ◌&&◌, ◌||◌, length, get_or, take, drop, leb, ltb, eqb}
use Rattle.words.specs.Codes.{Check, ◌when◌}
use Rattle.card.specs.Reading.{Got, got, passing}

-- A number in at most k groups more than one.
unfoldable pub groups_in : ℕ → ℕ → List ℕ
groups_in zero v = v ∷ []
groups_in (suc k) v = cond (ltb v 128) (v ∷ []) ((v % 128 + 128) ∷ groups_in k (v / 128))

-- The bytes of a number of 32 bits: five groups hold each of them.
unfoldable pub number_bytes : ℕ → List ℕ
unfolding groups_in
number_bytes v = groups_in 4 v

-- How many bytes at the front have the high bit set.
unfoldable pub run_of : List ℕ → ℕ
run_of [] = 0
run_of (b ∷ s) = cond (leb 128 b) (suc (run_of s)) 0

-- What groups say, lowest first.
unfoldable pub value_of : List ℕ → ℕ
value_of [] = 0
value_of (b ∷ s) = b % 128 + value_of s * 128

-- What the groups up to the first without the high bit say.
abbrev pub said_in : List ℕ → ℕ
said_in s = value_of (take (run_of s + 1) s)

-- "ended early": no group without the high bit.
abbrev pub endless : List ℕ → Bool
endless s = leb (length s) (run_of s)

-- "needless group": a last one of zero, behind others.
abbrev pub needless : List ℕ → Bool
needless s = eqb (get_or s (run_of s) 0) 0 && ltb 0 (run_of s)

-- "more than 32 bits"
abbrev pub too_wide : List ℕ → Bool
too_wide s = ltb 0xffffffff (said_in s)

abbrev pub number_checks : List ℕ → List Check
number_checks s = 34 when endless s ∷ 35 when (needless s || too_wide s) ∷ []

-- The number at the front of bytes that begin at a place.
unfoldable pub number_in : List ℕ → ℕ → Got ℕ
number_in s at = passing (number_checks s) (got (said_in s) (at + (run_of s + 1)))

-- The number that begins at a place of some bytes.
abbrev pub number_at : List ℕ → ℕ → Got ℕ
number_at s at = number_in (drop at s) at
