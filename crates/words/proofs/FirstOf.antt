-- The first of two lists of checks, one after the other.
use Prim.Native.Nat.{ℕ, ◌<◌}
use mathlib.Core.Path.{◌≡◌, refl, sym, ◌∙◌}
use mathlib.Core.Logic.{◌≢◌}
use mathlib.Core.List.{List, [], ◌∷◌, ◌++◌}
use mathlib.Core.Bool.{Bool, true, false, cond}
use native.Mathlib.Omega.{arith}
use lib.Dec.{eqb}
use borrow.Author.Tests.{ne_eqb}
use Rattle.words.specs.Codes.{Check, first_of}

-- No code is 0, so that 0 says that no row held.
abbrev pub Coded : List Check → Type 0
Coded [] = Unit
Coded (c ∷ cs) = (0 < c.code) × Coded cs

first_row : (due : Bool) (code rest all after : ℕ) → 0 < code → all ≡ cond (eqb rest 0) after rest
    → cond due code all ≡ cond (eqb (cond due code rest) 0) after (cond due code rest)
first_row true code rest all after h e = rw (ne_eqb code 0 (λ z. omega arith))
first_row false code rest all after h e = e

-- The later rows speak where none of the first list held.
pub first_append : (xs ys : List Check) → Coded xs → first_of (xs ++ ys) ≡ cond (eqb (first_of xs) 0) (first_of ys) (first_of xs)
first_append [] ys h = refl
first_append (c ∷ cs) ys h = first_row c.due c.code (first_of cs) (first_of (cs ++ ys)) (first_of ys) h.0 (first_append cs ys h.1)

-- So where a row of the first list holds, its code stands; where none does, the second list's.
pub first_refuses : (xs ys : List Check) → Coded xs → (code : ℕ) → code ≢ 0 → code ≡ first_of xs → code ≡ first_of (xs ++ ys)
first_refuses xs ys h code some e = e ∙ sym (first_append xs ys h ∙ rw (ne_eqb (first_of xs) 0 (λ zero. some (e ∙ zero))))

pub first_passes : (xs ys : List Check) → Coded xs → 0 ≡ first_of xs → (code : ℕ) → code ≡ first_of ys → code ≡ first_of (xs ++ ys)
first_passes xs ys h none code e = e ∙ sym (first_append xs ys h ∙ rw (sym none))
