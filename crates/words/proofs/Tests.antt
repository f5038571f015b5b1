-- Laws of tests: the parts of a test that holds, or that fails, and what a test of a call's answer tells.
use mathlib.Core.Path.{◌≡◌, refl, sym, ◌∙◌}
use mathlib.Core.Bool.{Bool, true, false, not, ◌&&◌, ◌||◌, false≢true}
use Prim.Native.Nat.{ℕ}
use native.Mathlib.Omega.{arith}
use borrow.Author.Tests.{not-true, not-false}

pub both : (a b : Bool) → (a && b) ≡ true → (a ≡ true) × (b ≡ true)
both true b e = (refl, e)
both false b e = absurd (false≢true e)

pub neither : (a b : Bool) → (a || b) ≡ false → (a ≡ false) × (b ≡ false)
neither false b e = (refl, e)
neither true b e = absurd (let z : ◌≡◌ {A = ℕ} 0 1 = cc in omega arith)

-- What the test `!f(..)` tells of the meaning that the call's promise names.
pub fails : {t r : Bool} → t ≡ r → not t ≡ true → r ≡ false
fails {t} e h = sym e ∙ not-true t h

pub holds : {t r : Bool} → t ≡ r → not t ≡ false → r ≡ true
holds {t} e h = sym e ∙ not-false t h

-- Two tests held, and the answer is the third.
pub last : {a b c d : Bool} → a ≡ true → b ≡ true → c ≡ d → c ≡ (a && b && d)
last first second third = rw (first, second) third
