-- 01, "What each promise answers for": two results that one promise allows are equal. The code and the count say which answer it was.
use mathlib.Core.Path.{◌≡◌, refl, ap}
use native.Mathlib.Omega.{arith}
use Rattle.std.specs.Prelude.{ℕ, Result, Ok, Err}
use Rattle.words.specs.declared.codes.NoRoom.{NoRoom}
use Rattle.listing.specs.Answer.{answer_of}

-- Two answers with the same code and count are the same: so those of `put_report`, and those of `put_refusal`. The room is an equation's.
pub one_put : (a b : Result ℕ NoRoom) → answer_of a ≡ answer_of b → a ≡ b
one_put (Ok m) (Ok n) e = ap (λ x. Ok x.bytes) e
one_put (Ok m) (Err f) e = absurd (omega (arith, ap (λ x. x.code) e))
one_put (Err f) (Ok n) e = absurd (omega (arith, ap (λ x. x.code) e))
one_put (Err f) (Err g) e = refl
