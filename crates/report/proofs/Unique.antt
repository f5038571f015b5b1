-- 01, "What each promise answers for": two results that one promise allows are equal. The number that 01 gives to a writer's answer says which it
-- was.
use mathlib.Core.Path.{◌≡◌, refl}
use native.Mathlib.Omega.{arith}
use Rattle.std.specs.Prelude.{Result, Ok, Err}
use Rattle.words.specs.declared.codes.NoRoom.{NoRoom}
use Rattle.report.specs.Record.{code_of}

-- Two answers with the same number are the same.
pub one_put : (a b : Result Unit NoRoom) → code_of a ≡ code_of b → a ≡ b
one_put (Ok a) (Ok b) e = refl
one_put (Ok a) (Err b) e = absurd (omega arith)
one_put (Err a) (Ok b) e = absurd (omega arith)
one_put (Err a) (Err b) e = refl
