-- Demand 2 for frames, "the one code that stands first in the order of checks": reading tries 22, then 23; writing tries 23, then 24.
use Prim.Native.Nat.{ℕ}
use mathlib.Core.Path.{refl}
use mathlib.Core.List.{List}
use Rattle.words.proofs.Order.{Order, order}
use Rattle.frame.specs.declared.Frame.{Frame}
use Rattle.frame.specs.Answers.{read_checks, read_code, write_checks, write_code}

-- The code of a reading is that of the first check that is due, and 0 exactly when none is.
pub read_order : (s : List ℕ) → Order (read_checks s) (read_code s)
unfolding read_code
read_order s = order (read_checks s) refl

-- The same of a writing.
pub write_order : (f : Frame) (room : List ℕ) → Order (write_checks f room) (write_code f room)
unfolding write_code
write_order f room = order (write_checks f room) refl
