-- Demand 2, "the one code that stands first in the order of checks", for an index: 20, then 54, then 24.
use Prim.Native.Nat.{ℕ}
use mathlib.Core.Path.{refl}
use mathlib.Core.List.{List}
use Rattle.words.proofs.Order.{Order, order}
use Rattle.index.specs.Answers.{build_checks, build_code}

pub build_order : (s old room : List ℕ) → Order (build_checks s old room) (build_code s old room)
unfolding build_code
build_order s old room = order (build_checks s old room) refl
