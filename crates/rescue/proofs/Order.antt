-- Demand 2, "the one code that stands first in the order of checks", for a rescue: 20, then 24.
use Prim.Native.Nat.{ℕ}
use mathlib.Core.Path.{refl}
use mathlib.Core.List.{List}
use Rattle.words.proofs.Order.{Order, order}
use Rattle.rescue.specs.Answers.{rescue_checks, rescue_code}

pub rescue_order : (s room table : List ℕ) → Order (rescue_checks s room table) (rescue_code s room table)
unfolding rescue_code
rescue_order s room table = order (rescue_checks s room table) refl
