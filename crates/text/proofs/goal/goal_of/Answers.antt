-- `goal_of` meets its contract.
use mathlib.Core.Path.{sym, ◌∙◌}
use native.Mathlib.Omega.{arith}
use Rattle.text.proofs.Lines.{quarters_small}
use Rattle.text.proofs.goal.goal_of.Goals as goal

pub goal_bits-requires : goal.goal_bits-requires
goal_bits-requires c = omega (arith, quarters_small _ _ (sym c.quarters_of.ensures ∙ c.in_ok-quarters.was))
