-- `last_failed` meets its contract: while no record behind `left` failed, the last failed one of all is that of the first `left`.
use mathlib.Core.Path.{◌≡◌}
use Rattle.report.specs.Latest.{last_failed}
use Rattle.report.proofs.last_failed.Given as goal

abbrev pub invariant-loop-left : goal.invariant-loop-left
invariant-loop-left l = last_failed l.report l.left ≡ last_failed l.report l.count
