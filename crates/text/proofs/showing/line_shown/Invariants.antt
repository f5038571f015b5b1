-- `line_shown` meets its contract. The loop's invariant: so many lines were passed, and the next begins here. Each turn passes one byte at least, so
-- the measure is the number of bytes left, whatever the number is.
use Prim.Native.Nat.{◌-◌}
use lib.ListN.{length}
use Rattle.text.proofs.ShownLine.{Reached}
use Rattle.text.proofs.showing.line_shown.Given as goal

abbrev pub invariant-loop-at : goal.invariant-loop-at
invariant-loop-at l = Reached l.text l.number l.at l.passed

abbrev pub decreases-loop-at : goal.decreases-loop-at
decreases-loop-at l = length l.text - l.at
