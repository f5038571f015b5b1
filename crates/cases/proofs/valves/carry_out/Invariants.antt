-- `carry_out` is safe and ends: each frame takes its size at least, so that what is left of the line falls.
use Rattle.std.proofs.Common.{length}
use Rattle.cases.proofs.valves.carry_out.Given as goal

abbrev pub invariant-loop-left : goal.invariant-loop-left
invariant-loop-left l = Unit {0}

abbrev pub decreases-loop-left : goal.decreases-loop-left
decreases-loop-left l = length l.left
