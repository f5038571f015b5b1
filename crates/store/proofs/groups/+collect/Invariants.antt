-- `store::groups::collect`: what the walk makes from entry i on is what it makes of the whole macro; the measure is the macro number.
use Rattle.store.specs.TallySteps.{store_of}
use Rattle.store.specs.GroupSteps.{cursor_of}
use Rattle.store.proofs.Turns.{Walking}
use Rattle.store.proofs.groups.+collect.Given as goal

abbrev pub decreases-collect : goal.decreases-collect
decreases-collect l = l.m

abbrev pub invariant-loop-i : goal.invariant-loop-i
invariant-loop-i l = Walking (store_of l.words l.tally) l.m l.tally.spans (cursor_of l.initial.spot l.initial.group) l.end l.i (cursor_of l.spot l.group)
