-- `put_number` meets its contract: the groups so far stand in the room, and what is left gives the others.
use Rattle.card.proofs.Numbers.{Grouping}
use Rattle.card.proofs.storing.put_number.Given as goal

abbrev pub invariant-loop-left : goal.invariant-loop-left
invariant-loop-left l = Grouping l.value l.at l.initial.room l.room l.left l.i

abbrev pub decreases-loop-left : goal.decreases-loop-left
decreases-loop-left l = l.left
