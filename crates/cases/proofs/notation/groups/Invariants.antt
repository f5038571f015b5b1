-- `groups` is safe and ends: a group with the high bit is a byte, the room keeps its length, and what is left of the number falls.
use Rattle.std.proofs.Common.{◌≡◌, length}
use Rattle.cases.proofs.notation.groups.Given as goal

abbrev pub invariant-loop-left : goal.invariant-loop-left
invariant-loop-left l = length l.room ≡ length l.initial.room

abbrev pub decreases-loop-left : goal.decreases-loop-left
decreases-loop-left l = l.left
