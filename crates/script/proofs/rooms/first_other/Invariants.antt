-- `first_other` meets its contract: the first from the loop's place on is the first from where it began.
use Rattle.std.proofs.Common.{◌≡◌, ◌≤◌}
use Rattle.script.specs.Rooms.{first_other}
use Rattle.script.proofs.rooms.first_other.Given as goal

abbrev pub invariant-loop-i : goal.invariant-loop-i
invariant-loop-i g l = (l.from ≤ l.i) × (first_other g.T.PartialEq.eq l.fill l.room l.i ≡ first_other g.T.PartialEq.eq l.fill l.room l.from)
