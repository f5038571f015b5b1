-- `first_other` meets its contract: the loop stops at the first other value, goes past the filling, or reaches the room's end.
use Rattle.std.proofs.Common.{arith, ◌∙◌}
use Rattle.script.proofs.Changes.{changed_here, changed_further, changed_end}
use Rattle.script.proofs.rooms.first_other.Goals as goal

pub returns-then-ne : goal.returns-then-ne
returns-then-ne g c = changed_here _ _ _ _ _ c.loop-i-test.true c.index-room-i.is c.if-ne.ensures ∙ c.loop-i.invariant.1

pub loop-i-preserved : goal.loop-i-preserved
loop-i-preserved g c = (omega arith, changed_further _ _ _ _ _ c.loop-i-test.true c.index-room-i.is c.if-ne.ensures ∙ c.loop-i.invariant.1)

pub returns : goal.returns
returns g c = c.max.ensures ∙ changed_end _ _ _ _ _ c.loop-i-test.false c.loop-i.auto.i-end c.loop-i.invariant.1
