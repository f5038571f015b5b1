-- `put_number` meets its contract: the groups so far stand in the room, and what is left gives the others.
use native.Mathlib.Omega.{arith}
use Rattle.card.proofs.Numbers.{none_grouped, group_place, one_grouped, last_grouped, last_place}
use Rattle.card.proofs.storing.put_number.Goals as goal

pub loop-left-init : goal.loop-left-init
loop-left-init c = none_grouped _ _ _ (omega (arith, c.ranges)) c.requires

pub bounds-room-i : goal.bounds-room-i
bounds-room-i c = group_place _ _ _ _ _ _ c.loop-left.invariant

pub loop-left-preserved : goal.loop-left-preserved
loop-left-preserved c = one_grouped _ _ _ _ _ _ c.loop-left.invariant c.loop-left-test.true

pub bounds-room-i-2 : goal.bounds-room-i-2
bounds-room-i-2 c = group_place _ _ _ _ _ _ c.loop-left.invariant

pub returns-clause-value : goal.returns-clause-value
returns-clause-value c = last_place _ _ _ _ _ _ c.loop-left.invariant c.loop-left-test.false

pub returns-clause-room_after : goal.returns-clause-room_after
returns-clause-room_after c = last_grouped _ _ _ _ _ _ c.loop-left.invariant c.loop-left-test.false
