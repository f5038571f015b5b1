-- `put_goal` meets its contract, by the quarters that were found.
use mathlib.Core.Path.{sym, ◌∙◌}
use Rattle.text.proofs.Putting.{goal_put}
use Rattle.text.proofs.printing.put_goal.Goals as goal

pub returns-in-Some-clause-room_after : goal.returns-in-Some-clause-room_after
returns-in-Some-clause-room_after c =
    let whole = c.put_number.ensures in
    let end = c.put_fraction.ensures in
    (goal_put c.args.bits c.args.line.now.at c.args.line.now.room.now c.requires c.in-Some.quarters
    (sym c.quarters_in.ensures ∙ c.in-Some.is) _ _ _ _ (whole.value, whole.room_after) (end.value, end.room_after)).1

pub returns-in-Some-clause-value : goal.returns-in-Some-clause-value
returns-in-Some-clause-value c =
    let whole = c.put_number.ensures in
    let end = c.put_fraction.ensures in
    (goal_put c.args.bits c.args.line.now.at c.args.line.now.room.now c.requires c.in-Some.quarters
    (sym c.quarters_in.ensures ∙ c.in-Some.is) _ _ _ _ (whole.value, whole.room_after) (end.value, end.room_after)).0
