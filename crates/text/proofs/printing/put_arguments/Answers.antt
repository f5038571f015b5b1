-- `put_arguments` meets its contract, by the layout.
use mathlib.Core.List.{◌∷◌}
use Rattle.words.specs.Text.{decimal}
use Rattle.text.specs.Split.{space}
use Rattle.text.specs.Goal.{quarters_in}
use Rattle.text.specs.Lister.{said_text}
use Rattle.text.proofs.Putting.{second_fits, puts_two}
use Rattle.text.proofs.printing.put_arguments.Goals as goal

pub returns-in-Halves-clause-room_after : goal.returns-in-Halves-clause-room_after
returns-in-Halves-clause-room_after c =
    let layout = c.in-Halves.is in
    let one = c.put_number-in-Halves.ensures in
    let two = c.put_number-in-Halves-2.ensures in
    rw layout (puts_two (space ∷ decimal c.args.first) (space ∷ decimal c.args.second) c.args.line.now.at c.args.line.now.room.now (rw layout at c.requires)
    _ _ _ _ (one.value, one.room_after) (two.value, two.room_after)).1

pub returns-in-Singles-clause-room_after : goal.returns-in-Singles-clause-room_after
returns-in-Singles-clause-room_after c =
    let layout = c.in-Singles.is in
    let one = c.put_goal.ensures in
    let two = c.put_goal-in-Singles.ensures in
    rw layout (puts_two (space ∷ said_text (quarters_in c.args.first)) (space ∷ said_text (quarters_in c.args.second)) c.args.line.now.at c.args.line.now.room.now (rw layout at c.requires)
    _ _ _ _ (one.value, one.room_after) (two.value, two.room_after)).1

pub put_number-requires-in-Halves-2 : goal.put_number-requires-in-Halves-2
put_number-requires-in-Halves-2 c =
    let one = c.put_number-in-Halves.ensures in
    second_fits (space ∷ decimal c.args.first) (space ∷ decimal c.args.second) c.args.line.now.at c.args.line.now.room.now (rw c.in-Halves.is at c.requires)
    _ _ (one.value, one.room_after)

pub put_goal-requires-in-Singles : goal.put_goal-requires-in-Singles
put_goal-requires-in-Singles c =
    let one = c.put_goal.ensures in
    second_fits (space ∷ said_text (quarters_in c.args.first)) (space ∷ said_text (quarters_in c.args.second)) c.args.line.now.at c.args.line.now.room.now (rw c.in-Singles.is at c.requires)
    _ _ (one.value, one.room_after)

pub returns-in-Halves-clause-value : goal.returns-in-Halves-clause-value
returns-in-Halves-clause-value c =
    let layout = c.in-Halves.is in
    let one = c.put_number-in-Halves.ensures in
    let two = c.put_number-in-Halves-2.ensures in
    rw layout (puts_two (space ∷ decimal c.args.first) (space ∷ decimal c.args.second) c.args.line.now.at c.args.line.now.room.now (rw layout at c.requires)
    _ _ _ _ (one.value, one.room_after) (two.value, two.room_after)).0

pub returns-in-Singles-clause-value : goal.returns-in-Singles-clause-value
returns-in-Singles-clause-value c =
    let layout = c.in-Singles.is in
    let one = c.put_goal.ensures in
    let two = c.put_goal-in-Singles.ensures in
    rw layout (puts_two (space ∷ said_text (quarters_in c.args.first)) (space ∷ said_text (quarters_in c.args.second)) c.args.line.now.at c.args.line.now.room.now (rw layout at c.requires)
    _ _ _ _ (one.value, one.room_after) (two.value, two.room_after)).0
