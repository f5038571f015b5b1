-- `put_line` meets its contract: mark, name, arguments and line feed, one behind the other.
use mathlib.Core.Path.{◌∙◌}
use borrow.Author.Rules.{rules}
use Rattle.text.proofs.Putting.{arguments_fit, line_put}
use Rattle.text.proofs.printing.put_line.Goals as goal

pub put_arguments-requires : goal.put_arguments-requires
put_arguments-requires c =
    let parts = c.parts_of-parts.ensures in
    let flag = c.put_flag.ensures in
    let name = c.text.ensures in
    rw (c.row_of-row.ensures, parts)
    (arguments_fit c.args.command c.args.at c.args.buffer.now c.requires _ _ _ _
    (flag.value, flag.room_after) (rw (c.name_of.ensures, parts) at name.place, rw (c.name_of.ensures, parts) at name.room))

pub returns-clause-value : goal.returns-clause-value
returns-clause-value c =
    let parts = c.parts_of-parts.ensures in
    let flag = c.put_flag.ensures in
    let name = c.text.ensures in
    let arguments = c.put_arguments.ensures in
    let end = c.text-2.ensures in
    (line_put c.args.command c.args.at c.args.buffer.now c.requires _ _ _ _
    (flag.value, flag.room_after) (rw (c.name_of.ensures, parts) at name.place, rw (c.name_of.ensures, parts) at name.room) _ _ _ _
    (rw (c.row_of-row.ensures, parts) at arguments.value, rw (c.row_of-row.ensures, parts) at arguments.room_after) (end.place, end.room)).0

pub returns-clause-buffer_after : goal.returns-clause-buffer_after
returns-clause-buffer_after c =
    let parts = c.parts_of-parts.ensures in
    let flag = c.put_flag.ensures in
    let name = c.text.ensures in
    let arguments = c.put_arguments.ensures in
    let end = c.text-2.ensures in
    let stored =
    (line_put c.args.command c.args.at c.args.buffer.now c.requires _ _ _ _
    (flag.value, flag.room_after) (rw (c.name_of.ensures, parts) at name.place, rw (c.name_of.ensures, parts) at name.room) _ _ _ _
    (rw (c.row_of-row.ensures, parts) at arguments.value, rw (c.row_of-row.ensures, parts) at arguments.room_after) (end.place, end.room)).1 in
    let names = end.same_room ∙ arguments.same_room ∙ name.same_room ∙ flag.same_room in
    search rules
