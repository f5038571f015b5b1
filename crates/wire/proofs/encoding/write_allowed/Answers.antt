-- `wire::encoding::write_allowed` meets its contract: what is laid out is the command's bytes, and the answer tells whether they had room.
use Rattle.std.proofs.Common.{rules}
use Rattle.std.specs.Prelude.{Err}
use mathlib.Core.Path.{◌≡◌}
use mathlib.Core.List.{◌∷◌}
use Rattle.wire.specs.declared.judging.Refusal.{Refusal}
use Rattle.std.specs.Prelude.{ℕ}
use Rattle.wire.specs.declared.kinds.Command.{Command}
use Rattle.wire.specs.declared.kinds.Parts.{Parts}
use Rattle.wire.specs.declared.table.Row.{Row}
use Rattle.wire.specs.Kind.{parts_of}
use Rattle.wire.specs.Table.{row_of}
use Rattle.wire.specs.Write.{head_of, packed_of, closed, command_bytes}
use Rattle.wire.proofs.Lengths.{length_command}
use Rattle.wire.proofs.encoding.write_allowed.Goals as goal

-- The words that were laid out are the command's.
laid : (command : Command) (parts : Parts) (row : Row) (head : ℕ) → parts ≡ parts_of command.kind → row ≡ row_of parts.form → head ≡ head_of row.opcode command.flag row.words
    → closed (head ∷ packed_of row.layout parts.first parts.second) ≡ command_bytes command
unfolding command_bytes
laid command parts row head is_parts is_row is_head = rw (is_head, is_row, is_parts)

pub returns-in_err-put_laid_out-clause-result_value : goal.returns-in_err-put_laid_out-clause-result_value
returns-in_err-put_laid_out-clause-result_value c =
    let wrote = rw (laid c.args.command c.parts_of-parts.result c.row_of-row.result c.head_of-head.result c.parts_of-parts.ensures c.row_of-row.ensures c.head_of-head.ensures) at c.put_laid_out.ensures in
    let is : c.from_residual.result ≡ Err Refusal.NoRoom = search rules in
    rw (is, ← wrote.value, c.in_err-put_laid_out.was)

pub returns-in_err-put_laid_out-clause-room_after : goal.returns-in_err-put_laid_out-clause-room_after
returns-in_err-put_laid_out-clause-room_after c = (rw (laid c.args.command c.parts_of-parts.result c.row_of-row.result c.head_of-head.result c.parts_of-parts.ensures c.row_of-row.ensures c.head_of-head.ensures) at c.put_laid_out.ensures).room_after

pub returns-clause-result_value : goal.returns-clause-result_value
returns-clause-result_value c =
    let wrote = rw (laid c.args.command c.parts_of-parts.result c.row_of-row.result c.head_of-head.result c.parts_of-parts.ensures c.row_of-row.ensures c.head_of-head.ensures) at c.put_laid_out.ensures in
    rw (← wrote.value, c.in_ok-put_laid_out.was, length_command c.args.command, ← c.parts_of-parts.ensures, ← c.row_of-row.ensures)

pub returns-clause-room_after : goal.returns-clause-room_after
returns-clause-room_after c = (rw (laid c.args.command c.parts_of-parts.result c.row_of-row.result c.head_of-head.result c.parts_of-parts.ensures c.row_of-row.ensures c.head_of-head.ensures) at c.put_laid_out.ensures).room_after
