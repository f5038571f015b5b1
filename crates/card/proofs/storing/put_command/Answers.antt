-- `put_command` meets its contract: the opcode, the flag and the arguments, one behind the other.
use Prim.Native.Nat.{◌+◌, ◌≤◌}
use mathlib.Core.Path.{refl, subst}
use mathlib.Core.List.{◌++◌}
use lib.ListN.{length}
use Rattle.wire.specs.Table.{arguments_of}
use Rattle.wire.specs.Write.{flag_bit}
use Rattle.card.specs.Number.{number_bytes}
use Rattle.card.specs.Command.{arguments_in, numbers_bytes}
use Rattle.card.proofs.Stores.{put_both, put_as, fits_front, fits_rest}
use Rattle.card.proofs.Packing.{stored_is}
use Rattle.card.proofs.storing.put_command.Goals as goal

pub put_number-flag_at-requires : goal.put_number-flag_at-requires
put_number-flag_at-requires c =
    let args = c.args in
    let parts = c.parts_of-parts in
    let row = c.row_of-row in
    let bit = number_bytes (flag_bit args.command.flag) in
    let rest = numbers_bytes (arguments_in (arguments_of row.result.layout) parts.result.first parts.result.second) in
    let is = stored_is args.command parts.result row.result (flag_bit args.command.flag) (arguments_of row.result.layout) parts.ensures
    row.ensures refl refl in
    fits_front args.room.now args.at (number_bytes row.result.opcode) (bit ++ rest)
    (subst (λ l. args.at + length l ≤ length args.room.now) is c.requires)

pub put_number-arguments_at-requires : goal.put_number-arguments_at-requires
put_number-arguments_at-requires c =
    let args = c.args in
    let parts = c.parts_of-parts in
    let row = c.row_of-row in
    let opcode = c.put_number-flag_at in
    let rest = numbers_bytes (arguments_in (arguments_of row.result.layout) parts.result.first parts.result.second) in
    let is = stored_is args.command parts.result row.result (flag_bit args.command.flag) (arguments_of row.result.layout) parts.ensures row.ensures
    refl refl in
    let all = subst (λ l. args.at + length l ≤ length args.room.now) is
    c.requires in
    fits_front opcode.new.room opcode.result (number_bytes (flag_bit args.command.flag)) rest
    (fits_rest args.room.now opcode.new.room args.at opcode.result (number_bytes row.result.opcode) (number_bytes (flag_bit args.command.flag) ++ rest)
    (opcode.ensures.value, opcode.ensures.room_after) all)

pub put_arguments-requires : goal.put_arguments-requires
put_arguments-requires c =
    let args = c.args in
    let parts = c.parts_of-parts in
    let row = c.row_of-row in
    let opcode = c.put_number-flag_at in
    let flag = c.put_number-arguments_at in
    let many = c.arguments_of-many in
    let rest = numbers_bytes (arguments_in many.result parts.result.first parts.result.second) in
    let is = stored_is args.command parts.result row.result (flag_bit args.command.flag) many.result parts.ensures row.ensures refl
    many.ensures in
    let all = subst (λ l. args.at + length l ≤ length args.room.now) is
    c.requires in
    fits_rest opcode.new.room flag.new.room opcode.result flag.result (number_bytes (flag_bit args.command.flag)) rest (flag.ensures.value, flag.ensures.room_after)
    (fits_rest args.room.now opcode.new.room args.at opcode.result (number_bytes row.result.opcode) (number_bytes (flag_bit args.command.flag) ++ rest)
    (opcode.ensures.value, opcode.ensures.room_after) all)

pub returns-clause-value : goal.returns-clause-value
returns-clause-value c =
    let args = c.args in
    let parts = c.parts_of-parts in
    let row = c.row_of-row in
    let opcode = c.put_number-flag_at in
    let flag = c.put_number-arguments_at in
    let many = c.arguments_of-many in
    let last = c.put_arguments in
    let rest = numbers_bytes (arguments_in many.result parts.result.first parts.result.second) in
    let is = stored_is args.command parts.result row.result (flag_bit args.command.flag) many.result parts.ensures row.ensures refl
    many.ensures in
    let behind = put_both opcode.new.room flag.new.room last.new.room opcode.result flag.result last.result (number_bytes (flag_bit args.command.flag)) rest
    (flag.ensures.value, flag.ensures.room_after) (last.ensures.value, last.ensures.room_after) in
    (put_as _ _ _ _ _ _ is (put_both args.room.now opcode.new.room last.new.room args.at opcode.result last.result
    (number_bytes row.result.opcode)
    (number_bytes (flag_bit args.command.flag) ++ rest) (opcode.ensures.value, opcode.ensures.room_after) behind)).0

pub returns-clause-room_after : goal.returns-clause-room_after
returns-clause-room_after c =
    let args = c.args in
    let parts = c.parts_of-parts in
    let row = c.row_of-row in
    let opcode = c.put_number-flag_at in
    let flag = c.put_number-arguments_at in
    let many = c.arguments_of-many in
    let last = c.put_arguments in
    let rest = numbers_bytes (arguments_in many.result parts.result.first parts.result.second) in
    let is = stored_is args.command parts.result row.result (flag_bit args.command.flag) many.result parts.ensures row.ensures refl
    many.ensures in
    let behind = put_both opcode.new.room flag.new.room last.new.room opcode.result flag.result last.result (number_bytes (flag_bit args.command.flag)) rest
    (flag.ensures.value, flag.ensures.room_after) (last.ensures.value, last.ensures.room_after) in
    (put_as _ _ _ _ _ _ is (put_both args.room.now opcode.new.room last.new.room args.at opcode.result last.result
    (number_bytes row.result.opcode)
    (number_bytes (flag_bit args.command.flag) ++ rest) (opcode.ensures.value, opcode.ensures.room_after) behind)).1
