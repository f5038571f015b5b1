-- `put_list` meets its contract: the first two numbers and the commands, one behind the other.
use mathlib.Core.List.{◌++◌}
use native.Mathlib.Omega.{arith}
use Rattle.card.specs.Number.{number_bytes}
use Rattle.card.proofs.Stores.{put_both, fits_rest, put_fits}
use Rattle.card.proofs.storing.put_list.Goals as goal

pub returns : goal.returns
returns c =
    let args = c.args in
    let one = c.put_number-count_at in
    let two = c.put_number-commands_at in
    let count = number_bytes args.count in
    let fits = fits_rest one.new.room two.new.room one.result two.result count args.commands.now (two.ensures.value, two.ensures.room_after)
    (fits_rest args.room.now one.new.room 0 one.result (number_bytes 1) (count ++ args.commands.now) (one.ensures.value, one.ensures.room_after)
    (omega (arith, c.requires))) in
    let last = put_fits two.new.room _ two.result args.commands.now fits c.put_at.ensures.room_after in
    (put_both args.room.now one.new.room _ 0 one.result _ (number_bytes 1) (count ++ args.commands.now) (one.ensures.value, one.ensures.room_after)
    (put_both one.new.room two.new.room _ one.result two.result _ count args.commands.now (two.ensures.value, two.ensures.room_after) last)).1
