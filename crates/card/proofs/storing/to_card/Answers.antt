-- `to_card` meets its contract: what `pack` found, and then 24.
use native.Mathlib.Omega.{arith}
use Rattle.card.specs.List.{raw_says}
use Rattle.card.specs.Steps.{Packs}
use Rattle.card.proofs.Groups.{number_most}
use Rattle.card.proofs.Packing.{list_no_room, list_stored}
use Rattle.card.proofs.storing.to_card.Goals as goal

pub overflow_add-bytes : goal.overflow_add-bytes
overflow_add-bytes c = omega (arith, c.number_length.ensures, c.number_length-2.ensures, number_most 1, number_most c.in_ok-count.count)

pub overflow_add-bytes-2 : goal.overflow_add-bytes-2
overflow_add-bytes-2 c =
    let packs : Packs (raw_says c.args.list.now) c.in_ok-count.count c.in_ok-count.pos c.pack.new.buffer = c.in_ok-count.ensures in
    omega (arith, c.number_length.ensures, c.number_length-2.ensures, number_most 1, number_most c.in_ok-count.count, packs)

pub returns-then-room-bytes : goal.returns-then-room-bytes
returns-then-room-bytes c =
    let answered = list_no_room _ _ c.if-list-gt-LONGEST.false _ _ _ c.in_ok-count.ensures _ _ c.number_length.ensures c.number_length-2.ensures
    c.if-room-bytes.true in
    record { result_value = rw c.into-then-room-bytes.ensures answered.0; room_after = answered.1 }

pub returns : goal.returns
returns c =
    let answered = list_stored _ _ c.if-list-gt-LONGEST.false _ _ _ c.in_ok-count.ensures _ _ c.number_length.ensures c.number_length-2.ensures
    c.if-room-bytes.false _ c.put_list.ensures in
    record { result_value = answered.0; room_after = answered.1 }
