-- `put_printed` meets its contract: what the call answers and leaves says what is to be written (`Printed`).
use Prim.Native.Nat.{◌≤◌}
use mathlib.Core.Path.{ap, ◌∙◌}
use native.Mathlib.Omega.{arith}
use lib.ListN.{length}
use Rattle.listing.specs.declared.refusals.Numbered.{Numbered}
use Rattle.listing.specs.Refusal.{refusal_room}
use Rattle.listing.proofs.Outputs.{found_output, found_room}
use Rattle.moving.specs.Found.{outcome_of}
use Rattle.to_card.specs.Printed.{found, bytes_in, printed}
use Rattle.to_card.proofs.Printed.{fits, moves}
use Rattle.to_card.proofs.put_printed.Goals as goal

pub returns : goal.returns
unfolding printed
returns c =
    let put = c.put_moved in
    let raw = c.args.raw.now in
    let room = c.args.room.now in
    let fit = fits raw room (λ i. omega (arith, c.type_inv.raw i)) c.requires in
    let moved = moves raw room fit in
    let answer = ap outcome_of c.to_card-moved.ensures.result_value ∙ moved.answered in
    let lies = c.to_card-moved.ensures.room_after ∙ moved.lies in
    let short = put.ensures.moved_len_bound in
    let enough : refusal_room ≤ length room = omega (arith, c.requires) in
    let told = put.ensures.value ∙ found_output Numbered.Commands (found raw) (bytes_in raw) room fit _ _ answer lies short enough in
    let left = put.ensures.room_after ∙ found_room Numbered.Commands (found raw) (bytes_in raw) room fit _ _ answer lies short enough in
    record { refused_value = ap (λ o. o.refused) told; bytes_value = ap (λ o. o.bytes) told; room_after = left }
