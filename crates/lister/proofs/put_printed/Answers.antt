-- `put_printed` meets its contract: what the lister answers and leaves says what is to be written (`Printed`).
use Prim.Native.Nat.{◌≤◌}
use mathlib.Core.Path.{ap, ◌∙◌}
use native.Mathlib.Omega.{arith}
use lib.ListN.{length}
use Rattle.text.specs.Lister.{text_of, raw_findings}
use Rattle.listing.specs.declared.refusals.Numbered.{Numbered}
use Rattle.listing.specs.Refusal.{refusal_room}
use Rattle.listing.proofs.Outputs.{outcome_made, output, room_left}
use Rattle.lister.specs.Printed.{printed}
use Rattle.lister.proofs.Printed.{fits, answered, stays}
use Rattle.lister.proofs.put_printed.Goals as goal

pub returns-clause-refused_value : goal.returns-clause-refused_value
unfolding printed
returns-clause-refused_value c =
    let put = c.put_outcome in
    let raw = c.args.raw.now in
    let room = c.args.room.now in
    let fit = fits raw room (λ i. omega (arith, c.type_inv.raw i)) c.requires in
    let is_made = outcome_made _ _ _ c.finding_of.ensures c.unwrap_or.ensures in
    let answer = is_made ∙ c.list_text-made.ensures.result_value ∙ answered raw room in
    let lies = c.list_text-made.ensures.room_after ∙ stays raw room in
    let short = put.ensures.found_len_bound in
    let enough : refusal_room ≤ length room = omega (arith, c.requires) in
    let told = put.ensures.value ∙ output Numbered.Commands (raw_findings raw) (text_of raw) room fit _ _ answer lies short enough in
    ap (λ o. o.refused) told

pub returns-clause-bytes_value : goal.returns-clause-bytes_value
unfolding printed
returns-clause-bytes_value c =
    let put = c.put_outcome in
    let raw = c.args.raw.now in
    let room = c.args.room.now in
    let fit = fits raw room (λ i. omega (arith, c.type_inv.raw i)) c.requires in
    let is_made = outcome_made _ _ _ c.finding_of.ensures c.unwrap_or.ensures in
    let answer = is_made ∙ c.list_text-made.ensures.result_value ∙ answered raw room in
    let lies = c.list_text-made.ensures.room_after ∙ stays raw room in
    let short = put.ensures.found_len_bound in
    let enough : refusal_room ≤ length room = omega (arith, c.requires) in
    let told = put.ensures.value ∙ output Numbered.Commands (raw_findings raw) (text_of raw) room fit _ _ answer lies short enough in
    ap (λ o. o.bytes) told

pub returns-clause-room_after : goal.returns-clause-room_after
unfolding printed
returns-clause-room_after c =
    let put = c.put_outcome in
    let raw = c.args.raw.now in
    let room = c.args.room.now in
    let fit = fits raw room (λ i. omega (arith, c.type_inv.raw i)) c.requires in
    let is_made = outcome_made _ _ _ c.finding_of.ensures c.unwrap_or.ensures in
    let answer = is_made ∙ c.list_text-made.ensures.result_value ∙ answered raw room in
    let lies = c.list_text-made.ensures.room_after ∙ stays raw room in
    let short = put.ensures.found_len_bound in
    let enough : refusal_room ≤ length room = omega (arith, c.requires) in
    let left = put.ensures.room_after ∙ room_left Numbered.Commands (raw_findings raw) (text_of raw) room fit _ _ answer lies short enough in
    left
