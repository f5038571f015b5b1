-- `put_printed` meets its contract: what the assembler answers and leaves says what is to be written (`Printed`).
use Prim.Native.Nat.{◌≤◌}
use mathlib.Core.Path.{ap, ◌∙◌}
use native.Mathlib.Omega.{arith}
use lib.ListN.{length}
use Rattle.text.specs.Assemble.{text_findings, bytes_in}
use Rattle.listing.specs.declared.refusals.Numbered.{Numbered}
use Rattle.listing.specs.Refusal.{refusal_room}
use Rattle.listing.proofs.Outputs.{outcome_made, output, room_left}
use Rattle.assemble.specs.Printed.{printed}
use Rattle.assemble.proofs.Printed.{fits, answered, stays}
use Rattle.assemble.proofs.put_printed.Goals as goal

pub returns-clause-refused_value : goal.returns-clause-refused_value
unfolding printed
returns-clause-refused_value c =
    let put = c.put_outcome in
    let typed = c.args.typed.now in
    let room = c.args.room.now in
    let fit = fits typed room c.requires in
    let is_made = outcome_made _ _ _ c.finding_of.ensures c.unwrap_or.ensures in
    let answer = is_made ∙ c.assemble-made.ensures.result_value ∙ answered typed room in
    let lies = c.assemble-made.ensures.room_after ∙ stays typed room in
    let short = put.ensures.found_len_bound in
    let enough : refusal_room ≤ length room = omega (arith, c.requires) in
    let told = put.ensures.value ∙ output Numbered.Lines (text_findings typed) (bytes_in typed) room fit _ _ answer lies short enough in
    ap (λ o. o.refused) told

pub returns-clause-bytes_value : goal.returns-clause-bytes_value
unfolding printed
returns-clause-bytes_value c =
    let put = c.put_outcome in
    let typed = c.args.typed.now in
    let room = c.args.room.now in
    let fit = fits typed room c.requires in
    let is_made = outcome_made _ _ _ c.finding_of.ensures c.unwrap_or.ensures in
    let answer = is_made ∙ c.assemble-made.ensures.result_value ∙ answered typed room in
    let lies = c.assemble-made.ensures.room_after ∙ stays typed room in
    let short = put.ensures.found_len_bound in
    let enough : refusal_room ≤ length room = omega (arith, c.requires) in
    let told = put.ensures.value ∙ output Numbered.Lines (text_findings typed) (bytes_in typed) room fit _ _ answer lies short enough in
    ap (λ o. o.bytes) told

pub returns-clause-room_after : goal.returns-clause-room_after
unfolding printed
returns-clause-room_after c =
    let put = c.put_outcome in
    let typed = c.args.typed.now in
    let room = c.args.room.now in
    let fit = fits typed room c.requires in
    let is_made = outcome_made _ _ _ c.finding_of.ensures c.unwrap_or.ensures in
    let answer = is_made ∙ c.assemble-made.ensures.result_value ∙ answered typed room in
    let lies = c.assemble-made.ensures.room_after ∙ stays typed room in
    let short = put.ensures.found_len_bound in
    let enough : refusal_room ≤ length room = omega (arith, c.requires) in
    let left = put.ensures.room_after ∙ room_left Numbered.Lines (text_findings typed) (bytes_in typed) room fit _ _ answer lies short enough in
    left
