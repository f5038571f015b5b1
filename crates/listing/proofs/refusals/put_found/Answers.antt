-- `put_found` meets its contract: each call lays its part down behind those before it, and all of them are the line.
use mathlib.Core.Path.{◌∙◌}
use native.Mathlib.Omega.{arith}
use borrow.Author.Rules.{rules}
use Rattle.listing.proofs.RefusalLine.{code_fits, place_fits, line_laid}
use Rattle.listing.proofs.refusals.put_found.Goals as goal

pub put_labelled-requires : goal.put_labelled-requires
put_labelled-requires c = code_fits c.args.numbered c.args.found _ c.requires

pub put_place-requires : goal.put_place-requires
put_place-requires c =
    let code = c.put_labelled.ensures in
    place_fits c.args.numbered c.args.found _ c.requires (code.value, code.room_after)

pub returns-clause-value : goal.returns-clause-value
returns-clause-value c =
    let code = c.put_labelled.ensures in
    let place = c.put_place.ensures in
    let end = c.text.ensures in
    let all = line_laid c.args.numbered c.args.found _ c.requires (code.value, code.room_after) (place.value, place.room_after) (end.place, end.room) in
    omega (arith, all.place)

pub returns-clause-room_after : goal.returns-clause-room_after
returns-clause-room_after c =
    let code = c.put_labelled.ensures in
    let place = c.put_place.ensures in
    let end = c.text.ensures in
    let all = line_laid c.args.numbered c.args.found _ c.requires (code.value, code.room_after) (place.value, place.room_after) (end.place, end.room) in
    let stored = all.stored in
    let names = end.same_room ∙ place.same_room ∙ code.same_room in
    search rules
