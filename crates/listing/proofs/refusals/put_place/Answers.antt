-- `put_place` meets its contract: each call lays its part down behind those before it (`Laid`).
use Rattle.words.proofs.Stores.{Laid}
use Rattle.listing.specs.Refusal.{word_of}
use Rattle.listing.proofs.RefusalLine.{wrong_fits, wrong_laid}
use Rattle.listing.proofs.refusals.put_place.Goals as goal

pub put_stray-requires : goal.put_stray-requires
put_stray-requires c =
    let word : Laid c.args.line.now.room.now c.args.line.now.at (word_of c.args.numbered) c.put_word.new.line.room.now c.put_word.new.line.at = record { place = c.put_word.ensures.value; stored = c.put_word.ensures.room_after } in
    wrong_fits c.args.numbered c.args.found _ _ c.requires c.if-found-eq0.false _ _ word _ _ (c.number.ensures.place, c.number.ensures.room)
    c.if-found-ne-OUT_OF_RANGE.false

pub returns-clause-value : goal.returns-clause-value
returns-clause-value c =
    let word : Laid c.args.line.now.room.now c.args.line.now.at (word_of c.args.numbered) c.put_word.new.line.room.now c.put_word.new.line.at = record { place = c.put_word.ensures.value; stored = c.put_word.ensures.room_after } in
    let laid = wrong_laid c.args.numbered c.args.found _ _ c.requires c.if-found-eq0.false _ _ word _ _ (c.number.ensures.place, c.number.ensures.room)
    c.if-found-ne-OUT_OF_RANGE.false _ _ (c.put_stray.ensures.value, c.put_stray.ensures.room_after) in
    laid.place

pub returns-clause-room_after : goal.returns-clause-room_after
returns-clause-room_after c =
    let word : Laid c.args.line.now.room.now c.args.line.now.at (word_of c.args.numbered) c.put_word.new.line.room.now c.put_word.new.line.at = record { place = c.put_word.ensures.value; stored = c.put_word.ensures.room_after } in
    let laid = wrong_laid c.args.numbered c.args.found _ _ c.requires c.if-found-eq0.false _ _ word _ _ (c.number.ensures.place, c.number.ensures.room)
    c.if-found-ne-OUT_OF_RANGE.false _ _ (c.put_stray.ensures.value, c.put_stray.ensures.room_after) in
    laid.stored
