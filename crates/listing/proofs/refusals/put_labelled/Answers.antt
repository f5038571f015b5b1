-- `put_labelled` meets its contract: the label is laid down, and the number behind it.
use native.Mathlib.Omega.{arith}
use lib.ListN.{length-append}
use Rattle.words.specs.Text.{decimal}
use Rattle.words.proofs.Stores.{laid_first, laid_next}
use Rattle.listing.proofs.refusals.put_labelled.Goals as goal

pub returns-clause-value : goal.returns-clause-value
returns-clause-value c =
    let s = c.args in
    let long = length-append s.label.now (decimal s.value) in
    let label = laid_first s.label.now s.line.now.at s.line.now.room.now _ _ (omega (arith, c.requires, long)) c.text.ensures.place c.text.ensures.room in
    let all = laid_next label (decimal s.value) _ _ (omega (arith, c.requires, long)) c.number.ensures.place c.number.ensures.room in
    all.place

pub returns-clause-room_after : goal.returns-clause-room_after
returns-clause-room_after c =
    let s = c.args in
    let long = length-append s.label.now (decimal s.value) in
    let label = laid_first s.label.now s.line.now.at s.line.now.room.now _ _ (omega (arith, c.requires, long)) c.text.ensures.place c.text.ensures.room in
    let all = laid_next label (decimal s.value) _ _ (omega (arith, c.requires, long)) c.number.ensures.place c.number.ensures.room in
    all.stored
