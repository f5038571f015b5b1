-- `put_field` meets its contract: the number is laid down, and the last byte behind it.
use native.Mathlib.Omega.{arith}
use mathlib.Core.List.{[], ◌∷◌}
use Rattle.words.specs.Text.{decimal}
use Rattle.words.proofs.Stores.{laid_first, laid_next}
use Rattle.listing.proofs.Decimal.{length-ended}
use Rattle.listing.proofs.put_field.Goals as goal

pub returns-clause-value : goal.returns-clause-value
returns-clause-value c =
    let s = c.args in
    let long = length-ended s.value s.last in
    let number = laid_first (decimal s.value) s.line.now.at s.line.now.room.now _ _ (omega (arith, c.requires, long)) c.number.ensures.place c.number.ensures.room in
    let all = laid_next number (s.last ∷ []) _ _ (omega (arith, c.requires, long)) c.text.ensures.place c.text.ensures.room in
    all.place

pub returns-clause-room_after : goal.returns-clause-room_after
returns-clause-room_after c =
    let s = c.args in
    let long = length-ended s.value s.last in
    let number = laid_first (decimal s.value) s.line.now.at s.line.now.room.now _ _ (omega (arith, c.requires, long)) c.number.ensures.place c.number.ensures.room in
    let all = laid_next number (s.last ∷ []) _ _ (omega (arith, c.requires, long)) c.text.ensures.place c.text.ensures.room in
    all.stored
