-- `put_line` meets its contract: each call lays its part down behind those before it (`Laid`), and all of them are the line.
use mathlib.Core.Path.{◌∙◌}
use native.Mathlib.Omega.{arith}
use borrow.Author.Rules.{rules}
use Rattle.words.specs.Text.{ascii, decimal}
use Rattle.words.proofs.Stores.{laid_first, laid_next}
use Rattle.rescue_list.proofs.Lines.{parts}
use Rattle.rescue_list.proofs.put_line.Goals as goal

pub returns-clause-room_after : goal.returns-clause-room_after
returns-clause-room_after c =
    let label_put = c.text.ensures in
    let start_put = c.number.ensures in
    let blank_put = c.text-2.ensures in
    let size_put = c.number-2.ensures in
    let end_put = c.text-3.ensures in
    let from = c.args.start in
    let size = c.args.size in
    let long = parts from size in
    let one = laid_first (ascii "skipped ") c.args.at c.args.room.now _ _ (omega (arith, c.requires, long)) label_put.place label_put.room in
    let two = laid_next one (decimal from) _ _ (omega (arith, c.requires, long)) start_put.place start_put.room in
    let three = laid_next two (ascii " ") _ _ (omega (arith, c.requires, long)) blank_put.place blank_put.room in
    let four = laid_next three (decimal size) _ _ (omega (arith, c.requires, long)) size_put.place size_put.room in
    let all = laid_next four (ascii "\n") _ _ (omega (arith, c.requires, long)) end_put.place end_put.room in
    let stored = all.stored in
    let names = end_put.same_room ∙ size_put.same_room ∙ blank_put.same_room ∙ start_put.same_room ∙ label_put.same_room in
    search rules
