-- `next` passes one line: the lines are the one up to the first line feed and those behind it.
use mathlib.Core.Path.{ap}
use borrow.Author.Rules.{rules}
use lib.ListN.{length}
use Rattle.walk.proofs.Turns.{some_left}
use Rattle.text.proofs.Splitting.{no_line, line_passed}
use Rattle.text.proofs.split.LinesIterator.next.Goals as goal

pub returns-then-is_empty-clause-steps : goal.returns-then-is_empty-clause-steps
returns-then-is_empty-clause-steps c = let e = no_line c.args.self.now.left.now c.is_empty.result c.is_empty.ensures c.if-is_empty.true in (e, e)

pub returns-clause-steps : goal.returns-clause-steps
returns-clause-steps c =
    let more = some_left c.args.self.now.left.now c.is_empty.result c.is_empty.ensures c.if-is_empty.false in
    line_passed c.args.self.now.left.now _ _ more c.front-line.ensures c.behind-self.ensures

pub returns-clause-goes : goal.returns-clause-goes
returns-clause-goes c =
    let more = some_left c.args.self.now.left.now c.is_empty.result c.is_empty.ensures c.if-is_empty.false in
    let shorter = ap length (line_passed c.args.self.now.left.now _ _ more c.front-line.ensures c.behind-self.ensures) in
    search rules
