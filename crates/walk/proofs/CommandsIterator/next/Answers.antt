-- `next` passes one command: the rests are the list itself and those behind its first command.
use mathlib.Core.Path.{ap}
use borrow.Author.Rules.{rules}
use lib.ListN.{length}
use Rattle.walk.proofs.Turns.{ended, some_left, span_at, passed}
use Rattle.walk.proofs.CommandsIterator.next.Goals as goal

pub returns-then-is_empty-clause-steps : goal.returns-then-is_empty-clause-steps
returns-then-is_empty-clause-steps c = let e = ended c.args.self.now.left.now c.is_empty.result c.is_empty.ensures c.if-is_empty.true in (e, e)

pub slice_bounds-self-count : goal.slice_bounds-self-count
slice_bounds-self-count c = (span_at c.args.self.now.left.now c.span.result c.span.ensures)

pub slice_bounds-self-start : goal.slice_bounds-self-start
slice_bounds-self-start c = (span_at c.args.self.now.left.now c.span.result c.span.ensures)

pub returns-clause-steps : goal.returns-clause-steps
returns-clause-steps c =
    let more = some_left c.args.self.now.left.now c.is_empty.result c.is_empty.ensures c.if-is_empty.false in
    passed c.args.self.now.left.now c.span.result c.span.ensures more

pub returns-clause-goes : goal.returns-clause-goes
returns-clause-goes c =
    let more = some_left c.args.self.now.left.now c.is_empty.result c.is_empty.ensures c.if-is_empty.false in
    let shorter = ap length (passed c.args.self.now.left.now c.span.result c.span.ensures more) in
    search rules
