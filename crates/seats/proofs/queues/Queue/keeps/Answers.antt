-- `Queue::keeps` meets its contract: how many wait, then whether each passes.
use Rattle.std.proofs.Common.{◌∙◌}
use borrow.Author.Tests.{lt-leb}
use Rattle.seats.proofs.Laws.{all_listed, holds_long, holds_short}
use Rattle.seats.proofs.queues.Queue.keeps.Goals as goal

pub returns-then-self-le-LONGEST : goal.returns-then-self-le-LONGEST
returns-then-self-le-LONGEST c = holds_short c.args.self.now _ c.if-self-le-LONGEST.true (c.all_pass.ensures ∙ all_listed _)

pub returns-else-self-le-LONGEST : goal.returns-else-self-le-LONGEST
returns-else-self-le-LONGEST c = lt-leb _ _ c.if-self-le-LONGEST.false ∙ holds_long c.args.self.now c.if-self-le-LONGEST.false
