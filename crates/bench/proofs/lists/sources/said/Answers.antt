-- `said` meets its contract: the command of a good line that carries one.
use mathlib.Core.Path.{ap, ◌∙◌}
use Rattle.wire.specs.Read.{Answer}
use Rattle.bench.proofs.Sources.{some_said}
use Rattle.bench.proofs.lists.sources.said.Goals as goal

pub returns-in-Ok : goal.returns-in-Ok
returns-in-Ok c = some_said c.in-Ok.said ∙ ap (λ (a : Answer). a.taken) (rw c.in-Ok.is at c.line_of.ensures)

pub returns-in-Err : goal.returns-in-Err
returns-in-Err c = ap (λ (a : Answer). a.taken) (rw c.in-Err.is at c.line_of.ensures)
