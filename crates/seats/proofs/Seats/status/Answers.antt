-- `Seats::status` meets its contract: the seats' own rules, then as the bench has it.
use Rattle.std.proofs.Common.{ap, ◌∙◌}
use Rattle.bench.proofs.Exports.{fails, holds}
use Rattle.seats.proofs.States.{bad_rules, status_unsound, status_by}
use mathlib.Core.Bool.{not}
use Rattle.seats.proofs.Seats.status.Goals as goal

pub returns-then-not-obeys : goal.returns-then-not-obeys
returns-then-not-obeys c = status_unsound _ (bad_rules _ (fails c.obeys.ensures (ap not c.if-not-obeys.true)))

pub returns : goal.returns
returns c = c.status.ensures ∙ status_by c.args.self (holds c.obeys.ensures (ap not c.if-not-obeys.false))
