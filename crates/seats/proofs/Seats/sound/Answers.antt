-- `Seats::sound` meets its contract: the seats' own rules, then the bench.
use Rattle.std.proofs.Common.{sym, ◌∙◌}
use Rattle.seats.proofs.States.{bad_rules, by_bench}
use Rattle.seats.proofs.Seats.sound.Goals as goal

pub returns-then-obeys : goal.returns-then-obeys
returns-then-obeys c = c.is_sound.ensures ∙ sym (by_bench c.args.self.now (sym c.obeys.ensures ∙ c.if-obeys.true))

pub returns-else-obeys : goal.returns-else-obeys
returns-else-obeys c = c.if-obeys.false ∙ sym (bad_rules c.args.self.now (sym c.obeys.ensures ∙ c.if-obeys.false))
