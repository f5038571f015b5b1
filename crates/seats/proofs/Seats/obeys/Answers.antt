-- `Seats::obeys` meets its contract: the last seat, then the queues.
use Rattle.std.proofs.Common.{◌∙◌, le-ltb}
use Rattle.seats.proofs.States.{bad_last, by_queues}
use Rattle.seats.proofs.Seats.obeys.Goals as goal

pub returns-then-self-lt-SEATS : goal.returns-then-self-lt-SEATS
returns-then-self-lt-SEATS c = by_queues _ _ c.if-self-lt-SEATS.true c.queues_hold.ensures

pub returns-else-self-lt-SEATS : goal.returns-else-self-lt-SEATS
returns-else-self-lt-SEATS c = le-ltb c.args.self.now.last 4 c.if-self-lt-SEATS.false ∙ bad_last c.args.self.now c.if-self-lt-SEATS.false
