-- `queues_hold` meets its contract: all of the four hold.
use Rattle.std.proofs.Common.{◌∙◌}
use Rattle.seats.proofs.Laws.{four_hold}
use Rattle.seats.proofs.queues_hold.Goals as goal

pub returns : goal.returns
returns c = c.all_hold.ensures ∙ four_hold _ c.told-queues
