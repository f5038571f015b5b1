-- `next_waiting` meets its contract: none of the seats before this step waits.
use Rattle.seats.proofs.States.{NoneTo}
use Rattle.seats.proofs.turns.next_waiting.Given as goal

abbrev pub invariant-loop-step : goal.invariant-loop-step
invariant-loop-step l = NoneTo l.queues l.last l.step
