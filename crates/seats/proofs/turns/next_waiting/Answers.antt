-- `next_waiting` meets its contract: the first seat that waits is the next, and where none does there is none.
use Rattle.std.proofs.Common.{arith, lt-ltb}
use Rattle.seats.proofs.States.{next_found, next_none}
use Rattle.seats.proofs.turns.next_waiting.Goals as goal

pub returns-then-queues-seat-gt0 : goal.returns-then-queues-seat-gt0
returns-then-queues-seat-gt0 c =
    record {
      seat_value = next_found _ _ c.requires _ c.loop-step-test.true c.loop-step.invariant (lt-ltb 0 _ c.if-queues-seat-gt0.true);
      one_of_four = omega arith;
    }

pub returns : goal.returns
returns c = record { seat_value = next_none _ _ c.requires _ c.loop-step-test.false c.loop-step.invariant; one_of_four = tt }
