-- `number_at` meets its contract: the groups so far are summed. The loop has one turn for each byte that it looks at.
use Rattle.card.proofs.Numbers.{Summing}
use Rattle.card.proofs.number.number_at.Given as goal

abbrev pub invariant-loop-i : goal.invariant-loop-i
invariant-loop-i l = Summing l.s l.at l.value l.scale l.i
