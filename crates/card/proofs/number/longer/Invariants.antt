-- `longer` meets its contract: all bytes that were passed have the high bit. The loop has one turn for each byte that it looks at.
use Rattle.card.proofs.Numbers.{Passing}
use Rattle.card.proofs.number.longer.Given as goal

abbrev pub invariant-loop-i : goal.invariant-loop-i
invariant-loop-i l = Passing l.s l.at l.i
