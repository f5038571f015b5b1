-- `gather` meets its contract: the commands that were read stand in the buffer. The measure is how many bytes are left, which each turn lessens: however many
-- commands are asked for, no more turns are made than there are bytes, and one.
use Rattle.card.proofs.Gathering.{Gathering}
use Rattle.card.proofs.restoring.gather.Given as goal

abbrev pub invariant-loop-i : goal.invariant-loop-i
invariant-loop-i l = Gathering l.s l.count l.start l.buffer l.at l.pos l.i
