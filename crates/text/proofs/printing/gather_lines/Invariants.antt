-- `gather_lines` meets its contract: the lines of the commands before those that are left stand in the buffer.
use Rattle.text.proofs.Listing.{Lining}
use Rattle.text.proofs.printing.gather_lines.Given as goal

abbrev pub invariant-loop-rest : goal.invariant-loop-rest
invariant-loop-rest l = Lining l.raw l.initial.buffer l.buffer l.rest-iterator.left.now l.number l.end
