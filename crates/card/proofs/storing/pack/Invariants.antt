-- `pack` meets its contract: the commands before those that are left stand in the buffer, in stored form.
use Rattle.card.proofs.Packing.{Packing}
use Rattle.card.proofs.storing.pack.Given as goal

abbrev pub invariant-loop-rest : goal.invariant-loop-rest
invariant-loop-rest l = Packing l.list l.buffer l.rest-iterator.left.now l.pos l.count
