-- `gather` meets its contract: the starts gathered so far and those that are left are all of them.
use Rattle.walk.specs.Walk.{rests}
use Rattle.index.proofs.Starts.{Gathering}
use Rattle.index.proofs.gather.Given as goal

abbrev pub invariant-loop-rest : goal.invariant-loop-rest
invariant-loop-rest l = Gathering l.list l.from l.initial.buffer l.buffer (rests l.rest-iterator.left.now) l.n
