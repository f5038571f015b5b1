-- `bench::executed_all` meets its contract: in each turn the camera is the one that the entries so far left, and their codes stand in their places.
use Rattle.bench.proofs.Executing.{Executing}
use Rattle.bench.proofs.executed_all.Given as goal

abbrev pub invariant-loop-i : goal.invariant-loop-i
invariant-loop-i l = Executing l.group.words l.size l.initial.next l.next l.codes l.i
