-- `run_of` meets its contract.
use Rattle.text.proofs.Marks.{Run}
use Rattle.text.proofs.split.run_of.Given as goal

abbrev pub invariant-loop-i : goal.invariant-loop-i
invariant-loop-i l = Run l.mark l.s l.i
