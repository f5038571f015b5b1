-- `run_of` meets its contract.
use native.Mathlib.Omega.{arith}
use Rattle.text.proofs.Marks.{run_ends, run_goes, run_all}
use Rattle.text.proofs.split.run_of.Goals as goal

pub returns-then-b-mark : goal.returns-then-b-mark
returns-then-b-mark c = run_ends _ _ _ c.loop-i.invariant (omega arith) c.if-b-mark.true

pub loop-i-preserved : goal.loop-i-preserved
loop-i-preserved c = run_goes _ _ _ c.loop-i.invariant (omega arith) c.if-b-mark.false

pub returns : goal.returns
returns c = omega (arith, run_all _ _ _ c.loop-i.invariant (omega arith), c.loop-i.invariant.within)
