-- `longer` meets its contract: all bytes that were passed have the high bit. The loop has one turn for each byte that it looks at.
use native.Mathlib.Omega.{arith}
use Rattle.card.proofs.Numbers.{one_passed, long_ends}
use Rattle.card.proofs.number.longer.Goals as goal

pub returns-then-group-lt-MORE : goal.returns-then-group-lt-MORE
returns-then-group-lt-MORE c = long_ends _ _ _ c.loop-i.invariant c.loop-i-test.true (omega arith)

pub loop-i-preserved : goal.loop-i-preserved
loop-i-preserved c = one_passed _ _ _ c.loop-i.invariant c.loop-i-test.true (omega arith)
