-- `gather` meets its contract: the commands that were read stand in the buffer.
use native.Mathlib.Omega.{arith}
use Rattle.card.proofs.Gathering.{none_gathered, gathered_bad, gathered_command, one_gathered, all_gathered}
use Rattle.card.proofs.restoring.gather.Goals as goal

pub loop-i-init : goal.loop-i-init
loop-i-init c = none_gathered _ _ _ _ c.requires

pub returns-in-Bad : goal.returns-in-Bad
returns-in-Bad c = gathered_bad _ _ _ _ _ _ _ c.loop-i.invariant c.loop-i-test.true _ c.command_at.ensures _ c.in-Bad.is

pub put_behind-pos-requires-clause-command_value : goal.put_behind-pos-requires-clause-command_value
put_behind-pos-requires-clause-command_value c =
    (gathered_command _ _ _ _ _ _ _ c.loop-i.invariant c.loop-i-test.true _ c.command_at.ensures (λ i. omega (arith, c.type_inv.s i)) _ _ c.in-Taken.is).allowed

pub loop-i-preserved : goal.loop-i-preserved
loop-i-preserved c =
    one_gathered _ _ _ _ _ _ _ c.loop-i.invariant c.loop-i-test.true _ c.command_at.ensures (λ i. omega (arith, c.type_inv.s i)) _ _ c.in-Taken.is
    _ _ c.put_behind-pos.ensures.value_2 c.put_behind-pos.ensures.buffer_after

pub returns : goal.returns
returns c = all_gathered _ _ _ _ _ _ _ c.loop-i.invariant c.loop-i-test.false
