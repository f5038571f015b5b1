-- `pack` meets its contract: the commands before those that are left stand in the buffer, in stored form.
use mathlib.Core.Path.{ap, ◌∙◌}
use native.Mathlib.Omega.{arith}
use Rattle.card.proofs.Packing.{none_packed, packed_bad, packed_fits, one_packed, all_packed}
use Rattle.card.proofs.storing.pack.Goals as goal

pub loop-rest-init : goal.loop-rest-init
loop-rest-init c =
    none_packed _ _ _ (λ i. omega (arith, c.type_inv.list i)) (ap (λ w. w.left.now) c.into_iter-rest-iterator.ensures.into_iter_gives ∙ ap (λ part. part.now) c.new-rest-items.ensures)
    c.requires.list_len_bound c.requires.value

pub returns-in-Err : goal.returns-in-Err
returns-in-Err c = packed_bad _ _ _ _ _ c.loop-rest.invariant _ _ c.in-Some.ensures.steps _ c.read_command.ensures _ c.in-Err.is

pub put_command-pos-requires : goal.put_command-pos-requires
put_command-pos-requires c = packed_fits _ _ _ _ _ c.loop-rest.invariant _ _ c.in-Some.ensures.steps _ c.read_command.ensures _ c.in-Ok.is

pub loop-rest-preserved : goal.loop-rest-preserved
loop-rest-preserved c =
    one_packed _ _ _ _ _ c.loop-rest.invariant _ _ c.in-Some.ensures.steps _ c.read_command.ensures _ c.in-Ok.is
    _ _ c.put_command-pos.ensures.value c.put_command-pos.ensures.room_after

pub returns : goal.returns
returns c = all_packed _ _ _ _ _ c.loop-rest.invariant c.in-None.ensures.steps.0
