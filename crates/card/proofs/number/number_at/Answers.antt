-- `number_at` meets its contract: the groups so far are summed. The loop has one turn for each byte that it looks at.
use Prim.Native.Nat.{◌-◌, ◌<◌}
use mathlib.Core.Path.{refl, ◌∙◌}
use native.Mathlib.Omega.{arith}
use lib.ListN.{get_or}
use Rattle.card.proofs.Numbers.{none_summed, value_fits, scale_fits, group_fits, last_summed, too_many, one_summed, none_ended}
use Rattle.card.proofs.number.number_at.Goals as goal

pub loop-i-init : goal.loop-i-init
loop-i-init c = none_summed _ _

pub overflow_mul-group : goal.overflow_mul-group
overflow_mul-group c =
    let group = get_or c.args.s.now c.loop-i.i 0 in
    let byte : get_or c.args.s.now c.loop-i.i 0 < 256 = omega (arith, c.type_inv.s c.loop-i.i) in
    omega (arith, group_fits _ _ _ _ _ c.loop-i.invariant group byte)

pub overflow_add-value : goal.overflow_add-value
overflow_add-value c =
    let group = get_or c.args.s.now c.loop-i.i 0 in
    let byte : get_or c.args.s.now c.loop-i.i 0 < 256 = omega (arith, c.type_inv.s c.loop-i.i) in
    omega (arith, value_fits _ _ _ _ _ c.loop-i.invariant, group_fits _ _ _ _ _ c.loop-i.invariant group byte)

pub returns-then-group-lt-MORE : goal.returns-then-group-lt-MORE
returns-then-group-lt-MORE c =
    c.closed.ensures ∙ last_summed _ _ _ _ _ c.loop-i.invariant c.loop-i-test.true _ refl c.if-group-lt-MORE.true

pub returns-then-i-at-ge-MOST_BEFORE : goal.returns-then-i-at-ge-MOST_BEFORE
returns-then-i-at-ge-MOST_BEFORE c =
    c.longer.ensures
    ∙ too_many _ _ _ _ _ c.loop-i.invariant c.loop-i-test.true _ refl c.if-group-lt-MORE.false c.if-i-at-ge-MOST_BEFORE.true

pub overflow_mul-value : goal.overflow_mul-value
overflow_mul-value c =
    let group = get_or c.args.s.now c.loop-i.i 0 in
    let byte : get_or c.args.s.now c.loop-i.i 0 < 256 = omega (arith, c.type_inv.s c.loop-i.i) in
    omega (arith, group_fits _ _ _ _ _ c.loop-i.invariant (group - 128) (omega (arith, byte)))

pub overflow_add-value-in-loop-i : goal.overflow_add-value-in-loop-i
overflow_add-value-in-loop-i c =
    let group = get_or c.args.s.now c.loop-i.i 0 in
    let byte : get_or c.args.s.now c.loop-i.i 0 < 256 = omega (arith, c.type_inv.s c.loop-i.i) in
    omega (arith, value_fits _ _ _ _ _ c.loop-i.invariant, group_fits _ _ _ _ _ c.loop-i.invariant (group - 128) (omega (arith, byte)))

pub overflow_mul-scale : goal.overflow_mul-scale
overflow_mul-scale c = omega (arith, scale_fits _ _ _ _ _ c.loop-i.invariant)

pub loop-i-preserved : goal.loop-i-preserved
loop-i-preserved c =
    let byte : get_or c.args.s.now c.loop-i.i 0 < 256 = omega (arith, c.type_inv.s c.loop-i.i) in
    one_summed _ _ _ _ _ c.loop-i.invariant c.loop-i-test.true _ refl c.if-group-lt-MORE.false byte c.if-i-at-ge-MOST_BEFORE.false

pub returns : goal.returns
returns c = none_ended _ _ _ _ _ c.loop-i.invariant c.loop-i-test.false
