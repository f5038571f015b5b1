-- `gather` meets its contract (`Turns`). The measure is how many pieces are left: each turn reads once at most, and comes past one of them.
use Prim.Native.Nat.{◌+◌, ◌≤◌}
use native.Mathlib.Omega.{arith}
use lib.ListN.{length}
use borrow.Author.Tests.{not-true, not-false}
use Rattle.rescue.proofs.Turns.{fewer_behind_byte, skip_turn, reach, fewer_behind, keep_turn, gathered}
use mathlib.Core.Path.{ap}
use mathlib.Core.Bool.{not}
use Rattle.rescue.proofs.gather.Goals as goal

pub loop-at-smaller-then-not-passes : goal.loop-at-smaller-then-not-passes
loop-at-smaller-then-not-passes c = fewer_behind_byte _ _ _ _ _ _ _ _ _ c.loop-at.invariant _ c.loop-at-test.true c.passes.ensures (not-true _ (ap not c.if-not-passes.true))

pub loop-at-preserved-then-not-passes : goal.loop-at-preserved-then-not-passes
loop-at-preserved-then-not-passes c = skip_turn _ _ _ _ _ _ _ _ _ c.loop-at.invariant _ c.loop-at-test.true c.passes.ensures (not-true _ (ap not c.if-not-passes.true))

pub overflow_add-end : goal.overflow_add-end
overflow_add-end c =
    let reaches : (c.loop-at.at + 8 ≤ c.loop-at.at + c.span.result) × (c.loop-at.at + c.span.result ≤ length c.args.list.now) = reach _ _ _ _ _ _ _ _ _ c.loop-at.invariant _ c.loop-at-test.true c.passes.ensures
    (not-false _ (ap not c.if-not-passes.false)) _ c.span.ensures in
    omega (arith, reaches)

pub slice_bounds-put_at-end : goal.slice_bounds-put_at-end
slice_bounds-put_at-end c =
    let reaches : (c.loop-at.at + 8 ≤ c.loop-at.at + c.span.result) × (c.loop-at.at + c.span.result ≤ length c.args.list.now) = reach _ _ _ _ _ _ _ _ _ c.loop-at.invariant _ c.loop-at-test.true c.passes.ensures
    (not-false _ (ap not c.if-not-passes.false)) _ c.span.ensures in
    omega (arith, reaches)

pub loop-at-smaller : goal.loop-at-smaller
loop-at-smaller c =
    fewer_behind _ _ _ _ _ _ _ _ _ c.loop-at.invariant _ c.loop-at-test.true c.passes.ensures
    (not-false _ (ap not c.if-not-passes.false)) _ c.span.ensures

pub loop-at-preserved : goal.loop-at-preserved
loop-at-preserved c =
    let stretch = c.put_stretch-m.ensures in
    let put = c.put_at-n.ensures in
    keep_turn _ _ _ _ _ _ _ _ _ c.loop-at.invariant _ c.loop-at-test.true c.passes.ensures
    (not-false _ (ap not c.if-not-passes.false)) _ c.span.ensures _ _ _ _ stretch.value stretch.table_after put.value put.room_after

pub returns : goal.returns
returns c =
    let stretch = c.put_stretch-m-2.ensures in
    gathered _ _ _ _ _ _ _ _ _ c.loop-at.invariant _ _ c.loop-at-test.false stretch.value stretch.table_after
