-- `bench::executed_all` meets its contract: in each turn the camera is the one that the entries so far left, and their codes stand in their places.
use mathlib.Core.Path.{sym, ap, ◌∙◌}
use Rattle.camera.specs.Camera.{executed_of, dark}
use Rattle.bench.proofs.Executing.{kinds_all, turn_dark, turn_lit, all_executed, all_coded}
use Rattle.bench.proofs.executed_all.Goals.{else-is_dark, then-is_dark}
use Rattle.bench.proofs.executed_all.Goals as goal

pub loop-i-preserved : goal.loop-i-preserved
loop-i-preserved c =
    let loop = c.loop-i in
    let more = c.loop-i-test.true in
    let tested = sym (c.is_dark.ensures ∙ ap (dark loop.next.power) c.handed_at-kind.ensures) in
    elim c.if-is_dark.branch [
      | then-is_dark w ↦ rw (w.next-is, w.codes-is) (turn_dark loop.invariant more (tested ∙ w.if-is_dark.true))
      | else-is_dark w ↦ rw (w.next-is, w.codes-is)
          (turn_lit loop.invariant more (tested ∙ w.if-is_dark.false)
          (w.executed-next.ensures ∙ ap (executed_of loop.next) c.handed_at-kind.ensures))
    ]

pub returns : goal.returns
returns c =
    let loop = c.loop-i in
    let group = c.args.group in
    let kinds = kinds_all group c.group_size-size.result loop.invariant.whole c.group_size-size.ensures in
    rw (all_executed loop.invariant c.loop-i-test.false, all_coded loop.invariant c.loop-i-test.false, kinds)
