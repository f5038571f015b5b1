-- `gather` meets its contract, by the laws of `Gathers`.
use Prim.Native.Nat.{◌+◌}
use mathlib.Core.Path.{◌≡◌, ap, ◌∙◌}
use native.Mathlib.Omega.{arith}
use Rattle.std.proofs.Common.{rules}
use Rattle.std.specs.Prelude.{Ok, Err}
use Rattle.text.specs.declared.findings.Fault.{Fault}
use Rattle.text.specs.declared.findings.Refusal.{Refusal}
use Rattle.text.proofs.Gathers.{gathered_long, gathering_none, turn_bad, turn_few, turn_gives, ends_long, ends_fine}
use Rattle.text.proofs.assembling.gather.Goals as goal

pub returns-then-text-gt-LONGEST : goal.returns-then-text-gt-LONGEST
returns-then-text-gt-LONGEST c = gathered_long _ _ c.if-text-gt-LONGEST.true

pub loop-line-init : goal.loop-line-init
loop-line-init c =
    gathering_none _ _ _
    (ap (λ w. w.left.now) c.into_iter-line-iterator.ensures.into_iter_gives ∙ ap (λ part. part.now) c.new-line-items.ensures)

pub returns-in_err-bytes : goal.returns-in_err-bytes
returns-in_err-bytes c =
    let is : c.from_residual.result ≡ Err c.in_err-bytes.field-0.0 = search rules in
    let step : (f : Fault) × (c.step_into.result ≡ Err f) × (c.in_err-bytes.field-0.0 ≡ Refusal.BadLine (c.loop-line.number + 1) f) = search rules in
    rw (is, step.2)
    (turn_bad _ _ _ _ _ _ c.loop-line.invariant _ _ c.in-Some.ensures.steps _ c.step_into.ensures.buffer_after
    c.if-text-gt-LONGEST.false step.0 (rw step.1 at c.step_into.ensures.result_value))

pub overflow_add-bytes : goal.overflow_add-bytes
overflow_add-bytes c =
    let given : c.step_into.result ≡ Ok c.in_ok-bytes.field-0 = search rules in
    omega (
      arith,
      turn_few _ _ _ _ _ _ c.loop-line.invariant _ _ c.in-Some.ensures.steps _ c.step_into.ensures.buffer_after
          c.if-text-gt-LONGEST.false _ (rw given at c.step_into.ensures.result_value),
    )

pub loop-line-preserved : goal.loop-line-preserved
loop-line-preserved c =
    let given : c.step_into.result ≡ Ok c.in_ok-bytes.field-0 = search rules in
    turn_gives _ _ _ _ _ _ c.loop-line.invariant _ _ c.in-Some.ensures.steps _ c.step_into.ensures.buffer_after
    _ (rw given at c.step_into.ensures.result_value)

pub returns-then-bytes-gt-LONGEST : goal.returns-then-bytes-gt-LONGEST
returns-then-bytes-gt-LONGEST c = ends_long _ _ _ _ _ _ c.loop-line.invariant c.in-None.ensures.steps.0 c.if-text-gt-LONGEST.false c.if-bytes-gt-LONGEST.true

pub returns : goal.returns
returns c = ends_fine _ _ _ _ _ _ c.loop-line.invariant c.in-None.ensures.steps.0 c.if-text-gt-LONGEST.false c.if-bytes-gt-LONGEST.false
