-- `line_shown` meets its contract. The invariant: so many lines were passed, and the next begins here.
-- the measure is the number of bytes left, whatever the number is.
use Prim.Native.Nat.{◌+◌, ◌-◌, ◌≤◌}
use mathlib.Core.Path.{◌≡◌, refl, ap, ◌∙◌}
use native.Mathlib.Omega.{arith}
use lib.ListN.{length, take, drop}
use Rattle.text.proofs.ShownLine.{reached_none, none_long, none_zero, none_left, run_fits, found, goes_on}
use Rattle.text.proofs.showing.line_shown.Goals.{then-text-gt-LONGEST-via-then-text-gt-LONGEST, then-text-gt-LONGEST-via-else-text-gt-LONGEST+then-number-eq0}
use Rattle.text.proofs.showing.line_shown.Goals as goal

pub returns-then-text-gt-LONGEST-clause-result_value : goal.returns-then-text-gt-LONGEST-clause-result_value
returns-then-text-gt-LONGEST-clause-result_value c =
    let start = c.args in
    elim c.then-text-gt-LONGEST.branch [
      | then-text-gt-LONGEST-via-then-text-gt-LONGEST w ↦ (none_long start.text.now start.number w.if-text-gt-LONGEST.true).0
      | then-text-gt-LONGEST-via-else-text-gt-LONGEST+then-number-eq0 w ↦ (none_zero start.text.now start.number w.if-number-eq0.true).0
    ]

pub returns-then-text-gt-LONGEST-clause-placed : goal.returns-then-text-gt-LONGEST-clause-placed
returns-then-text-gt-LONGEST-clause-placed c =
    let start = c.args in
    elim c.then-text-gt-LONGEST.branch [
      | then-text-gt-LONGEST-via-then-text-gt-LONGEST w ↦
          record { block = refl; start = omega (arith, (none_long start.text.now start.number w.if-text-gt-LONGEST.true).1) }
      | then-text-gt-LONGEST-via-else-text-gt-LONGEST+then-number-eq0 w ↦
          record { block = refl; start = omega (arith, (none_zero start.text.now start.number w.if-number-eq0.true).1) }
    ]

pub loop-at-init : goal.loop-at-init
loop-at-init c = reached_none _ _ (omega arith)

pub overflow_add-end : goal.overflow_add-end
overflow_add-end c =
    let fits : (c.loop-at.at + c.run_of.result ≤ length c.args.text.now) = run_fits _ _ _ _ c.loop-at.invariant c.if-text-gt-LONGEST.false c.loop-at-test.true _ c.run_of.ensures in
    omega (arith, fits)

pub slice_bounds-result-end-then-passed-number : goal.slice_bounds-result-end-then-passed-number
slice_bounds-result-end-then-passed-number c =
    let fits : (c.loop-at.at + c.run_of.result ≤ length c.args.text.now) = run_fits _ _ _ _ c.loop-at.invariant c.if-text-gt-LONGEST.false c.loop-at-test.true _ c.run_of.ensures in
    omega (arith, fits)

pub returns-then-passed-number-clause-result_value : goal.returns-then-passed-number-clause-result_value
returns-then-passed-number-clause-result_value c =
    let start = c.args in
    let text = start.text.now in
    let at = c.loop-at.at in
    let run = c.run_of in
    let size : at + run.result - at ≡ run.result = omega arith in
    let line =
    found text start.number at _ c.loop-at.invariant c.if-text-gt-LONGEST.false c.loop-at-test.true run.result run.ensures
    c.if-passed-number.true in
    ap (λ n. take n (drop at text)) size ∙ line.0

pub returns-then-passed-number-clause-placed : goal.returns-then-passed-number-clause-placed
returns-then-passed-number-clause-placed c =
    let start = c.args in
    let text = start.text.now in
    let at = c.loop-at.at in
    let run = c.run_of in
    let size : at + run.result - at ≡ run.result = omega arith in
    let line =
    found text start.number at _ c.loop-at.invariant c.if-text-gt-LONGEST.false c.loop-at-test.true run.result run.ensures
    c.if-passed-number.true in
    record { block = refl; start = omega (arith, line.1) }

pub overflow_add-at : goal.overflow_add-at
overflow_add-at c =
    let fits : (c.loop-at.at + c.run_of.result ≤ length c.args.text.now) = run_fits _ _ _ _ c.loop-at.invariant c.if-text-gt-LONGEST.false c.loop-at-test.true _ c.run_of.ensures in
    omega (arith, fits)

pub loop-at-preserved : goal.loop-at-preserved
loop-at-preserved c = goes_on _ _ _ _ c.loop-at.invariant c.if-text-gt-LONGEST.false c.loop-at-test.true _ c.run_of.ensures c.if-passed-number.false

pub returns-clause-result_value : goal.returns-clause-result_value
returns-clause-result_value c =
    let start = c.args in
    let none = none_left start.text.now start.number _ _ c.loop-at.invariant c.if-text-gt-LONGEST.false c.loop-at-test.false in
    none.0

pub returns-clause-placed : goal.returns-clause-placed
returns-clause-placed c =
    let start = c.args in
    let none = none_left start.text.now start.number _ _ c.loop-at.invariant c.if-text-gt-LONGEST.false c.loop-at-test.false in
    record { block = refl; start = omega (arith, none.1) }
