-- `digits_of` meets its contract.
use mathlib.Core.Path.{sym, ◌∙◌}
use Rattle.text.proofs.Digits.{got_all, got_five, got_whole, got_other, got_more}
use Rattle.text.proofs.number.digits_of.Goals.{then-count-eq-MOST_DIGITS-via-then-count-eq-MOST_DIGITS, then-count-eq-MOST_DIGITS-via-else-count-eq-MOST_DIGITS+then-not-is_ascii_digit}
use Rattle.text.proofs.number.digits_of.Goals as goal

pub returns-then-count-eq-MOST_DIGITS : goal.returns-then-count-eq-MOST_DIGITS
returns-then-count-eq-MOST_DIGITS c =
    let got = c.loop-count.invariant in
    elim c.then-count-eq-MOST_DIGITS.branch [
      | then-count-eq-MOST_DIGITS-via-then-count-eq-MOST_DIGITS w ↦ got_all _ _ _ got (got_five _ _ _ got w.if-count-eq-MOST_DIGITS.true)
      | then-count-eq-MOST_DIGITS-via-else-count-eq-MOST_DIGITS+then-not-is_ascii_digit w ↦
          got_all _ _ _ got
          (got_other _ _ _ got c.loop-count-test.true w.if-count-eq-MOST_DIGITS.false (sym w.is_ascii_digit.ensures.value ∙ w.if-not-is_ascii_digit.true))
    ]

pub loop-count-preserved : goal.loop-count-preserved
loop-count-preserved c =
    got_more _ _ _ c.loop-count.invariant c.loop-count-test.true c.if-count-eq-MOST_DIGITS.false
    (sym c.is_ascii_digit.ensures.value ∙ c.if-not-is_ascii_digit.false)

pub returns : goal.returns
returns c = got_whole _ _ _ c.loop-count.invariant c.loop-count-test.false
