-- `quarters_of` meets its contract.
use mathlib.Core.Path.{sym, ◌∙◌}
use native.Mathlib.Omega.{arith}
use Rattle.text.proofs.Digits.{quarters_none, quarters_some, fraction_small}
use Rattle.text.proofs.number.quarters_of.Goals as goal
use Rattle.std.specs.Prelude.{Some, None}

pub returns-then-digits-eq0 : goal.returns-then-digits-eq0
returns-then-digits-eq0 c = quarters_none _ _ c.digits_of-digits.ensures c.if-digits-eq0.true

pub overflow_add-result : goal.overflow_add-result
overflow_add-result c =
    omega (
      arith,
      c.digits_of-digits.ensures.small,
      fraction_small _ _ (sym c.fraction_of.ensures ∙ c.in_ok-quarters.was),
    )

pub returns : goal.returns
returns c =
    quarters_some _ _ c.digits_of-digits.ensures (Some c.in_ok-quarters.quarters) c.if-digits-eq0.false c.in_ok-quarters.ensures

pub returns-in_err-quarters : goal.returns-in_err-quarters
returns-in_err-quarters c =
    c.from_residual.ensures
    ∙ quarters_some _ _ c.digits_of-digits.ensures None c.if-digits-eq0.false c.in_err-quarters.ensures
