-- `fraction_of` meets its contract.
use Rattle.words.specs.Text.{ascii}
use Rattle.text.specs.Number.{fraction_of}
use Rattle.text.specs.Split.{same_text}
use Rattle.text.proofs.Naming.{no_fraction, fraction_as, quarter, half, three_quarters}
use mathlib.Core.Path.{sym, ◌∙◌}
use borrow.Author.Tests.{eq-eqb}
use Rattle.text.proofs.number.fraction_of.Goals as goal

pub returns-then-part-eq0 : goal.returns-then-part-eq0
unfolding fraction_of same_text
returns-then-part-eq0 c = simp (eq-eqb _ 0 c.if-part-eq0.true)

pub returns-then-same : goal.returns-then-same
returns-then-same c = fraction_as _ (ascii ".25") _ (sym c.same.ensures ∙ c.if-same.true) quarter

pub returns-then-same-2 : goal.returns-then-same-2
returns-then-same-2 c = fraction_as _ (ascii ".5") _ (sym c.same-2.ensures ∙ c.if-same-2.true) half

pub returns-then-same-3 : goal.returns-then-same-3
returns-then-same-3 c = fraction_as _ (ascii ".75") _ (sym c.same-3.ensures ∙ c.if-same-3.true) three_quarters

pub returns : goal.returns
returns c =
    sym (no_fraction _ c.if-part-eq0.false
    (sym c.same.ensures ∙ c.if-same.false)
    (sym c.same-2.ensures ∙ c.if-same-2.false)
    (sym c.same-3.ensures ∙ c.if-same-3.false))
