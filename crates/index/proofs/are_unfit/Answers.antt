-- `are_unfit` meets its contract: at each return the tests passed on the way decide `unfit`.
use mathlib.Core.Path.{sym, ◌∙◌}
use mathlib.Core.Bool.{false≢true}
use borrow.Author.Tests.{lt-ltb, eqb-true, not-false}
use Rattle.index.proofs.Offsets.{by_climb}
use Rattle.index.proofs.are_unfit.Goals.{then-old-gt-MOST, else-old-gt-MOST}
use Rattle.index.proofs.are_unfit.Goals as goal

pub returns-else-first-ne0 : goal.returns-else-first-ne0
returns-else-first-ne0 c =
    elim c.if-old-gt-MOST.branch [
      | then-old-gt-MOST w ↦ absurd (false≢true (sym c.if-first-ne0.false ∙ w.value-is ∙ lt-ltb _ _ w.if-old-gt-MOST.true))
      | else-old-gt-MOST w ↦
          let zero = eqb-true _ _ (not-false _ (sym w.value-is ∙ c.if-first-ne0.false)) in
          by_climb c.args.end c.args.old.now w.if-old-gt-MOST.false zero c.climbs.result c.climbs.ensures
    ]
