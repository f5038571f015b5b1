-- `climbs` meets its contract: the offsets so far climb, and those that are left decide.
use mathlib.Core.Path.{refl}
use Rattle.index.proofs.Offsets.{too_low, too_high, climbs_on, all_climb}
use Rattle.index.proofs.climbs.Goals.{then-at-least-via-then-at-least, then-at-least-via-else-at-least+then-end-at}
use Rattle.index.proofs.climbs.Goals as goal

pub returns-then-at-least : goal.returns-then-at-least
returns-then-at-least c =
    elim c.then-at-least.branch [
      | then-at-least-via-then-at-least w ↦ too_low _ _ _ _ c.loop-offset.invariant c.loop-offset-test.true _ refl w.if-at-least.true
      | then-at-least-via-else-at-least+then-end-at w ↦ too_high _ _ _ _ c.loop-offset.invariant c.loop-offset-test.true _ refl w.if-at-least.false w.if-end-at.true
    ]

pub loop-offset-preserved : goal.loop-offset-preserved
loop-offset-preserved c = climbs_on _ _ _ _ c.loop-offset.invariant c.loop-offset-test.true _ refl c.if-at-least.false c.if-end-at.false

pub returns : goal.returns
returns c = all_climb _ _ _ _ c.loop-offset.invariant c.loop-offset-test.false
