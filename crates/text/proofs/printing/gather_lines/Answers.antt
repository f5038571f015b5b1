-- `gather_lines` meets its contract, by the laws of `Listing`.
use mathlib.Core.Path.{ap, ◌∙◌}
use native.Mathlib.Omega.{arith}
use Rattle.text.proofs.Listing.{lining_none, turn_bad, line_fits, turn_next, lining_ends, lined_long}
use Rattle.text.proofs.printing.gather_lines.Goals as goal

pub returns-then-raw-gt-LONGEST : goal.returns-then-raw-gt-LONGEST
returns-then-raw-gt-LONGEST c = lined_long _ _ c.if-raw-gt-LONGEST.true

pub loop-rest-init : goal.loop-rest-init
loop-rest-init c =
    lining_none _ _ _ (λ i. omega (arith, c.type_inv.raw i))
    (ap (λ w. w.left.now) c.into_iter-rest-iterator.ensures.into_iter_gives ∙ ap (λ part. part.now) c.new-rest-items.ensures)

pub returns-in-Err : goal.returns-in-Err
returns-in-Err c = turn_bad _ _ _ _ _ _ c.loop-rest.invariant c.if-raw-gt-LONGEST.false _ _ c.in-Some.ensures.steps _ (rw c.in-Err.is at c.offer_at.ensures)

pub put_line-end-requires : goal.put_line-end-requires
put_line-end-requires c =
    line_fits _ _ _ _ _ _ c.loop-rest.invariant c.if-raw-gt-LONGEST.false _ _ c.in-Some.ensures.steps _ (rw c.in-Ok.is at c.offer_at.ensures) c.requires

pub loop-rest-preserved : goal.loop-rest-preserved
loop-rest-preserved c =
    turn_next _ _ _ _ _ _ c.loop-rest.invariant c.if-raw-gt-LONGEST.false _ _ c.in-Some.ensures.steps _ (rw c.in-Ok.is at c.offer_at.ensures) c.requires
    _ _ (c.put_line-end.ensures.value, c.put_line-end.ensures.buffer_after)

pub returns : goal.returns
returns c = lining_ends _ _ _ _ _ _ c.loop-rest.invariant c.if-raw-gt-LONGEST.false c.requires c.in-None.ensures.steps.0
