-- `store::spans::spans_below` meets its contract: macro n - 1's span is worked out by the table of those below it, and by where they end.
use Prim.Native.Nat.{ℕ, ◌-◌}
use mathlib.Core.Path.{◌≡◌, refl, ap}
use native.Mathlib.Omega.{arith}
use mir.Syntax.{w8}
use mir.Val.{Fits}
use lib.ListN.{get_or}
use borrow.Author.Rules.{rules}
use Rattle.store.specs.Pool.{start_of}
use Rattle.store.specs.TallySteps.{store_of}
use Rattle.store.proofs.SpanTable.{start_small, measured_more}
use Rattle.store.proofs.spans.+spans_below.Goals as goal

pub overflow_add-result : goal.overflow_add-result
overflow_add-result t c =
    let tally = c.args.tally in
    let below = c.spans_below-below in
    let fits : (j : ℕ) → Fits w8 (get_or tally.counts j 0) = λ j. search rules in
    let place : below.result.end ≡ start_of tally.counts tally.closed tally.opened (c.args.n - 1) =
    ap (λ measured. measured.end) (below.ensures) in
    omega (arith, start_small tally.counts tally.closed tally.opened (c.args.n - 1) (λ j. (fits j).fits))

pub returns : goal.returns
returns t c =
    let n = c.args.n in
    let below = c.spans_below-below in
    let size = c.size-size in
    measured_more (store_of c.args.words.now c.args.tally) n (n - 1) size.result c.span_by.result (below.result)
    c.requires.1 refl c.if-n-eq0.false (below.ensures) size.ensures.0
    c.span_by.ensures
