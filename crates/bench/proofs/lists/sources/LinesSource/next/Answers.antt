-- `Lines::next` meets its contract, by the laws of `Sources`: the loop's invariant is that so many commands and numbers are left as at its start, and that
-- the lines' numbers keep within 32 bits. Each turn passes a line.
use mathlib.Core.Path.{refl, sym, ap, ◌∙◌}
use lib.ListN.{drop}
use Rattle.walk.proofs.Turns.{from_place}
use native.Mathlib.Omega.{arith}
use Rattle.bench.proofs.Sources.{shorter, goes_on, gives, none_left}
use Rattle.bench.proofs.lists.sources.LinesSource.next.Goals as goal

pub loop-self-init : goal.loop-self-init
loop-self-init c = (record { commands = refl; numbers = refl }, c.args.self.now.few)

pub returns-in-Some : goal.returns-in-Some
returns-in-Some c =
    let before = c.loop-self.self.left.now in
    gives c.loop-self.invariant.0 _ c.front-line.result.now c.loop-self-test.true c.front-line.ensures (from_place before c.min.result ∙ ap (λ n. drop n before) c.min.ensures) c.said.result c.said.ensures c.in-Some.command
    (sym c.in-Some.is)

pub loop-self-smaller : goal.loop-self-smaller
loop-self-smaller c =
    let before = c.loop-self.self.left.now in
    omega (arith, shorter c.loop-self.invariant.0 _ c.front-line.result.now c.loop-self-test.true c.front-line.ensures (from_place before c.min.result ∙ ap (λ n. drop n before) c.min.ensures) c.said.result c.said.ensures)

pub loop-self-preserved : goal.loop-self-preserved
loop-self-preserved c =
    let before = c.loop-self.self.left.now in
    let less = shorter c.loop-self.invariant.0 _ c.front-line.result.now c.loop-self-test.true c.front-line.ensures (from_place before c.min.result ∙ ap (λ n. drop n before) c.min.ensures) c.said.result c.said.ensures in (
      goes_on c.loop-self.invariant.0 _ c.front-line.result.now c.loop-self-test.true c.front-line.ensures (from_place before c.min.result ∙ ap (λ n. drop n before) c.min.ensures) c.said.result c.said.ensures (sym c.in_default.is),
      omega (arith, less, c.loop-self.invariant.1),
    )

pub returns : goal.returns
returns c = none_left c.loop-self.invariant.0 c.loop-self-test.false
