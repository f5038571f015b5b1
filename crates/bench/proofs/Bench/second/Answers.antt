-- `Bench::second` meets its contract: 27 by the rules outside the store or by the store itself, else the series and then what the store hands over.
use mathlib.Core.Path.{◌≡◌, ap, ◌∙◌}
use mathlib.Core.Bool.{true, not}
use borrow.Author.Rules.{rules}
use borrow.Author.Tests.{not-true, not-false}
use Rattle.std.specs.Prelude.{Err}
use Rattle.store.specs.Effects.{group_of, kinds_in, next_group}
use Rattle.store.proofs.Handed.{handed_kinds}
use Rattle.bench.specs.declared.Bench.{Bench}
use Rattle.bench.specs.Status.{bench_sound}
use Rattle.bench.specs.Second.{passed_of}
use Rattle.bench.proofs.Sound.{good_store}
use Rattle.bench.proofs.Shapes.{Typed, shaped}
use Rattle.bench.proofs.Judging.{own_rules, own_step, no_rules, no_second, no_step, group_passed, codes_passed, second_passed}
use Rattle.bench.proofs.Bench.second.Goals as goal

-- The group of a sound bench says the kinds that it was made of.
says : (b : Bench) → Typed b → bench_sound b ≡ true → kinds_in (group_of (next_group b.store)) ≡ next_group b.store
says b typed sound = handed_kinds b.store (good_store b (record { sound = sound; shaped = shaped b typed }))

pub returns-then-not-obeys-clause-result_value : goal.returns-then-not-obeys-clause-result_value
returns-then-not-obeys-clause-result_value c =
    let b = c.args.self in
    no_second b (no_rules b (own_rules b c.works-works.ensures c.obeys.ensures ∙ not-true _ (ap not c.if-not-obeys.true)))

pub returns-in_err-step-clause-result_value : goal.returns-in_err-step-clause-result_value
returns-in_err-step-clause-result_value c =
    let b = c.args.self in
    let hold = own_rules b c.works-works.ensures c.obeys.ensures ∙ not-false _ (ap not c.if-not-obeys.false) in
    let is : c.from_residual.result ≡ Err (record {}) = search rules in
    ap (passed_of b) is ∙ no_step b hold _ (own_step b c.works-works.ensures c.in_err-step.ensures)

pub returns : goal.returns
returns c =
    let b = c.args.self in
    let hold = own_rules b c.works-works.ensures c.obeys.ensures ∙ not-false _ (ap not c.if-not-obeys.false) in
    let step = c.in_ok-step.step in
    let stepped = own_step b c.works-works.ensures c.in_ok-step.ensures in
    let done = c.camera_second-executed in
    record {
      result_value = second_passed b hold step stepped (says b c.well_formed.0) done.result done.ensures;
      group_value = group_passed b hold step stepped (says b c.well_formed.0);
      codes_value = codes_passed b hold step stepped (says b c.well_formed.0) done.result done.ensures;
    }
