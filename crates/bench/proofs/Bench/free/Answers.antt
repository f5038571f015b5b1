-- `Bench::free` meets its contract: 27, else what the tally counts.
use mathlib.Core.Path.{◌≡◌, ap, ◌∙◌}
use borrow.Author.Rules.{rules}
use Rattle.std.specs.Prelude.{Err}
use Rattle.bench.specs.Status.{told_free}
use Rattle.store.specs.TallySteps.{free_by}
use Rattle.bench.proofs.Judging.{free_known, free_unknown}
use Rattle.bench.proofs.Bench.free.Goals as goal

pub returns-in_err-tally : goal.returns-in_err-tally
returns-in_err-tally c =
    let is : c.from_residual.result ≡ Err (record {}) = search rules in
    ap told_free is ∙ free_unknown c.args.self c.in_err-tally.ensures.sound

pub returns : goal.returns
returns c =
    let tally = c.in_ok-tally in
    free_known c.args.self tally.ensures.sound (c.free.ensures ∙ ap free_by tally.ensures.tally_value)
