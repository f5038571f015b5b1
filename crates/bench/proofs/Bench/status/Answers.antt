-- `Bench::status` meets its contract: 27, else the fields.
use mathlib.Core.Path.{◌≡◌, ap, ◌∙◌}
use borrow.Author.Rules.{rules}
use Rattle.std.specs.Prelude.{Err}
use Rattle.bench.specs.Status.{told_status, status_of}
use Rattle.bench.proofs.Judging.{own_bench, known, unknown}
use Rattle.bench.proofs.Bench.status.Goals as goal

pub returns-in_err-tally : goal.returns-in_err-tally
returns-in_err-tally c =
    let is : c.from_residual.result ≡ Err (record {}) = search rules in
    ap told_status is ∙ unknown c.args.self c.in_err-tally.ensures.sound

pub returns : goal.returns
returns c =
    let b = c.args.self in
    known b c.fields.result c.in_ok-tally.ensures.sound (c.fields.ensures ∙ ap status_of (own_bench b _ c.works.ensures))
