-- `Bench::housekeeping` meets its contract: 27 where the free entries are not told, else they stand beside the latest run's numbers (`Ending`).
use mathlib.Core.Path.{◌≡◌, ap, ◌∙◌}
use borrow.Author.Rules.{rules}
use Rattle.std.specs.Prelude.{Err}
use Rattle.bench.specs.Status.{told_housekeeping}
use Rattle.bench.proofs.Ending.{housekeeping_unknown, housekeeping_known}
use Rattle.bench.proofs.Bench.housekeeping.Goals as goal

pub returns-in_err-free : goal.returns-in_err-free
returns-in_err-free c =
    let is : c.from_residual.result ≡ Err (record {}) = search rules in
    ap told_housekeeping is ∙ housekeeping_unknown c.args.self c.in_err-free.ensures

pub returns : goal.returns
returns c = housekeeping_known c.args.self c.in_ok-free.free c.in_ok-free.ensures
