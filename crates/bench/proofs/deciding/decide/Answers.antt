-- `deciding::decide` meets its contract: what `judge` refuses is refused, else power and tally decide.
use mathlib.Core.Path.{◌≡◌, ap, ◌∙◌}
use borrow.Author.Rules.{rules}
use Rattle.std.specs.Prelude.{Err}
use Rattle.bench.specs.declared.Rejection.{Rejection}
use Rattle.bench.specs.Steps.{decision_of}
use Rattle.bench.proofs.Decisions.{judged_refused, judged_passed}
use Rattle.bench.proofs.deciding.decide.Goals as goal

pub returns-in_err-judge : goal.returns-in_err-judge
returns-in_err-judge c =
    let start = c.args in
    let is : c.from_residual.result ≡ Err (Rejection.Misread c.in_err-judge.field-0.0) = search rules in
    ap decision_of is ∙ judged_refused start.power start.tally start.command _ c.in_err-judge.ensures

pub returns : goal.returns
returns c =
    let start = c.args in
    c.permitted.ensures ∙ judged_passed start.power start.tally start.command c.in_ok-judge.ensures
