-- `deciding::decide_read` meets its contract: what the reader refused is refused, else power and tally decide.
use mathlib.Core.Path.{◌≡◌, sym, ap, ◌∙◌}
use borrow.Author.Rules.{rules}
use Rattle.std.specs.Prelude.{Err}
use Rattle.wire.specs.Read.{answer_of}
use Rattle.bench.specs.declared.Rejection.{Rejection}
use Rattle.bench.specs.Steps.{decision_of}
use Rattle.bench.proofs.Decisions.{read_refused, read_passed}
use Rattle.bench.proofs.deciding.decide_read.Goals as goal

pub returns-in_err-command : goal.returns-in_err-command
returns-in_err-command c s reads =
    let start = c.args in
    let is : c.from_residual.result ≡ Err (Rejection.Misread c.in_err-command.field-0.0) = search rules in
    ap decision_of is ∙ read_refused start.power start.tally s _ (sym (ap answer_of c.in_err-command.was) ∙ reads)

pub returns : goal.returns
returns c s reads =
    let start = c.args in
    c.permitted.ensures ∙ read_passed start.power start.tally s c.in_ok-command.command (sym (ap answer_of c.in_ok-command.was) ∙ reads)
