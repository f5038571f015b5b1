-- `line_of` meets its contract.
use mathlib.Core.Path.{◌∙◌}
use Rattle.std.proofs.lemmas.Result.{err_from_is_err_and}
use Rattle.text.proofs.ByWords.{line_by_lem}
use Rattle.text.proofs.Lines.{empty_line, comment_line, plus_line, bare_line}
use Rattle.text.proofs.line.line_of.Goals.{then-line-eq0-via-then-line-eq0, then-line-eq0-via-else-line-eq0+then-line-eq35}
use Rattle.text.proofs.line.line_of.Goals as goal

pub returns-then-line-eq0 : goal.returns-then-line-eq0
returns-then-line-eq0 c =
    elim c.then-line-eq0.branch [
      | then-line-eq0-via-then-line-eq0 w ↦ empty_line _ w.if-line-eq0.true ∙ line_by_lem _
      | then-line-eq0-via-else-line-eq0+then-line-eq35 w ↦ comment_line _ w.if-line-eq0.false w.if-line-eq35.true ∙ line_by_lem _
    ]

pub returns-in_ok-command : goal.returns-in_ok-command
returns-in_ok-command c = plus_line _ c.if-line-eq0.false c.if-line-eq35.false c.if-line-eq43.true _ c.in_ok-command.ensures ∙ line_by_lem _

pub returns-in_err-command : goal.returns-in_err-command
returns-in_err-command c =
    let handed = err_from_is_err_and c.from_residual.result c.from_residual.ensures.1 in
    rw (handed.1, handed.2) (plus_line _ c.if-line-eq0.false c.if-line-eq35.false c.if-line-eq43.true _ c.in_err-command.ensures ∙ line_by_lem _)

pub returns-in_ok-command-2 : goal.returns-in_ok-command-2
returns-in_ok-command-2 c = bare_line _ c.if-line-eq0.false c.if-line-eq35.false c.if-line-eq43.false _ c.in_ok-command-2.ensures ∙ line_by_lem _

pub returns-in_err-command-2 : goal.returns-in_err-command-2
returns-in_err-command-2 c =
    let handed = err_from_is_err_and c.from_residual-in_err-command-2.result c.from_residual-in_err-command-2.ensures.1 in
    rw (handed.1, handed.2) (bare_line _ c.if-line-eq0.false c.if-line-eq35.false c.if-line-eq43.false _ c.in_err-command-2.ensures ∙ line_by_lem _)
