-- `step_into` meets its contract.
use mathlib.Core.Path.{◌≡◌, ap, ◌∙◌}
use Rattle.std.specs.Prelude.{None, Some, Ok}
use Rattle.std.proofs.lemmas.Result.{err_from_is_err_and}
use Rattle.text.specs.Line.{line_of, answer_line}
use Rattle.text.proofs.Gathers.{adds_none, adds_one, adds_fault, leaves_none, leaves_past, leaves_one}
use Rattle.text.proofs.assembling.step_into.Goals.{then-pos-buffer, else-pos-buffer}
use Rattle.text.proofs.assembling.step_into.Goals as goal

pub returns-in_err-command-clause-result_value : goal.returns-in_err-command-clause-result_value
returns-in_err-command-clause-result_value c =
    let handed = err_from_is_err_and c.from_residual.result c.from_residual.ensures.1 in
    rw (handed.1, handed.2) (adds_fault _ c.in_err-command.field-0.0 c.in_err-command.ensures)

pub returns-in_err-command-clause-buffer_after : goal.returns-in_err-command-clause-buffer_after
returns-in_err-command-clause-buffer_after c = leaves_none _ _ _ (ap (λ a. a.taken) c.in_err-command.ensures)

pub returns-in_default-clause-result_value : goal.returns-in_default-clause-result_value
returns-in_default-clause-result_value c =
    let said : answer_line (Ok None) ≡ line_of c.args.line.now = rw c.in_default.is at c.in_ok-command.ensures in
    adds_none _ said

pub returns-in_default-clause-buffer_after : goal.returns-in_default-clause-buffer_after
returns-in_default-clause-buffer_after c =
    let said : answer_line (Ok None) ≡ line_of c.args.line.now = rw c.in_default.is at c.in_ok-command.ensures in
    leaves_none _ _ _ (ap (λ a. a.taken) said)

pub returns-clause-result_value : goal.returns-clause-result_value
returns-clause-result_value c =
    let said : answer_line (Ok (Some c.in-Some.command)) ≡ line_of c.args.line.now = rw c.in-Some.is at c.in_ok-command.ensures in
    adds_one _ c.in-Some.command _ c.command_length.ensures said

pub returns-clause-buffer_after : goal.returns-clause-buffer_after
returns-clause-buffer_after c =
    let said : answer_line (Ok (Some c.in-Some.command)) ≡ line_of c.args.line.now = rw c.in-Some.is at c.in_ok-command.ensures in
    elim c.if-pos-buffer.branch [
      | then-pos-buffer w ↦ w.buffer-is ∙ leaves_one _ _ _ c.in-Some.command _ said w.if-pos-buffer.true w.write_command.ensures.room_after
      | else-pos-buffer w ↦ w.buffer-is ∙ leaves_past _ _ _ w.if-pos-buffer.false
    ]
