-- `wire::encoding::write_command` meets its contract: a refusal of `judge` is handed on, and else the room decides.
use mathlib.Core.Path.{ap, ◌∙◌}
use Rattle.std.proofs.lemmas.Result.{err_from_is_err_and}
use Rattle.wire.proofs.Answers.{refusal_code}
use Rattle.wire.proofs.Writes.{refused, allowed}
use Rattle.wire.proofs.encoding.write_command.Goals as goal

pub returns-in_err-judge-clause-result_value : goal.returns-in_err-judge-clause-result_value
returns-in_err-judge-clause-result_value c =
    let args = c.args in
    let told = rw c.in_err-judge.was at c.judge.ensures in
    let code = refusal_code c.in_err-judge.field-0.0 in
    let handed = err_from_is_err_and c.from_residual.result c.from_residual.ensures.1 in
    rw (handed.1, handed.2, told) (refused args.command args.room.now (rw (ap (λ t. t.code) told) at code)).0

pub returns-in_err-judge-clause-room_after : goal.returns-in_err-judge-clause-room_after
returns-in_err-judge-clause-room_after c =
    let args = c.args in
    let told = rw c.in_err-judge.was at c.judge.ensures in
    let code = refusal_code c.in_err-judge.field-0.0 in
    (refused args.command args.room.now (rw (ap (λ t. t.code) told) at code)).1

pub returns-clause-result_value : goal.returns-clause-result_value
returns-clause-result_value c =
    let args = c.args in
    let told = rw c.in_ok-judge.was at c.judge.ensures in
    let rest = allowed args.command args.room.now (ap (λ t. t.code) told) in
    let wrote = c.write_allowed.ensures in
    wrote.result_value ∙ rest.0

pub returns-clause-room_after : goal.returns-clause-room_after
returns-clause-room_after c =
    let args = c.args in
    let told = rw c.in_ok-judge.was at c.judge.ensures in
    let rest = allowed args.command args.room.now (ap (λ t. t.code) told) in
    let wrote = c.write_allowed.ensures in
    wrote.room_after ∙ rest.1
