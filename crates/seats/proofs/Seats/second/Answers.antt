-- `Seats::second` meets its contract: the seats' own rules, then as the bench has it.
use Rattle.std.proofs.Common.{◌≡◌, ap, ◌∙◌, rules}
use Rattle.std.specs.Prelude.{Err}
use Rattle.bench.specs.Exports.{group_of}
use Rattle.bench.specs.Second.{codes_shown}
use Rattle.bench.proofs.Exports.{fails, holds}
use Rattle.seats.specs.Turn.{PassedTold, passed_of}
use Rattle.seats.proofs.States.{bad_rules, second_unsound, second_by, second_goes}
use mathlib.Core.Bool.{not}
use Rattle.seats.proofs.Seats.second.Goals as goal

pub returns-then-not-obeys-clause-result_value : goal.returns-then-not-obeys-clause-result_value
returns-then-not-obeys-clause-result_value c = second_unsound c.args.self (bad_rules c.args.self (fails c.obeys.ensures (ap not c.if-not-obeys.true)))

pub returns-in_err-bench-clause-result_value : goal.returns-in_err-bench-clause-result_value
returns-in_err-bench-clause-result_value c =
    let s = c.args.self in
    let is : c.from_residual.result ≡ Err c.in_err-bench.field-0.0 = search rules in
    ap (passed_of s) is ∙ second_goes s (holds c.obeys.ensures (ap not c.if-not-obeys.false)) _ c.in_err-bench.ensures.result_value

pub returns-clause-result_value : goal.returns-clause-result_value
returns-clause-result_value c =
    second_goes c.args.self (holds c.obeys.ensures (ap not c.if-not-obeys.false)) _ c.in_ok-bench.ensures.result_value

pub returns-clause-group_value : goal.returns-clause-group_value
returns-clause-group_value c =
    let same = second_by c.args.self (holds c.obeys.ensures (ap not c.if-not-obeys.false)) in
    c.in_ok-bench.ensures.group_value ∙ ap (λ (t : PassedTold). group_of t.handed) same

pub returns-clause-codes_value : goal.returns-clause-codes_value
returns-clause-codes_value c =
    let same = second_by c.args.self (holds c.obeys.ensures (ap not c.if-not-obeys.false)) in
    c.in_ok-bench.ensures.codes_value ∙ ap (λ (t : PassedTold). codes_shown t.codes) same
