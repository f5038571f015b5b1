-- `Bench::run_typed` meets its contract: a kit's list that is too long and a text that is refused are found first, and the rest of the run finds
-- what is left (`TypedRun`).
use mathlib.Core.Path.{◌≡◌, ap, ◌∙◌}
use borrow.Author.Rules.{rules}
use Rattle.std.specs.Prelude.{Err}
use Rattle.text.specs.declared.findings.Finding.{Finding}
use Rattle.bench.specs.Typed.{typed_ran_of, of_text, of_run}
use Rattle.bench.proofs.Sources.{passed}
use Rattle.bench.proofs.TypedRun.{kit_refused, text_refuses, judged_good, lines_even, told_same, room_same, run_passed, run_refused, room_like}
use Rattle.bench.proofs.Bench.run_typed.Goals as goal

pub returns-then-kit-gt-LONGEST-clause-result_value : goal.returns-then-kit-gt-LONGEST-clause-result_value
returns-then-kit-gt-LONGEST-clause-result_value c =
    let args = c.args in (kit_refused args.self args.kit.now args.text.now args.room.now c.if-kit-gt-LONGEST.true).0

pub returns-then-kit-gt-LONGEST-clause-room_after : goal.returns-then-kit-gt-LONGEST-clause-room_after
returns-then-kit-gt-LONGEST-clause-room_after c =
    let args = c.args in (kit_refused args.self args.kit.now args.text.now args.room.now c.if-kit-gt-LONGEST.true).1

pub returns-in_err-judge_text-clause-result_value : goal.returns-in_err-judge_text-clause-result_value
returns-in_err-judge_text-clause-result_value c =
    let args = c.args in
    let is : c.from_residual.result ≡ Err (of_text c.in_err-judge_text.field-0.0) = search rules in
    ap (typed_ran_of args.self) is
    ∙ (text_refuses args.self args.kit.now args.text.now args.room.now c.if-kit-gt-LONGEST.false _ c.in_err-judge_text.ensures).0

pub returns-in_err-judge_text-clause-room_after : goal.returns-in_err-judge_text-clause-room_after
returns-in_err-judge_text-clause-room_after c =
    let args = c.args in
    (text_refuses args.self args.kit.now args.text.now args.room.now c.if-kit-gt-LONGEST.false _ c.in_err-judge_text.ensures).1

pub new-requires : goal.new-requires
new-requires c =
    let good = judged_good c.args.text.now _ c.in_ok-judge_text.ensures in
    (passed c.args.text.now (ap (λ (f : Finding). f.told.code) good)).short

pub run_judged-requires-clause-even : goal.run_judged-requires-clause-even
run_judged-requires-clause-even c =
    let good = judged_good c.args.text.now _ c.in_ok-judge_text.ensures in
    lines_even c.args.text.now c.new.ensures (passed c.args.text.now (ap (λ (f : Finding). f.told.code) good)).list_short

pub returns-in_err-ran-clause-result_value : goal.returns-in_err-ran-clause-result_value
returns-in_err-ran-clause-result_value c =
    let args = c.args in
    let good = judged_good args.text.now _ c.in_ok-judge_text.ensures in
    let is : c.from_residual-in_err-ran.result ≡ Err (of_run c.in_err-ran.field-0.0) = search rules in
    ap (typed_ran_of args.self) is
    ∙ run_refused args.self args.kit.now args.text.now args.room.now c.if-kit-gt-LONGEST.false good _
    (told_same args.text.now c.new.ensures args.self args.kit.now args.room.now c.in_err-ran.ensures.result_value)

pub returns-in_err-ran-clause-room_after : goal.returns-in_err-ran-clause-room_after
returns-in_err-ran-clause-room_after c =
    let args = c.args in
    let good = judged_good args.text.now _ c.in_ok-judge_text.ensures in
    room_same args.text.now c.new.ensures args.self args.kit.now args.room.now c.in_err-ran.ensures.room_after
    ∙ room_like args.self args.kit.now args.text.now args.room.now c.if-kit-gt-LONGEST.false good

pub returns-clause-result_value : goal.returns-clause-result_value
returns-clause-result_value c =
    let args = c.args in
    let good = judged_good args.text.now _ c.in_ok-judge_text.ensures in
    run_passed args.self args.kit.now args.text.now args.room.now c.if-kit-gt-LONGEST.false good _
    (told_same args.text.now c.new.ensures args.self args.kit.now args.room.now c.in_ok-ran.ensures.result_value)

pub returns-clause-room_after : goal.returns-clause-room_after
returns-clause-room_after c =
    let args = c.args in
    let good = judged_good args.text.now _ c.in_ok-judge_text.ensures in
    room_same args.text.now c.new.ensures args.self args.kit.now args.room.now c.in_ok-ran.ensures.room_after
    ∙ room_like args.self args.kit.now args.text.now args.room.now c.if-kit-gt-LONGEST.false good
