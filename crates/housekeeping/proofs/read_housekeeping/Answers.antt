-- `read_housekeeping` meets its contract: at each return the tests so far hold, and the law of that outcome (Answers) gives the answer.
use Rattle.std.proofs.Common.{◌≡◌, ap, ◌∙◌, rules, arith}
use Rattle.std.specs.Prelude.{Err}
use Rattle.housekeeping.specs.Answers.{answer_of}
use Rattle.housekeeping.proofs.Answers.{wrong_item, left_over, taken}
use Rattle.housekeeping.proofs.read_housekeeping.Goals as goal

pub returns-in_err-judge_items : goal.returns-in_err-judge_items
returns-in_err-judge_items c =
    let is : c.from_residual.result ≡ Err c.in_err-judge_items.field-0.0 = search rules in
    ap answer_of is ∙ wrong_item c.args.s.now c.in_err-judge_items.field-0.0 c.in_err-judge_items.ensures

pub returns-then-s-gt-SIZE : goal.returns-then-s-gt-SIZE
returns-then-s-gt-SIZE c = left_over c.args.s.now c.in_ok-judge_items.ensures (omega arith)

pub returns : goal.returns
returns c = taken c.args.s.now c.frame_at.result c.in_ok-judge_items.ensures (omega arith) c.frame_at.ensures
