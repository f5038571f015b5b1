-- `wire::judging::judge` meets its contract: `judge_by` with the row of the command's form.
use Rattle.wire.specs.Judge.{judge_code}
use Rattle.wire.proofs.judging.judge.Goals as goal

pub returns : goal.returns
unfolding judge_code
returns c = rw (← c.parts_of-parts.ensures, ← c.row_of.ensures) c.judge_by.ensures
