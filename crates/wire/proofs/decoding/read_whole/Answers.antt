-- `read_whole` meets its contract: row 4 by `Answers`, from the sum and the last word; the rest is `decode`'s.
use Rattle.wire.proofs.Answers.{sum_refused, sum_passed}
use Rattle.wire.proofs.decoding.read_whole.Goals as goal

pub returns-then-sum_of-word_at : goal.returns-then-sum_of-word_at
returns-then-sum_of-word_at c =
    let a = c.args in
    let sum = c.sum_of in
    let last = c.word_at in
    sum_refused a.s.now a.length sum.result last.result sum.ensures last.ensures c.if-sum_of-word_at.true

pub returns : goal.returns
returns c =
    let a = c.args in
    let sum = c.sum_of in
    let last = c.word_at in
    let half = c.half_at in
    let one = c.word_at-2 in
    let two = c.third_word in
    let opcode = c.half_at-2 in
    sum_passed a.s.now a.length sum.result last.result sum.ensures last.ensures
    opcode.result half.result one.result two.result opcode.ensures half.ensures one.ensures two.ensures c.if-sum_of-word_at.false
    c.decode.ensures
