-- `decode_as` meets its contract: row 6 by the test of the length, rows 7 to 10 by `Answers`, from the row, the fields, the judgement and the kind that
-- the code holds.
use mathlib.Core.Path.{sym, ap, ◌∙◌}
use borrow.Author.Tests.{eq-eqb}
use Rattle.std.proofs.lemmas.Result.{err_from_is_err_and}
use Rattle.wire.specs.Judge.{told_judged}
use Rattle.wire.proofs.Answers.{pad_refused, then_allowed, then_refused}
use Rattle.wire.proofs.decoding.decode_as.Goals as goal

pub returns-then-fields-ne0 : goal.returns-then-fields-ne0
returns-then-fields-ne0 c =
    let a = c.args in
    let fields = c.fields_of-fields in
    simp (eq-eqb _ _ c.if-encoded-words.false)
    (pad_refused a.form a.encoded.flag a.encoded.one a.encoded.two a.row fields.result c.requires fields.ensures c.if-fields-ne0.true)

pub returns : goal.returns
returns c =
    let fields = c.fields_of-fields in
    let a = c.args in
    simp (eq-eqb _ _ c.if-encoded-words.false)
    (then_allowed a.form a.encoded.flag a.encoded.one a.encoded.two a.row fields.result c.requires fields.ensures
    c.if-fields-ne0.false c.kind_of.result c.kind_of.ensures
    (ap told_judged (sym c.in_ok-judge_by.was) ∙ c.judge_by.ensures))

pub returns-in_err-judge_by : goal.returns-in_err-judge_by
returns-in_err-judge_by c =
    let fields = c.fields_of-fields in
    let a = c.args in
    let handed = err_from_is_err_and c.from_residual.result c.from_residual.ensures.1 in
    rw (handed.1, handed.2) (simp (eq-eqb _ _ c.if-encoded-words.false)
    (then_refused a.form a.encoded.flag a.encoded.one a.encoded.two a.row fields.result c.requires fields.ensures
    c.if-fields-ne0.false c.in_err-judge_by.field-0.0
    (ap told_judged (sym c.in_err-judge_by.was) ∙ c.judge_by.ensures)))
