-- `decode` meets its contract: rows 5 and 6 by `Answers`, from what was found for the opcode.
use mathlib.Core.Path.{sym, ◌∙◌}
use Rattle.wire.proofs.Answers.{unknown_refused, known_decoded}
use Rattle.wire.proofs.decoding.decode.Goals as goal

pub returns-in-None : goal.returns-in-None
returns-in-None c =
    let a = c.args in
    let encoded = a.encoded in
    unknown_refused a.opcode encoded.flag encoded.length encoded.one encoded.two (sym c.in-None.is ∙ c.rule_of.ensures)

pub returns-in-Some : goal.returns-in-Some
returns-in-Some c =
    let a = c.args in
    let encoded = a.encoded in
    c.decode_form.ensures
    ∙ known_decoded a.opcode encoded.flag encoded.length encoded.one encoded.two c.in-Some.form c.in-Some.words
    (sym c.in-Some.is ∙ c.rule_of.ensures)
