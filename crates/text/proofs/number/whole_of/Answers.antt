-- `whole_of` meets its contract.
use Rattle.text.proofs.Digits.{whole_none, whole_all, whole_part}
use Rattle.text.proofs.number.whole_of.Goals.{then-digits-eq0-via-then-digits-eq0, then-digits-eq0-via-else-digits-eq0+then-digits-part}
use Rattle.text.proofs.number.whole_of.Goals as goal

pub returns-then-digits-eq0 : goal.returns-then-digits-eq0
returns-then-digits-eq0 c =
    elim c.then-digits-eq0.branch [
      | then-digits-eq0-via-then-digits-eq0 w ↦ whole_none _ _ c.digits_of-digits.ensures w.if-digits-eq0.true
      | then-digits-eq0-via-else-digits-eq0+then-digits-part w ↦ whole_part _ _ c.digits_of-digits.ensures w.if-digits-part.true
    ]

pub returns : goal.returns
returns c = whole_all _ _ c.digits_of-digits.ensures c.if-digits-eq0.false c.if-digits-part.false
