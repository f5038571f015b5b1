-- `read_frame` meets its contract: at each return the tests so far hold, and the law of that outcome (Answers) gives the answer.
use Rattle.std.proofs.Common.{◌≡◌, sym, true≢false, ap, ◌∙◌}
use Rattle.std.specs.Prelude.{Some, Err, IsNone}
use Rattle.std.proofs.Common.{rules}
use Rattle.valve.specs.declared.refusal.Refusal.{Refusal}
use Rattle.valve.specs.Answers.{answer_of}
use Rattle.valve.proofs.Answers.{wrong_size, wrong_sum, wrong_identifier, not_zero, neither, asking}
use Rattle.valve.proofs.Fronts.{rest_zero, rest_not_zero}
use Rattle.valve.proofs.read_frame.Goals as goal

pub returns-then-s-ne-SIZE : goal.returns-then-s-ne-SIZE
returns-then-s-ne-SIZE c = wrong_size c.args.s.now c.if-s-ne-SIZE.true

pub returns-then-front-checksum : goal.returns-then-front-checksum
returns-then-front-checksum c = wrong_sum c.args.s.now c.if-s-ne-SIZE.false (rw (c.checksum.ensures, c.front_of-front.ensures) at c.if-front-checksum.true)

pub returns-then-front-ne-IDENTIFIER : goal.returns-then-front-ne-IDENTIFIER
returns-then-front-ne-IDENTIFIER c =
    let sum = rw (c.checksum.ensures, c.front_of-front.ensures) at c.if-front-checksum.false in
    wrong_identifier c.args.s.now c.if-s-ne-SIZE.false sum (rw c.front_of-front.ensures at c.if-front-ne-IDENTIFIER.true)

pub returns-then-not-all_zero : goal.returns-then-not-all_zero
returns-then-not-all_zero c =
    let s = c.args.s.now in
    let size = c.if-s-ne-SIZE.false in
    let sum = rw (c.checksum.ensures, c.front_of-front.ensures) at c.if-front-checksum.false in
    let known = rw c.front_of-front.ensures at c.if-front-ne-IDENTIFIER.false in
    not_zero s size sum known (rest_not_zero s size (λ is. true≢false (sym (c.all_zero.ensures.1 is) ∙ c.if-not-all_zero.true)))

pub returns-in_err-act : goal.returns-in_err-act
returns-in_err-act c =
    let s = c.args.s.now in
    let size = c.if-s-ne-SIZE.false in
    let sum = rw (c.checksum.ensures, c.front_of-front.ensures) at c.if-front-checksum.false in
    let known = rw c.front_of-front.ensures at c.if-front-ne-IDENTIFIER.false in
    let rest = rest_zero s size (c.all_zero.ensures.0 c.if-not-all_zero.false) in
    let is : c.from_residual.result ≡ Err Refusal.NoPattern = search rules in
    let none : IsNone c.asked.result = search rules in
    ap answer_of is ∙ neither s size sum known rest (rw c.front_of-front.ensures at c.asked.ensures.none none)

pub returns : goal.returns
returns c =
    let s = c.args.s.now in
    let size = c.if-s-ne-SIZE.false in
    let sum = rw (c.checksum.ensures, c.front_of-front.ensures) at c.if-front-checksum.false in
    let known = rw c.front_of-front.ensures at c.if-front-ne-IDENTIFIER.false in
    let rest = rest_zero s size (c.all_zero.ensures.0 c.if-not-all_zero.false) in
    let is : c.asked.result ≡ Some c.in_ok-act.act = search rules in
    rw (c.framed.ensures, c.front_of-front.ensures) (asking s size sum known rest c.in_ok-act.act (rw (is, c.front_of-front.ensures) at c.asked.ensures.some))
