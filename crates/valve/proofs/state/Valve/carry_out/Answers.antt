-- `carry_out` meets its contract: what the bytes were refused for, else what the act comes to (States).
use Rattle.std.proofs.Common.{◌≡◌, ap, ◌∙◌, rules}
use Rattle.std.specs.Prelude.{Err}
use Rattle.valve.specs.State.{outcome_of}
use Rattle.valve.proofs.States.{misread, obeyed}
use Rattle.valve.proofs.state.Valve.carry_out.Goals as goal

pub returns-in_err-frame : goal.returns-in_err-frame
returns-in_err-frame c =
    let is : c.from_residual.result ≡ Err c.in_err-frame.field-0.0 = search rules in
    ap (outcome_of c.args.self) is ∙ misread c.args.self c.args.s.now c.in_err-frame.field-0.0 c.in_err-frame.ensures

pub returns : goal.returns
returns c = c.obey.ensures ∙ obeyed c.args.self c.args.s.now c.in_ok-frame.frame c.in_ok-frame.ensures
