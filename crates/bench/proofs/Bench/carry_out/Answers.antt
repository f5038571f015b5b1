-- `Bench::carry_out` meets its contract: 27, else what the tally decides.
use mathlib.Core.Path.{◌≡◌, sym, ap, ◌∙◌}
use borrow.Author.Rules.{rules}
use Rattle.std.specs.Prelude.{Ok, Err}
use Rattle.wire.specs.Judge.{plain}
use Rattle.bench.specs.declared.Rejection.{Rejection}
use Rattle.bench.specs.Carry.{outcome_of}
use Rattle.bench.proofs.Outcomes.{left, unsound}
use Rattle.bench.proofs.Shapes.{decided_out}
use Rattle.bench.proofs.Bench.carry_out.Goals as goal

pub returns-in_err-tally : goal.returns-in_err-tally
returns-in_err-tally c =
    let is : c.from_residual.result ≡ Err Rejection.Unsound = search rules in
    ap (outcome_of c.args.self) is ∙ unsound c.args.self c.args.command (sym c.in_err-tally.ensures.sound)

pub returns-in_err-command : goal.returns-in_err-command
returns-in_err-command c =
    let tally = c.in_ok-tally in
    let rejection = c.in_err-command.field-0.0 in
    let is : c.from_residual-in_err-command.result ≡ Err rejection = search rules in
    ap (outcome_of c.args.self) is
    ∙ decided_out c.args.self c.well_formed.0 tally.ensures.sound tally.tally tally.ensures.tally_value (Err rejection) c.args.command c.in_err-command.ensures

pub returns : goal.returns
returns c =
    let tally = c.in_ok-tally in
    ap (left (plain 0)) c.applied.ensures
    ∙ decided_out c.args.self c.well_formed.0 tally.ensures.sound tally.tally tally.ensures.tally_value (Ok c.in_ok-command.command) c.args.command c.in_ok-command.ensures
