-- `span` meets its contract, by `Answers`, from the reach.
use mathlib.Core.Path.{sym, ap, ◌∙◌}
use Rattle.wire.specs.Steps.{reach_of}
use Rattle.wire.proofs.Answers.{span_ends, span_goes}
use Rattle.wire.proofs.decoding.span.Goals as goal

pub returns-in-Err : goal.returns-in-Err
returns-in-Err c =
    let s = c.args.s.now in
    span_ends s c.in-Err.field-0 (ap reach_of (sym c.in-Err.is) ∙ c.reach_of.ensures)

pub returns-in-Ok : goal.returns-in-Ok
returns-in-Ok c =
    let s = c.args.s.now in
    span_goes s c.in-Ok.length (ap reach_of (sym c.in-Ok.is) ∙ c.reach_of.ensures)
