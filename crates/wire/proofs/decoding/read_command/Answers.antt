-- `read_command` meets its contract: rows 1 to 3 by `Answers`, from the reach; the rest is `read_whole`'s.
use mathlib.Core.Path.{sym, ap, ◌∙◌}
use Rattle.std.proofs.lemmas.Result.{err_from_is_err_and}
use Rattle.wire.specs.Steps.{reach_of}
use Rattle.wire.proofs.Answers.{read_ends, read_goes, goes_within}
use Rattle.wire.proofs.decoding.read_command.Goals as goal

pub read_whole-requires : goal.read_whole-requires
read_whole-requires c =
    let s = c.args.s.now in
    goes_within s c.in_ok-length.length (ap reach_of (sym c.in_ok-length.was) ∙ c.reach_of.ensures)

pub returns : goal.returns
returns c =
    let s = c.args.s.now in
    c.read_whole.ensures
    ∙ read_goes s c.in_ok-length.length (ap reach_of (sym c.in_ok-length.was) ∙ c.reach_of.ensures)

pub returns-in_err-length : goal.returns-in_err-length
returns-in_err-length c =
    let s = c.args.s.now in
    let handed = err_from_is_err_and c.from_residual.result c.from_residual.ensures.1 in
    rw (handed.1, handed.2) (read_ends s c.in_err-length.field-0.0 (ap reach_of (sym c.in_err-length.was) ∙ c.reach_of.ensures))
