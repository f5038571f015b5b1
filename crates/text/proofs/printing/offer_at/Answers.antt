-- `offer_at` meets its contract, by what the reading said.
use mathlib.Core.Path.{sym, ap, ◌∙◌}
use Rattle.std.proofs.lemmas.Result.{err_from_is_err_and}
use Rattle.wire.specs.Read.{answer_of}
use Rattle.text.proofs.Listing.{offer_refused, offer_sayable, offer_unsayable}
use Rattle.text.proofs.printing.offer_at.Goals as goal

pub returns-then-can_say : goal.returns-then-can_say
returns-then-can_say c =
    offer_sayable _ c.in_ok-command.command (sym (ap answer_of c.in_ok-command.was) ∙ c.read_command.ensures)
    (sym c.if-can_say.true ∙ c.can_say.ensures)

pub returns-else-can_say : goal.returns-else-can_say
returns-else-can_say c =
    offer_unsayable _ c.in_ok-command.command (sym (ap answer_of c.in_ok-command.was) ∙ c.read_command.ensures)
    (sym c.if-can_say.false ∙ c.can_say.ensures)

pub returns-in_err-command : goal.returns-in_err-command
returns-in_err-command c =
    let handed = err_from_is_err_and c.from_residual.result c.from_residual.ensures.1 in
    rw (handed.1, handed.2) (offer_refused _ c.in_err-command.field-0.0 (ap answer_of (sym c.in_err-command.was) ∙ c.read_command.ensures))
