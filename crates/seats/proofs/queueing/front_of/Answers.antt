-- `front_of` meets its contract: the seat, then what reading answers, then how far the command reaches.
use Rattle.std.proofs.Common.{◌≡◌, ap, ◌∙◌, rules}
use Rattle.std.specs.Prelude.{Err}
use Rattle.seats.specs.declared.queueing.Refusal.{Refusal}
use Rattle.seats.specs.Queueing.{front_of}
use Rattle.seats.proofs.Fronts.{no_seat, misread, more_bytes, takes}
use Rattle.seats.proofs.queueing.front_of.Goals as goal

pub returns-then-seat-ge-SEATS : goal.returns-then-seat-ge-SEATS
returns-then-seat-ge-SEATS c = no_seat _ _ c.if-seat-ge-SEATS.true

pub returns-in_err-command : goal.returns-in_err-command
returns-in_err-command c =
    let is : c.from_residual.result ≡ Err (Refusal.Misread c.in_err-command.field-0.0) = search rules in
    ap front_of is ∙ misread _ _ c.if-seat-ge-SEATS.false _ c.in_err-command.ensures

pub returns-then-span-bytes : goal.returns-then-span-bytes
returns-then-span-bytes c = more_bytes _ _ c.if-seat-ge-SEATS.false _ _ c.in_ok-command.ensures c.span.ensures c.if-span-bytes.true

pub returns : goal.returns
returns c = takes _ _ c.if-seat-ge-SEATS.false _ _ c.in_ok-command.ensures c.span.ensures c.if-span-bytes.false
