-- `list_text` meets its contract, by the judgement on the list and then by the room.
use mathlib.Core.Path.{◌≡◌, refl, ap, ◌∙◌}
use Rattle.std.specs.Prelude.{Ok, Err}
use Rattle.std.proofs.Common.{rules}
use Rattle.std.proofs.lemmas.Result.{err_from_is_err_and}
use Rattle.words.specs.BigEndian.{has_room, written}
use Rattle.text.specs.Findings.{no_room}
use Rattle.text.specs.ListSteps.{Lined}
use Rattle.text.proofs.Listing.{ends_bad, ends_done, ends_no_room}
use Rattle.text.proofs.printing.list_text.Goals as goal

pub returns-in_err-bytes-clause-result_value : goal.returns-in_err-bytes-clause-result_value
returns-in_err-bytes-clause-result_value c =
    let lined : Lined _ _ (Err c.in_err-bytes.field-0.0) = c.in_err-bytes.ensures in
    let handed = err_from_is_err_and c.from_residual.result c.from_residual.ensures.1 in
    rw (handed.1, handed.2) (ends_bad c.args.raw.now c.args.room.now c.in_err-bytes.field-0.0 lined.is).0

pub returns-in_err-bytes-clause-room_after : goal.returns-in_err-bytes-clause-room_after
returns-in_err-bytes-clause-room_after c =
    let lined : Lined _ _ (Err c.in_err-bytes.field-0.0) = c.in_err-bytes.ensures in
    (ends_bad c.args.raw.now c.args.room.now c.in_err-bytes.field-0.0 lined.is).1

pub returns-in_err-put_bytes-clause-result_value : goal.returns-in_err-put_bytes-clause-result_value
returns-in_err-put_bytes-clause-result_value c =
    let start = c.args in
    let lined : Lined start.raw.now c.gather_lines.new.buffer (Ok c.in_ok-bytes.bytes) = c.in_ok-bytes.ensures in
    let text = lined.front refl in
    let is : c.from_residual-in_err-put_bytes.result ≡ no_room = search rules in
    rw is (ends_no_room start.raw.now start.room.now c.in_ok-bytes.bytes lined.is _
    (c.in_err-put_bytes.ensures.value ∙ ap (λ l. has_room l start.room.now) text)
    (c.put_bytes.ensures.room_after ∙ ap (λ l. written l start.room.now) text)).0

pub returns-clause-result_value : goal.returns-clause-result_value
returns-clause-result_value c =
    let start = c.args in
    let lined : Lined start.raw.now c.gather_lines.new.buffer (Ok c.in_ok-bytes.bytes) = c.in_ok-bytes.ensures in
    let text = lined.front refl in
    (ends_done start.raw.now start.room.now c.in_ok-bytes.bytes lined.is _
    (c.in_ok-put_bytes.ensures.value ∙ ap (λ l. has_room l start.room.now) text)
    (c.put_bytes.ensures.room_after ∙ ap (λ l. written l start.room.now) text)).0

pub returns-in_err-put_bytes-clause-room_after : goal.returns-in_err-put_bytes-clause-room_after
returns-in_err-put_bytes-clause-room_after c =
    let start = c.args in
    let lined : Lined start.raw.now c.gather_lines.new.buffer (Ok c.in_ok-bytes.bytes) = c.in_ok-bytes.ensures in
    let text = lined.front refl in
    (ends_no_room start.raw.now start.room.now c.in_ok-bytes.bytes lined.is _
    (c.in_err-put_bytes.ensures.value ∙ ap (λ l. has_room l start.room.now) text)
    (c.put_bytes.ensures.room_after ∙ ap (λ l. written l start.room.now) text)).1

pub returns-clause-room_after : goal.returns-clause-room_after
returns-clause-room_after c =
    let start = c.args in
    let lined : Lined start.raw.now c.gather_lines.new.buffer (Ok c.in_ok-bytes.bytes) = c.in_ok-bytes.ensures in
    let text = lined.front refl in
    (ends_done start.raw.now start.room.now c.in_ok-bytes.bytes lined.is _
    (c.in_ok-put_bytes.ensures.value ∙ ap (λ l. has_room l start.room.now) text)
    (c.put_bytes.ensures.room_after ∙ ap (λ l. written l start.room.now) text)).1
