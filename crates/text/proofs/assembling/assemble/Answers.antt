-- `assemble` meets its contract: a refused judgement is its answer, and a list is copied where it has room.
use mathlib.Core.Path.{◌≡◌, refl, sym, ap, ◌∙◌}
use Rattle.std.proofs.Common.{rules}
use Rattle.std.proofs.lemmas.Result.{err_from_is_err_and}
use Rattle.text.specs.Findings.{no_room, translated_of}
use Rattle.text.proofs.Gathers.{as_refused, list_fits, part_long, copied, not_copied}
use Rattle.text.proofs.assembling.assemble.Goals as goal

pub slice_bounds-buffer-end : goal.slice_bounds-buffer-end
slice_bounds-buffer-end c =
    list_fits _ c.args.room.now _ _ c.gather.ensures
    (c.list_buffer-buffer.ensures ∙ sym c.gather.auto.buffer) _ c.in_ok-bytes.was

pub slice_bounds-put_bytes-end : goal.slice_bounds-put_bytes-end
slice_bounds-put_bytes-end c =
    part_long _ c.args.room.now _ _ c.gather.ensures
    (c.list_buffer-buffer.ensures ∙ sym c.gather.auto.buffer) _ c.in_ok-bytes.was

pub returns-in_err-bytes-clause-result_value : goal.returns-in_err-bytes-clause-result_value
returns-in_err-bytes-clause-result_value c =
    let handed = err_from_is_err_and c.from_residual.result c.from_residual.ensures.1 in
    rw (handed.1, handed.2) (as_refused _ _ c.in_err-bytes.field-0.0 (ap translated_of (sym c.in_err-bytes.was) ∙ c.gather.ensures.is)).0

pub returns-in_err-bytes-clause-room_after : goal.returns-in_err-bytes-clause-room_after
returns-in_err-bytes-clause-room_after c =
    (as_refused _ _ c.in_err-bytes.field-0.0 (ap translated_of (sym c.in_err-bytes.was) ∙ c.gather.ensures.is)).1

pub returns-in_err-put_bytes-clause-result_value : goal.returns-in_err-put_bytes-clause-result_value
returns-in_err-put_bytes-clause-result_value c =
    let is : c.from_residual-in_err-put_bytes.result ≡ no_room = search rules in
    rw is (not_copied _ _ _ _ c.gather.ensures (c.list_buffer-buffer.ensures ∙ sym c.gather.auto.buffer) _
    c.in_ok-bytes.was c.in_err-put_bytes.ensures.value c.put_bytes.ensures.room_after refl).0

pub returns-clause-result_value : goal.returns-clause-result_value
returns-clause-result_value c =
    (copied _ _ _ _ c.gather.ensures (c.list_buffer-buffer.ensures ∙ sym c.gather.auto.buffer) _
    c.in_ok-bytes.was c.in_ok-put_bytes.ensures.value c.put_bytes.ensures.room_after refl).0

pub returns-in_err-put_bytes-clause-room_after : goal.returns-in_err-put_bytes-clause-room_after
returns-in_err-put_bytes-clause-room_after c =
    (not_copied _ _ _ _ c.gather.ensures (c.list_buffer-buffer.ensures ∙ sym c.gather.auto.buffer) _
    c.in_ok-bytes.was c.in_err-put_bytes.ensures.value c.put_bytes.ensures.room_after refl).1

pub returns-clause-room_after : goal.returns-clause-room_after
returns-clause-room_after c =
    (copied _ _ _ _ c.gather.ensures (c.list_buffer-buffer.ensures ∙ sym c.gather.auto.buffer) _
    c.in_ok-bytes.was c.in_ok-put_bytes.ensures.value c.put_bytes.ensures.room_after refl).1
