-- `put_refusal` meets its contract: the line is made in a room of its own, which is long enough, and put whole or not at all.
use Rattle.std.proofs.Common.{◌≡◌, ℕ, ◌≤◌, List, length, take, drop, sym, ap, ◌∙◌, arith}
use lib.Seq.{sets, length-sets, length-take-le, take_at}
use Rattle.std.proofs.lemmas.Result.{err_from_is_err_and}
use Rattle.words.specs.BigEndian.{has_room, written}
use Rattle.words.proofs.Laws.{with_room, sets-written}
use Rattle.listing.proofs.RefusalLine.{refusal_short}
use Rattle.listing.proofs.refusals.put_refusal.Goals as goal

-- A line put at the front of a room of its own, which is long enough, is what stands there.
module _ (line own room : List ℕ) (long : length line ≤ length own) (bytes : ℕ) (count : bytes ≡ length line) (stored : room ≡ sets own 0 line) where
  within : bytes ≤ length room
  within = omega (arith, ap length stored ∙ length-sets own 0 line)

  text : take bytes room ≡ line
  text =
      let front = sets-written line own long ∙ with_room line own long in
      ap (take bytes) (stored ∙ front) ∙ take_at line (drop (length line) own) bytes (sym count)

pub put_found-bytes-requires : goal.put_found-bytes-requires
put_found-bytes-requires c =
    let short = refusal_short c.args.numbered c.args.found (omega arith) (omega arith) in
    omega (arith, short, c.line_room-line.ensures)

pub slice_bounds-line-end : goal.slice_bounds-line-end
slice_bounds-line-end c =
    let short = refusal_short c.args.numbered c.args.found (omega arith) (omega arith) in
    let put = c.put_found-bytes.ensures in
    within _ _ _ (omega (arith, short, c.line_room-line.ensures)) _ put.value put.room_after

pub slice_bounds-put_bytes-end : goal.slice_bounds-put_bytes-end
slice_bounds-put_bytes-end c =
    let short = refusal_short c.args.numbered c.args.found (omega arith) (omega arith) in
    let put = c.put_found-bytes.ensures in
    sym (length-take-le _ _ (within _ _ _ (omega (arith, short, c.line_room-line.ensures)) _ put.value put.room_after))

pub returns-in_err-put_bytes-clause-result_value : goal.returns-in_err-put_bytes-clause-result_value
returns-in_err-put_bytes-clause-result_value c =
    let short = refusal_short c.args.numbered c.args.found (omega arith) (omega arith) in
    let put = c.put_found-bytes.ensures in
    let line = text _ _ _ (omega (arith, short, c.line_room-line.ensures)) _ put.value put.room_after in
    let none = ap (λ l. has_room l c.args.room.now) (sym line) ∙ sym c.in_err-put_bytes.ensures.value in
    let handed = err_from_is_err_and c.from_residual.result c.from_residual.ensures.1 in
    rw (handed.1, none)

pub returns-in_err-put_bytes-clause-room_after : goal.returns-in_err-put_bytes-clause-room_after
returns-in_err-put_bytes-clause-room_after c =
    let short = refusal_short c.args.numbered c.args.found (omega arith) (omega arith) in
    let put = c.put_found-bytes.ensures in
    let line = text _ _ _ (omega (arith, short, c.line_room-line.ensures)) _ put.value put.room_after in
    c.put_bytes.ensures.room_after ∙ ap (λ l. written l c.args.room.now) line

pub returns-in_err-put_bytes-clause-found_len_bound : goal.returns-in_err-put_bytes-clause-found_len_bound
returns-in_err-put_bytes-clause-found_len_bound c = refusal_short c.args.numbered c.args.found (omega arith) (omega arith)

pub returns-clause-result_value : goal.returns-clause-result_value
returns-clause-result_value c =
    let short = refusal_short c.args.numbered c.args.found (omega arith) (omega arith) in
    let put = c.put_found-bytes.ensures in
    let line = text _ _ _ (omega (arith, short, c.line_room-line.ensures)) _ put.value put.room_after in
    let fits = ap (λ l. has_room l c.args.room.now) (sym line) ∙ sym c.in_ok-put_bytes.ensures.value in
    rw (fits, put.value)

pub returns-clause-room_after : goal.returns-clause-room_after
returns-clause-room_after c =
    let short = refusal_short c.args.numbered c.args.found (omega arith) (omega arith) in
    let put = c.put_found-bytes.ensures in
    let line = text _ _ _ (omega (arith, short, c.line_room-line.ensures)) _ put.value put.room_after in
    c.put_bytes.ensures.room_after ∙ ap (λ l. written l c.args.room.now) line

pub returns-clause-found_len_bound : goal.returns-clause-found_len_bound
returns-clause-found_len_bound c = refusal_short c.args.numbered c.args.found (omega arith) (omega arith)
