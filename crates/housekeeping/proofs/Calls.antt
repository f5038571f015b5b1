-- Demand 2 for the housekeeping frame, that it can be written as well as read and comes back equal, of what the two calls answer; and that a refused
-- writing touches nothing.
use Prim.Native.Nat.{ℕ, ◌≤◌}
use mathlib.Core.Path.{◌≡◌, sym, ap, ◌∙◌}
use mathlib.Core.Logic.{◌≢◌}
use mathlib.Core.List.{List, ◌++◌}
use lib.ListN.{length, take, drop}
use lib.Seq.{take-append_seam}
use borrow.Author.Tests.{le-leb, not-false}
use Rattle.words.specs.BigEndian.{has_room, written}
use Rattle.words.proofs.Laws.{unwritten}
use Rattle.words.proofs.Order.{NoneDue}
use Rattle.words.proofs.Front.{Bytes}
use Rattle.housekeeping.specs.declared.Housekeeping.{Housekeeping}
use Rattle.housekeeping.specs.Frame.{frame_bytes}
use Rattle.housekeeping.specs.Answers.{read_of, write_checks, write_code}
use Rattle.housekeeping.proofs.Order.{write_order}
use Rattle.housekeeping.proofs.Answers.{taken_as}
use Rattle.housekeeping.proofs.RoundTrip.{read_written, no_other}

-- What a frame leaves in a room that has its 18 bytes.
pub accepts : (h : Housekeeping) (room : List ℕ) → 18 ≤ length room
    → (write_code h room ≡ 0) × (written (frame_bytes h) room ≡ frame_bytes h ++ drop 18 room)
unfolding write_code
accepts h room enough =
    let fits = le-leb 18 (length room) enough in
    (rw fits, rw fits)

-- Where `write_housekeeping` gave 0, `read_housekeeping` of the first 18 bytes of the room afterwards gives the numbers back with code 0.
pub write_then_read : (h : Housekeeping) (room : List ℕ) → write_code h room ≡ 0 → read_of (take 18 (written (frame_bytes h) room)) ≡ taken_as h
write_then_read h room e =
    let rows : NoneDue (write_checks h room) = (write_order h room).accepted.0 e in
    let stands : written (frame_bytes h) room ≡ frame_bytes h ++ drop 18 room = rw (not-false (has_room (frame_bytes h) room) rows.0) in
    ap (λ bytes. read_of (take 18 bytes)) stands ∙ ap read_of (take-append_seam (frame_bytes h) (drop 18 room)) ∙ read_written h

-- Where `read_housekeeping` took numbers, `write_housekeeping` of these gives 0 in any room of at least 18 bytes: it puts the bytes there that were
-- read, and touches no other.
pub read_then_write : (s : List ℕ) → Bytes s → (h : Housekeeping) → read_of s ≡ taken_as h → (room : List ℕ) → 18 ≤ length room
    → (write_code h room ≡ 0) × (written (frame_bytes h) room ≡ s ++ drop 18 room)
read_then_write s bytes h read room enough =
    let both = accepts h room enough in
    (both.0, both.1 ∙ ap (λ front. front ++ drop 18 room) (sym (no_other s bytes h read)))

-- Where `write_housekeeping` refused, the room is as it was.
pub refused_leaves : (h : Housekeeping) (room : List ℕ) → write_code h room ≢ 0 → written (frame_bytes h) room ≡ room
unfolding write_code
refused_leaves h room refused = unwritten (frame_bytes h) room (λ fits. refused (rw fits))
