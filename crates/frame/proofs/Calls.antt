-- Demand 2 for frames, that they can be written as well as read and come back equal, of what the two calls answer; and that a refused writing touches
-- nothing.
use Prim.Native.Nat.{ℕ, ◌≤◌}
use mathlib.Core.Path.{◌≡◌, ap, ◌∙◌}
use mathlib.Core.Logic.{◌≢◌}
use mathlib.Core.List.{List, ◌++◌}
use mathlib.Core.Bool.{true, cond}
use lib.ListN.{length, take, drop}
use lib.Seq.{take-append_seam}
use borrow.Author.Tests.{ne_eqb, le-leb, not-false}
use Rattle.words.specs.BigEndian.{has_room, written}
use Rattle.words.proofs.Order.{NoneDue}
use Rattle.words.proofs.Front.{Bytes}
use Rattle.frame.specs.declared.Frame.{Frame}
use Rattle.frame.specs.Rules.{frame_rule}
use Rattle.frame.specs.Bytes.{frame_bytes, frame_at}
use Rattle.frame.specs.Answers.{read_code, read_of, write_checks, write_code, room_after}
use Rattle.frame.proofs.Order.{write_order}
use Rattle.frame.proofs.Answers.{taken_as}
use Rattle.frame.proofs.RoundTrip.{read_written, read_obeys, written_read}

-- What an obeying frame leaves in a room that has its 32 bytes.
accepts : (f : Frame) (room : List ℕ) → frame_rule f ≡ true → has_room (frame_bytes f) room ≡ true
    → (write_code f room ≡ 0) × (room_after f room ≡ frame_bytes f ++ drop 32 room)
unfolding room_after
accepts f room obeys fits = (simp (obeys, fits), simp (obeys, fits))

-- Where `write_frame` gave 0, `read_frame` of the first 32 bytes of the room afterwards gives the frame back with code 0.
pub write_then_read : (f : Frame) (room : List ℕ) → write_code f room ≡ 0 → read_of (take 32 (room_after f room)) ≡ taken_as f
write_then_read f room e =
    let rows : NoneDue (write_checks f room) = (write_order f room).accepted.0 e in
    let obeys : frame_rule f ≡ true = not-false (frame_rule f) rows.0 in
    let stands = (accepts f room obeys (not-false (has_room (frame_bytes f) room) rows.1.0)).1 in
    ap (λ bytes. read_of (take 32 bytes)) stands ∙ ap read_of (take-append_seam (frame_bytes f) (drop 32 room)) ∙ read_written f obeys

-- Where `read_frame` gave 0, `write_frame` of what it read gives 0 in any room of at least 32 bytes: it puts the bytes there that were read, and
-- touches no other.
pub read_then_write : (s : List ℕ) → Bytes s → read_code s ≡ 0 → (room : List ℕ) → 32 ≤ length room
    → (write_code (frame_at s) room ≡ 0) × (room_after (frame_at s) room ≡ s ++ drop 32 room)
read_then_write s bytes read room h =
    let both = accepts (frame_at s) room (read_obeys s read) (le-leb 32 (length room) h) in
    (both.0, both.1 ∙ ap (λ front. front ++ drop 32 room) (written_read s bytes read))

-- Where `write_frame` refused, the room is as it was.
pub refused_leaves : (f : Frame) (room : List ℕ) → write_code f room ≢ 0 → room_after f room ≡ room
unfolding room_after
refused_leaves f room h = ap (λ accepted. cond accepted (written (frame_bytes f) room) room) (ne_eqb (write_code f room) 0 h)
