-- Demand 2 for the valve's frames, that they can be written as well as read and come back equal, of what the calls answer; and demand 1, that a refusal leaves
-- the room, or the valve, as it was.
use Rattle.std.proofs.Common.{◌≡◌, ℕ, ◌≤◌, true, ◌≢◌, List, ◌++◌, length, take, drop, sym, ap, ◌∙◌, arith, take_at, ne_eqb, le-leb}
use borrow.Author.Tests.{not-false}
use Rattle.words.specs.BigEndian.{has_room, written}
use Rattle.words.specs.Codes.{first_of}
use Rattle.words.proofs.Laws.{unwritten}
use Rattle.words.proofs.Order.{NoneDue}
use Rattle.words.proofs.Front.{Bytes}
use Rattle.valve.specs.declared.Frame.{Frame}
use Rattle.valve.specs.declared.state.Valve.{Valve}
use Rattle.valve.specs.Frame.{head_of, frame_bytes}
use Rattle.valve.specs.Answers.{read_of, write_checks, write_code}
use Rattle.valve.specs.State.{act_checks, outcome_by, carry_code, carry_out}
use Rattle.valve.proofs.Order.{write_order}
use Rattle.valve.proofs.Answers.{taken_as, bytes_length}
use Rattle.valve.proofs.States.{obeyed}
use Rattle.valve.proofs.RoundTrip.{read_written, no_other}

module _ (f : Frame) (room : List ℕ) where
  -- What a frame leaves in a room that has its 64 bytes.
  stands : has_room (frame_bytes f) room ≡ true → written (frame_bytes f) room ≡ frame_bytes f ++ drop 64 room
  stands fits = rw fits (ap (λ n. frame_bytes f ++ drop n room) (bytes_length (head_of f) f.act))

  pub accepts : 64 ≤ length room → (write_code f room ≡ 0) × (written (frame_bytes f) room ≡ frame_bytes f ++ drop 64 room)
  unfolding write_code
  accepts enough =
      let fits : has_room (frame_bytes f) room ≡ true = le-leb (length (frame_bytes f)) (length room) (omega (arith, bytes_length (head_of f) f.act)) in
      (rw fits, stands fits)

  -- Where `write_frame` gave 0, `read_frame` of the first 64 bytes of the room afterwards gives the frame back with code 0.
  pub write_then_read : write_code f room ≡ 0 → read_of (take 64 (written (frame_bytes f) room)) ≡ taken_as f
  write_then_read e =
      let rows : NoneDue (write_checks f room) = (write_order f room).accepted.0 e in
      ap (λ bytes. read_of (take 64 bytes)) (stands (not-false (has_room (frame_bytes f) room) rows.0))
      ∙ ap read_of (take_at (frame_bytes f) (drop 64 room) 64 (bytes_length (head_of f) f.act)) ∙ read_written f

  -- Where it refused, the room is as it was.
  pub refused_writing : write_code f room ≢ 0 → written (frame_bytes f) room ≡ room
  unfolding write_code
  refused_writing refused = unwritten (frame_bytes f) room (λ fits. refused (rw fits))

-- Where `read_frame` took a frame, `write_frame` of it gives 0 in any room of at least 64 bytes: it puts the bytes there that were read, and touches no other.
pub read_then_write : (s : List ℕ) → Bytes s → (f : Frame) → read_of s ≡ taken_as f → (room : List ℕ) → 64 ≤ length room
    → (write_code f room ≡ 0) × (written (frame_bytes f) room ≡ s ++ drop 64 room)
read_then_write s bytes f read room enough =
    let both = accepts f room enough in
    (both.0, both.1 ∙ ap (λ front. front ++ drop 64 room) (sym (no_other s bytes f read)))

-- A frame that was written is carried out as what it asks: no row on its bytes is ever due.
pub carries_written : (v : Valve) (f : Frame) → carry_out v (frame_bytes f) ≡ outcome_by (first_of (act_checks v f.act)) v f.act
carries_written v f = sym (obeyed v (frame_bytes f) f (sym (read_written f)))

-- Where `carry_out` refused, the valve is as it was.
pub refused_carrying : (v : Valve) (s : List ℕ) → carry_code v s ≢ 0 → (carry_out v s).valve ≡ v
unfolding carry_out
refused_carrying v s refused = rw (ne_eqb (carry_code v s) 0 refused)
