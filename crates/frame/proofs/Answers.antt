-- The answers of the reader and of the writer, one law to an outcome.
use Prim.Native.Nat.{ℕ}
use mathlib.Core.Path.{◌≡◌, refl, sym}
use mathlib.Core.List.{List, [], ◌∷◌, ◌++◌}
use mathlib.Core.Bool.{Bool, true, false, cond, not}
use lib.ListN.{length, drop}
use lib.Dec.{eqb}
use borrow.Author.Tests.{eq-eqb}
use Rattle.words.specs.BigEndian.{has_room, written}
use Rattle.frame.specs.declared.Frame.{Frame}
use Rattle.frame.specs.Rules.{frame_rule}
use Rattle.frame.specs.Bytes.{frame_bytes, frame_at, spare_bits_zero, count_holds}
use Rattle.frame.specs.Answers.{Answer, read_of, write_code, room_after}

abbrev pub taken_as : Frame → Answer
taken_as f = record { code = 0; taken = f ∷ [] }

-- Reading: what is taken.
pub taken : (s : List ℕ) (f : Frame) → length s ≡ 32 → spare_bits_zero s ≡ true → count_holds s ≡ true → f ≡ frame_at s
    → frame_rule f ≡ true → taken_as f ≡ read_of s
unfolding read_of
taken s f n spare count made e = rw made (sym (simp (eq-eqb (length s) 32 n, spare, count, rw made at e)))

-- Writing: the rules, then the room.
pub wrote_broken : (f : Frame) (room : List ℕ) → frame_rule f ≡ false → (23 ≡ write_code f room) × (room ≡ room_after f room)
unfolding room_after
wrote_broken f room e = (sym (simp e), sym (simp e))

-- The fields obey: the bytes had no room, or all of them had, and the room is left accordingly.
pub wrote_none : (f : Frame) (room : List ℕ) → frame_rule f ≡ true → has_room (frame_bytes f) room ≡ false → 24 ≡ write_code f room
unfolding write_code
wrote_none f room obeys short = sym (simp (obeys, short))

pub wrote_all : (f : Frame) (room : List ℕ) → frame_rule f ≡ true → has_room (frame_bytes f) room ≡ true → 0 ≡ write_code f room
unfolding write_code
wrote_all f room obeys fits = sym (simp (obeys, fits))

pub room_left : (f : Frame) (room : List ℕ) → frame_rule f ≡ true → written (frame_bytes f) room ≡ room_after f room
unfolding room_after
room_left f room obeys = sym (rw obeys (go (has_room (frame_bytes f) room)))
  where
    go : (fits : Bool)
        → cond (eqb (cond (not fits) 24 0) 0) (cond fits (frame_bytes f ++ drop 32 room) room) room
        ≡ cond fits (frame_bytes f ++ drop 32 room) room
    go true = refl
    go false = refl
