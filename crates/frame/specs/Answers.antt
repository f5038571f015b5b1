-- 01's codes for frames: reading tries 22, then 23; writing tries 23, then 24.
use Rattle.std.specs.Prelude.{ℕ, List, [], ◌∷◌, Bool, cond, not, ◌&&◌, length, eqb, Result, Ok, Err}
use Rattle.words.specs.BigEndian.{has_room, written}
use Rattle.words.specs.Codes.{Check, ◌when◌, first_of, answer_code}
use Rattle.frame.specs.declared.Frame.{Frame}
use Rattle.frame.specs.declared.Refusal.{Refusal}
use Rattle.frame.specs.Rules.{frame_rule}
use Rattle.frame.specs.Bytes.{frame_bytes, frame_at, spare_bits_zero, count_holds}

-- 01's number of each refusal.
abbrev pub code_of : Refusal → ℕ
code_of Refusal.WrongSize = 22
code_of Refusal.RuleBroken = 23
code_of Refusal.NoRoom = 24

-- What a reading says: a code, and the frame where it is 0.
pub record Answer : Type 0 where
  pub code : ℕ
  pub taken : List Frame

abbrev pub answer_of : Result Frame Refusal → Answer
answer_of (Ok f) = record { code = 0; taken = f ∷ [] }
answer_of (Err refusal) = record { code = code_of refusal; taken = [] }

-- A field against its rule.
abbrev pub rule_broken : List ℕ → Bool
rule_broken s = not (spare_bits_zero s && count_holds s && frame_rule (frame_at s))

-- Frame reading: 22, not 32 bytes; then 23, a field against its rule.
abbrev pub read_checks : List ℕ → List Check
read_checks s = 22 when not (eqb (length s) 32) ∷ 23 when rule_broken s ∷ []

unfoldable pub read_code : List ℕ → ℕ
read_code s = first_of (read_checks s)

unfoldable pub read_of : List ℕ → Answer
unfolding read_code
read_of s = record { code = read_code s; taken = cond (eqb (read_code s) 0) (frame_at s ∷ []) [] }

-- What a writing says.
abbrev pub wrote_of : Result Unit Refusal → ℕ
wrote_of = answer_code code_of

-- Frame writing: 23, then 24.
abbrev pub write_checks : Frame → List ℕ → List Check
write_checks f room = 23 when not (frame_rule f) ∷ 24 when not (has_room (frame_bytes f) room) ∷ []

unfoldable pub write_code : Frame → List ℕ → ℕ
write_code f room = first_of (write_checks f room)

-- The room afterwards: the 32 bytes at its front and the rest as it was; all of it as it was on a refusal.
unfoldable pub room_after : Frame → List ℕ → List ℕ
unfolding write_code
room_after f room = cond (eqb (write_code f room) 0) (written (frame_bytes f) room) room
