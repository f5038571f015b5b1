-- 02, Q-7, the codes of frames: "40 not 64 bytes, 41 sum, 42 identifier, 43 words 6-31 not zero, 44 neither pattern (the code apart)"; "24 in writing".
use Rattle.std.specs.Prelude.{ℕ, ◌%◌, cond, not, ◌||◌, List, [], ◌∷◌, length, ◌==◌, Result, Ok, Err}
use Rattle.words.specs.BigEndian.{has_room}
use Rattle.words.specs.Codes.{Check, ◌when◌, first_of, answer_code}
use Rattle.words.specs.declared.codes.NoRoom.{NoRoom}
use Rattle.valve.specs.declared.Frame.{Frame}
use Rattle.valve.specs.declared.refusal.Refusal.{Refusal}
use Rattle.valve.specs.Frame.{word_no, words_in, checksum, all_zero, identifier, arms, fires, frame_at, frame_bytes}

-- 02's number of each refusal; the last two are the valve's, in State.
abbrev pub code_of : Refusal → ℕ
code_of Refusal.WrongSize = 40
code_of Refusal.WrongSum = 41
code_of Refusal.WrongIdentifier = 42
code_of Refusal.NotZero = 43
code_of Refusal.NoPattern = 44
code_of Refusal.NotArmed = 45
code_of Refusal.WrongCode = 46

-- What a reading says: a code, and the frame where it is 0.
pub record Answer : Type 0 where
  pub code : ℕ
  pub taken : List Frame

abbrev pub answer_of : Result Frame Refusal → Answer
answer_of (Ok f) = record { code = 0; taken = f ∷ [] }
answer_of (Err refusal) = record { code = code_of refusal; taken = [] }

-- Frame reading: 40 to 44.
abbrev pub read_checks : List ℕ → List Check
read_checks s =
    40 when not (length s == 64)
    ∷ 41 when not (word_no s 5 == checksum (words_in s 0 5))
    ∷ 42 when not (word_no s 0 % 16384 == identifier)
    ∷ 43 when not (all_zero (words_in s 6 26))
    ∷ 44 when not (arms s || fires s)
    ∷ []

unfoldable pub read_code : List ℕ → ℕ
read_code s = first_of (read_checks s)

unfoldable pub read_of : List ℕ → Answer
unfolding read_code
read_of s = record { code = read_code s; taken = cond (read_code s == 0) (frame_at s ∷ []) [] }

-- What a writing says.
abbrev pub wrote_of : Result Unit NoRoom → ℕ
wrote_of = answer_code (λ _. 24)

-- Frame writing: 24 alone, whatever the flags and the firing code.
abbrev pub write_checks : Frame → List ℕ → List Check
write_checks f room = 24 when not (has_room (frame_bytes f) room) ∷ []

unfoldable pub write_code : Frame → List ℕ → ℕ
write_code f room = first_of (write_checks f room)
