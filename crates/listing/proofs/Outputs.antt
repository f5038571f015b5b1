-- Where there is room for what is to be made, 24 is never found, and what is to be written stands at the front of the room: what was made, or the
-- line that says why nothing was.
use Prim.Native.Nat.{ℕ, ◌≤◌}
use mathlib.Core.Path.{◌≡◌, refl, sym, ap, ◌∙◌}
use mathlib.Core.List.{List, [], ◌∷◌, ◌++◌}
use mathlib.Core.Bool.{Bool, true, false, cond, not}
use native.Mathlib.Omega.{arith}
use lib.ListN.{length, drop}
use lib.Dec.{eqb}
use borrow.Author.Tests.{le-leb, eqb-true}
use Rattle.words.specs.BigEndian.{has_room, written}
use Rattle.words.specs.Codes.{◌when◌}
use Rattle.words.proofs.Laws.{with_room}
use Rattle.std.specs.Prelude.{Result, Ok, Err}
use Rattle.std.specs.Result.{result_unwrap_or}
use Rattle.text.specs.declared.findings.Finding.{Finding}
use Rattle.text.specs.declared.findings.Refusal.{Refusal}
use Rattle.text.specs.Findings.{whole, first_found, Outcome, outcome, outcome_for, translated_of}
use Rattle.text.proofs.Found.{Silent, found_append, found_silent, silent_found}
use Rattle.listing.specs.declared.refusals.Numbered.{Numbered}
use Rattle.listing.specs.declared.refusals.Output.{Output}
use Rattle.listing.specs.Answer.{answer_for}
use Rattle.listing.specs.Refusal.{refusal_line, refusal_room, printed_for, output_for, room_for}

-- An outcome is what was found and how many bytes there are.
pub outcome_of : (m : Outcome) (found : Finding) (bytes : ℕ) → found ≡ m.found → bytes ≡ m.bytes → outcome found bytes ≡ m
outcome_of m found bytes is_found is_bytes = ap (λ f. outcome f bytes) is_found ∙ ap (outcome m.found) is_bytes

-- So it is where the answer itself says how many bytes there are, none on a refusal.
pub outcome_made : (made : Result ℕ Refusal) (found : Finding) (bytes : ℕ) → found ≡ (translated_of made).found → bytes ≡ result_unwrap_or made 0
    → outcome found bytes ≡ translated_of made
outcome_made made found bytes is_found is_bytes = outcome_of (translated_of made) found bytes is_found (is_bytes ∙ go made)
  where
    go : (m : Result ℕ Refusal) → result_unwrap_or m 0 ≡ (translated_of m).bytes
    go (Ok n) = refl
    go (Err Refusal.TooLong) = refl
    go (Err (Refusal.BadLine number fault)) = refl

-- By what was found, where the line has room too.
module _ (numbered : Numbered) (found : Finding) (bytes room : List ℕ)
    (fits : found.told.code ≡ 0 → length bytes ≤ length room) (short : length (refusal_line numbered found) ≤ length room) where
  abbrev fine : Bool
  fine = eqb found.told.code 0

  -- The room as the bytes were left in it.
  abbrev left : List ℕ
  left = cond fine (written bytes room) room

  made_output : output_for numbered (outcome_for found (length bytes)) left
      ≡ record { bytes = length (printed_for numbered found bytes); refused = not fine }
  made_output = go fine
    where
      go : (b : Bool)
          → ◌≡◌ {A = Output}
          (cond b (record { bytes = cond b (length bytes) 0; refused = false })
          (record { bytes = (answer_for (refusal_line numbered found) (cond b (written bytes room) room)).bytes; refused = true }))
          (record { bytes = length (cond b bytes (refusal_line numbered found)); refused = not b })
      go true = refl
      go false = simp (le-leb _ _ short)

  made_room : room_for numbered (outcome_for found (length bytes)) left
      ≡ printed_for numbered found bytes ++ drop (length (printed_for numbered found bytes)) room
  made_room = go fine refl
    where
      go : (b : Bool) → fine ≡ b
          → cond b (cond b (written bytes room) room) (written (refusal_line numbered found) (cond b (written bytes room) room))
          ≡ cond b bytes (refusal_line numbered found) ++ drop (length (cond b bytes (refusal_line numbered found))) room
      go true is = with_room bytes room (fits (eqb-true _ 0 is))
      go false is = with_room (refusal_line numbered found) room short

-- By what was found, what is answered of it and how the room was left.
module _ (numbered : Numbered) (found : Finding) (bytes room : List ℕ) (fits : found.told.code ≡ 0 → length bytes ≤ length room)
    (made : Outcome) (after : List ℕ) (is : made ≡ outcome_for found (length bytes)) (lies : after ≡ cond (eqb found.told.code 0) (written bytes room) room)
    (short : length (refusal_line numbered made.found) ≤ refusal_room) (enough : refusal_room ≤ length room) where
  line_fits : length (refusal_line numbered found) ≤ length room
  line_fits = omega (arith, ap (λ (m : Outcome). length (refusal_line numbered m.found)) is)

  pub found_output : output_for numbered made after
      ≡ record { bytes = length (printed_for numbered found bytes); refused = not (eqb found.told.code 0) }
  found_output =
      ap (λ m. output_for numbered m after) is
      ∙ ap (output_for numbered (outcome_for found (length bytes))) lies
      ∙ made_output numbered found bytes room fits line_fits

  pub found_room : room_for numbered made after ≡ printed_for numbered found bytes ++ drop (length (printed_for numbered found bytes)) room
  found_room =
      ap (λ m. room_for numbered m after) is
      ∙ ap (room_for numbered (outcome_for found (length bytes))) lies
      ∙ made_room numbered found bytes room fits line_fits

-- Checks that find nothing where those before them do not.
pub found_before : (checks more : List Finding) → ((first_found checks).told.code ≡ 0 → Silent more) → first_found (checks ++ more) ≡ first_found checks
found_before checks more silent = found_append checks more ∙ go (eqb (first_found checks).told.code 0) refl
  where
    go : (b : Bool) → eqb (first_found checks).told.code 0 ≡ b → cond b (first_found more) (first_found checks) ≡ first_found checks
    go true is =
        let none = eqb-true (first_found checks).told.code 0 is in
        silent_found more (silent none) ∙ sym (silent_found checks (found_silent checks none))
    go false is = refl

-- By the checks that are made before that of the room.
module _ (numbered : Numbered) (checks : List Finding) (bytes room : List ℕ)
    (fits : (first_found checks).told.code ≡ 0 → length bytes ≤ length room) where
  abbrev last : List Finding
  last = whole (24 when not (has_room bytes room)) ∷ []

  abbrev found : Finding
  found = first_found (checks ++ last)

  same_found : found ≡ first_found checks
  same_found = found_before checks last room_for_lem
    where
      room_for_lem : (first_found checks).told.code ≡ 0 → Silent last
      room_for_lem none =
          let has : has_room bytes room ≡ true = le-leb _ _ (fits none) in
          (ap (λ b. (whole (24 when not b)).told.code) has, tt)

  module _ (made : Outcome) (after : List ℕ) (is : made ≡ outcome_for found (length bytes))
      (lies : after ≡ cond (eqb found.told.code 0) (written bytes room) room)
      (short : length (refusal_line numbered made.found) ≤ refusal_room) (enough : refusal_room ≤ length room) where
    made_is : made ≡ outcome_for (first_found checks) (length bytes)
    made_is = is ∙ ap (λ f. outcome_for f (length bytes)) same_found

    after_is : after ≡ cond (eqb (first_found checks).told.code 0) (written bytes room) room
    after_is = lies ∙ ap (λ (f : Finding). cond (eqb f.told.code 0) (written bytes room) room) same_found

    pub output : output_for numbered made after
        ≡ record { bytes = length (printed_for numbered (first_found checks) bytes); refused = not (eqb (first_found checks).told.code 0) }
    output = found_output numbered (first_found checks) bytes room fits made after made_is after_is short enough

    pub room_left : room_for numbered made after
        ≡ printed_for numbered (first_found checks) bytes ++ drop (length (printed_for numbered (first_found checks) bytes)) room
    room_left = found_room numbered (first_found checks) bytes room fits made after made_is after_is short enough
