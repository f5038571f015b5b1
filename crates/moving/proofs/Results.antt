-- What a call answers and leaves, where there is room for what passes: 24 is never found, so that the finding is that of the list alone.
use Prim.Native.Nat.{ℕ, ◌≤◌}
use mathlib.Core.Path.{◌≡◌, refl, sym, ap, ◌∙◌}
use mathlib.Core.List.{List, [], ◌∷◌, ◌++◌}
use mathlib.Core.Bool.{Bool, true, false, cond, not}
use native.Mathlib.Omega.{arith}
use lib.ListN.{length, drop}
use lib.Dec.{eqb}
use borrow.Author.Tests.{le-leb, eqb-true}
use Rattle.words.specs.BigEndian.{has_room, written}
use Rattle.words.specs.Codes.{Check, ◌when◌, first_of}
use Rattle.words.proofs.Laws.{with_room}
use Rattle.words.proofs.FirstOf.{Coded, first_append}
use Rattle.wire.specs.declared.judging.Told.{Told}
use Rattle.wire.specs.Judge.{plain}
use Rattle.text.specs.declared.findings.Finding.{Finding}
use Rattle.text.specs.Findings.{finding, Outcome, outcome, outcome_for}
use Rattle.card.specs.Answers.{Result, answer, refused_as, put_unless}
use Rattle.moving.specs.Found.{outcome_of}

-- A result says what was found, and the bytes stand at the front of the room where that is nothing.
pub record Moves (found : Finding) (bytes room : List ℕ) (result : Result) : Type 0 where
  pub answered : outcome_of result.answer ≡ outcome_for found (length bytes)
  pub lies : result.room ≡ cond (eqb found.told.code 0) (written bytes room) room

-- A bad command: there are no bytes.
pub refused_moves : (told : Told) (number : ℕ) (room : List ℕ) → Moves (finding told number) [] room (refused_as told number room)
refused_moves told number room = record { answered = go (eqb told.code 0); lies = stays (eqb told.code 0) }
  where
    go : (b : Bool) → ◌≡◌ {A = Outcome} (outcome (finding told number) 0) (outcome (finding told number) (cond b 0 0))
    go true = refl
    go false = refl

    stays : (b : Bool) → room ≡ cond b (written [] room) room
    stays true = sym (with_room [] room (omega arith))
    stays false = refl

-- Bytes that have room where these checks pass.
module _ (checks : List Check) (bytes room : List ℕ) (coded : Coded checks) (fits : first_of checks ≡ 0 → length bytes ≤ length room) where
  abbrev last : List Check
  last = 24 when not (has_room bytes room) ∷ []

  first_same : first_of (checks ++ last) ≡ first_of checks
  first_same = first_append checks last coded ∙ go (eqb (first_of checks) 0) refl
    where
      go : (b : Bool) → eqb (first_of checks) 0 ≡ b → cond b (first_of last) (first_of checks) ≡ first_of checks
      go true is =
          let none = eqb-true (first_of checks) 0 is in
          let has : has_room bytes room ≡ true = le-leb _ _ (fits none) in
          rw (none, has)
      go false is = refl

  -- What is answered and left by whether a code is 0.
  abbrev put : Bool → ℕ → Result
  put fine code =
      cond fine
      (record { answer = answer (plain 0) 0 (length bytes); room = bytes ++ drop (length bytes) room })
      (refused_as (plain code) 0 room)

  put_answered : (fine : Bool) (code : ℕ) → eqb code 0 ≡ fine
      → outcome_of (put fine code).answer ≡ outcome (finding (plain code) 0) (cond fine (length bytes) 0)
  put_answered true code is = ap (λ k. outcome (finding (plain k) 0) (length bytes)) (sym (eqb-true code 0 is))
  put_answered false code is = refl

  put_lies : (fine : Bool) (code : ℕ) → (fine ≡ true → length bytes ≤ length room) → (put fine code).room ≡ cond fine (written bytes room) room
  put_lies true code fit = sym (with_room bytes room (fit refl))
  put_lies false code fit = refl

  pub passed_moves : Moves (finding (plain (first_of checks)) 0) bytes room (put_unless (checks ++ last) bytes room)
  passed_moves =
      let code = first_of checks in
      let fit : eqb code 0 ≡ true → length bytes ≤ length room = λ is. fits (eqb-true code 0 is) in
      record {
        answered = ap (λ k. outcome_of (put (eqb k 0) k).answer) first_same ∙ put_answered (eqb code 0) code refl;
        lies = ap (λ k. (put (eqb k 0) k).room) first_same ∙ put_lies (eqb code 0) code fit;
      }
