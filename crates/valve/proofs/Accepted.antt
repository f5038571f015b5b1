-- What is known of bytes that are accepted: of those that were read with code 0, and of those that were carried out with it.
use Rattle.std.proofs.Common.{◌≡◌, ℕ, ◌%◌, Bool, true, false, cond, not, ◌||◌, eqb, List, [], ◌∷◌, length, refl, ap₂, eqb-true}
use borrow.Author.Tests.{not-false}
use Rattle.words.proofs.Order.{NoneDue}
use Rattle.words.proofs.Tests.{both}
use Rattle.valve.specs.declared.Act.{Act}
use Rattle.valve.specs.declared.state.Valve.{Valve}
use Rattle.valve.specs.Frame.{word_no, words_in, checksum, zeros, all_zero, act_words, arms, fires, frame_at}
use Rattle.valve.specs.Answers.{read_checks, read_code}
use Rattle.valve.specs.State.{act_checks, frame_checks, carry_code}
use Rattle.valve.proofs.Answers.{same_are}
use Rattle.valve.proofs.Order.{read_order, carry_order}

-- Words that are all zero are zeros.
zero_are : (ws : List ℕ) → all_zero ws ≡ true → ws ≡ zeros (length ws)
zero_are [] h = refl
zero_are (w ∷ ws) h =
    let parts = both (eqb w 0) (all_zero ws) h in
    ap₂ (λ x xs. x ∷ xs) (eqb-true w 0 parts.0) (zero_are ws parts.1)

-- What code 0 of a reading says.
pub record Accepted (s : List ℕ) : Type 0 where
  pub size : length s ≡ 64
  pub sum : word_no s 5 ≡ checksum (words_in s 0 5)
  pub known : word_no s 0 % 16384 ≡ 14
  pub rest : words_in s 6 26 ≡ zeros 26
  pub asks : words_in s 1 4 ≡ act_words (frame_at s).act

asks_one : (s : List ℕ) → (arms s || fires s) ≡ true → words_in s 1 4 ≡ act_words (frame_at s).act
asks_one s one = go (arms s) refl one
  where
    go : (arming : Bool) → arms s ≡ arming → (arming || fires s) ≡ true → words_in s 1 4 ≡ act_words (cond arming Act.Arm (Act.Fire (word_no s 4)))
    go true is one = same_are (words_in s 1 4) (act_words Act.Arm) is
    go false is one = same_are (words_in s 1 4) (act_words (Act.Fire (word_no s 4))) one

none_refuses : (s : List ℕ) → NoneDue (read_checks s) → Accepted s
none_refuses s none =
    let right : (a b : ℕ) → not (eqb a b) ≡ false → a ≡ b = λ a b h. eqb-true a b (not-false (eqb a b) h) in
    record {
      size = right (length s) 64 none.0;
      sum = right (word_no s 5) (checksum (words_in s 0 5)) none.1.0;
      known = right (word_no s 0 % 16384) 14 none.1.1.0;
      rest = zero_are (words_in s 6 26) (not-false (all_zero (words_in s 6 26)) none.1.1.1.0);
      asks = asks_one s (not-false (arms s || fires s) none.1.1.1.1.0);
    }

pub accepted : (s : List ℕ) → read_code s ≡ 0 → Accepted s
accepted s e = none_refuses s ((read_order s).accepted.0 e)

-- What code 0 of a frame that was carried out says: its bytes are accepted, and no row on the valve is due.
pub carried : (v : Valve) (s : List ℕ) → carry_code v s ≡ 0 → Accepted s × NoneDue (act_checks v (frame_at s).act)
carried v s e =
    let none : NoneDue (frame_checks v s) = (carry_order v s).accepted.0 e in
    (none_refuses s (none.0, (none.1.0, (none.1.1.0, (none.1.1.1.0, (none.1.1.1.1.0, tt))))), none.1.1.1.1.1)
