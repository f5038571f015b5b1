-- The answers of the reader and of the writer, one law to an outcome.
use Rattle.std.proofs.Common.{◌≡◌, ℕ, ◌%◌, ◌<◌, ◌≤◌, ◌==◌, Bool, true, false, get_or, eqb-true, ◌≢◌, List, [], ◌∷◌, ◌++◌, length, drop, sym, refl, ap, ◌∙◌, ap₂, arith, length-append, eq-eqb, ne_eqb, le-leb}
use mathlib.Core.Bool.{false≢true}
use lib.Seq.{sets}
use borrow.Author.Tests.{lt-leb}
use Rattle.words.specs.BigEndian.{half_bytes, has_room, written}
use Rattle.words.specs.Text.{stored_at, place_after}
use Rattle.words.specs.Codes.{first_of}
use Rattle.words.proofs.Laws.{sets-written}
use Rattle.words.proofs.Tests.{both}
use Rattle.words.proofs.Stores.{laid_first, laid_next}
use Rattle.valve.specs.declared.Act.{Act}
use Rattle.valve.specs.declared.Frame.{Frame}
use Rattle.valve.specs.Frame.{word_no, words_in, bytes_of, checksum, zeros, all_zero, same, act_words, head_of, front_words, bytes_with, frame_bytes, arms, fires, framed, frame_at}
use Rattle.valve.specs.Answers.{Answer, read_checks, read_code, read_of, write_code}

abbrev pub refused_with : ℕ → Answer
refused_with code = record { code = code; taken = [] }

abbrev pub taken_as : Frame → Answer
taken_as f = record { code = 0; taken = f ∷ [] }

-- Words that are found the same are the same.
pub same_are : (ws vs : List ℕ) → same ws vs ≡ true → ws ≡ vs
same_are [] [] h = refl
same_are [] (v ∷ vs) h = absurd (false≢true h)
same_are (w ∷ ws) [] h = absurd (false≢true h)
same_are (w ∷ ws) (v ∷ vs) h =
    let parts = both (w == v) (same ws vs) h in
    ap₂ (λ x xs. x ∷ xs) (eqb-true w v parts.0) (same_are ws vs parts.1)

pub same_self : (ws : List ℕ) → same ws ws ≡ true
same_self [] = refl
same_self (w ∷ ws) = rw (eq-eqb w w refl) (same_self ws)

not_same : {ws vs : List ℕ} → ws ≢ vs → same ws vs ≡ false
not_same {ws} {vs} differ = go (same ws vs) refl
  where
    go : (b : Bool) → same ws vs ≡ b → b ≡ false
    go true e = absurd (differ (same_are ws vs e))
    go false e = refl

-- Reading: what the tests so far have found, and what the next one finds.
module _ (s : List ℕ) where
  answered : (code : ℕ) → code ≡ read_code s → code ≢ 0 → refused_with code ≡ read_of s
  unfolding read_of
  answered code e some = rw (sym e, ne_eqb code 0 some)

  pub wrong_size : length s ≢ 64 → refused_with 40 ≡ read_of s
  unfolding read_code
  wrong_size other = answered 40 (sym (rw (ne_eqb (length s) 64 other))) (λ zero. omega arith)

  module _ (size : length s ≡ 64) where
    pub wrong_sum : word_no s 5 ≢ checksum (words_in s 0 5) → refused_with 41 ≡ read_of s
    unfolding read_code
    wrong_sum other =
        answered 41 (sym (rw (eq-eqb (length s) 64 size, ne_eqb (word_no s 5) (checksum (words_in s 0 5)) other))) (λ zero. omega arith)

    module _ (sum : word_no s 5 ≡ checksum (words_in s 0 5)) where
      pub wrong_identifier : word_no s 0 % 16384 ≢ 14 → refused_with 42 ≡ read_of s
      unfolding read_code
      wrong_identifier other =
          answered 42
          (sym (rw (
            eq-eqb (length s) 64 size,
            eq-eqb (word_no s 5) (checksum (words_in s 0 5)) sum,
            ne_eqb (word_no s 0 % 16384) 14 other,
          )))
          (λ zero. omega arith)

      module _ (known : word_no s 0 % 16384 ≡ 14) where
        behind_known : read_code s ≡ first_of (drop 3 (read_checks s))
        unfolding read_code
        behind_known =
            rw (
              eq-eqb (length s) 64 size,
              eq-eqb (word_no s 5) (checksum (words_in s 0 5)) sum,
              eq-eqb (word_no s 0 % 16384) 14 known,
            )

        pub not_zero : all_zero (words_in s 6 26) ≡ false → refused_with 43 ≡ read_of s
        not_zero other =
            let due : first_of (drop 3 (read_checks s)) ≡ 43 = rw other in
            answered 43 (sym (behind_known ∙ due)) (λ zero. omega arith)

        module _ (rest : all_zero (words_in s 6 26) ≡ true) where
          behind_rest : read_code s ≡ first_of (drop 4 (read_checks s))
          behind_rest =
              let none : first_of (drop 3 (read_checks s)) ≡ first_of (drop 4 (read_checks s)) = rw rest in
              behind_known ∙ none

          -- No act has words 1 to 4; or one has.
          pub neither : ((act : Act) → words_in s 1 4 ≢ act_words act) → refused_with 44 ≡ read_of s
          neither none =
              let no_arming : arms s ≡ false = not_same (none Act.Arm) in
              let no_firing : fires s ≡ false = not_same (none (Act.Fire (word_no s 4))) in
              let due : first_of (drop 4 (read_checks s)) ≡ 44 = rw (no_arming, no_firing) in
              answered 44 (sym (behind_rest ∙ due)) (λ zero. omega arith)

          taken : (f : Frame) → first_of (drop 4 (read_checks s)) ≡ 0 → frame_at s ≡ f → taken_as f ≡ read_of s
          unfolding read_of
          taken f none says = sym (rw (behind_rest, none, says))

          pub asking : (act : Act) → words_in s 1 4 ≡ act_words act → taken_as (framed (word_no s 0) act) ≡ read_of s
          asking Act.Arm says =
              let is : arms s ≡ true = ap (λ ws. same ws (act_words Act.Arm)) says in
              taken (framed (word_no s 0) Act.Arm) (rw is) (rw is)
          asking (Act.Fire code) says =
              let no_arming : arms s ≡ false = ap (λ ws. same ws (act_words Act.Arm)) says in
              let own : word_no s 4 ≡ code = ap (λ ws. get_or ws 3 0) says in
              let is : fires s ≡ true = ap₂ (λ ws c. same ws (act_words (Act.Fire c))) says own ∙ same_self (act_words (Act.Fire code)) in
              taken (framed (word_no s 0) (Act.Fire code)) (rw (no_arming, is)) (rw (no_arming, own))

-- Writing: the bytes of words one after another; those of a frame are twelve, and zeros behind them.
bytes_append : (vs ws : List ℕ) → bytes_of (vs ++ ws) ≡ bytes_of vs ++ bytes_of ws
bytes_append [] ws = refl
bytes_append (v ∷ vs) ws = ap (λ l. half_bytes v ++ l) (bytes_append vs ws)

front_length : (head : ℕ) (act : Act) → length (bytes_of (front_words head act)) ≡ 12
front_length head Act.Arm = refl
front_length head (Act.Fire code) = refl

module _ (head : ℕ) (act : Act) where
  bytes_split : bytes_with head act ≡ bytes_of (front_words head act) ++ bytes_of (zeros 26)
  unfolding bytes_with
  bytes_split = bytes_append (front_words head act) (zeros 26)

  pub bytes_length : length (bytes_with head act) ≡ 64
  bytes_length =
      ap length bytes_split ∙ length-append (bytes_of (front_words head act)) (bytes_of (zeros 26)) ∙ omega (arith, front_length head act)

  -- The twelve bytes at the front, the zeros behind them.
  pub placed : (room : List ℕ) → 64 ≤ length room → (front room₁ room₂ : List ℕ) (next : ℕ) → front ≡ bytes_of (front_words head act)
      → next ≡ place_after front 0 room → room₁ ≡ stored_at front 0 room → room₂ ≡ stored_at (bytes_of (zeros 26)) next room₁
      → room₂ ≡ sets room 0 (bytes_with head act)
  placed room enough front room₁ room₂ next own behind put put_zeros =
      let size : length front ≡ 12 = ap length own ∙ front_length head act in
      let first = laid_first front 0 room room₁ next (omega (arith, size)) behind put in
      let all = laid_next first (bytes_of (zeros 26)) room₂ (place_after (bytes_of (zeros 26)) next room₁) (omega (arith, size)) refl put_zeros in
      all.stored ∙ ap (sets room 0) (ap (λ l. l ++ bytes_of (zeros 26)) own ∙ sym bytes_split)

module _ (f : Frame) (room : List ℕ) where
  pub no_room : length room < 64 → (24 ≡ write_code f room) × (room ≡ written (frame_bytes f) room)
  unfolding write_code
  no_room short =
      let none : has_room (frame_bytes f) room ≡ false =
      lt-leb (length (frame_bytes f)) (length room) (omega (arith, bytes_length (head_of f) f.act)) in
      (rw none, rw none)

  pub put : 64 ≤ length room → (head : ℕ) (act : Act) → head ≡ head_of f → f.act ≡ act → (room₁ : List ℕ) → room₁ ≡ sets room 0 (bytes_with head act)
      → (0 ≡ write_code f room) × (room₁ ≡ written (frame_bytes f) room)
  unfolding write_code
  put enough head act own asks room₁ stored =
      let size = bytes_length (head_of f) f.act in
      let fits : has_room (frame_bytes f) room ≡ true = le-leb (length (frame_bytes f)) (length room) (omega (arith, size)) in
      let same : bytes_with head act ≡ frame_bytes f = ap₂ bytes_with own (sym asks) in
      (rw fits, stored ∙ ap (sets room 0) same ∙ sets-written (frame_bytes f) room (omega (arith, size)))
