-- The line of a refusal: where it was found, by cases, and how long the line is.
use Prim.Native.Nat.{ℕ, ◌+◌, ◌≤◌, ◌<◌}
use mathlib.Core.Path.{◌≡◌, refl, ap, ◌∙◌}
use mathlib.Core.List.{List, [], ◌∷◌, ◌++◌, append-nil}
use mathlib.Core.Bool.{Bool, true, false, cond}
use native.Mathlib.Omega.{arith}
use lib.ListN.{length, length-append}
use lib.Seq.{sets}
use lib.Dec.{eqb}
use borrow.Author.Tests.{eq-eqb, ne_eqb, eqb-true}
use Rattle.words.specs.Text.{ascii, decimal, stored_at, place_after}
use Rattle.words.proofs.Decimal.{digits_few, digits_below}
use Rattle.words.proofs.Stores.{Laid, laid_next, laid_fits, laid_more}
use Rattle.wire.specs.declared.judging.Stray.{Stray}
use Rattle.text.specs.declared.findings.Finding.{Finding}
use Rattle.listing.specs.declared.refusals.Numbered.{Numbered}
use Rattle.listing.specs.Text.{line_feed}
use Rattle.listing.specs.Refusal.{labelled, word_of, stray_text, wrong_text, place_text, refusal_line, refusal_room}

-- What was wrong with a number is four numbers behind their labels.
length_stray : (stray : Stray)
    → length (stray_text stray)
    ≡ 20 + length (decimal stray.par) + length (decimal stray.value) + length (decimal stray.low) + length (decimal stray.high)
length_stray stray = simp length-append (omega arith)

stray_short : (stray : Stray) → stray.par < 256 → length (stray_text stray) ≤ 53
stray_short stray par =
    omega (
      arith,
      length_stray stray,
      digits_below 10 2 stray.par (omega arith),
      digits_few 10 stray.value,
      digits_few 10 stray.low,
      digits_few 10 stray.high,
    )

module _ (numbered : Numbered) (found : Finding) where
  abbrev pub number_text : List ℕ
  number_text = labelled (word_of numbered) found.number

  abbrev pub wrong : List ℕ
  wrong = stray_text found.told.stray

  -- Nowhere, or at a number; and there in no parameter, or in one.
  pub place_none : found.number ≡ 0 → place_text numbered found ≡ []
  place_none none = simp (eq-eqb _ _ none)

  place_some : (found.number ≡ 0 → ⊥) → place_text numbered found ≡ number_text ++ wrong_text found.told
  place_some some = simp (ne_eqb _ _ some)

  wrong_none : (found.told.code ≡ 8 → ⊥) → wrong_text found.told ≡ []
  wrong_none other = simp (ne_eqb _ _ other)

  wrong_some : found.told.code ≡ 8 → wrong_text found.told ≡ wrong
  wrong_some is = simp (eq-eqb _ _ is)

  word_short : length (word_of numbered) ≤ 8
  word_short = go numbered
    where
      go : (n : Numbered) → length (word_of n) ≤ 8
      go Numbered.Lines = omega arith
      go Numbered.Commands = omega arith

  length_number : length number_text ≡ length (word_of numbered) + length (decimal found.number)
  length_number = length-append (word_of numbered) (decimal found.number)

  number_short : length number_text ≤ 18
  number_short = omega (arith, length_number, word_short, digits_few 10 found.number)

  -- The code and the place together: what was wrong stands only behind code 8, which is one digit.
  place_short : found.told.code < 256 → found.told.stray.par < 256 → length (decimal found.told.code) + length (place_text numbered found) ≤ 72
  place_short code par = go (eqb found.number 0) (eqb found.told.code 8) refl
    where
      go : (whole range : Bool) → eqb found.told.code 8 ≡ range
          → length (decimal found.told.code) + length (cond whole [] (number_text ++ cond range wrong [])) ≤ 72
      go true range is = omega (arith, digits_below 10 2 found.told.code (omega arith))
      go false true is =
          omega (
            arith,
            number_short,
            length-append number_text wrong,
            stray_short found.told.stray par,
            digits_below 10 0 found.told.code (omega (arith, eqb-true found.told.code 8 is)),
          )
      go false false is = rw append-nil (omega (arith, number_short, digits_below 10 2 found.told.code (omega arith)))

  -- The line is as long as its parts, and that is short.
  pub length_refusal : length (refusal_line numbered found) ≡ 8 + length (decimal found.told.code) + length (place_text numbered found) + 1
  unfolding refusal_line
  length_refusal = simp length-append

  pub refusal_short : found.told.code < 256 → found.told.stray.par < 256 → length (refusal_line numbered found) ≤ refusal_room
  refusal_short code par = omega (arith, length_refusal, place_short code par)

  -- The place is laid down part by part, where it has room from a place on.
  module _ (room₀ : List ℕ) (from : ℕ) (fits : from + length (place_text numbered found) ≤ length room₀) (some : found.number ≡ 0 → ⊥) where
    length_place : length (place_text numbered found) ≡ length number_text + length (wrong_text found.told)
    length_place = ap length (place_some some) ∙ length-append number_text (wrong_text found.told)

    pub word_fits : from + length (word_of numbered) ≤ length room₀
    word_fits = omega (arith, length_place, length_number)

    module _ (room : List ℕ) (at : ℕ) (laid : Laid room₀ from (word_of numbered) room at) (room' : List ℕ) (at' : ℕ)
        (put : (at' ≡ place_after (decimal found.number) at room) × (room' ≡ stored_at (decimal found.number) at room)) where
      number_laid : Laid room₀ from number_text room' at'
      number_laid = laid_next laid (decimal found.number) room' at' (omega (arith, length_place, length_number)) put.0 put.1

      pub plain_laid : (found.told.code ≡ 8 → ⊥) → Laid room₀ from (place_text numbered found) room' at'
      plain_laid other = rw (place_some some, wrong_none other, append-nil) number_laid

      -- What was wrong stands behind the number.
      module _ (is : found.told.code ≡ 8) where
        pub wrong_fits : at' + length wrong ≤ length room'
        wrong_fits = laid_fits number_laid wrong (omega (arith, length_place, ap length (wrong_some is)))

        pub wrong_laid : (room'' : List ℕ) (at'' : ℕ) → (at'' ≡ at' + length wrong) × (room'' ≡ sets room' at' wrong)
            → Laid room₀ from (place_text numbered found) room'' at''
        wrong_laid room'' at'' put' = rw (place_some some, wrong_some is) (laid_more number_laid wrong room'' at'' put'.0 put'.1)

  -- So is the whole line, from the room's front on.
  module _ (room₀ : List ℕ) (fits : length (refusal_line numbered found) ≤ length room₀) where
    abbrev coded : List ℕ
    coded = labelled (ascii "refused ") found.told.code

    length_coded : length coded ≡ 8 + length (decimal found.told.code)
    length_coded = length-append (ascii "refused ") (decimal found.told.code)

    pub code_fits : 0 + length coded ≤ length room₀
    code_fits = omega (arith, length_refusal, length_coded)

    module _ {room₁ : List ℕ} {at₁ : ℕ} (one : (at₁ ≡ 0 + length coded) × (room₁ ≡ sets room₀ 0 coded)) where
      code_laid : Laid room₀ 0 coded room₁ at₁
      code_laid = record { place = one.0; stored = one.1 }

      pub place_fits : at₁ + length (place_text numbered found) ≤ length room₁
      place_fits = laid_fits code_laid (place_text numbered found) (omega (arith, length_refusal, length_coded))

      pub line_laid : {room₂ room₃ : List ℕ} {at₂ at₃ : ℕ}
          → (at₂ ≡ at₁ + length (place_text numbered found)) × (room₂ ≡ sets room₁ at₁ (place_text numbered found))
          → (at₃ ≡ place_after (line_feed ∷ []) at₂ room₂) × (room₃ ≡ stored_at (line_feed ∷ []) at₂ room₂)
          → Laid room₀ 0 (refusal_line numbered found) room₃ at₃
      unfolding refusal_line
      line_laid two three =
          let placed = laid_more code_laid (place_text numbered found) _ _ two.0 two.1 in
          let long = length-append coded (place_text numbered found) in
          laid_next placed (line_feed ∷ []) _ _ (omega (arith, length_refusal, length_coded, long)) three.0 three.1
