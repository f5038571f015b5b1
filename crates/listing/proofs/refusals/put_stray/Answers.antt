-- `put_stray` meets its contract: each call lays its number down behind those before it (`Laid`), and all of them are what was wrong.
use Prim.Native.Nat.{ℕ, ◌+◌, ◌≤◌}
use mathlib.Core.Path.{◌≡◌}
use mathlib.Core.List.{List, ◌++◌}
use native.Mathlib.Omega.{arith}
use lib.ListN.{length, length-append}
use lib.Seq.{sets}
use Rattle.words.specs.Text.{ascii}
use Rattle.words.proofs.Stores.{Laid, laid_fits, laid_more}
use Rattle.wire.specs.declared.judging.Stray.{Stray}
use Rattle.listing.specs.Refusal.{labelled, stray_text}
use Rattle.listing.proofs.refusals.put_stray.Goals as goal

-- What a writer that has room answers and leaves.
abbrev Put : List ℕ → ℕ → List ℕ → ℕ → List ℕ → Type 0
Put bytes at room next after = (next ≡ at + length bytes) × (after ≡ sets room at bytes)

-- The four numbers behind their labels, and the first two and three of them together.
module _ (stray : Stray) where
  abbrev par : List ℕ
  par = labelled (ascii " par ") stray.par

  abbrev value : List ℕ
  value = labelled (ascii " val ") stray.value

  abbrev low : List ℕ
  low = labelled (ascii " from ") stray.low

  abbrev high : List ℕ
  high = labelled (ascii " to ") stray.high

  abbrev two : List ℕ
  two = par ++ value

  abbrev three : List ℕ
  three = two ++ low

  record Numbers : Type 0 where
    second : length two ≡ length par + length value
    third : length three ≡ length two + length low
    last : length (stray_text stray) ≡ length three + length high

  numbers : Numbers
  numbers = record { second = length-append par value; third = length-append two low; last = length-append three high }

  -- Each has room behind those before it, and is laid down there.
  module _ (room₀ : List ℕ) (from : ℕ) (fits : from + length (stray_text stray) ≤ length room₀)
      {room₁ : List ℕ} {at₁ : ℕ} (p₁ : Put par from room₀ at₁ room₁) where
    one_laid : Laid room₀ from par room₁ at₁
    one_laid = record { place = p₁.0; stored = p₁.1 }

    value_fits : at₁ + length value ≤ length room₁
    value_fits = laid_fits one_laid value (omega (arith, numbers))

    module _ {room₂ : List ℕ} {at₂ : ℕ} (p₂ : Put value at₁ room₁ at₂ room₂) where
      two_laid : Laid room₀ from two room₂ at₂
      two_laid = laid_more one_laid value room₂ at₂ p₂.0 p₂.1

      low_fits : at₂ + length low ≤ length room₂
      low_fits = laid_fits two_laid low (omega (arith, numbers))

      module _ {room₃ : List ℕ} {at₃ : ℕ} (p₃ : Put low at₂ room₂ at₃ room₃) where
        three_laid : Laid room₀ from three room₃ at₃
        three_laid = laid_more two_laid low room₃ at₃ p₃.0 p₃.1

        high_fits : at₃ + length high ≤ length room₃
        high_fits = laid_fits three_laid high (omega (arith, numbers))

        all_laid : {room₄ : List ℕ} {at₄ : ℕ} → Put high at₃ room₃ at₄ room₄ → Laid room₀ from (stray_text stray) room₄ at₄
        all_laid {room₄} {at₄} p₄ = laid_more three_laid high room₄ at₄ p₄.0 p₄.1

pub put_labelled-requires-2 : goal.put_labelled-requires-2
put_labelled-requires-2 c =
    let one = c.put_labelled.ensures in
    value_fits c.args.stray _ _ c.requires (one.value, one.room_after)

pub put_labelled-requires-3 : goal.put_labelled-requires-3
put_labelled-requires-3 c =
    let one = c.put_labelled.ensures in
    let two = c.put_labelled-2.ensures in
    low_fits c.args.stray _ _ c.requires (one.value, one.room_after) (two.value, two.room_after)

pub put_labelled-requires-4 : goal.put_labelled-requires-4
put_labelled-requires-4 c =
    let one = c.put_labelled.ensures in
    let two = c.put_labelled-2.ensures in
    let three = c.put_labelled-3.ensures in
    high_fits c.args.stray _ _ c.requires (one.value, one.room_after) (two.value, two.room_after) (three.value, three.room_after)

pub returns-clause-value : goal.returns-clause-value
returns-clause-value c =
    let one = c.put_labelled.ensures in
    let two = c.put_labelled-2.ensures in
    let three = c.put_labelled-3.ensures in
    let four = c.put_labelled-4.ensures in
    let all = all_laid c.args.stray _ _ c.requires (one.value, one.room_after) (two.value, two.room_after) (three.value, three.room_after)
    (four.value, four.room_after) in
    all.place

pub returns-clause-room_after : goal.returns-clause-room_after
returns-clause-room_after c =
    let one = c.put_labelled.ensures in
    let two = c.put_labelled-2.ensures in
    let three = c.put_labelled-3.ensures in
    let four = c.put_labelled-4.ensures in
    let all = all_laid c.args.stray _ _ c.requires (one.value, one.room_after) (two.value, two.room_after) (three.value, three.room_after)
    (four.value, four.room_after) in
    all.stored
