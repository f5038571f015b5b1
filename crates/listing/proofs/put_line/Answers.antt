-- `put_line` meets its contract: each call lays its column down behind those before it (`Laid`), and all of them are the line.
use Prim.Native.Nat.{ℕ, ◌+◌, ◌≤◌}
use mathlib.Core.Path.{◌≡◌}
use mathlib.Core.List.{List, ◌++◌}
use native.Mathlib.Omega.{arith}
use lib.ListN.{length, length-append}
use lib.Seq.{sets}
use mathlib.Core.Path.{◌∙◌}
use borrow.Author.Rules.{rules}
use Rattle.words.proofs.Stores.{Laid, laid_fits, laid_more}
use Rattle.listing.specs.declared.Fields.{Fields}
use Rattle.listing.specs.Text.{name_of, ended, blank, line_feed, line_of}
use Rattle.listing.proofs.put_line.Goals as goal

-- What a writer that has room answers and leaves.
abbrev Put : List ℕ → ℕ → List ℕ → ℕ → List ℕ → Type 0
Put bytes at room next after = (next ≡ at + length bytes) × (after ≡ sets room at bytes)

-- The first one, two, three and four columns of a line.
abbrev one : Fields → List ℕ
one f = name_of f.sender

abbrev two : Fields → List ℕ
two f = one f ++ ended f.number blank

abbrev three : Fields → List ℕ
three f = two f ++ ended f.code blank

abbrev four : Fields → List ℕ
four f = three f ++ ended f.par blank

-- The line is as long as its columns one by one.
record Columns (f : Fields) : Type 0 where
  second : length (two f) ≡ length (one f) + length (ended f.number blank)
  third : length (three f) ≡ length (two f) + length (ended f.code blank)
  fourth : length (four f) ≡ length (three f) + length (ended f.par blank)
  last : length (line_of f) ≡ length (four f) + length (ended f.value line_feed)

columns : (f : Fields) → Columns f
unfolding line_of
columns f =
    record {
      second = length-append (one f) (ended f.number blank);
      third = length-append (two f) (ended f.code blank);
      fourth = length-append (three f) (ended f.par blank);
      last = length-append (four f) (ended f.value line_feed);
    }

-- Each column has room behind those before it, and is laid down there.
module _ (f : Fields) (room₀ : List ℕ) (from : ℕ) (fits : from + length (line_of f) ≤ length room₀) where
  name_fits : from + length (one f) ≤ length room₀
  name_fits = omega (arith, columns f)

  module _ {room₁ : List ℕ} {at₁ : ℕ} (p₁ : Put (one f) from room₀ at₁ room₁) where
    one_laid : Laid room₀ from (one f) room₁ at₁
    one_laid = record { place = p₁.0; stored = p₁.1 }

    number_fits : at₁ + length (ended f.number blank) ≤ length room₁
    number_fits = laid_fits one_laid (ended f.number blank) (omega (arith, columns f))

    module _ {room₂ : List ℕ} {at₂ : ℕ} (p₂ : Put (ended f.number blank) at₁ room₁ at₂ room₂) where
      two_laid : Laid room₀ from (two f) room₂ at₂
      two_laid = laid_more one_laid (ended f.number blank) room₂ at₂ p₂.0 p₂.1

      code_fits : at₂ + length (ended f.code blank) ≤ length room₂
      code_fits = laid_fits two_laid (ended f.code blank) (omega (arith, columns f))

      module _ {room₃ : List ℕ} {at₃ : ℕ} (p₃ : Put (ended f.code blank) at₂ room₂ at₃ room₃) where
        three_laid : Laid room₀ from (three f) room₃ at₃
        three_laid = laid_more two_laid (ended f.code blank) room₃ at₃ p₃.0 p₃.1

        par_fits : at₃ + length (ended f.par blank) ≤ length room₃
        par_fits = laid_fits three_laid (ended f.par blank) (omega (arith, columns f))

        module _ {room₄ : List ℕ} {at₄ : ℕ} (p₄ : Put (ended f.par blank) at₃ room₃ at₄ room₄) where
          four_laid : Laid room₀ from (four f) room₄ at₄
          four_laid = laid_more three_laid (ended f.par blank) room₄ at₄ p₄.0 p₄.1

          value_fits : at₄ + length (ended f.value line_feed) ≤ length room₄
          value_fits = laid_fits four_laid (ended f.value line_feed) (omega (arith, columns f))

          line_laid : {room₅ : List ℕ} {at₅ : ℕ} → Put (ended f.value line_feed) at₄ room₄ at₅ room₅ → Laid room₀ from (line_of f) room₅ at₅
          unfolding line_of
          line_laid {room₅} {at₅} p₅ = laid_more four_laid (ended f.value line_feed) room₅ at₅ p₅.0 p₅.1

pub put_name-requires : goal.put_name-requires
put_name-requires c = name_fits c.args.fields _ _ c.requires

pub put_field-requires : goal.put_field-requires
put_field-requires c =
    let name = c.put_name.ensures in
    number_fits c.args.fields _ _ c.requires (name.value, name.room_after)

pub put_field-requires-2 : goal.put_field-requires-2
put_field-requires-2 c =
    let name = c.put_name.ensures in
    let number = c.put_field.ensures in
    code_fits c.args.fields _ _ c.requires (name.value, name.room_after) (number.value, number.room_after)

pub put_field-requires-3 : goal.put_field-requires-3
put_field-requires-3 c =
    let name = c.put_name.ensures in
    let number = c.put_field.ensures in
    let code = c.put_field-2.ensures in
    par_fits c.args.fields _ _ c.requires (name.value, name.room_after) (number.value, number.room_after) (code.value, code.room_after)

pub put_field-requires-4 : goal.put_field-requires-4
put_field-requires-4 c =
    let name = c.put_name.ensures in
    let number = c.put_field.ensures in
    let code = c.put_field-2.ensures in
    let par = c.put_field-3.ensures in
    value_fits c.args.fields _ _ c.requires (name.value, name.room_after) (number.value, number.room_after) (code.value, code.room_after)
    (par.value, par.room_after)

pub returns-clause-value : goal.returns-clause-value
returns-clause-value c =
    let name = c.put_name.ensures in
    let number = c.put_field.ensures in
    let code = c.put_field-2.ensures in
    let par = c.put_field-3.ensures in
    let value = c.put_field-4.ensures in
    let all = line_laid c.args.fields _ _ c.requires (name.value, name.room_after) (number.value, number.room_after) (code.value, code.room_after)
    (par.value, par.room_after) (value.value, value.room_after) in
    all.place

pub returns-clause-room_after : goal.returns-clause-room_after
returns-clause-room_after c =
    let name = c.put_name.ensures in
    let number = c.put_field.ensures in
    let code = c.put_field-2.ensures in
    let par = c.put_field-3.ensures in
    let value = c.put_field-4.ensures in
    let all = line_laid c.args.fields _ _ c.requires (name.value, name.room_after) (number.value, number.room_after) (code.value, code.room_after)
    (par.value, par.room_after) (value.value, value.room_after) in
    let stored = all.stored in
    let names = value.same_room ∙ par.same_room ∙ code.same_room ∙ number.same_room ∙ name.same_room in
    search rules
