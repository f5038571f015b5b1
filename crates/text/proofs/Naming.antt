-- Names of the table, and texts that are none.
use Prim.Native.Nat.{ℕ, suc, ◌+◌, ◌<◌, ◌≤◌}
use mathlib.Core.Path.{◌≡◌, refl, sym, ap, ◌∙◌}
use mathlib.Core.List.{List, ◌++◌}
use mathlib.Core.Bool.{true, false, cond}
use native.Mathlib.Numerals.{add-one}
use lib.ListN.{length, get_or, drop, drop_of_length-le}
use lib.Seq.{drop-cons}
use borrow.Author.Tests.{ne_eqb}
use Rattle.wire.specs.declared.table.Form.{Form}
use Rattle.words.specs.Text.{ascii}
use Rattle.wire.specs.Table.{name_of, guide_forms, macro_forms}
use Rattle.text.specs.Names.{named_in, macro_named, form_named}
use Rattle.text.specs.Number.{fraction_of}
use Rattle.text.specs.Split.{same_text}
use Rattle.text.proofs.Texts.{same_equal}
use Rattle.std.specs.Prelude.{Option, Some, None}

-- Every form is found by its name.
pub name_back : (f : Form) → form_named (name_of f) ≡ Some f
unfolding form_named same_text
name_back Form.ImgPwr = refl
name_back Form.ImgRegion = refl
name_back Form.ImgTrack = refl
name_back Form.TrkAlg = refl
name_back Form.TrkLoop = refl
name_back Form.ImgImage = refl
name_back Form.TrkGoal = refl
name_back Form.TlmFlush = refl
name_back Form.FlushAuto = refl
name_back Form.Open = refl
name_back Form.Close = refl
name_back Form.Run = refl
name_back Form.Wait = refl
name_back Form.Stop = refl
name_back Form.Clear = refl

-- No form before those that are left has the name: the search goes on with them.
pub record Searched (name : List ℕ) (forms : List Form) (i : ℕ) : Type 0 where
  pub rest : named_in name (drop i forms) None ≡ form_named name

pub searched_none : (name : List ℕ) → Searched name (guide_forms ++ macro_forms) 0
unfolding form_named macro_named
searched_none name = record { rest = refl }

module _ (name : List ℕ) (forms : List Form) (i : ℕ) (searched : Searched name forms i) where
  module _ (other : Form) (more : i < length forms) (text : List ℕ) (is : text ≡ name_of (get_or forms i other)) where
    step : cond (same_text name text) (Some (get_or forms i other)) (named_in name (drop (suc i) forms) None) ≡ form_named name
    step = rw is (sym (ap (λ fs. named_in name fs None) (drop-cons forms i other more)) ∙ searched.rest)

    pub searched_found : same_text name text ≡ true → Some (get_or forms i other) ≡ form_named name
    searched_found same = rw same at step

    pub searched_on : same_text name text ≡ false → Searched name forms (i + 1)
    searched_on differs = record { rest = rw add-one (rw differs at step) }

  pub searched_all : length forms ≤ i → None ≡ form_named name
  searched_all end = ap (λ fs. named_in name fs None) (sym (drop_of_length-le forms end)) ∙ searched.rest

abbrev pub Unlike : List ℕ → List ℕ → Type 0
Unlike s name = same_text s name ≡ false

-- The ends of a goal.
pub fraction_as : (s t : List ℕ) (n : Option ℕ) → same_text s t ≡ true → fraction_of t ≡ n → n ≡ fraction_of s
fraction_as s t n e is = sym (ap fraction_of (same_equal s t e) ∙ is)

pub quarter : fraction_of (ascii ".25") ≡ Some 1
unfolding fraction_of
quarter = refl

pub half : fraction_of (ascii ".5") ≡ Some 2
unfolding fraction_of
half = refl

pub three_quarters : fraction_of (ascii ".75") ≡ Some 3
unfolding fraction_of
three_quarters = refl

pub no_fraction : (s : List ℕ) → (length s ≡ 0 → ⊥) → Unlike s (ascii ".25") → Unlike s (ascii ".5") → Unlike s (ascii ".75") → fraction_of s ≡ None
unfolding fraction_of
no_fraction s some e1 e2 e3 = rw (ne_eqb (length s) 0 some, e1, e2, e3)
