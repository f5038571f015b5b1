-- Findings tried one after another: which of them speaks. Their codes need not rise, and one may stand twice, so a code alone does not say which
-- finding it was; the place does.
use Prim.Native.Nat.{ℕ, zero, suc}
use mathlib.Core.Path.{◌≡◌, refl}
use mathlib.Core.Logic.{◌↔◌, ◌≢◌}
use mathlib.Core.List.{List, [], ◌∷◌}
use mathlib.Core.Bool.{Bool, true, false}
use lib.ListN.{get_or, take}
use lib.Dec.{eqb}
use borrow.Author.Tests.{eq-eqb, ne_eqb, eqb-true, eqb-false}
use Rattle.text.specs.declared.findings.Finding.{Finding}
use Rattle.text.specs.Findings.{nothing, first_found}
use Rattle.text.proofs.Found.{Silent, found_silent, silent_found}

-- The finding at a place, from 0, is the first that finds something.
pub record SpeaksAt (fs : List Finding) (k : ℕ) : Type 0 where
  pub before : Silent (take k fs)
  pub finds : (get_or fs k nothing).told.code ≢ 0

pub record Speaks (fs : List Finding) (found : Finding) : Type 0 where
  pub place : ℕ
  pub first : SpeaksAt fs place
  pub is : found ≡ get_or fs place nothing

-- What is found is what the first finds that finds something, with all that it tells and its line; and it is nothing exactly where none does.
pub record FindsFirst (fs : List Finding) (found : Finding) : Type 0 where
  pub placed : (k : ℕ) → SpeaksAt fs k → found ≡ get_or fs k nothing
  pub spoken : found.told.code ≢ 0 → Speaks fs found
  pub silent : (found.told.code ≡ 0) ↔ Silent fs

placed : (fs : List Finding) (k : ℕ) → SpeaksAt fs k → first_found fs ≡ get_or fs k nothing
unfolding first_found
placed [] k at = absurd (at.finds refl)
placed (f ∷ fs) zero at = rw (ne_eqb f.told.code 0 at.finds)
placed (f ∷ fs) (suc k) at = rw (eq-eqb f.told.code 0 at.before.0) (placed fs k (record { before = at.before.1; finds = at.finds }))

spoken : (fs : List Finding) → (first_found fs).told.code ≢ 0 → Speaks fs (first_found fs)
unfolding first_found
spoken [] some = absurd (some refl)
spoken (f ∷ fs) some = go (eqb f.told.code 0) refl (spoken fs)
  where
    go : (t : Bool) → eqb f.told.code 0 ≡ t → ((first_found fs).told.code ≢ 0 → Speaks fs (first_found fs)) → Speaks (f ∷ fs) (first_found (f ∷ fs))
    go true e rest =
        let later = rest (rw e at some) in
        rw e
        (record {
          place = suc later.place;
          first = record { before = (eqb-true f.told.code 0 e, later.first.before); finds = later.first.finds };
          is = later.is;
        })
    go false e rest = rw e (record { place = 0; first = record { before = tt; finds = eqb-false f.told.code 0 e }; is = refl })

pub first_found_lem : (fs : List Finding) → FindsFirst fs (first_found fs)
first_found_lem fs =
    record {
      placed = placed fs;
      spoken = spoken fs;
      silent = (found_silent fs, λ none. rw (silent_found fs none));
    }
