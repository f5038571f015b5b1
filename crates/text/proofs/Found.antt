-- Findings: a fault has a code; nothing is found exactly where every finding is silent; and of two lists of findings one behind the other the first
-- speaks unless it is silent.
use Prim.Native.Nat.{ℕ}
use mathlib.Core.Path.{◌≡◌, refl, sym, ◌∙◌}
use mathlib.Core.List.{List, [], ◌∷◌, ◌++◌}
use mathlib.Core.Bool.{Bool, true, false, cond, true≢false}
use lib.Dec.{eqb}
use borrow.Author.Tests.{eq-eqb, eqb-true}
use Rattle.std.specs.Prelude.{Err}
use Rattle.words.specs.Codes.{◌when◌}
use Rattle.wire.proofs.Answers.{refusal_code}
use Rattle.text.specs.declared.findings.Fault.{Fault}
use Rattle.text.specs.declared.findings.Finding.{Finding}
use Rattle.text.specs.declared.findings.Refusal.{Refusal}
use Rattle.text.specs.Findings.{told_fault, nothing, whole, first_found, translated_of}

pub fault_code : (f : Fault) → eqb (told_fault f).code 0 ≡ false
fault_code Fault.UnknownName = refl
fault_code Fault.WrongCount = refl
fault_code Fault.Malformed = refl
fault_code Fault.Unsayable = refl
fault_code (Fault.Wire refusal) = refusal_code refusal

pub refused_code : (r : Refusal) → eqb (translated_of (Err r)).found.told.code 0 ≡ false
refused_code Refusal.TooLong = refl
refused_code (Refusal.BadLine number fault) = fault_code fault

pub found_append : (fs gs : List Finding) → first_found (fs ++ gs) ≡ cond (eqb (first_found fs).told.code 0) (first_found gs) (first_found fs)
unfolding first_found
found_append [] gs = refl
found_append (f ∷ fs) gs = go (eqb f.told.code 0) refl (found_append fs gs)
  where
    go : (t : Bool) → eqb f.told.code 0 ≡ t
        → first_found (fs ++ gs) ≡ cond (eqb (first_found fs).told.code 0) (first_found gs) (first_found fs)
        → cond t (first_found (fs ++ gs)) f ≡ cond (eqb (cond t (first_found fs) f).told.code 0) (first_found gs) (cond t (first_found fs) f)
    go true is rest = rest
    go false is rest = rw is

-- Every one of these is silent.
abbrev pub Silent : List Finding → Type 0
Silent [] = Unit
Silent (f ∷ fs) = (f.told.code ≡ 0) × Silent fs

pub found_silent : (fs : List Finding) → (first_found fs).told.code ≡ 0 → Silent fs
unfolding first_found
found_silent [] none = tt
found_silent (f ∷ fs) none = go (eqb f.told.code 0) refl none (found_silent fs)
  where
    go : (t : Bool) → eqb f.told.code 0 ≡ t → (cond t (first_found fs) f).told.code ≡ 0 → ((first_found fs).told.code ≡ 0 → Silent fs)
        → (f.told.code ≡ 0) × Silent fs
    go true is none rest = (eqb-true f.told.code 0 is, rest none)
    go false is none rest = absurd (true≢false (sym (eq-eqb f.told.code 0 none) ∙ is))

pub silent_found : (fs : List Finding) → Silent fs → first_found fs ≡ nothing
unfolding first_found
silent_found [] silent = refl
silent_found (f ∷ fs) silent = rw (eq-eqb f.told.code 0 silent.0) (silent_found fs silent.1)

-- A check of the whole with a code is silent exactly where it is not due.
pub whole_silent : (n : ℕ) (due : Bool) → (n ≡ 0 → ⊥) → (whole (n when due)).told.code ≡ 0 → due ≡ false
whole_silent n true some none = absurd (some none)
whole_silent n false some none = refl
