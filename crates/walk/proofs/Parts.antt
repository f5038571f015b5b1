-- A list's command as a part of the list: its bytes and where they begin, from what the code computes.
use Prim.Native.Nat.{ℕ, ◌+◌, ◌-◌, ◌≤◌}
use mathlib.Core.Path.{◌≡◌, refl, sym, ap, ◌∙◌}
use mathlib.Core.List.{List, []}
use mathlib.Core.Bool.{Bool, true, false, cond, not, ◌||◌}
use native.Mathlib.Omega.{arith}
use lib.ListN.{length, take, drop, length-drop}
use lib.Seq.{length-take-le}
use lib.Dec.{eqb}
use borrow.Author.Tests.{ne_eqb, eqb-true}
use Rattle.wire.specs.Read.{span_of}
use Rattle.walk.specs.Shown.{too_long, start_of, bytes_at, command_of, shown_of, asked_of, offset_to, offset_of}
use Rattle.walk.proofs.Turns.{CommandAt, nothing_at}

-- A place of the list.
module _ (s : List ℕ) (at : ℕ) where
  -- Before the list's end a command of n bytes begins there.
  module _ (n : ℕ) (here : CommandAt s at n) where
    size : at + n - at ≡ span_of (drop at s)
    size = omega (arith, here.own)

    pub bytes_here : take (at + n - at) (drop at s) ≡ bytes_at s at
    bytes_here = rw size

    some : length (bytes_at s at) ≡ n
    some =
        ap length (sym bytes_here) ∙ length-take-le (at + n - at) (drop at s) (omega (arith, here.ends, length-drop at s)) ∙ omega arith

    pub offset_here : at ≡ offset_to (bytes_at s at) at
    offset_here = sym (ap (λ b. cond b 0 at) (ne_eqb (length (bytes_at s at)) 0 (λ z. omega (arith, some, here.moves))))

  -- At its end, or past it, none does.
  pub offset_none : length s ≤ at → 0 ≡ offset_to (bytes_at s at) at
  offset_none end = rw (nothing_at s at end)

-- Two parts with the same bytes, as far behind their lists' starts.
abbrev Alike : List ℕ → ℕ → List ℕ → ℕ → Type 0
Alike x m y n = (x ≡ y) × (offset_to x m ≡ offset_to y n)

both_none : (x y : List ℕ) (m n : ℕ) → x ≡ [] → y ≡ [] → Alike x m y n
both_none x y m n x_none y_none = rw (x_none, y_none) (refl, refl)

-- The code looks the number asked for up in one of two lists: that is what is to be shown.
module _ (kit pupil : List ℕ) (sender number : ℕ) where
  abbrev own : Bool → List ℕ
  own two = cond two pupil kit

  abbrev list : Bool → Bool → List ℕ
  list one two = cond one kit (cond two pupil [])

  abbrev asked : Bool → Bool → Bool → ℕ
  asked long one two = cond (long || not (one || two)) 0 number

  by_tests : (long one two : Bool) → (one ≡ true → two ≡ true → ⊥)
      → Alike (command_of (own two) (asked long one two)) (start_of (own two) (asked long one two))
      (cond long [] (command_of (list one two) number)) (start_of (list one two) number)
  by_tests true one two apart =
      both_none (command_of (own two) 0) [] (start_of (own two) 0) (start_of (list one two) number) (nothing_at (own two) (length (own two)) (omega arith)) refl
  by_tests false true true apart = absurd (apart refl refl)
  by_tests false true false apart = (refl, refl)
  by_tests false false true apart = (refl, refl)
  by_tests false false false apart =
      both_none (command_of kit 0) (command_of [] number) (start_of kit 0) (start_of [] number) (nothing_at kit (length kit) (omega arith))
      (nothing_at [] (start_of [] number) (omega arith))

  pub looked_up : (n : ℕ) (two : Bool) → n ≡ asked_of kit pupil sender number → eqb sender 2 ≡ two
      → (command_of (cond two pupil kit) n ≡ shown_of kit pupil sender number)
      × (offset_to (command_of (cond two pupil kit) n) (start_of (cond two pupil kit) n) ≡ offset_of kit pupil sender number)
  unfolding shown_of offset_of
  looked_up n two is is_two = rw (is, is_two) (by_tests (too_long kit pupil) (eqb sender 1) two apart)
    where
      apart : eqb sender 1 ≡ true → two ≡ true → ⊥
      apart one both = absurd (omega (arith, eqb-true sender 1 one, eqb-true sender 2 (is_two ∙ both)))
