-- 01, "What each promise answers for": two results that one promise allows are equal. Of a part that is shown these are its bytes and its place.
use Prim.Native.Nat.{ℕ}
use mathlib.Core.Path.{◌≡◌, sym, ◌∙◌}
use mathlib.Core.List.{List}
use denote.Ref.{Bor}
use Rattle.walk.specs.Shown.{shown_of, offset_of, slice_of, Placed}

-- Two parts with the same place point to the same byte.
pub one_place : (slice a b : Bor (List ℕ)) (offset : ℕ) → Placed slice a offset → Placed slice b offset → a.ref_ptr ≡ b.ref_ptr
one_place slice a b offset p q = λ i. ((p.block ∙ sym q.block) i, (p.start ∙ sym q.start) i)

-- What `shown` promises of its answer.
abbrev pub Promise : Bor (List ℕ) → Bor (List ℕ) → ℕ → ℕ → Bor (List ℕ) → Type 0
Promise kit pupil sender number r =
    (r.now ≡ shown_of kit.now pupil.now sender number) × Placed (slice_of kit pupil sender) r (offset_of kit.now pupil.now sender number)

-- Two answers of `shown` have the same bytes and the same place.
pub one_shown : (kit pupil : Bor (List ℕ)) (sender number : ℕ) (a b : Bor (List ℕ))
    → Promise kit pupil sender number a → Promise kit pupil sender number b → (a.now ≡ b.now) × (a.ref_ptr ≡ b.ref_ptr)
one_shown kit pupil sender number a b p q =
    (p.0 ∙ sym q.0, one_place (slice_of kit pupil sender) a b (offset_of kit.now pupil.now sender number) p.1 q.1)
