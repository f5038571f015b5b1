-- Two texts compared, byte by byte.
use Prim.Native.Nat.{ℕ}
use mathlib.Core.Path.{◌≡◌, refl, ap}
use mathlib.Core.List.{List, [], ◌∷◌}
use mathlib.Core.Bool.{true, false, ◌&&◌}
use native.Mathlib.Omega.{arith}
use lib.Dec.{eqb}
use lib.Pointwise.{pointwise}
use borrow.Author.Tests.{eq-eqb, eqb-true}
use Rattle.text.specs.Split.{same_text}

pub same_refl : (xs : List ℕ) → same_text xs xs ≡ true
unfolding same_text
same_refl [] = refl
same_refl (x ∷ xs) = rw (eq-eqb x x refl, same_refl xs)

-- The library compares two slices item by item.
pub by_items : (xs ys : List ℕ) → pointwise eqb xs ys ≡ same_text xs ys
unfolding same_text
by_items [] [] = refl
by_items [] (y ∷ ys) = refl
by_items (x ∷ xs) [] = refl
by_items (x ∷ xs) (y ∷ ys) = ap (λ b. eqb x y && b) (by_items xs ys)

pub same_equal : (xs ys : List ℕ) → same_text xs ys ≡ true → xs ≡ ys
unfolding same_text
same_equal [] [] e = refl
same_equal [] (y ∷ ys) e = absurd (let z : ◌≡◌ {A = ℕ} 0 1 = cc in omega arith)
same_equal (x ∷ xs) [] e = absurd (let z : ◌≡◌ {A = ℕ} 0 1 = cc in omega arith)
same_equal (x ∷ xs) (y ∷ ys) e = go (eqb x y) refl (λ t. same_equal xs ys t) e
  where
    go : (b : mathlib.Core.Bool.Bool) → eqb x y ≡ b → (same_text xs ys ≡ true → xs ≡ ys) → (b && same_text xs ys) ≡ true → (x ∷ xs) ≡ (y ∷ ys)
    go true q rest e = let h = eqb-true x y q in let t = rest e in cc
    go false q rest e = absurd (let z : ◌≡◌ {A = ℕ} 0 1 = cc in omega arith)
