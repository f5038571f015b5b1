-- Where the macros lie in the pool, and how one entry more, OPEN and CLOSE change it.
use Prim.Native.Nat.{ℕ, zero, suc, ◌+◌, ◌≤◌, ◌<◌}
use mathlib.Core.Path.{◌≡◌, refl, sym, ap}
use mathlib.Core.List.{List}
use mathlib.Core.Bool.{Bool, true, false, cond, ◌||◌}
use native.Mathlib.Omega.{arith}
use lib.ListN.{length, get_or, set}
use lib.Seq.{get_or-set_same, get_or-set_other}
use lib.Dec.{leb, eqb}
use borrow.Author.Tests.{leb-true, leb-false, eq-eqb, ne_eqb, eqb-true, eqb-false}
use Rattle.store.specs.Pool.{in_use, size_of, start_of}

or-true : (b : Bool) → (b || true) ≡ true
or-true true = refl
or-true false = refl

-- A macro starts where the one before it ends.
module _ (counts : List ℕ) (closed : List Bool) (opened : ℕ) where
  pub start_next : (m : ℕ) → start_of counts closed opened (suc m) ≡ start_of counts closed opened m + size_of counts closed opened m
  unfolding start_of
  start_next m = refl

  pub start_up : (m n : ℕ) → m ≤ n → start_of counts closed opened m ≤ start_of counts closed opened n
  start_up m zero h =
      let e : start_of counts closed opened m ≡ start_of counts closed opened 0 = ap (start_of counts closed opened) (omega arith) in
      omega (arith, e)
  start_up m (suc n) h = go (leb m n) refl (λ k. start_up m n k)
    where
      go : (b : Bool) → leb m n ≡ b → (m ≤ n → start_of counts closed opened m ≤ start_of counts closed opened n)
          → start_of counts closed opened m ≤ start_of counts closed opened (suc n)
      go true e below = omega (arith, below (leb-true m n e), start_next n)
      go false e below =
          let f : start_of counts closed opened m ≡ start_of counts closed opened (suc n) =
          ap (start_of counts closed opened) (omega (arith, leb-false m n e)) in
          omega (arith, f)

  -- The open macro has all that it counts.
  pub open_size : size_of counts closed opened opened ≡ get_or counts opened 0
  unfolding size_of
  open_size = rw (eq-eqb opened opened refl, or-true (get_or closed opened false))

  -- So it has no more entries than are in use.
  pub open_within : opened < 8 → get_or counts opened 0 ≤ start_of counts closed opened 8
  open_within h = omega (arith, start_up (suc opened) 8 (omega arith), start_next opened, open_size)

-- Two stores whose macros have the same sizes have them at the same places.
module _ (counts₁ : List ℕ) (closed₁ : List Bool) (opened₁ : ℕ) (counts₂ : List ℕ) (closed₂ : List Bool) (opened₂ : ℕ) where
  abbrev pub SameSizes : ℕ → Type 0
  SameSizes n = (k : ℕ) → k < n → size_of counts₁ closed₁ opened₁ k ≡ size_of counts₂ closed₂ opened₂ k

  pub same_start : (m n : ℕ) → m ≤ n → SameSizes n → start_of counts₁ closed₁ opened₁ m ≡ start_of counts₂ closed₂ opened₂ m
  unfolding start_of
  same_start zero n h same = refl
  same_start (suc m) n h same = rw (same_start m n (omega arith) same, same m (omega arith))

-- One entry more: the macros above the open one start one place further up.
abbrev pub grown : List ℕ → ℕ → List ℕ
grown counts opened = set counts opened (get_or counts opened 0 + 1)

module _ (counts : List ℕ) (closed : List Bool) (opened : ℕ) (many : length counts ≡ 8) (is_open : opened < 8) where
  pub size_other : (m : ℕ) → (m ≡ opened → ⊥) → size_of (grown counts opened) closed opened m ≡ size_of counts closed opened m
  unfolding size_of
  size_other m h = rw (get_or-set_other counts opened m (get_or counts opened 0 + 1) 0 h)

  pub size_grown : size_of (grown counts opened) closed opened opened ≡ size_of counts closed opened opened + 1
  size_grown = rw (open_size, open_size) (get_or-set_same counts opened (get_or counts opened 0 + 1) 0 (omega arith))

  pub start_before : (m : ℕ) → m ≤ opened → start_of (grown counts opened) closed opened m ≡ start_of counts closed opened m
  start_before m h = same_start (grown counts opened) closed opened counts closed opened m opened h (λ k below. size_other k (λ e. omega arith))

  pub start_behind : (m : ℕ) → opened < m → start_of (grown counts opened) closed opened m ≡ start_of counts closed opened m + 1
  start_behind zero h = absurd (omega arith)
  start_behind (suc m) h = go (eqb m opened) refl (λ k. start_behind m k)
    where
      go : (b : Bool) → eqb m opened ≡ b → (opened < m → start_of (grown counts opened) closed opened m ≡ start_of counts closed opened m + 1)
          → start_of (grown counts opened) closed opened (suc m) ≡ start_of counts closed opened (suc m) + 1
      go true e below =
          let is : m ≡ opened = eqb-true m opened e in
          rw (start_next, start_next, is, start_before opened (omega arith), size_grown) (omega arith)
      go false e below =
          let other : m ≡ opened → ⊥ = eqb-false m opened e in
          let moved = below (let z : opened < m = omega arith in z) in
          rw (start_next, start_next, moved, size_other m other) (omega arith)

-- OPEN of a macro that is not in use, while none is open.
pub opened_sizes : (counts : List ℕ) (closed : List Bool) (opened m : ℕ) → length counts ≡ 8 → 8 ≤ opened → m < 8 → get_or closed m false ≡ false
    → SameSizes (set counts m 0) closed m counts closed opened 8
unfolding size_of
opened_sizes counts closed opened m many none h free k below = go (eqb m k) refl
  where
    away : eqb opened k ≡ false
    away = ne_eqb opened k (λ e. omega arith)

    go : (b : Bool) → eqb m k ≡ b → cond (in_use closed m k) (get_or (set counts m 0) k 0) 0 ≡ cond (in_use closed opened k) (get_or counts k 0) 0
    go true e =
        let is : k ≡ m = sym (eqb-true m k e) in
        rw (away, is, free, eq-eqb m m refl, get_or-set_same counts m 0 0 (omega arith))
    go false e =
        let other : k ≡ m → ⊥ = λ z. eqb-false m k e (sym z) in
        rw (away, e, get_or-set_other counts m k 0 0 other)

-- CLOSE.
pub closed_sizes : (counts : List ℕ) (closed : List Bool) (opened : ℕ) → length closed ≡ 8
    → SameSizes counts (set closed opened true) 255 counts closed opened 8
unfolding size_of
closed_sizes counts closed opened many k below = go (eqb opened k) refl
  where
    away : eqb 255 k ≡ false
    away = ne_eqb 255 k (λ e. omega arith)

    go : (b : Bool) → eqb opened k ≡ b
        → cond (in_use (set closed opened true) 255 k) (get_or counts k 0) 0 ≡ cond (in_use closed opened k) (get_or counts k 0) 0
    go true e =
        let is : opened ≡ k = eqb-true opened k e in
        rw (away, e, is, get_or-set_same closed k true false (omega arith), or-true)
    go false e =
        let other : k ≡ opened → ⊥ = λ z. eqb-false opened k e (sym z) in
        rw (away, e, get_or-set_other closed opened k true false other)
