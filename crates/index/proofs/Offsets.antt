-- The tests of the offsets that are handed in: rising and lying in the list, one offset at a time, and the four answers.
use Prim.Native.Nat.{ℕ, zero, suc, ◌+◌, ◌-◌, ◌≤◌, ◌<◌}
use mathlib.Core.Path.{◌≡◌, refl, sym, ap, ◌∙◌}
use mathlib.Core.List.{List, [], ◌∷◌}
use mathlib.Core.Bool.{Bool, true, false, not, ◌&&◌, ◌||◌, false≢true}
use native.Mathlib.Omega.{arith}
use native.Mathlib.Numerals.{add-one}
use lib.ListN.{length, get_or, drop, drop_of_length-le}
use lib.Seq.{drop-cons}
use lib.Dec.{leb, ltb}
use borrow.Author.Tests.{ltb-true, ne_eqb, le-leb, lt-leb, le-ltb, lt-ltb}
use Rattle.index.specs.Index.{last_of}
use Rattle.index.specs.Answers.{from_zero, rising, within, unfit}
use Rattle.index.specs.Steps.{climbing}

-- The offsets so far climb: those that are left decide.
module _ (old : List ℕ) (end i least : ℕ) (same : climbing least end (drop i old) ≡ climbing 0 end old) where
  module _ (more : i < length old) (o : ℕ) (is : o ≡ get_or old i 0) where
    here : drop i old ≡ o ∷ drop (i + 1) old
    here = drop-cons old i 0 more ∙ rw (add-one, is)

    pub too_low : o < least → false ≡ climbing 0 end old
    unfolding climbing
    too_low low = sym (rw (here, lt-leb least o low)) ∙ same

    pub too_high : least ≤ o → end ≤ o → false ≡ climbing 0 end old
    unfolding climbing
    too_high high out = sym (rw (here, le-leb least o high, le-ltb o end out)) ∙ same

    pub climbs_on : least ≤ o → o < end → climbing (o + 1) end (drop (i + 1) old) ≡ climbing 0 end old
    unfolding climbing
    climbs_on high inside = sym (rw (here, le-leb least o high, lt-ltb o end inside)) ∙ same

  pub all_climb : length old ≤ i → true ≡ climbing 0 end old
  unfolding climbing
  all_climb past = sym (rw (drop_of_length-le old {i = i} past)) ∙ same

-- Offsets climb where the first is not too low, they rise, and they lie in the list.
abbrev not_below : ℕ → List ℕ → Bool
not_below least [] = true
not_below least (o ∷ os) = leb least o

regrouped : (a b c d : Bool) → (a && (b && (c && d))) ≡ ((a && c) && (b && d))
regrouped false b c d = refl
regrouped true true c d = refl
regrouped true false true d = refl
regrouped true false false d = refl

climbs_from : (least end : ℕ) (os : List ℕ) → climbing least end os ≡ ((not_below least os && rising os) && within end os)
unfolding climbing
climbs_from least end [] = refl
climbs_from least end (o ∷ []) = regrouped (leb least o) (ltb o end) true true
climbs_from least end (o ∷ p ∷ os) =
    let above : leb (o + 1) p ≡ ltb o p = rw add-one in
    ap (λ b. leb least o && (ltb o end && b)) (climbs_from (o + 1) end (p ∷ os))
    ∙ regrouped (leb least o) (ltb o end) (leb (o + 1) p && rising (p ∷ os)) (within end (p ∷ os))
    ∙ ap (λ b. (leb least o && (b && rising (p ∷ os))) && (ltb o end && within end (p ∷ os))) above

pub climbing_all : (end : ℕ) (os : List ℕ) → climbing 0 end os ≡ (rising os && within end os)
climbing_all end os = climbs_from 0 end os ∙ ap (λ b. (b && rising os) && within end os) (low os)
  where
    low : (os : List ℕ) → not_below 0 os ≡ true
    low [] = refl
    low (o ∷ os) = le-leb 0 o (omega arith)

pub either : (a b : Bool) → not (a && b) ≡ (not a || not b)
either true b = refl
either false b = refl

-- The first of some offsets, and the last of none.
first_zero : (old : List ℕ) → get_or old 0 0 ≡ 0 → from_zero old ≡ true
first_zero [] e = refl
first_zero (o ∷ os) e = rw e

first_other : (old : List ℕ) → (get_or old 0 0 ≡ 0 → ⊥) → from_zero old ≡ false
first_other [] h = absurd (h refl)
first_other (o ∷ os) h = ne_eqb o 0 h

pub none_last : (old : List ℕ) → length old ≡ 0 → 0 ≡ last_of old
none_last [] e = refl
none_last (o ∷ os) e = absurd (omega arith)

-- The four answers.
pub none_fit : (end : ℕ) (old : List ℕ) → length old ≡ 0 → false ≡ unfit end old
none_fit end [] e = refl
none_fit end (o ∷ os) e = absurd (omega arith)

module _ (end : ℕ) (old : List ℕ) where
  pub too_many : 512 < length old → true ≡ unfit end old
  too_many more = rw (lt-ltb 512 (length old) more)

  module _ (few : length old ≤ 512) where
    pub not_first : (get_or old 0 0 ≡ 0 → ⊥) → true ≡ unfit end old
    not_first other = rw (le-ltb 512 (length old) few, first_other old other)

    pub by_climb : get_or old 0 0 ≡ 0 → (r : Bool) → r ≡ climbing 0 end old → not r ≡ unfit end old
    by_climb first r is =
        rw (le-ltb 512 (length old) few, first_zero old first)
        (ap not (is ∙ climbing_all end old) ∙ either (rising old) (within end old))

-- The last of offsets that are taken lies in the list.
last_in : (end : ℕ) (old : List ℕ) → within end old ≡ true → last_of old ≤ end
last_in end [] e = omega arith
last_in end (o ∷ os) e =
    let last : length (o ∷ os) - 1 ≡ length os = omega arith in
    omega (arith, lies end (o ∷ os) (length os) e (omega arith), ap (λ k. get_or (o ∷ os) k 0) last)
  where
    halves : (a b : Bool) → (a && b) ≡ true → (a ≡ true) × (b ≡ true)
    halves true b e = (refl, e)
    halves false b e = absurd (false≢true e)

    lies : (end : ℕ) (old : List ℕ) (k : ℕ) → within end old ≡ true → k < length old → get_or old k 0 < end
    lies end [] k e there = absurd (omega arith)
    lies end (o ∷ os) zero e there = ltb-true o end (halves (ltb o end) (within end os) e).0
    lies end (o ∷ os) (suc k) e there = lies end os k (halves (ltb o end) (within end os) e).1 (omega arith)

pub fit_last : (end : ℕ) (old : List ℕ) → unfit end old ≡ false → last_of old ≤ end
fit_last end old e = last_in end old (fourth (ltb 512 (length old)) (not (from_zero old)) (not (rising old)) (within end old) e)
  where
    fourth : (a b c d : Bool) → (a || (b || (c || not d))) ≡ false → d ≡ true
    fourth true b c d e = absurd (false≢true (sym e))
    fourth false true c d e = absurd (false≢true (sym e))
    fourth false false true d e = absurd (false≢true (sym e))
    fourth false false false true e = refl
    fourth false false false false e = absurd (false≢true (sym e))
