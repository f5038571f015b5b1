-- The span of two lists one after another, also where it is told up to 601 seconds and 65 entries.
use Prim.Native.Nat.{ℕ, suc, ◌+◌, ◌≤◌, min, max}
use mathlib.Core.Path.{◌≡◌, refl, sym, ap, ◌∙◌}
use mathlib.Core.List.{List, [], ◌∷◌, ◌++◌}
use mathlib.Core.Bool.{Bool, true, false, cond, ◌||◌}
use native.Mathlib.Omega.{arith}
use lib.Dec.{ltb}
use Rattle.store.specs.declared.spans.Span.{Span}
use Rattle.store.specs.WrittenOut.{Item}
use Rattle.store.specs.SpanSteps.{waits_of, waited_of, first_in, last_in, most_of, span_of, grown, both_of, capped_of}
use Rattle.store.proofs.Seconds.{none_same}

waits_join : (xs ys : List Item) → waits_of (xs ++ ys) ≡ waits_of xs + waits_of ys
unfolding waits_of
waits_join [] ys = omega arith
waits_join (Item.entry kind ∷ xs) ys = waits_join xs ys
waits_join (Item.wait n ∷ xs) ys = rw (waits_join xs ys) (omega arith)

or_assoc : (a b c : Bool) → (a || (b || c)) ≡ ((a || b) || c)
or_assoc true b c = refl
or_assoc false b c = refl

some_join : (xs ys : List Item) → waited_of (xs ++ ys) ≡ (waited_of xs || waited_of ys)
unfolding waited_of
some_join [] ys = refl
some_join (Item.entry kind ∷ xs) ys = some_join xs ys
some_join (Item.wait n ∷ xs) ys = rw (some_join xs ys) (or_assoc (ltb 0 n) (waited_of xs) (waited_of ys))

first_join : (xs ys : List Item) → first_in (xs ++ ys) ≡ grown (waited_of xs) (first_in xs) (first_in ys)
unfolding first_in waited_of
first_join [] ys = omega arith
first_join (Item.entry kind ∷ xs) ys = ap suc (first_join xs ys) ∙ go (waited_of xs)
  where
    go : (b : Bool) → suc (cond b (first_in xs) (first_in xs + first_in ys)) ≡ cond b (suc (first_in xs)) (suc (first_in xs) + first_in ys)
    go true = refl
    go false = omega arith
first_join (Item.wait n ∷ xs) ys = rw (first_join xs ys) (go (ltb 0 n))
  where
    go : (b : Bool)
        → cond b 0 (cond (waited_of xs) (first_in xs) (first_in xs + first_in ys))
        ≡ cond (b || waited_of xs) (cond b 0 (first_in xs)) (cond b 0 (first_in xs) + first_in ys)
    go true = refl
    go false = refl

last_join : (xs ys : List Item) → last_in (xs ++ ys) ≡ grown (waited_of ys) (last_in ys) (last_in xs)
unfolding last_in
last_join [] ys = go (waited_of ys)
  where
    go : (b : Bool) → last_in ys ≡ cond b (last_in ys) (last_in ys + 0)
    go true = refl
    go false = omega arith
last_join (Item.entry kind ∷ xs) ys = rw (some_join xs ys, last_join xs ys) (go (waited_of xs) (waited_of ys))
  where
    go : (a b : Bool)
        → cond (a || b) (cond b (last_in ys) (last_in ys + last_in xs)) (suc (cond b (last_in ys) (last_in ys + last_in xs)))
        ≡ cond b (last_in ys) (last_in ys + cond a (last_in xs) (suc (last_in xs)))
    go true true = refl
    go true false = refl
    go false true = refl
    go false false = omega arith
last_join (Item.wait n ∷ xs) ys = last_join xs ys

max_three : (a b c d : ℕ) → max a (max (max b c) d) ≡ max (max (max a b) c) d
max_three a b c d = omega arith

max_more : (f b c d l : ℕ) → f ≡ l → max (suc (f + d)) (max (max b c) (l + d)) ≡ max (max (max (suc f) b) c) (suc l + d)
max_more f b c d l e = omega arith

first_most : (ys : List Item) → first_in ys ≤ most_of ys
unfolding first_in most_of
first_most [] = omega arith
first_most (Item.entry kind ∷ ys) = omega arith
first_most (Item.wait n ∷ ys) = go (ltb 0 n) (first_most ys)
  where
    go : (b : Bool) → first_in ys ≤ most_of ys → cond b 0 (first_in ys) ≤ most_of ys
    go true h = omega arith
    go false h = h

most_join : (xs ys : List Item) → most_of (xs ++ ys) ≡ max (max (most_of xs) (most_of ys)) (last_in xs + first_in ys)
unfolding most_of last_in
most_join [] ys = least ys
  where
    least : (ys : List Item) → most_of ys ≡ max (max 0 (most_of ys)) (0 + first_in ys)
    least ys = omega (arith, first_most ys)
most_join (Item.entry kind ∷ xs) ys = rw (first_join xs ys, most_join xs ys) (go (waited_of xs) refl)
  where
    go : (b : Bool) → waited_of xs ≡ b
        → max (suc (cond b (first_in xs) (first_in xs + first_in ys))) (max (max (most_of xs) (most_of ys)) (last_in xs + first_in ys))
        ≡ max (max (max (suc (first_in xs)) (most_of xs)) (most_of ys)) (cond b (last_in xs) (suc (last_in xs)) + first_in ys)
    go true e = max_three (suc (first_in xs)) (most_of xs) (most_of ys) (last_in xs + first_in ys)
    go false e = max_more (first_in xs) (most_of xs) (most_of ys) (first_in ys) (last_in xs) (none_same xs e)
most_join (Item.wait n ∷ xs) ys = most_join xs ys

-- The span of a joined list from the spans of its parts.
pub span_join : (xs ys : List Item) → span_of (xs ++ ys) ≡ both_of (span_of xs) (span_of ys)
span_join xs ys = rw (waits_join xs ys, first_join xs ys, last_join xs ys, most_join xs ys, some_join xs ys)

-- The same where the parts are told up to 601 and 65.
cap_sum : (x y : ℕ) → min 601 (min 601 x + min 601 y) ≡ min 601 (x + y)
cap_sum x y = omega arith

cap_few : (x y : ℕ) → min 65 (min 65 x + min 65 y) ≡ min 65 (x + y)
cap_few x y = omega arith

cap_grown : (b : Bool) (x y : ℕ) → min 65 (grown b (min 65 x) (min 65 y)) ≡ min 65 (grown b x y)
cap_grown true x y = omega arith
cap_grown false x y = cap_few x y

cap_max : (x y : ℕ) → min 65 (max x y) ≡ max (min 65 x) (min 65 y)
cap_max x y = omega arith

cap_most : (a b l f : ℕ) → min 65 (max (max (min 65 a) (min 65 b)) (min 65 l + min 65 f)) ≡ min 65 (max (max a b) (l + f))
cap_most a b l f =
    let one : max (min 65 a) (min 65 b) ≡ min 65 (max a b) = sym (cap_max a b) in
    let two : min 65 (min 65 (max a b)) ≡ min 65 (max a b) = omega arith in
    cap_max (max (min 65 a) (min 65 b)) (min 65 l + min 65 f)
    ∙ ap (λ n. max (min 65 n) (min 65 (min 65 l + min 65 f))) one
    ∙ ap (λ n. max n (min 65 (min 65 l + min 65 f))) two
    ∙ ap (λ n. max (min 65 (max a b)) n) (cap_few l f)
    ∙ sym (cap_max (max a b) (l + f))

pub capped_both : (a b : Span) → capped_of (both_of (capped_of a) (capped_of b)) ≡ capped_of (both_of a b)
capped_both a b =
    rw (
      cap_sum a.waits b.waits,
      cap_grown a.waited a.first b.first,
      cap_grown b.waited b.last a.last,
      cap_most a.most b.most a.last b.first,
    )

pub cap_last : (x y : ℕ) → min 65 (max x (min 65 y)) ≡ min 65 (max x y)
cap_last x y = omega arith
