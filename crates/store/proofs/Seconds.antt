-- A list second by second: how many seconds it has and the most entries in one, as its span tells them.
use Prim.Native.Nat.{ℕ, zero, suc, ◌+◌, ◌≤◌, max}
use mathlib.Core.Path.{◌≡◌, refl, sym, ap, ◌∙◌}
use mathlib.Core.List.{List, [], ◌∷◌, ◌++◌}
use mathlib.Core.Bool.{Bool, true, false, cond, ◌||◌}
use native.Mathlib.Omega.{arith}
use lib.ListN.{length, get_or, replicate, length-append, length-replicate}
use lib.Dec.{ltb}
use borrow.Author.Tests.{lt-ltb, ltb-true, ltb-false}
use Rattle.wire.specs.declared.kinds.Kind.{Kind}
use Rattle.store.specs.WrittenOut.{Item, in_first, seconds, most_in}
use Rattle.store.specs.SpanSteps.{waits_of, waited_of, first_in, last_in, most_of, span_of, seconds_of}

-- A list with a WAIT has a second; one without has none, and its first entries are its last.
pub some_waits : (ks : List Item) → waited_of ks ≡ true → 1 ≤ waits_of ks
unfolding waited_of waits_of
some_waits [] e = absurd (let z : ◌≡◌ {A = ℕ} 0 1 = cc in omega arith)
some_waits (Item.entry kind ∷ ks) e = some_waits ks e
some_waits (Item.wait n ∷ ks) e = go (ltb 0 n) refl e (λ s. some_waits ks s)
  where
    go : (b : Bool) → ltb 0 n ≡ b → (b || waited_of ks) ≡ true → (waited_of ks ≡ true → 1 ≤ waits_of ks) → 1 ≤ n + waits_of ks
    go true t e rest = omega (arith, ltb-true 0 n t)
    go false t e rest = omega (arith, rest e)

pub none_waits : (ks : List Item) → waited_of ks ≡ false → waits_of ks ≡ 0
unfolding waited_of waits_of
none_waits [] e = refl
none_waits (Item.entry kind ∷ ks) e = none_waits ks e
none_waits (Item.wait n ∷ ks) e = go (ltb 0 n) refl e (λ s. none_waits ks s)
  where
    go : (b : Bool) → ltb 0 n ≡ b → (b || waited_of ks) ≡ false → (waited_of ks ≡ false → waits_of ks ≡ 0) → n + waits_of ks ≡ 0
    go true t e rest = absurd (let z : ◌≡◌ {A = ℕ} 0 1 = cc in omega arith)
    go false t e rest = omega (arith, rest e, ltb-false 0 n t)

pub none_same : (ks : List Item) → waited_of ks ≡ false → first_in ks ≡ last_in ks
unfolding waited_of first_in last_in
none_same [] e = refl
none_same (Item.entry kind ∷ ks) e = rw e (ap suc (none_same ks e))
none_same (Item.wait n ∷ ks) e = go (ltb 0 n) e (λ s. none_same ks s)
  where
    go : (b : Bool) → (b || waited_of ks) ≡ false → (waited_of ks ≡ false → first_in ks ≡ last_in ks) → cond b 0 (first_in ks) ≡ last_in ks
    go true e rest = absurd (let z : ◌≡◌ {A = ℕ} 0 1 = cc in omega arith)
    go false e rest = rest e

pub length_in_first : (kind : Kind) (gs : List (List Kind)) → length (in_first kind gs) ≡ max 1 (length gs)
length_in_first kind [] = refl
length_in_first kind (g ∷ gs) = omega arith

pub length_closes : (n : ℕ) (gs : List (List Kind)) → length ((replicate n [] ++ gs)) ≡ n + length gs
length_closes n gs = length-append (replicate n []) gs ∙ ap (λ k. k + length gs) (length-replicate n [])

abbrev lasting : ℕ → ℕ → ℕ
lasting waits last = cond (ltb 0 last) (waits + 1) waits

lasting-add : (n waits last : ℕ) → n + lasting waits last ≡ lasting (n + waits) last
lasting-add n waits last = go (ltb 0 last)
  where
    go : (b : Bool) → n + cond b (waits + 1) waits ≡ cond b (n + waits + 1) (n + waits)
    go true = omega arith
    go false = refl

lasting_some : (waits last : ℕ) → 1 ≤ waits → max 1 (lasting waits last) ≡ lasting waits last
lasting_some waits last h = go (ltb 0 last)
  where
    go : (b : Bool) → max 1 (cond b (waits + 1) waits) ≡ cond b (waits + 1) waits
    go true = omega arith
    go false = omega arith

lasting_none : (waits last : ℕ) → waits ≡ 0 → max 1 (lasting waits last) ≡ lasting waits (suc last)
lasting_none waits last h = rw (lt-ltb 0 (suc last) (omega arith)) (go (ltb 0 last))
  where
    go : (b : Bool) → max 1 (cond b (waits + 1) waits) ≡ waits + 1
    go true = omega arith
    go false = omega arith

-- The number of seconds is the sum of the waits, and one more if an entry stands behind the last WAIT.
pub seconds-length : (ks : List Item) → length (seconds ks) ≡ seconds_of (span_of ks)
unfolding seconds waits_of last_in
seconds-length [] = refl
seconds-length (Item.entry kind ∷ ks) =
    length_in_first kind (seconds ks) ∙ ap (λ n. max 1 n) (seconds-length ks) ∙ go (waited_of ks) refl
  where
    go : (b : Bool) → waited_of ks ≡ b → max 1 (lasting (waits_of ks) (last_in ks)) ≡ lasting (waits_of ks) (cond b (last_in ks) (suc (last_in ks)))
    go true e = lasting_some (waits_of ks) (last_in ks) (some_waits ks e)
    go false e = lasting_none (waits_of ks) (last_in ks) (none_waits ks e)
seconds-length (Item.wait n ∷ ks) =
    length_closes n (seconds ks) ∙ ap (λ k. n + k) (seconds-length ks) ∙ lasting-add n (waits_of ks) (last_in ks)

-- Second 0 has the entries before the first WAIT.
pub head_in_first : (kind : Kind) (gs : List (List Kind)) → get_or (in_first kind gs) 0 [] ≡ kind ∷ get_or gs 0 []
head_in_first kind [] = refl
head_in_first kind (g ∷ gs) = refl

pub first_head : (ks : List Item) → first_in ks ≡ length (get_or (seconds ks) 0 [])
unfolding first_in seconds
first_head [] = refl
first_head (Item.entry kind ∷ ks) = ap suc (first_head ks) ∙ ap length (sym (head_in_first kind (seconds ks)))
first_head (Item.wait zero ∷ ks) = first_head ks
first_head (Item.wait (suc n) ∷ ks) = rw (lt-ltb 0 (suc n) (omega arith))

most_in_first : (kind : Kind) (gs : List (List Kind)) → most_in (in_first kind gs) ≡ max (suc (length (get_or gs 0 []))) (most_in gs)
unfolding most_in
most_in_first kind [] = refl
most_in_first kind (g ∷ gs) = omega arith

most_closes : (n : ℕ) (gs : List (List Kind)) → most_in ((replicate n [] ++ gs)) ≡ most_in gs
unfolding most_in
most_closes zero gs = refl
most_closes (suc n) gs = rw (most_closes n gs) (omega arith)

-- `most_of` is the most entries in any second.
pub most_told : (ks : List Item) → most_of ks ≡ most_in (seconds ks)
unfolding most_of seconds most_in
most_told [] = refl
most_told (Item.entry kind ∷ ks) = rw (first_head ks, most_told ks) (sym (most_in_first kind (seconds ks)))
most_told (Item.wait n ∷ ks) = most_told ks ∙ sym (most_closes n (seconds ks))
