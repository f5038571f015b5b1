-- 02, Q-12: two lists joined, where no code 1, 2 or 3 occurs in the first. A walk finds the first one's commands, each with the second list behind it,
-- and then the second one's.
use Prim.Native.Nat.{ℕ, zero, suc, ◌+◌, ◌≤◌, ◌<◌}
use mathlib.Core.Path.{◌≡◌, refl, sym, ap, ◌∙◌}
use mathlib.Core.Logic.{◌↔◌}
use mathlib.Core.List.{List, [], ◌∷◌, ◌++◌, map}
use mathlib.Core.Bool.{Bool, true, false, ◌&&◌, false≢true}
use native.Mathlib.Omega.{arith}
use lib.ListN.{length, get_or, drop, length-append, length-map}
use lib.Seq.{drop-append-le}
use lib.Dec.{eqb}
use borrow.Author.Tests.{eqb-true, eq-eqb}
use Rattle.wire.specs.Read.{reach_code, span_of}
use Rattle.wire.proofs.Answers.{reaches}
use Rattle.wire.proofs.Local.{reaching, reaches_on, spans_on}
use Rattle.walk.specs.Walk.{rests, all_reach, unbroken}
use Rattle.walk.proofs.Spans.{span_within}
use Rattle.walk.proofs.Rests.{behind, fewer, rests_none, rests_more}

-- The same bytes behind each rest.
abbrev pub each_then : List ℕ → List (List ℕ) → List (List ℕ)
each_then t rs = map (λ r. r ++ t) rs

-- Where all of some rests pass codes 1 to 3, the first does and the others do.
pub reach_both : (r : List ℕ) (rs : List (List ℕ)) → all_reach (r ∷ rs) ≡ true → (reach_code r ≡ 0) × (all_reach rs ≡ true)
reach_both r rs all = go (eqb (reach_code r) 0) refl all
  where
    go : (t : Bool) → eqb (reach_code r) 0 ≡ t → (t && all_reach rs) ≡ true → (reach_code r ≡ 0) × (all_reach rs ≡ true)
    go true is rest = (eqb-true (reach_code r) 0 is, rest)
    go false is rest = absurd (false≢true rest)

-- So does each of them, and then all do.
pub reach_each : (rs : List (List ℕ)) → (all_reach rs ≡ true) ↔ ((k : ℕ) → k < length rs → reach_code (get_or rs k []) ≡ 0)
reach_each rs = (down rs, up rs)
  where
    down : (rs : List (List ℕ)) → all_reach rs ≡ true → (k : ℕ) → k < length rs → reach_code (get_or rs k []) ≡ 0
    down [] all k there = absurd (omega arith)
    down (r ∷ rs) all zero there = (reach_both r rs all).0
    down (r ∷ rs) all (suc k) there = down rs (reach_both r rs all).1 k (omega arith)

    up : (rs : List (List ℕ)) → ((k : ℕ) → k < length rs → reach_code (get_or rs k []) ≡ 0) → all_reach rs ≡ true
    up [] each = refl
    up (r ∷ rs) each = rw (eq-eqb (reach_code r) 0 (each 0 (omega arith))) (up rs (λ k there. each (suc k) (omega arith)))

-- A whole command at the front of the first list, and what is left behind it.
reach_on : (r t : List ℕ) → reach_code r ≡ 0 → reach_code (r ++ t) ≡ 0
reach_on r t passed = reaching (r ++ t) (reaches_on r t (reaches r passed))

behind_on : (s t : List ℕ) → reach_code s ≡ 0 → behind (s ++ t) ≡ behind s ++ t
behind_on s t passed =
    ap (λ n. drop n (s ++ t)) (spans_on s t (reaches s passed)) ∙ drop-append-le (span_of s) s t (span_within s)

joined_in : (n : ℕ) (s t : List ℕ) → length s ≤ n → unbroken s ≡ true → rests (s ++ t) ≡ each_then t (rests s) ++ rests t
joined_in zero [] t h whole = rw rests_none
joined_in zero (b ∷ bs) t h whole = absurd (omega arith)
joined_in (suc n) [] t h whole = rw rests_none
joined_in (suc n) (b ∷ bs) t h whole =
    let s = b ∷ bs in
    let more = rests_more s (omega arith) in
    let parts = reach_both s (rests (behind s)) (ap all_reach (sym more) ∙ whole) in
    rests_more (s ++ t) (omega arith)
    ∙ ap (λ l. (s ++ t) ∷ rests l) (behind_on s t parts.0)
    ∙ ap (λ l. (s ++ t) ∷ l) (joined_in n (behind s) t (omega (arith, fewer s (omega arith))) parts.1)
    ∙ ap (λ l. each_then t l ++ rests t) (sym more)

pub rests_joined : (s t : List ℕ) → unbroken s ≡ true → rests (s ++ t) ≡ each_then t (rests s) ++ rests t
rests_joined s t whole = joined_in (length s) s t (omega arith) whole

-- So they have the commands of both.
pub joined_count : (s t : List ℕ) → unbroken s ≡ true → length (rests (s ++ t)) ≡ length (rests s) + length (rests t)
joined_count s t whole =
    ap length (rests_joined s t whole) ∙ length-append (each_then t (rests s)) (rests t) ∙ ap (λ n. n + length (rests t)) (length-map (rests s) (λ r. r ++ t))

-- And where no such code occurs in either, none occurs in both joined.
reach_append : (t : List ℕ) (rs ts : List (List ℕ)) → all_reach rs ≡ true → all_reach ts ≡ true → all_reach (each_then t rs ++ ts) ≡ true
reach_append t [] ts all later = later
reach_append t (r ∷ rs) ts all later =
    let parts = reach_both r rs all in
    rw (eq-eqb (reach_code (r ++ t)) 0 (reach_on r t parts.0)) (reach_append t rs ts parts.1 later)

pub unbroken_joined : (s t : List ℕ) → unbroken s ≡ true → unbroken t ≡ true → unbroken (s ++ t) ≡ true
unbroken_joined s t whole later = ap all_reach (rests_joined s t whole) ∙ reach_append t (rests s) (rests t) whole later
