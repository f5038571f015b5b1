-- Marks in a text: the first from a place on, and how many there are.
use Prim.Native.Nat.{ℕ, suc, ◌+◌, ◌<◌, ◌≤◌}
use mathlib.Core.Path.{◌≡◌, refl, sym, ap, ◌∙◌}
use mathlib.Core.List.{List, [], ◌∷◌}
use mathlib.Core.Bool.{Bool, true, false, cond}
use native.Mathlib.Omega.{arith}
use native.Mathlib.Numerals.{add-one}
use lib.ListN.{length, get_or, drop}
use lib.Seq.{drop-cons, drop-length}
use lib.Dec.{eqb, ltb}
use borrow.Author.Tests.{eq-eqb, ne_eqb, ltb-true, ltb-false}
use Rattle.text.specs.Steps.{run_of, count_of, up_to_three, behind_of}

pub record Run (mark : ℕ) (s : List ℕ) (i : ℕ) : Type 0 where
  pub within : i ≤ length s
  pub rest : i + run_of mark (drop i s) ≡ run_of mark s

module _ (mark : ℕ) (s : List ℕ) (i : ℕ) where
  run_step : i < length s → run_of mark (drop i s) ≡ cond (eqb (get_or s i 0) mark) 0 (suc (run_of mark (drop (suc i) s)))
  unfolding run_of
  run_step more = rw (drop-cons s i 0 more)

  pub run_ends : Run mark s i → i < length s → get_or s i 0 ≡ mark → i ≡ run_of mark s
  run_ends run more is = let here : run_of mark (drop i s) ≡ 0 = run_step more ∙ rw (eq-eqb _ _ is) in omega (arith, run.rest)

  pub run_goes : Run mark s i → i < length s → (get_or s i 0 ≡ mark → ⊥) → Run mark s (i + 1)
  run_goes run more other =
      let here : run_of mark (drop i s) ≡ suc (run_of mark (drop (suc i) s)) = run_step more ∙ rw (ne_eqb _ _ other) in
      record { within = omega arith; rest = rw add-one (omega (arith, run.rest)) }

  pub run_all : Run mark s i → length s ≤ i → i ≡ run_of mark s
  unfolding run_of
  run_all run end =
      let at : i ≡ length s = omega (arith, run.within) in
      let none : run_of mark (drop i s) ≡ 0 = ap (λ k. run_of mark (drop k s)) at ∙ ap (run_of mark) (drop-length s) in
      omega (arith, run.rest)

pub run_within : (mark : ℕ) (s : List ℕ) → run_of mark s ≤ length s
unfolding run_of
run_within mark [] = omega arith
run_within mark (b ∷ s) = go (eqb b mark) (run_within mark s)
  where
    go : (t : Bool) → run_of mark s ≤ length s → cond t 0 (suc (run_of mark s)) ≤ suc (length s)
    go true h = omega arith
    go false h = omega arith

-- There are the first mark and those behind it; or none, where the text ends before one.
pub count_more : (mark : ℕ) (s : List ℕ) → run_of mark s < length s → count_of mark s ≡ suc (count_of mark (behind_of mark s))
unfolding run_of count_of
count_more mark [] more = absurd (omega arith)
count_more mark (b ∷ s) more = go (eqb b mark) more (count_more mark s)
  where
    go : (t : Bool) → cond t 0 (suc (run_of mark s)) < suc (length s)
        → (run_of mark s < length s → count_of mark s ≡ suc (count_of mark (behind_of mark s)))
        → cond t (suc (count_of mark s)) (count_of mark s) ≡ suc (count_of mark (drop (cond t 0 (suc (run_of mark s)) + 1) (b ∷ s)))
    go true more rest = refl
    go false more rest =
        let next : suc (run_of mark s) + 1 ≡ suc (run_of mark s + 1) = omega arith in
        rw next (rest (omega arith))

pub count_none : (mark : ℕ) (s : List ℕ) → length s ≤ run_of mark s → count_of mark s ≡ 0
unfolding run_of count_of
count_none mark [] end = refl
count_none mark (b ∷ s) end = go (eqb b mark) end (count_none mark s)
  where
    go : (t : Bool) → suc (length s) ≤ cond t 0 (suc (run_of mark s)) → (length s ≤ run_of mark s → count_of mark s ≡ 0)
        → cond t (suc (count_of mark s)) (count_of mark s) ≡ 0
    go true end rest = absurd (omega arith)
    go false end rest = rest (omega arith)

-- Up to three marks: a first one, a second, a third. So a count of at most two is told apart from all others.
pub up_to_three_lem : (mark : ℕ) (s : List ℕ) (one two three : Bool)
    → ltb (run_of mark s) (length s) ≡ one
    → ltb (run_of mark (behind_of mark s)) (length (behind_of mark s)) ≡ two
    → ltb (run_of mark (behind_of mark (behind_of mark s))) (length (behind_of mark (behind_of mark s))) ≡ three
    → (n : ℕ) → n ≤ 2 → eqb (up_to_three one two three) n ≡ eqb (count_of mark s) n
up_to_three_lem mark s false two three p q r n few = rw (count_none mark s (ltb-false _ _ p))
up_to_three_lem mark s true false three p q r n few = rw (count_more mark s (ltb-true _ _ p), count_none mark (behind_of mark s) (ltb-false _ _ q))
up_to_three_lem mark s true true false p q r n few =
    rw (count_more mark s (ltb-true _ _ p), count_more mark (behind_of mark s) (ltb-true _ _ q), count_none mark (behind_of mark (behind_of mark s)) (ltb-false _ _ r))
up_to_three_lem mark s true true true p q r n few =
    let one = count_more mark s (ltb-true _ _ p) in
    let two = count_more mark (behind_of mark s) (ltb-true _ _ q) in
    let three = count_more mark (behind_of mark (behind_of mark s)) (ltb-true _ _ r) in
    ne_eqb 3 n (λ e. omega arith) ∙ sym (ne_eqb (count_of mark s) n (λ e. omega (arith, one, two, three)))
