-- A number in decimal is found again by a reader of numbers, and a goal by a reader of goals.
use Prim.Native.Nat.{ℕ, zero, suc, ◌+◌, ◌/◌, ◌%◌, ◌-◌, ◌≤◌, ◌<◌}
use mathlib.Core.Path.{◌≡◌, refl, ap, ◌∙◌}
use mathlib.Core.List.{List, [], ◌∷◌, ◌++◌, append-nil}
use mathlib.Core.Bool.{Bool, true, false, cond}
use native.Mathlib.Omega.{arith}
use lib.ListN.{length, take, drop}
use lib.Seq.{take_at, drop_at}
use lib.Dec.{ltb}
use borrow.Author.Tests.{lt-ltb, ltb-true, ltb-false, le-leb, eq-eqb}
use Rattle.words.specs.Text.{ascii, decimal_in, decimal, value_from}
use Rattle.text.specs.Lister.{goal_text}
use Rattle.text.specs.Number.{is_digit, digits_in, whole_of, fraction_of, quarters_of, quarters_with}
use Rattle.words.proofs.Decimal.{digit_of, digits_below, digits_some, value_in}
use Rattle.std.specs.Prelude.{Some}

-- Digits and nothing else.
abbrev pub AllDigits : List ℕ → Type 0
AllDigits [] = Unit {0}
AllDigits (d ∷ ds) = (is_digit d ≡ true) × AllDigits ds

digit_is : (n : ℕ) → is_digit (digit_of n) ≡ true
digit_is n = simp (le-leb 48 (digit_of n) (omega arith), le-leb (digit_of n) 57 (omega arith))

all_append : (xs : List ℕ) (d : ℕ) → AllDigits xs → is_digit d ≡ true → AllDigits (xs ++ (d ∷ []))
all_append [] d all one = (one, tt)
all_append (x ∷ xs) d all one = (all.0, all_append xs d all.1 one)

pub all_digits : (most n : ℕ) → AllDigits (decimal_in most n)
unfolding decimal_in
all_digits zero n = tt
all_digits (suc most) n = go (ltb n 10) (all_digits most (n / 10))
  where
    go : (b : Bool) → AllDigits (decimal_in most (n / 10)) → AllDigits (cond b [] (decimal_in most (n / 10)) ++ (digit_of n ∷ []))
    go true all = (digit_is n, tt)
    go false all = all_append (decimal_in most (n / 10)) (digit_of n) all (digit_is n)

-- A reader takes all digits that it may, and none where none follows.
pub takes_all : (most : ℕ) (xs ys : List ℕ) → AllDigits xs → length xs ≤ most → digits_in most (xs ++ ys) ≡ length xs + digits_in (most - length xs) ys
unfolding digits_in
takes_all most [] ys all few =
    let left : most ≡ most - 0 = omega arith in
    let same : digits_in most ys ≡ digits_in (most - 0) ys = ap (λ k. digits_in k ys) left in
    omega arith
takes_all zero (x ∷ xs) ys all few = absurd (omega arith)
takes_all (suc most) (x ∷ xs) ys all few =
    let rest = takes_all most xs ys all.1 (omega arith) in
    let left : most - length xs ≡ suc most - suc (length xs) = omega arith in
    let same : digits_in (most - length xs) ys ≡ digits_in (suc most - suc (length xs)) ys = ap (λ k. digits_in k ys) left in
    rw all.0 (omega arith)

-- Nothing that a reader would take.
pub record Ends (ys : List ℕ) : Type 0 where
  pub none : (most : ℕ) → digits_in most ys ≡ 0

pub ends_nil : Ends []
unfolding digits_in
ends_nil = record { none = go }
  where
    go : (most : ℕ) → digits_in most [] ≡ 0
    go zero = refl
    go (suc most) = refl

pub ends_dot : (s : List ℕ) → Ends (46 ∷ s)
unfolding digits_in
ends_dot s = record { none = go }
  where
    go : (most : ℕ) → digits_in most (46 ∷ s) ≡ 0
    go zero = refl
    go (suc most) = refl

module _ (n : ℕ) (small : n < 100000) (ys : List ℕ) (ends : Ends ys) where
  few : length (decimal n) ≤ 5
  few = digits_below 10 4 n small

  pub counted : digits_in 5 (decimal n ++ ys) ≡ length (decimal n)
  counted =
      takes_all 5 (decimal n) ys (all_digits 10 n) few
      ∙ omega (arith, ends.none (5 - length (decimal n)))

  pub valued : value_from 0 (take (digits_in 5 (decimal n ++ ys)) (decimal n ++ ys)) ≡ n
  valued = rw (counted, take_at (decimal n) ys (length (decimal n)) refl) (value_in 10 n (omega arith))

-- What was printed is read as the number that it was.
pub whole_back : (n : ℕ) → n < 100000 → whole_of (decimal n) ≡ Some n
unfolding whole_of
whole_back n small =
    let same : decimal n ++ [] ≡ decimal n = append-nil (decimal n) in
    let count : digits_in 5 (decimal n) ≡ length (decimal n) = rw same at (counted n small [] ends_nil) in
    let value : value_from 0 (take (digits_in 5 (decimal n)) (decimal n)) ≡ n = rw same at (valued n small [] ends_nil) in
    simp (lt-ltb 0 (digits_in 5 (decimal n)) (omega (arith, digits_some n)), eq-eqb _ _ count, value)

pub quarters_read : (n : ℕ) → n < 100000 → (ys : List ℕ) → Ends ys → quarters_of (decimal n ++ ys) ≡ quarters_with n (fraction_of ys)
unfolding quarters_of
quarters_read n small ys ends =
    let count = counted n small ys ends in
    let behind : drop (digits_in 5 (decimal n ++ ys)) (decimal n ++ ys) ≡ ys = rw count (drop_at (decimal n) ys (length (decimal n)) refl) in
    simp (lt-ltb 0 (digits_in 5 (decimal n ++ ys)) (omega (arith, count, digits_some n)), valued n small ys ends, behind)

pub goal_back : (q : ℕ) → q < 400000 → quarters_of (goal_text q) ≡ Some q
unfolding fraction_of
goal_back q small = go (ltb (q % 4) 1) (ltb (q % 4) 2) (ltb (q % 4) 3) refl refl refl
  where
    go : (a b c : Bool) → ltb (q % 4) 1 ≡ a → ltb (q % 4) 2 ≡ b → ltb (q % 4) 3 ≡ c
        → quarters_of (decimal (q / 4) ++ cond a [] (cond b (ascii ".25") (cond c (ascii ".5") (ascii ".75")))) ≡ Some q
    go true b c e1 e2 e3 = quarters_read (q / 4) (omega arith) [] ends_nil ∙ ap Some (omega (arith, ltb-true (q % 4) 1 e1))
    go false true c e1 e2 e3 =
        quarters_read (q / 4) (omega arith) (ascii ".25") (ends_dot _) ∙ ap Some (omega (arith, ltb-false (q % 4) 1 e1, ltb-true (q % 4) 2 e2))
    go false false true e1 e2 e3 =
        quarters_read (q / 4) (omega arith) (ascii ".5") (ends_dot _) ∙ ap Some (omega (arith, ltb-false (q % 4) 2 e2, ltb-true (q % 4) 3 e3))
    go false false false e1 e2 e3 =
        quarters_read (q / 4) (omega arith) (ascii ".75") (ends_dot _) ∙ ap Some (omega (arith, ltb-false (q % 4) 3 e3))
