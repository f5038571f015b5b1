-- A number in decimal: how its digits follow one another, how many they are, and that they say the number.
use Prim.Native.Nat.{ℕ, zero, suc, ◌+◌, ◌*◌, ◌/◌, ◌%◌, ◌-◌, ◌^◌, ◌≤◌, ◌<◌}
use Rattle.std.specs.Prelude.{Option, Some, None, IfSome, IfNone, unwrap_or}
use mathlib.Core.Path.{◌≡◌, refl, sym, ap, ◌∙◌}
use mathlib.Core.List.{List, [], ◌∷◌, ◌++◌}
use mathlib.Core.Bool.{Bool, true, false, cond}
use native.Mathlib.Omega.{arith}
use native.Mathlib.Nat.{pow-suc}
use lib.ListN.{length, get_or, length-append}
use lib.Dec.{ltb}
use borrow.Author.Tests.{lt-ltb, le-ltb, ltb-true, ltb-false}
use Rattle.words.specs.Text.{decimal_in, decimal, value_from}

-- The byte of a number's last digit.
abbrev pub digit_of : ℕ → ℕ
digit_of n = 48 + n % 10

-- A number below ten is one digit.
pub decimal_one : (n : ℕ) → n < 10 → decimal n ≡ digit_of n ∷ []
unfolding decimal_in
decimal_one n h = simp (lt-ltb n 10 h)

-- A tenth has room in one digit less.
pub tenth_small : (k n : ℕ) → n < 10 ^ suc k → n / 10 < 10 ^ k
tenth_small k n small = omega (arith, pow-suc 10 k)

-- Leave to use more digits than a number has changes nothing.
spare : (most n : ℕ) → n < 10 ^ suc most → decimal_in (suc (suc most)) n ≡ decimal_in (suc most) n
unfolding decimal_in
spare zero n h = simp (lt-ltb n 10 h)
spare (suc most) n h = ap (λ l. cond (ltb n 10) [] l ++ (digit_of n ∷ [])) (spare most (n / 10) (tenth_small (suc most) n h))

-- Any other is the digits of its tenth, and behind them its last.
pub decimal_more : (n : ℕ) → 10 ≤ n → n < 2 ^ 32 → decimal n ≡ decimal (n / 10) ++ (digit_of n ∷ [])
unfolding decimal_in
decimal_more n h small = sym (spare 9 n (omega arith)) ∙ simp (le-ltb n 10 h)

pub length-decimal_more : (n : ℕ) → 10 ≤ n → n < 2 ^ 32 → length (decimal n) ≡ length (decimal (n / 10)) + 1
length-decimal_more n h small = ap length (decimal_more n h small) ∙ length-append (decimal (n / 10)) (digit_of n ∷ [])

-- Every number has a digit.
pub digits_some : (n : ℕ) → 0 < length (decimal n)
unfolding decimal_in
digits_some n = simp length-append (omega arith)

-- No number has more digits than it may use.
pub digits_few : (most n : ℕ) → length (decimal_in most n) ≤ most
unfolding decimal_in
digits_few zero n = omega arith
digits_few (suc most) n = go (ltb n 10) (digits_few most (n / 10))
  where
    go : (b : Bool) → length (decimal_in most (n / 10)) ≤ most → length (cond b [] (decimal_in most (n / 10)) ++ (digit_of n ∷ [])) ≤ suc most
    go true few = omega arith
    go false few = simp length-append (omega arith)

-- A number below a power of ten has no more digits than that power's exponent.
pub digits_below : (most k n : ℕ) → n < 10 ^ suc k → length (decimal_in most n) ≤ suc k
unfolding decimal_in
digits_below zero k n small = omega arith
digits_below (suc most) zero n small = simp (lt-ltb n 10 small) (omega arith)
digits_below (suc most) (suc k) n small = go (ltb n 10) (digits_below most k (n / 10) (tenth_small (suc k) n small))
  where
    go : (b : Bool) → length (decimal_in most (n / 10)) ≤ suc k → length (cond b [] (decimal_in most (n / 10)) ++ (digit_of n ∷ [])) ≤ suc (suc k)
    go true few = omega arith
    go false few = simp length-append (omega arith)

-- One that is no smaller has more.
digits_above : (k n : ℕ) → 10 ^ k ≤ n → n < 2 ^ 32 → k < length (decimal n)
digits_above zero n large small = digits_some n
digits_above (suc k) n large small =
    let tenth : 10 ^ k ≤ n / 10 = omega (arith, large, pow-suc 10 k) in
    let some : 10 ≤ n = omega (arith, large, pow-suc 10 k, one_at_least k) in
    omega (arith, digits_above k (n / 10) tenth (omega arith), length-decimal_more n some small)
  where
    one_at_least : (k : ℕ) → 1 ≤ 10 ^ k
    one_at_least zero = omega arith
    one_at_least (suc k) = omega (arith, one_at_least k, pow-suc 10 k)

-- So a number has one digit more than the greatest power of ten in it; 0, in which there is none, has one.
pub length-decimal : (power : Option ℕ) (n : ℕ) → n < 2 ^ 32 → IfNone power (n ≡ 0) → IfSome power (λ k. 10 ^ k ≤ n) → IfSome power (λ k. n < 10 * 10 ^ k)
    → unwrap_or power 0 + 1 ≡ length (decimal n)
length-decimal None n small none low high = sym (ap length (decimal_one n (omega (arith, none))))
length-decimal (Some k) n small none low high =
    let next : n < 10 ^ suc k = omega (arith, high, pow-suc 10 k) in
    omega (arith, digits_above k n low small, digits_below 10 k n next)

-- Digits behind digits.
pub value_append : (read : ℕ) (xs ys : List ℕ) → value_from read (xs ++ ys) ≡ value_from (value_from read xs) ys
value_append read [] ys = refl
value_append read (x ∷ xs) ys = value_append (read * 10 + (x - 48)) xs ys

-- The digits of a number that has room in them say that number, and the first is no zero unless the number is.
pub value_in : (most n : ℕ) → n < 10 ^ most → value_from 0 (decimal_in most n) ≡ n
unfolding decimal_in
value_in zero n small = omega arith
value_in (suc most) n small = go (ltb n 10) refl (value_in most (n / 10) (tenth_small most n small))
  where
    go : (b : Bool) → ltb n 10 ≡ b → value_from 0 (decimal_in most (n / 10)) ≡ n / 10
        → value_from 0 (cond b [] (decimal_in most (n / 10)) ++ (digit_of n ∷ [])) ≡ n
    go true below rest = omega (arith, ltb-true n 10 below)
    go false above rest = rw (value_append 0 (decimal_in most (n / 10)) (digit_of n ∷ []), rest) (omega arith)

first_in : (most n : ℕ) → n < 10 ^ most → 0 < n → 48 < get_or (decimal_in most n) 0 0
unfolding decimal_in
first_in zero n small some = absurd (omega arith)
first_in (suc most) n small some = go (ltb n 10) refl (first_in most (n / 10) (tenth_small most n small))
  where
    go : (b : Bool) → ltb n 10 ≡ b → (0 < n / 10 → 48 < get_or (decimal_in most (n / 10)) 0 0)
        → 48 < get_or (cond b [] (decimal_in most (n / 10)) ++ (digit_of n ∷ [])) 0 0
    go true below rest = omega (arith, ltb-true n 10 below)
    go false above rest = front (decimal_in most (n / 10)) (rest (omega (arith, ltb-false n 10 above)))
      where
        front : (xs : List ℕ) → 48 < get_or xs 0 0 → 48 < get_or (xs ++ (digit_of n ∷ [])) 0 0
        front [] h = absurd (omega arith)
        front (x ∷ xs) h = h

pub decimal_says : (n : ℕ) → n < 2 ^ 32 → value_from 0 (decimal n) ≡ n
decimal_says n small = value_in 10 n (omega arith)

pub no_leading_zero : (n : ℕ) → n < 2 ^ 32 → 0 < n → 48 < get_or (decimal n) 0 0
no_leading_zero n small some = first_in 10 n (omega arith) some
