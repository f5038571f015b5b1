-- Digits read from the front.
use Prim.Native.Nat.{ℕ, zero, suc, ◌+◌, ◌*◌, ◌-◌, ◌^◌, ◌<◌, ◌≤◌}
use mathlib.Core.Path.{◌≡◌, refl, sym, ap, subst, ◌∙◌}
use mathlib.Core.List.{List, []}
use mathlib.Core.Bool.{Bool, true, false, cond, ◌&&◌}
use native.Mathlib.Omega.{arith}
use native.Mathlib.Nat.{pow-suc, pow-le-pow_right}
use native.Mathlib.Numerals.{add-one}
use lib.ListN.{length, get_or, drop, take, length-drop}
use lib.Seq.{drop-cons, drop-length, take-suc, take_all}
use lib.Dec.{eqb, ltb}
use borrow.Author.Tests.{leb-true, lt-ltb, le-ltb, eq-eqb, ne_eqb}
use Rattle.text.specs.declared.number.Digits.{Digits}
use Rattle.words.specs.Text.{ascii, value_from}
use Rattle.words.proofs.Decimal.{value_append}
use Rattle.words.proofs.Tests.{both}
use Rattle.text.specs.Number.{is_digit, digits_in, whole_of, fraction_of, quarters_with, quarters_of}
use Rattle.text.specs.Split.{same_text}
use Rattle.text.specs.Steps.{Counted}
use Rattle.std.specs.Prelude.{Option, Some, None}

-- So many digits were read.
pub record Got (s : List ℕ) (value count : ℕ) : Type 0 where
  pub within : count ≤ length s
  pub few : count ≤ 5
  pub small : value < 10 ^ count
  pub said : value ≡ value_from 0 (take count s)
  pub rest : count + digits_in (5 - count) (drop count s) ≡ digits_in 5 s

pub got_none : (s : List ℕ) → Got s 0 0
got_none s = record { within = omega arith; few = omega arith; small = omega arith; said = refl; rest = omega arith }

module _ (s : List ℕ) (value count : ℕ) (got : Got s value count) where
  pub got_small : value < 100000
  got_small =
      let most : 10 ^ count ≤ 10 ^ 5 = pow-le-pow_right (omega arith) got.few in
      omega (arith, got.small)

  -- Reading ends here.
  pub got_all : digits_in (5 - count) (drop count s) ≡ 0
      → Counted s (record { value = value; count = count })
  got_all none =
      let all : count ≡ digits_in 5 s = omega (arith, got.rest) in
      record { is = rw (← all, ← got.said); small = got_small; within = got.within }

  pub got_five : count ≡ 5 → digits_in (5 - count) (drop count s) ≡ 0
  unfolding digits_in
  got_five e = rw e

  got_end : length s ≤ count → digits_in (5 - count) (drop count s) ≡ 0
  unfolding digits_in
  got_end end =
      let at : count ≡ length s = omega (arith, got.within) in
      rw (at, drop-length s) (none (5 - length s))
    where
      none : (k : ℕ) → digits_in k [] ≡ 0
      none zero = refl
      none (suc k) = refl

  pub got_whole : length s ≤ count → Counted s (record { value = value; count = length s })
  got_whole end =
      let at : count ≡ length s = omega (arith, got.within) in
      subst (λ n. Counted s (record { value = value; count = n })) at (got_all (got_end end))

  module _ (more : count < length s) (room : (count ≡ 5 → ⊥)) where
    step : digits_in (5 - count) (drop count s) ≡ cond (is_digit (get_or s count 0)) (suc (digits_in (5 - suc count) (drop (suc count) s))) 0
    unfolding digits_in
    step =
        let left : 5 - count ≡ suc (5 - suc count) = omega (arith, got.few, room) in
        rw (left, drop-cons s count 0 more)

    pub got_other : is_digit (get_or s count 0) ≡ false → digits_in (5 - count) (drop count s) ≡ 0
    got_other other = step ∙ rw other

    pub got_more : is_digit (get_or s count 0) ≡ true → Got s (value * 10 + (get_or s count 0 - 48)) (count + 1)
    got_more digit =
        let here : digits_in (5 - count) (drop count s) ≡ suc (digits_in (5 - suc count) (drop (suc count) s)) =
        step ∙ rw digit in
        let fewer : count < 5 = omega (arith, got.few, room) in
        record {
          within = omega arith;
          few = omega arith;
          small = rw add-one (omega (arith, pow-suc 10 count, got.small, leb-true (get_or s count 0) 57 (both _ _ digit).1));
          said = rw (add-one, take-suc s count 0 more, value_append) (ap (λ v. v * 10 + (get_or s count 0 - 48)) got.said);
          rest = rw add-one (omega (arith, got.rest));
        }

-- What a whole number's reader says at each of its ends.
module _ (s : List ℕ) (d : Digits) (counted : Counted s d) where
  count : d.count ≡ digits_in 5 s
  count = ap (λ e. e.count) counted.is

  pub value : d.value ≡ value_from 0 (take (digits_in 5 s) s)
  value = ap (λ e. e.value) counted.is

  pub whole_none : d.count ≡ 0 → None ≡ whole_of s
  unfolding whole_of
  whole_none none = simp (le-ltb 0 (digits_in 5 s) (omega (arith, count)))

  pub whole_all : (d.count ≡ 0 → ⊥) → d.count ≡ length s → Some d.value ≡ whole_of s
  unfolding whole_of
  whole_all some all =
      simp (lt-ltb 0 (digits_in 5 s) (omega (arith, count, some)), eq-eqb (digits_in 5 s) (length s) (sym count ∙ all), value)

  pub whole_part : (d.count ≡ length s → ⊥) → None ≡ whole_of s
  unfolding whole_of
  whole_part other = simp (ne_eqb (digits_in 5 s) (length s) (λ e. other (count ∙ e))) (no (ltb 0 (digits_in 5 s)))
    where
      no : (b : Bool) → None ≡ cond (b && false) (Some (value_from 0 (take (digits_in 5 s) s))) None
      no true = refl
      no false = refl

  pub quarters_none : d.count ≡ 0 → None ≡ quarters_of s
  unfolding quarters_of
  quarters_none none = simp (le-ltb 0 (digits_in 5 s) (omega (arith, count)))

  -- The part behind the digits, as the code lends it.
  pub quarters_some : (f : Option ℕ) → (d.count ≡ 0 → ⊥) → f ≡ fraction_of (take (length s - d.count) (drop d.count s)) → quarters_with d.value f ≡ quarters_of s
  unfolding quarters_of
  quarters_some f some is =
      let behind : take (length s - d.count) (drop d.count s) ≡ drop (digits_in 5 s) s =
      take_all (length s - d.count) (drop d.count s) (simp length-drop (omega arith)) ∙ ap (λ k. drop k s) count in
      simp (lt-ltb 0 (digits_in 5 s) (omega (arith, count, some)), ← value) (ap (quarters_with d.value) (is ∙ ap fraction_of behind))

pub fraction_small : (s : List ℕ) (q : ℕ) → fraction_of s ≡ Some q → q ≤ 3
unfolding fraction_of
fraction_small s q e =
    go (eqb (length s) 0) (same_text s (ascii ".25")) (same_text s (ascii ".5")) (same_text s (ascii ".75")) e
  where
    go : (a b c d : Bool)
        → cond a (Some 0) (cond b (Some 1) (cond c (Some 2) (cond d (Some 3) None))) ≡ Some q
        → q ≤ 3
    go true b c d e = let is : 0 ≡ q = cc in omega arith
    go false true c d e = let is : 1 ≡ q = cc in omega arith
    go false false true d e = let is : 2 ≡ q = cc in omega arith
    go false false false true e = let is : 3 ≡ q = cc in omega arith
    go false false false false e = absurd (let z : ◌≡◌ {A = ℕ} 0 1 = cc in omega arith)
