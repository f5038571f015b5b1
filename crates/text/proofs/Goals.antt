-- Goals: the single of so many quarters is exactly that number, and below 1024 its bits give the quarters back.
use Prim.Native.Nat.{ℕ, zero, suc, ◌+◌, ◌-◌, ◌*◌, ◌/◌, ◌%◌, ◌^◌, ◌≤◌, ◌<◌}
use mathlib.Core.Path.{◌≡◌, refl, sym, ap, subst, ◌∙◌}
use mathlib.Core.Bool.{Bool, true, false, cond, not, ◌&&◌, true≢false}
use native.Mathlib.Omega.{arith}
use native.Mathlib.Nat.{mul-le-mul_right, div-lt_iff_lt-mul, mul_assoc, mul_right_comm, eq_of_mul-eq-mul_right, lt_of_lt_of_le, eq-or-lt_of_le}
use mathlib.Core.Logic.{◌⊎◌, inl, inr}
use lib.IntN.{pos}
use lib.Dec.{T, eqb, leb, ltb}
use lib.Pow.{pow-add, pow_mono, shl_lt}
use lib.Ieee.{Float, nan, inf, fin, binary32, round, of_fields, of_bits, of_int, odd, div, is_nan, up, down}
use lib.Ieee.Exact.{HasValue, odd_sign, round_exact}
use lib.Ieee.Back.{round_whole}
use lib.Ieee.Scale.{round_same}
use lib.Ieee.Bits.{of_bits-to_bits}
use lib.Ieee.Fits.{down_pos, round-fits}
use borrow.Author.Tests.{leb-true, ltb-true, ltb-false, eqb-true, eqb-false, ne_eqb}
use Rattle.words.proofs.Tests.{both}
use Rattle.text.specs.Goal.{single_of, goal_bits, said_below, quarters_in}
use Rattle.text.specs.Steps.{guess_of}
use Rattle.std.specs.Prelude.{Some, None}

-- The single of so many quarters is exactly that number.
pub single_exact : (q : ℕ) → q < 2 ^ 24 → HasValue (single_of q) false q 4
unfolding single_of
single_exact q small =
    round_exact binary32 false q 4 q 147 (omega arith) small (lt_of_lt_of_le (shl_lt 24 147 small) (pow_mono {i = 171} {j = 277} (omega arith))) (sym (mul_assoc q (2 ^ 147) 4))

-- And these bits are that single's.
pub bits_are : (q : ℕ) → of_bits binary32 (goal_bits q) ≡ single_of q
unfolding goal_bits single_of
bits_are q = of_bits-to_bits binary32 (single_of q) (round-fits binary32 false q 4)

-- "so exact as a single": the single with these bits is exactly that number, in a goal's range or not.
pub goal_exact : (q : ℕ) → q < 2 ^ 24 → HasValue (of_bits binary32 (goal_bits q)) false q 4
goal_exact q small = subst (λ v. HasValue v false q 4) (sym (bits_are q)) (single_exact q small)

-- The largest that is asked for.
top : HasValue (single_of (2 ^ 24)) false (2 ^ 24) 4
unfolding single_of round
top = (refl, refl)

quotient : (x : Float) (q : ℕ) → HasValue x false q 1 → div binary32 x (fin false 1 (pos 2)) ≡ single_of q
unfolding div single_of
quotient nan q h = absurd h
quotient (inf s) q h = absurd h
quotient (fin true m e) q h = absurd (true≢false h.0)
quotient (fin false m e) q h =
    let d = down_pos e in
    round_same binary32 false (m * up e * 1) (1 * 4 * down e) q 4 (omega arith) (omega arith) (omega (arith, h.1))

four : of_bits binary32 0x40800000 ≡ fin false 1 (pos 2)
unfolding of_bits
four = refl

pub divided : (q : ℕ) → q ≤ 2 ^ 24 → div binary32 (of_int binary32 (pos q)) (of_bits binary32 0x40800000) ≡ single_of q
unfolding of_int
divided q small = rw four (quotient (round binary32 false q 1) q (round_whole binary32 false q small))

number : (x : Float) (s : Bool) (a c : ℕ) → HasValue x s a c → T (not (is_nan x))
unfolding is_nan
number nan s a c h = absurd h
number (inf t) s a c h = tt
number (fin t m e) s a c h = tt

pub single_number : (q : ℕ) → q ≤ 2 ^ 24 → T (not (is_nan (single_of q)))
single_number q small = number (single_of q) false q 4 (exact (eq-or-lt_of_le small))
  where
    exact : (q ≡ 2 ^ 24) ⊎ (q < 2 ^ 24) → HasValue (single_of q) false q 4
    exact (inl e) = rw e top
    exact (inr h) = single_exact q h

-- Every number of quarters below 1024 is found again, and its bits are within a goal's limits. Computed, case by case.
all_below : ℕ → (ℕ → Bool) → Bool
all_below zero p = true
all_below (suc n) p = p n && all_below n p

abbrev found : ℕ → Bool
found q = eqb (guess_of (goal_bits q)) q && leb (goal_bits q) 0x447fffff

each : all_below 4096 found ≡ true
unfolding all_below goal_bits
each = refl

below_each : (n : ℕ) (p : ℕ → Bool) → all_below n p ≡ true → (q : ℕ) → q < n → p q ≡ true
unfolding all_below
below_each zero p all q h = absurd (omega arith)
below_each (suc n) p all q h = go (eq-or-lt_of_le h) (λ k. below_each n p (both (p n) (all_below n p) all).1 q k)
  where
    go : (suc q ≡ suc n) ⊎ (suc q < suc n) → (q < n → p q ≡ true) → p q ≡ true
    go (inl e) rest = let same : q ≡ n = omega arith in rw same (both (p n) (all_below n p) all).0
    go (inr k) rest = rest (omega arith)

pub guess_back : (q : ℕ) → q < 4096 → guess_of (goal_bits q) ≡ q
guess_back q h = eqb-true (guess_of (goal_bits q)) q (both (eqb (guess_of (goal_bits q)) q) (leb (goal_bits q) 0x447fffff) (below_each 4096 found each q h)).0

pub bits_within : (q : ℕ) → q < 4096 → goal_bits q ≤ 0x447fffff
bits_within q h = leb-true (goal_bits q) 0x447fffff (both (eqb (guess_of (goal_bits q)) q) (leb (goal_bits q) 0x447fffff) (below_each 4096 found each q h)).1

pub goal_once : (p q : ℕ) → p < 4096 → q < 4096 → goal_bits p ≡ goal_bits q → p ≡ q
goal_once p q small small' e = sym (guess_back p small) ∙ ap guess_of e ∙ guess_back q small'

pub guess_small : (bits : ℕ) → bits ≤ 0x447fffff → guess_of bits < 4096
guess_small bits low = go (ltb bits 0x3e800000)
  where
    go : (b : Bool) → cond b 0 ((bits % 8388608 + 8388608) / 2 ^ (148 - bits / 8388608)) < 4096
    go true = omega arith
    go false =
        let most : 2 ^ 12 ≤ 2 ^ (148 - bits / 8388608) = pow_mono {i = 12} {j = 148 - bits / 8388608} (omega arith) in
        (div-lt_iff_lt-mul (lt_of_lt_of_le (omega arith) most)).1 (omega (arith, mul-le-mul_right 4096 most))

-- What is found, from the two facts that decide.
said_below_lem : (n bits q : ℕ) → n ≤ 4096 → q < n → goal_bits q ≡ bits → said_below n bits ≡ Some q
unfolding said_below
said_below_lem zero bits q few h e = absurd (omega arith)
said_below_lem (suc n) bits q few h e =
    go (eqb (goal_bits n) bits) refl (λ k. said_below_lem n bits q (omega arith) k e)
  where
    go : (b : Bool) → eqb (goal_bits n) bits ≡ b → (q < n → said_below n bits ≡ Some q)
        → cond b (Some n) (said_below n bits) ≡ Some q
    go true t rest = ap Some (goal_once n q (omega arith) (omega arith) (eqb-true _ _ t ∙ sym e))
    go false t rest = rest (other (eq-or-lt_of_le h))
      where
        other : (suc q ≡ suc n) ⊎ (suc q < suc n) → q < n
        other (inl s) = let same : q ≡ n = omega arith in absurd (eqb-false _ _ t (ap goal_bits (sym same) ∙ e))
        other (inr k) = omega arith

unsaid_below : (n bits : ℕ) → ((q : ℕ) → q < n → goal_bits q ≡ bits → ⊥) → said_below n bits ≡ None
unfolding said_below
unsaid_below zero bits none = refl
unsaid_below (suc n) bits none =
    rw (ne_eqb _ _ (none n (omega arith))) (unsaid_below n bits (λ q h e. none q (omega arith) e))

said_back : (n bits q : ℕ) → said_below n bits ≡ Some q → (goal_bits q ≡ bits) × (q < n)
unfolding said_below
said_back zero bits q e = absurd (let z : ◌≡◌ {A = ℕ} 0 1 = cc in omega arith)
said_back (suc n) bits q e = go (eqb (goal_bits n) bits) refl (λ k. said_back n bits q k) e
  where
    go : (b : Bool) → eqb (goal_bits n) bits ≡ b → (said_below n bits ≡ Some q → (goal_bits q ≡ bits) × (q < n))
        → cond b (Some n) (said_below n bits) ≡ Some q → (goal_bits q ≡ bits) × (q < suc n)
    go true t rest e = let same : n ≡ q = cc in (ap goal_bits (sym same) ∙ eqb-true _ _ t, omega arith)
    go false t rest e = let r = rest e in (r.0, omega (arith, r.1))

-- Goals said in text are found again in their bits, and what is found has these bits.
pub there_and_back : (q : ℕ) → q < 4096 → quarters_in (goal_bits q) ≡ Some q
unfolding quarters_in
there_and_back q h = said_below_lem 4096 (goal_bits q) q (omega arith) h refl

pub back_and_there : (bits q : ℕ) → quarters_in bits ≡ Some q → (goal_bits q ≡ bits) × (q < 4096)
unfolding quarters_in
back_and_there bits q e = said_back 4096 bits q e

-- A goal whose bits are within the limits is below 1024, so that the text can say it. First: a value is one fraction, whatever it is over.
one_value : (v : Float) (s t : Bool) (a c b d : ℕ) → HasValue v s a c → HasValue v t b d → a * d ≡ b * c
one_value nan s t a c b d first second = absurd first
one_value (inf u) s t a c b d first second = absurd first
one_value (fin u m e) s t a c b d first second =
    eq_of_mul-eq-mul_right (down e) (down_pos e) (a * d) (b * c)
    (mul_right_comm a d (down e)
    ∙ ap (λ x. x * d) (sym first.1)
    ∙ mul_right_comm (m * up e) c d
    ∙ ap (λ x. x * c) second.1
    ∙ mul_right_comm b (down e) c)

-- With a weight of P to one of its units, a value below 1024 has fewer than 4,096 quarters.
few_quarters : (q w P : ℕ) → q * P ≡ w * 4 → w < P * 1024 → q < 4096
few_quarters q w P same small = go (ltb q 4096) refl
  where
    go : (b : Bool) → ltb q 4096 ≡ b → q < 4096
    go true is = ltb-true q 4096 is
    go false is = absurd (let more : 4096 * P ≤ q * P = mul-le-mul_right P (ltb-false q 4096 is) in omega arith)

weight : 2 ^ 159 ≡ 2 ^ 149 * 1024
weight = pow-add 2 149 10

-- The value of an exponent's field of at most 136 and 23 digits.
field_small : (s : Bool) (x t q : ℕ) → x ≤ 136 → t < 2 ^ 23 → HasValue (of_fields binary32 s x t) false q 4 → q < 4096
unfolding of_fields
field_small s zero t q few digits has =
    let same : q * 2 ^ 149 ≡ t * 2 ^ 0 * 4 = one_value (odd 24 s t 0 149) false s q 4 (t * 2 ^ 0) (2 ^ 149) has (odd_sign 24 s t 0 149) in
    let below : t * 2 ^ 0 < 2 ^ 159 = lt_of_lt_of_le (shl_lt 23 0 digits) (pow_mono {i = 23} {j = 159} (omega arith)) in
    few_quarters q (t * 2 ^ 0) (2 ^ 149) same (subst (λ n. t * 2 ^ 0 < n) weight below)
field_small s (suc x) t q few digits has =
    let w = (2 ^ 23 + t) * 2 ^ x in
    let one = rw (ne_eqb (suc x) 255 (λ e. omega arith)) at has in
    let same : q * 2 ^ 149 ≡ w * 4 = one_value (odd 24 s (2 ^ 23 + t) x 149) false s q 4 w (2 ^ 149) one (odd_sign 24 s (2 ^ 23 + t) x 149) in
    let below : w < 2 ^ 159 = lt_of_lt_of_le (shl_lt 24 x (omega arith)) (pow_mono {i = 24 + x} {j = 159} (omega arith)) in
    few_quarters q w (2 ^ 149) same (subst (λ n. w < n) weight below)

pub bits_small : (q : ℕ) → q < 2 ^ 24 → goal_bits q ≤ 0x447fffff → q < 4096
unfolding of_bits
bits_small q small low =
    let b = goal_bits q in
    field_small (leb 0x80000000 b) (b % 0x80000000 / 0x800000) (b % 0x800000) q (omega arith) (omega arith)
    (goal_exact q small)

-- The code's three ends.
pub too_large : (bits : ℕ) → 0x447fffff < bits → None ≡ quarters_in bits
unfolding quarters_in
too_large bits h = sym (unsaid_below 4096 bits (λ q small e. omega (arith, bits_within q small)))

pub guessed : (bits guess : ℕ) → guess ≡ guess_of bits → bits ≤ 0x447fffff → goal_bits guess ≡ bits → Some guess ≡ quarters_in bits
unfolding quarters_in
guessed bits guess is low right = sym (said_below_lem 4096 bits guess (omega arith) (omega (arith, guess_small bits low)) right)

pub not_guessed : (bits guess : ℕ) → guess ≡ guess_of bits → (goal_bits guess ≡ bits → ⊥) → None ≡ quarters_in bits
unfolding quarters_in
not_guessed bits guess is wrong =
    sym (unsaid_below 4096 bits (λ q small e. wrong (ap goal_bits (is ∙ ap guess_of (sym e) ∙ guess_back q small) ∙ e)))
