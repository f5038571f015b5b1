-- One number, on its groups: how many bytes it takes, what they say, that what is written is read back whatever follows, and that what is taken is written
-- back. So every number of 32 bits has exactly one form.
use Prim.Native.Nat.{ℕ, zero, suc, ◌+◌, ◌*◌, ◌/◌, ◌%◌, ◌-◌, ◌^◌, ◌≤◌, ◌<◌}
use mathlib.Core.Path.{◌≡◌, refl, sym, ap, ◌∙◌}
use mathlib.Core.Logic.{◌≢◌}
use mathlib.Core.List.{List, [], ◌∷◌, ◌++◌, append-nil}
use mathlib.Core.Bool.{Bool, true, false, cond, ◌&&◌, ◌||◌}
use native.Mathlib.Omega.{arith}
use native.Mathlib.Nat.{pow-suc, pow-le-pow_right, zero-add}
use lib.ListN.{length, get_or, take, length-append}
use lib.Seq.{take_at}
use lib.Dec.{leb, ltb, eqb}
use borrow.Author.Tests.{le-leb, lt-leb, lt-ltb, le-ltb, eq-eqb, ne_eqb, leb-true, leb-false, ltb-true, ltb-false, eqb-false}
use Rattle.words.proofs.Front.{Bytes}
use Rattle.words.proofs.Order.{order}
use Rattle.words.proofs.Tests.{neither}
use Rattle.wire.specs.Judge.{plain}
use Rattle.card.specs.Reading.{got, refused}
use Rattle.card.specs.Number.{groups_in, number_bytes, run_of, value_of, said_in, endless, needless, too_wide, number_checks, number_in}
use Rattle.card.proofs.Readings.{got_same, passed}

-- So many groups say less than their number of bits can.
pub value_small : (s : List ℕ) → value_of s < 128 ^ length s
unfolding value_of
value_small [] = omega arith
value_small (b ∷ s) = rw (pow-suc 128 (length s)) (omega (arith, value_small s))

-- A last group that is not zero makes a value as large as its place.
pub value_large : (s : List ℕ) → run_of s < length s → get_or s (run_of s) 0 ≢ 0 → 128 ^ run_of s ≤ said_in s
unfolding run_of value_of
value_large [] h k = absurd (omega arith)
value_large (b ∷ s) h k = go (leb 128 b) refl (λ h k. value_large s h k) h k
  where
    go : (t : Bool) → leb 128 b ≡ t → (run_of s < length s → get_or s (run_of s) 0 ≢ 0 → 128 ^ run_of s ≤ said_in s)
        → cond t (suc (run_of s)) 0 < suc (length s) → get_or (b ∷ s) (cond t (suc (run_of s)) 0) 0 ≢ 0
        → 128 ^ cond t (suc (run_of s)) 0 ≤ value_of (take (cond t (suc (run_of s)) 0 + 1) (b ∷ s))
    go true is rest h k =
        let more = rest (omega arith) k in
        let place : suc (run_of s) + 1 ≡ suc (run_of s + 1) = omega arith in
        let said : value_of (take (suc (run_of s) + 1) (b ∷ s)) ≡ b % 128 + said_in s * 128 = ap (λ k. value_of (take k (b ∷ s))) place in
        rw (pow-suc 128 (run_of s), said) (omega arith)
    go false is rest h k = omega (arith, leb-false 128 b is, k)

-- What is told of the number at the front, by its rows.
module _ (s : List ℕ) (at : ℕ) where
  pub number_endless : endless s ≡ true → number_in s at ≡ refused (plain 34)
  unfolding number_in
  number_endless h = rw h

  module _ (ends : endless s ≡ false) where
    pub number_overlong : (needless s || too_wide s) ≡ true → number_in s at ≡ refused (plain 35)
    unfolding number_in
    number_overlong h = rw (ends, h)

    pub number_taken : (needless s || too_wide s) ≡ false → number_in s at ≡ got (said_in s) (at + (run_of s + 1))
    unfolding number_in
    number_taken h = rw (ends, h)

-- More than five groups are too many.
pub long_overlong : (s : List ℕ) → run_of s < length s → 4 < run_of s → (needless s || too_wide s) ≡ true
long_overlong s more h = go (eqb (get_or s (run_of s) 0) 0) refl
  where
    wide : (t : Bool) → (t || true) ≡ true
    wide true = refl
    wide false = refl

    go : (t : Bool) → eqb (get_or s (run_of s) 0) 0 ≡ t → (needless s || too_wide s) ≡ true
    go true z = rw (z, lt-ltb 0 (run_of s) (omega arith))
    go false z =
        let large = value_large s more (eqb-false (get_or s (run_of s) 0) 0 z) in
        let most : 128 ^ 5 ≤ 128 ^ run_of s = pow-le-pow_right (omega arith) h in
        rw (lt-ltb 0xffffffff (said_in s) (omega arith)) (wide (needless s))

-- A number that was taken.
pub record Took (s : List ℕ) (at v end : ℕ) : Type 0 where
  pub place : end ≡ at + (run_of s + 1)
  pub value : v ≡ said_in s
  pub ends : run_of s < length s
  pub small : v < 2 ^ 32
  pub needed : get_or s (run_of s) 0 ≡ 0 → run_of s ≡ 0

pub took : (s : List ℕ) (at v end : ℕ) → number_in s at ≡ got v end → Took s at v end
unfolding number_in
took s at v end e =
    let through = passed (number_checks s) (got (said_in s) (at + (run_of s + 1))) v end e in
    let none = (order (number_checks s) refl).accepted.0 through.0 in
    let wide = neither (needless s) (too_wide s) none.1.0 in
    let same = got_same through.1 in
    record {
      place = sym same.1;
      value = sym same.0;
      ends = leb-false (length s) (run_of s) none.0;
      small = omega (arith, same.0, ltb-false 0xffffffff (said_in s) wide.1);
      needed = λ z. last (ltb 0 (run_of s)) refl (rw (eq-eqb (get_or s (run_of s) 0) 0 z) at wide.0);
    }
  where
    last : (b : Bool) → ltb 0 (run_of s) ≡ b → (true && b) ≡ false → run_of s ≡ 0
    last true is h = absurd (let z : ◌≡◌ {A = ℕ} 0 1 = cc in omega arith)
    last false is h = omega (arith, ltb-false 0 (run_of s) is)

-- The groups of a number: one at least, and no more than it needs.
pub groups_some : (k v : ℕ) → 1 ≤ length (groups_in k v)
unfolding groups_in
groups_some zero v = omega arith
groups_some (suc k) v = go (ltb v 128)
  where
    go : (t : Bool) → 1 ≤ length (cond t (v ∷ []) ((v % 128 + 128) ∷ groups_in k (v / 128)))
    go true = omega arith
    go false = omega arith

groups_few : (k j v : ℕ) → v < 128 ^ suc j → length (groups_in k v) ≤ suc j
unfolding groups_in
groups_few zero j v h = omega arith
groups_few (suc k) zero v h = rw (lt-ltb v 128 (omega (arith, pow-suc 128 0))) (omega arith)
groups_few (suc k) (suc j) v h = go (ltb v 128) (groups_few k j (v / 128) (omega (arith, pow-suc 128 (suc j))))
  where
    go : (b : Bool) → length (groups_in k (v / 128)) ≤ suc j → length (cond b (v ∷ []) ((v % 128 + 128) ∷ groups_in k (v / 128))) ≤ suc (suc j)
    go true h = omega arith
    go false h = omega arith

groups_most : (k v : ℕ) → length (groups_in k v) ≤ suc k
unfolding groups_in
groups_most zero v = omega arith
groups_most (suc k) v = go (ltb v 128) (groups_most k (v / 128))
  where
    go : (b : Bool) → length (groups_in k (v / 128)) ≤ suc k → length (cond b (v ∷ []) ((v % 128 + 128) ∷ groups_in k (v / 128))) ≤ suc (suc k)
    go true h = omega arith
    go false h = omega arith

pub number_most : (v : ℕ) → length (number_bytes v) ≤ 5
unfolding number_bytes
number_most v = groups_most 4 v

-- A number below 128 ^ (j + 1) takes no more than j + 1 bytes.
pub number_few : (j v : ℕ) → v < 128 ^ suc j → length (number_bytes v) ≤ suc j
unfolding number_bytes
number_few j v h = groups_few 4 j v h

-- Groups read: as many bytes as there are, their value, and a last one that is not zero.
groups_run : (k v : ℕ) (t : List ℕ) → v < 128 ^ suc k → run_of (groups_in k v ++ t) + 1 ≡ length (groups_in k v)
unfolding groups_in run_of
groups_run zero v t h = simp (lt-leb 128 v (omega (arith, pow-suc 128 0)))
groups_run (suc k) v t h = go (ltb v 128) refl (groups_run k (v / 128) t (omega (arith, pow-suc 128 (suc k))))
  where
    go : (b : Bool) → ltb v 128 ≡ b → run_of (groups_in k (v / 128) ++ t) + 1 ≡ length (groups_in k (v / 128))
        → run_of (cond b (v ∷ []) ((v % 128 + 128) ∷ groups_in k (v / 128)) ++ t) + 1 ≡ length (cond b (v ∷ []) ((v % 128 + 128) ∷ groups_in k (v / 128)))
    go true is rest = simp (lt-leb 128 v (ltb-true v 128 is))
    go false is rest = rw (le-leb 128 (v % 128 + 128) (omega arith)) (omega arith)

groups_value : (k v : ℕ) → v < 128 ^ suc k → value_of (groups_in k v) ≡ v
unfolding groups_in value_of
groups_value zero v h = omega (arith, pow-suc 128 0)
groups_value (suc k) v h = go (ltb v 128) refl (groups_value k (v / 128) (omega (arith, pow-suc 128 (suc k))))
  where
    go : (b : Bool) → ltb v 128 ≡ b → value_of (groups_in k (v / 128)) ≡ v / 128
        → value_of (cond b (v ∷ []) ((v % 128 + 128) ∷ groups_in k (v / 128))) ≡ v
    go true is rest = omega (arith, ltb-true v 128 is)
    go false is rest = omega arith

groups_last : (k v : ℕ) (t : List ℕ) → v < 128 ^ suc k → 0 < v → get_or (groups_in k v ++ t) (run_of (groups_in k v ++ t)) 0 ≢ 0
unfolding groups_in run_of
groups_last zero v t h some e = omega (arith, rw (lt-leb 128 v (omega (arith, pow-suc 128 0))) at e)
groups_last (suc k) v t h some e = go (ltb v 128) refl (λ some. groups_last k (v / 128) t (omega (arith, pow-suc 128 (suc k))) some) e
  where
    go : (b : Bool) → ltb v 128 ≡ b → (0 < v / 128 → get_or (groups_in k (v / 128) ++ t) (run_of (groups_in k (v / 128) ++ t)) 0 ≢ 0)
        → get_or (cond b (v ∷ []) ((v % 128 + 128) ∷ groups_in k (v / 128)) ++ t) (run_of (cond b (v ∷ []) ((v % 128 + 128) ∷ groups_in k (v / 128)) ++ t)) 0 ≢ 0
    go true is rest e = omega (arith, rw (lt-leb 128 v (ltb-true v 128 is)) at e)
    go false is rest e = rest (omega (arith, ltb-false v 128 is)) (rw (le-leb 128 (v % 128 + 128) (omega arith)) at e)

-- A number that was written is read back, whatever follows.
pub number_back : (v at : ℕ) (t : List ℕ) → v < 2 ^ 32 → number_in (number_bytes v ++ t) at ≡ got v (at + length (number_bytes v))
unfolding number_bytes run_of
number_back v at t small =
    let s = groups_in 4 v ++ t in
    let run : run_of (groups_in 4 v ++ t) + 1 ≡ length (groups_in 4 v) = groups_run 4 v t (omega arith) in
    let front = take_at (groups_in 4 v) t (run_of (groups_in 4 v ++ t) + 1) (sym run) in
    let said : said_in (groups_in 4 v ++ t) ≡ v = ap value_of front ∙ groups_value 4 v (omega arith) in
    let more : run_of (groups_in 4 v ++ t) < length (groups_in 4 v ++ t) = omega (arith, length-append (groups_in 4 v) t) in
    let ends = lt-leb (length s) (run_of s) more in
    let fits : (needless s || too_wide s) ≡ false = rw (fine (ltb 0 v) refl, said, le-ltb 0xffffffff v (omega arith)) in
    number_taken s at ends fits ∙ rw (said, run)
  where
    both_false : (b c : Bool) → c ≡ false → (b && c) ≡ false
    both_false true c e = e
    both_false false c e = refl

    zero_run : run_of (groups_in 4 0 ++ t) ≡ 0
    zero_run = refl

    fine : (b : Bool) → ltb 0 v ≡ b → needless (groups_in 4 v ++ t) ≡ false
    fine true is = rw (ne_eqb (get_or (groups_in 4 v ++ t) (run_of (groups_in 4 v ++ t)) 0) 0 (groups_last 4 v t (omega arith) (ltb-true 0 v is)))
    fine false is =
        let none : v ≡ 0 = omega (arith, ltb-false 0 v is) in
        rw none (both_false (eqb (get_or (groups_in 4 0 ++ t) (run_of (groups_in 4 0 ++ t)) 0) 0) (ltb 0 (run_of (groups_in 4 0 ++ t))) (ap (ltb 0) zero_run))

-- Groups that say a value are the groups of that value.
groups_of : (k : ℕ) (s : List ℕ) → Bytes s → run_of s < length s → run_of s ≤ k → (get_or s (run_of s) 0 ≡ 0 → run_of s ≡ 0)
    → groups_in k (said_in s) ≡ take (run_of s + 1) s
unfolding groups_in run_of value_of
groups_of zero [] bytes h few needed = absurd (omega arith)
groups_of zero (b ∷ s) bytes h few needed = go (leb 128 b) refl few
  where
    go : (t : Bool) → leb 128 b ≡ t → cond t (suc (run_of s)) 0 ≤ 0
        → groups_in 0 (value_of (take (cond t (suc (run_of s)) 0 + 1) (b ∷ s))) ≡ take (cond t (suc (run_of s)) 0 + 1) (b ∷ s)
    go true is few = absurd (omega arith)
    go false is few = let low : b % 128 + 0 * 128 ≡ b = omega (arith, leb-false 128 b is) in rw low
groups_of (suc k) [] bytes h few needed = absurd (omega arith)
groups_of (suc k) (b ∷ s) bytes h few needed = go (leb 128 b) refl (λ h few needed. groups_of k s (λ i. bytes (suc i)) h few needed) h few needed
  where
    go : (t : Bool) → leb 128 b ≡ t
        → (run_of s < length s → run_of s ≤ k → (get_or s (run_of s) 0 ≡ 0 → run_of s ≡ 0) → groups_in k (said_in s) ≡ take (run_of s + 1) s)
        → cond t (suc (run_of s)) 0 < suc (length s) → cond t (suc (run_of s)) 0 ≤ suc k
        → (get_or (b ∷ s) (cond t (suc (run_of s)) 0) 0 ≡ 0 → cond t (suc (run_of s)) 0 ≡ 0)
        → groups_in (suc k) (value_of (take (cond t (suc (run_of s)) 0 + 1) (b ∷ s))) ≡ take (cond t (suc (run_of s)) 0 + 1) (b ∷ s)
    go true is rest h few needed =
        let place : suc (run_of s) + 1 ≡ suc (run_of s + 1) = omega arith in
        let last : get_or s (run_of s) 0 ≢ 0 = λ z. omega (arith, needed z) in
        let large = value_large s (omega arith) last in
        let least : 0 ≤ run_of s = omega arith in
        let one : 128 ^ 0 ≤ 128 ^ run_of s = pow-le-pow_right (omega arith) least in
        let low : (b % 128 + said_in s * 128) % 128 + 128 ≡ b = omega (arith, bytes 0, leb-true 128 b is) in
        let high : (b % 128 + said_in s * 128) / 128 ≡ said_in s = omega arith in
        let some : 128 ≤ b % 128 + said_in s * 128 = omega arith in
        rw (place, le-ltb (b % 128 + said_in s * 128) 128 some, low, high) (ap (λ l. b ∷ l) (rest (omega arith) (omega arith) (λ z. absurd (last z))))
    go false is rest h few needed =
        let low : b % 128 + 0 * 128 ≡ b = omega (arith, leb-false 128 b is) in
        rw (low, lt-ltb b 128 (leb-false 128 b is))

-- A number that is taken is written back as the bytes that it was taken from.
pub number_written : (s : List ℕ) (at v end : ℕ) → Bytes s → number_in s at ≡ got v end → number_bytes v ≡ take (end - at) s
unfolding number_bytes
number_written s at v end bytes e =
    let t = took s at v end e in
    let size : end - at ≡ run_of s + 1 = omega (arith, t.place) in
    rw (size, t.value) (groups_of 4 s bytes t.ends (few (ltb 4 (run_of s)) refl) t.needed)
  where
    few : (b : Bool) → ltb 4 (run_of s) ≡ b → run_of s ≤ 4
    few true is =
        let t = took s at v end e in
        let large = value_large s t.ends (λ z. omega (arith, t.needed z, ltb-true 4 (run_of s) is)) in
        let most : 128 ^ 5 ≤ 128 ^ run_of s = pow-le-pow_right (omega arith) (ltb-true 4 (run_of s) is) in
        absurd (omega (arith, t.value, t.small))
    few false is = ltb-false 4 (run_of s) is

-- Every number of 32 bits has exactly one form: its own bytes are taken for it, and whatever is taken for it begins with them.
pub own_form : (v : ℕ) → v < 2 ^ 32 → number_in (number_bytes v) 0 ≡ got v (length (number_bytes v))
own_form v small =
    ap (λ l. number_in l 0) (sym (append-nil (number_bytes v))) ∙ number_back v 0 [] small ∙ ap (got v) (zero-add (length (number_bytes v)))

pub one_form : (s : List ℕ) (v n : ℕ) → Bytes s → number_in s 0 ≡ got v n → take n s ≡ number_bytes v
one_form s v n bytes e =
    let all : n - 0 ≡ n = omega arith in
    rw (← all) (sym (number_written s 0 v n bytes e))
