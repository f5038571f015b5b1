-- Behind the functions of one number: its groups summed from the front, one turn to each, and its groups written.
use Prim.Native.Nat.{ℕ, zero, suc, ◌+◌, ◌*◌, ◌/◌, ◌%◌, ◌-◌, ◌^◌, ◌≤◌, ◌<◌}
use mathlib.Core.Path.{◌≡◌, refl, sym, ap, subst, ◌∙◌}
use mathlib.Core.List.{List, [], ◌∷◌}
use mathlib.Core.Bool.{Bool, true, false, cond}
use native.Mathlib.Omega.{arith}
use native.Mathlib.Nat.{pow-suc, pow-le-pow_right, mul_assoc, add-mul, mul-le-mul_right}
use native.Mathlib.Numerals.{add-one}
use lib.ListN.{length, get_or, take, drop, length-drop, set}
use lib.Seq.{drop-cons, drop-drop, get_or-drop, length-take-le, sets}
use borrow.Author.Tests.{le-leb, lt-leb, lt-ltb, le-ltb, leb-true, leb-false}
use Rattle.words.proofs.Laws.{Storing, none_stored, one_stored, all_stored}
use Rattle.wire.specs.Judge.{plain}
use Rattle.card.specs.Reading.{refused}
use Rattle.card.specs.Number.{groups_in, number_bytes, run_of, value_of, said_in, endless, number_in, number_at}
use Rattle.card.specs.Steps.{longer_as, closed_as}
use Rattle.card.proofs.Groups.{value_small, number_endless, number_overlong, long_overlong, groups_some}

-- How many bytes reading a number looks at: its own, or all where it does not end.
abbrev pub visited : List ℕ → ℕ
visited s = cond (endless s) (length s) (run_of s + 1)

-- So many bytes with the high bit were passed.
pub record Run (s : List ℕ) (i : ℕ) : Type 0 where
  pub within : i ≤ length s
  pub rest : i + run_of (drop i s) ≡ run_of s

pub run_none : (s : List ℕ) → Run s 0
run_none s = record { within = omega arith; rest = omega arith }

module _ (s : List ℕ) (i : ℕ) (run : Run s i) where
  pub run_ends : i < length s → get_or s i 0 < 128 → i ≡ run_of s
  unfolding run_of
  run_ends more low =
      let here : run_of (drop i s) ≡ 0 = rw (drop-cons s i 0 more) (simp (lt-leb 128 (get_or s i 0) low)) in
      omega (arith, run.rest)

  pub run_more : i < length s → 128 ≤ get_or s i 0 → Run s (i + 1)
  unfolding run_of
  run_more more high =
      let here : run_of (drop i s) ≡ suc (run_of (drop (suc i) s)) = rw (drop-cons s i 0 more) (simp (le-leb 128 (get_or s i 0) high)) in
      record { within = omega arith; rest = rw add-one (omega (arith, run.rest)) }

  pub run_all : length s ≤ i → endless s ≡ true
  run_all end = le-leb (length s) (run_of s) (omega (arith, run.rest))

  -- There is another byte to look at.
  pub run_left : i < length s → i < visited s
  run_left more = go (endless s)
    where
      go : (b : Bool) → i < cond b (length s) (run_of s + 1)
      go true = more
      go false = omega (arith, run.rest)

  -- What is passed does not end a number.
  pub run_endless : endless (drop i s) ≡ endless s
  run_endless = go (endless s) refl
    where
      go : (b : Bool) → endless s ≡ b → endless (drop i s) ≡ b
      go true is = le-leb (length (drop i s)) (run_of (drop i s)) (omega (arith, leb-true (length s) (run_of s) is, run.rest, length-drop i s))
      go false is = lt-leb (length (drop i s)) (run_of (drop i s)) (omega (arith, leb-false (length s) (run_of s) is, run.rest, run.within, length-drop i s))

-- One group more, behind so many.
value_more : (s : List ℕ) (k : ℕ) → k < length s → value_of (take (k + 1) s) ≡ value_of (take k s) + get_or s k 0 % 128 * 128 ^ k
unfolding value_of
value_more [] k h = absurd (omega arith)
value_more (b ∷ s) zero h = omega arith
value_more (b ∷ s) (suc k) h =
    let next : suc k + 1 ≡ suc (k + 1) = omega arith in
    let group = get_or s k 0 % 128 in
    let more : value_of (take (k + 1) s) ≡ value_of (take k s) + group * 128 ^ k = value_more s k (omega arith) in
    let spread : (value_of (take k s) + group * 128 ^ k) * 128 ≡ value_of (take k s) * 128 + group * 128 ^ k * 128 = add-mul (value_of (take k s))
    (group * 128 ^ k) 128 in
    let worth : group * 128 ^ k * 128 ≡ group * 128 ^ suc k = mul_assoc group (128 ^ k) 128 ∙ ap (λ p. group * p) (sym (pow-suc 128 k)) in
    let sum : value_of (take (k + 1) s) * 128 ≡ value_of (take k s) * 128 + group * 128 ^ suc k = ap (λ v. v * 128) more ∙ spread
    ∙ ap (λ p. value_of (take k s) * 128 + p) worth in
    rw next (omega (arith, sum))

-- The bytes from a place on, up to another, all have the high bit.
pub record Passing (s : List ℕ) (at i : ℕ) : Type 0 where
  pub order : at ≤ i
  pub run : Run (drop at s) (i - at)

pub none_passed : (s : List ℕ) (at : ℕ) → Passing s at at
none_passed s at =
    let none : at - at ≡ 0 = omega arith in
    record { order = omega arith; run = rw none (run_none (drop at s)) }

module _ (s : List ℕ) (at i : ℕ) (so_far : Passing s at i) where
  -- The bytes end before the number does.
  pub none_left : length s ≤ i → endless (drop at s) ≡ true
  none_left end = run_all (drop at s) (i - at) so_far.run (omega (arith, so_far.order, length-drop at s))

  module _ (more : i < length s) where
    pub inside : i - at < length (drop at s)
    inside = omega (arith, so_far.order, length-drop at s)

    pub here : get_or (drop at s) (i - at) 0 ≡ get_or s i 0
    here =
        let place : at + (i - at) ≡ i = omega (arith, so_far.order) in
        get_or-drop at s (i - at) 0 ∙ ap (λ j. get_or s j 0) place

    -- A turn of a loop with this invariant stands at a byte that is looked at.
    pub left_to_see : i - at < visited (drop at s)
    left_to_see = run_left (drop at s) (i - at) so_far.run inside

    pub last_passed : get_or s i 0 < 128 → i - at ≡ run_of (drop at s)
    last_passed low = run_ends (drop at s) (i - at) so_far.run inside (omega (arith, here))

    pub one_passed : 128 ≤ get_or s i 0 → Passing s at (i + 1)
    one_passed high =
        let next : i - at + 1 ≡ i + 1 - at = omega (arith, so_far.order) in
        record {
          order = omega (arith, so_far.order);
          run = subst (Run (drop at s)) next (run_more (drop at s) (i - at) so_far.run inside (omega (arith, here)));
        }

-- What stands behind bytes that were passed.
passed_endless : (s : List ℕ) (at i : ℕ) → Passing s at i → endless (drop i s) ≡ endless (drop at s)
passed_endless s at i so_far =
    let place : i ≡ at + (i - at) = omega (arith, so_far.order) in
    ap (λ j. endless (drop j s)) place
    ∙ ap endless (sym (drop-drop (i - at) at s))
    ∙ run_endless (drop at s) (i - at) so_far.run

-- A number that has too many groups and goes on at a place: it ends, or it does not.
module _ (s : List ℕ) (at i : ℕ) (so_far : Passing s at i) where
  pub long_ends : i < length s → get_or s i 0 < 128 → refused (plain 35) ≡ longer_as s at
  long_ends more low =
      let ends : endless (drop at s) ≡ false =
      lt-leb (length (drop at s)) (run_of (drop at s)) (omega (arith, inside s at i so_far more, last_passed s at i so_far more low)) in
      rw ends

-- The groups from a place on, up to another, were summed.
pub record Summing (s : List ℕ) (at value scale i : ℕ) : Type 0 where
  pub passing : Passing s at i
  pub few : i - at ≤ 4
  pub said : value ≡ value_of (take (i - at) (drop at s))
  pub worth : scale ≡ 128 ^ (i - at)

pub none_summed : (s : List ℕ) (at : ℕ) → Summing s at 0 1 at
unfolding value_of
none_summed s at =
    let none : at - at ≡ 0 = omega arith in
    record { passing = none_passed s at; few = omega arith; said = rw none; worth = rw none }

module _ (s : List ℕ) (at value scale i : ℕ) (so_far : Summing s at value scale i) where
  abbrev rest : List ℕ
  rest = drop at s

  abbrev before : ℕ
  before = i - at

  -- What was summed and what a group counts are small.
  pub value_fits : value < 268435456
  value_fits =
      let long = length-take-le before rest so_far.passing.run.within in
      let most : 128 ^ (i - at) ≤ 128 ^ 4 = pow-le-pow_right (omega arith) so_far.few in
      let small : value_of (take (i - at) (drop at s)) < 128 ^ (i - at) = rw long at (value_small (take before rest)) in
      omega (arith, so_far.said)

  pub scale_fits : scale ≤ 268435456
  scale_fits =
      let most : 128 ^ (i - at) ≤ 128 ^ 4 = pow-le-pow_right (omega arith) so_far.few in
      omega (arith, so_far.worth)

  pub group_fits : (group : ℕ) → group < 256 → group * scale ≤ 68451041280
  group_fits group byte =
      let less : group ≤ 255 = omega arith in
      let one : group * scale ≤ 255 * scale = mul-le-mul_right scale less in
      omega (arith, scale_fits)

  -- The group at the next place.
  module _ (more : i < length s) (group : ℕ) (is : group ≡ get_or s i 0) where
    own : get_or rest before 0 ≡ group
    own = here s at i so_far.passing more ∙ sym is

    next_said : (bits : ℕ) → get_or rest before 0 % 128 ≡ bits → value_of (take (i - at + 1) (drop at s)) ≡ value + bits * scale
    next_said bits low =
        value_more rest before (inside s at i so_far.passing more)
        ∙ ap (λ g. value_of (take before rest) + g * 128 ^ before) low
        ∙ ap (λ v. v + bits * 128 ^ before) (sym so_far.said)
        ∙ ap (λ p. value + bits * p) (sym so_far.worth)

    -- It is the last.
    pub last_summed : group < 128 → closed_as (value + group * scale) group (i - at) (i + 1) ≡ number_at s at
    unfolding number_in
    last_summed low =
        let run : run_of (drop at s) ≡ i - at = sym (last_passed s at i so_far.passing more (omega (arith, is))) in
        let ends : endless (drop at s) ≡ false = lt-leb (length rest) (run_of rest) (omega (arith, run, inside s at i so_far.passing more)) in
        let bits : get_or rest before 0 % 128 ≡ group = omega (arith, own) in
        let said : said_in (drop at s) ≡ value + group * scale = ap (λ n. value_of (take (n + 1) rest)) run ∙ next_said group bits in
        let last : get_or (drop at s) (run_of (drop at s)) 0 ≡ group = ap (λ n. get_or rest n 0) run ∙ own in
        let end : at + (i - at + 1) ≡ i + 1 = omega (arith, so_far.passing.order) in
        rw (ends, said, last, run, end)

    -- Another stands behind it.
    module _ (high : 128 ≤ group) where
      passed : Passing s at (i + 1)
      passed = one_passed s at i so_far.passing more (omega (arith, is))

      pub too_many : 4 ≤ i - at → longer_as s (i + 1) ≡ number_at s at
      too_many many = go (endless (drop at s)) refl
        where
          same : endless (drop (i + 1) s) ≡ endless (drop at s)
          same = passed_endless s at (i + 1) passed

          go : (b : Bool) → endless (drop at s) ≡ b → longer_as s (i + 1) ≡ number_at s at
          go true long = rw (same, long) (sym (number_endless (drop at s) at long))
          go false long =
              let ends = leb-false (length (drop at s)) (run_of (drop at s)) long in
              let five : 4 < run_of (drop at s) = omega (arith, passed.run.rest, so_far.passing.order) in
              rw (same, long) (sym (number_overlong (drop at s) at long (long_overlong (drop at s) ends five)))

      pub one_summed : group < 256 → i - at < 4 → Summing s at (value + (group - 128) * scale) (scale * 128) (i + 1)
      one_summed byte few =
          let next : i + 1 - at ≡ i - at + 1 = omega (arith, so_far.passing.order) in
          let bits : get_or rest before 0 % 128 ≡ group - 128 = omega (arith, own) in
          record {
            passing = passed;
            few = omega (arith, so_far.passing.order);
            said = sym (ap (λ n. value_of (take n rest)) next ∙ next_said (group - 128) bits);
            worth = ap (λ p. p * 128) so_far.worth ∙ sym (pow-suc 128 before) ∙ ap (λ n. 128 ^ n) (sym (next ∙ add-one before));
          }

  -- No group without the high bit.
  pub none_ended : length s ≤ i → refused (plain 34) ≡ number_at s at
  none_ended end = sym (number_endless rest at (none_left s at i so_far.passing end))

-- The groups of a number: more than one, the first of them; and the last.
groups_more : (k v : ℕ) → 128 ≤ v → v < 128 ^ suc k → (0 < k) × (groups_in k v ≡ (v % 128 + 128) ∷ groups_in (k - 1) (v / 128)) × (v / 128 < 128 ^ suc (k - 1))
unfolding groups_in
groups_more zero v large small = absurd (omega (arith, pow-suc 128 0))
groups_more (suc k) v large small =
    let pred : suc k - 1 ≡ k = omega arith in
    rw (pred, le-ltb v 128 large) (omega arith, refl, omega (arith, pow-suc 128 (suc k)))

groups_last : (k v : ℕ) → v < 128 → groups_in k v ≡ v ∷ []
unfolding groups_in
groups_last zero v small = refl
groups_last (suc k) v small = rw (lt-ltb v 128 small)

-- The writer's turns: the first j groups stand in the room, and what is left gives the others.
pub record Grouping (v at : ℕ) (room₀ room : List ℕ) (left i : ℕ) : Type 0 where
  pub j : ℕ
  pub place : i ≡ at + j
  pub storing : Storing (number_bytes v) room₀ room at j
  pub rest : drop j (number_bytes v) ≡ groups_in (4 - j) left
  pub small : left < 128 ^ suc (4 - j)

pub none_grouped : (v at : ℕ) (room : List ℕ) → v < 2 ^ 32 → at + length (number_bytes v) ≤ length room → Grouping v at room room v at
unfolding number_bytes
none_grouped v at room small fits =
    record { j = 0; place = omega arith; storing = none_stored (groups_in 4 v) room at fits; rest = refl; small = omega arith }

module _ (v at : ℕ) (room₀ room : List ℕ) (left i : ℕ) (so_far : Grouping v at room₀ room left i) where
  abbrev j : ℕ
  j = so_far.j

  inside_groups : j < length (number_bytes v)
  inside_groups = omega (arith, ap length so_far.rest, length-drop j (number_bytes v), groups_some (4 - j) left)

  first_left : groups_in (4 - j) left ≡ get_or (number_bytes v) j 0 ∷ drop (suc j) (number_bytes v)
  first_left = sym so_far.rest ∙ drop-cons (number_bytes v) j 0 inside_groups

  pub group_place : i < length room
  group_place = omega (arith, so_far.place, inside_groups, so_far.storing.fits, so_far.storing.same)

  pub one_grouped : 128 ≤ left → Grouping v at room₀ (set room i (left % 128 + 128)) (left / 128) (i + 1)
  one_grouped large =
      let step = groups_more (4 - j) left large so_far.small in
      let first = step.1 in
      let byte : get_or (number_bytes v) j 0 ≡ left % 128 + 128 = cc (first_left, first) in
      let behind : drop (suc j) (number_bytes v) ≡ groups_in (4 - j - 1) (left / 128) = cc (first_left, first) in
      let fuel : 4 - j - 1 ≡ 4 - (j + 1) = omega arith in
      record {
        j = j + 1;
        place = omega (arith, so_far.place);
        storing = rw (← byte) (one_stored (number_bytes v) room₀ room at j so_far.storing i so_far.place inside_groups);
        rest = rw add-one behind ∙ ap (λ k. groups_in k (left / 128)) fuel;
        small = rw fuel at step.2;
      }

  module _ (small : left < 128) where
    last_byte : get_or (number_bytes v) j 0 ≡ left
    last_byte = let one = groups_last (4 - j) left small in cc (first_left, one)

    all_groups : length (number_bytes v) ≡ j + 1
    all_groups = omega (arith, ap length so_far.rest, ap length (groups_last (4 - j) left small), length-drop j (number_bytes v), inside_groups)

    pub last_grouped : set room i left ≡ sets room₀ at (number_bytes v)
    last_grouped =
        let stored : Storing (number_bytes v) room₀ (set room i left) at (j + 1) =
        subst (λ b. Storing (number_bytes v) room₀ (set room i b) at (j + 1)) last_byte
        (one_stored (number_bytes v) room₀ room at j so_far.storing i so_far.place inside_groups) in
        all_stored (number_bytes v) room₀ (set room i left) at (j + 1) stored (omega (arith, all_groups))

    pub last_place : i + 1 ≡ at + length (number_bytes v)
    last_place = omega (arith, so_far.place, all_groups)
