-- How much of a stored list is looked at: each byte once at most. A number is read by `number_at`, whose loop has one turn for each byte
-- that it looks at (`left_to_see`, of its invariant: a turn stands before the last of them); and each number begins where the one before it ended.
use Prim.Native.Nat.{ℕ, zero, suc, ◌+◌, ◌-◌, ◌≤◌}
use mathlib.Core.Path.{◌≡◌, refl, sym}
use mathlib.Core.List.{List}
use mathlib.Core.Bool.{Bool, true, false, cond}
use native.Mathlib.Omega.{arith}
use lib.ListN.{length, drop, length-drop}
use borrow.Author.Tests.{lt-leb, leb-false}
use Rattle.card.specs.Reading.{Got, got, refused}
use Rattle.card.specs.Number.{run_of, endless, number_at}
use Rattle.card.proofs.Groups.{took}
use Rattle.card.proofs.Numbers.{visited}

-- A number that is taken is looked at from its first byte to its last.
pub number_visits : (s : List ℕ) (at v end : ℕ) → number_at s at ≡ got v end → at + visited (drop at s) ≡ end
number_visits s at v end e =
    let t = took (drop at s) at v end e in
    let ends : endless (drop at s) ≡ false = lt-leb (length (drop at s)) (run_of (drop at s)) t.ends in
    rw ends (sym t.place)

-- No number is looked at past the end of the bytes.
pub visits_within : (s : List ℕ) → visited s ≤ length s
visits_within s = go (endless s) refl
  where
    go : (b : Bool) → endless s ≡ b → cond b (length s) (run_of s + 1) ≤ length s
    go true is = omega arith
    go false is = omega (arith, leb-false (length s) (run_of s) is)

-- How many bytes are looked at when numbers are read one behind the other from a place on, at most so many, up to the first that is refused.
unfoldable pub visits : ℕ → List ℕ → ℕ → ℕ
visits zero s at = 0
visits (suc k) s at = visited (drop at s) + elim (number_at s at) [ got v end ↦ visits k s end | refused told ↦ 0 ]

-- However many they are, no more than there are: none is looked at twice.
pub visits_once : (k : ℕ) (s : List ℕ) (at : ℕ) → visits k s at ≤ length s - at
unfolding visits
visits_once zero s at = omega arith
visits_once (suc k) s at = go (number_at s at) refl (λ end. visits_once k s end)
  where
    go : (x : Got ℕ) → number_at s at ≡ x → ((end : ℕ) → visits k s end ≤ length s - end)
        → visited (drop at s) + elim x [ got v end ↦ visits k s end | refused told ↦ 0 ] ≤ length s - at
    go (got v end) is rest =
        omega (arith, number_visits s at v end is, rest end, visits_within (drop at s), length-drop at s)
    go (refused told) is rest = omega (arith, visits_within (drop at s), length-drop at s)
