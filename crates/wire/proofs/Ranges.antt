-- Two numbers that are in range fit the fields of their layout. So the command that is made of them has them as its parts, and is judged by them.
use Prim.Native.Nat.{ℕ, ◌≤◌}
use mathlib.Core.Path.{◌≡◌, refl, ap}
use mathlib.Core.Logic.{◌⊎◌, inl, inr}
use mathlib.Core.Bool.{Bool, true, false, cond, ◌&&◌}
use native.Mathlib.Omega.{arith}
use lib.Dec.{leb}
use borrow.Author.Tests.{leb-true}
use Rattle.words.specs.Codes.{first_of}
use Rattle.words.proofs.Tests.{both}
use Rattle.wire.specs.declared.table.Form.{Form}
use Rattle.wire.specs.declared.kinds.Parts.{Parts}
use Rattle.wire.specs.Table.{row_of}
use Rattle.wire.specs.Kind.{parts_with, parts_of, kind_of}
use Rattle.wire.specs.Judge.{bad_in, part_checks, judge_code}
use Rattle.wire.proofs.Goals.{goal_allowed, goal_allowed_lem, bits_kept}
use Rattle.wire.proofs.Layouts.{IsBits, Within, parts_kind}

-- No argument is bad where both are in range.
both_in : (a b : Bool) → ◌≡◌ {A = ℕ} (cond a (cond b 0 2) 1) 0 → (a ≡ true) × (b ≡ true)
both_in true true e = (refl, refl)
both_in true false e = absurd (omega arith)
both_in false b e = absurd (omega arith)

at_most : (low high value : ℕ) → (leb low value && leb value high) ≡ true → value ≤ high
at_most low high value e = leb-true value high (both (leb low value) (leb value high) e).1

record Ranged (high1 high2 first second : ℕ) : Type 0 where
  one : first ≤ high1
  two : second ≤ high2

ranged : (low1 high1 low2 high2 first second : ℕ)
    → ◌≡◌ {A = ℕ} (cond (leb low1 first && leb first high1) (cond (leb low2 second && leb second high2) 0 2) 1) 0
    → Ranged high1 high2 first second
ranged low1 high1 low2 high2 first second e =
    let tests = both_in (leb low1 first && leb first high1) (leb low2 second && leb second high2) e in
    record { one = at_most low1 high1 first tests.0; two = at_most low2 high2 second tests.1 }

-- A goal's bits that are in range are those of a number.
goal_kept : (bits : ℕ) → goal_allowed bits ≡ true → IsBits bits
goal_kept bits allowed = go ((goal_allowed_lem bits).0 allowed)
  where
    go : (bits ≤ 0x447fffff) ⊎ (bits ≡ 0x80000000) → IsBits bits
    go (inl low) = bits_kept bits (omega arith) (λ above. omega arith)
    go (inr minus) = bits_kept bits (omega arith) (λ above. omega arith)

pub in_range : (form : Form) (first second : ℕ) → bad_in (parts_with form first second) ≡ 0 → Within (row_of form).layout first second
in_range Form.ImgPwr first second e = let r = ranged 0 1 0 0 first second e in (omega (arith, r), omega (arith, r))
in_range Form.ImgRegion first second e = let r = ranged 0 1023 0 1023 first second e in (omega (arith, r), omega (arith, r))
in_range Form.ImgTrack first second e = let r = ranged 0 65535 1 65535 first second e in (omega (arith, r), omega (arith, r))
in_range Form.TrkAlg first second e = let r = ranged 0 2 0 0 first second e in (omega (arith, r), omega (arith, r))
in_range Form.TrkLoop first second e = let r = ranged 0 1 0 0 first second e in (omega (arith, r), omega (arith, r))
in_range Form.ImgImage first second e = let r = ranged 0 65535 1 65535 first second e in (omega (arith, r), omega (arith, r))
in_range Form.TrkGoal first second e =
    let tests = both_in (goal_allowed first) (goal_allowed second) e in
    (goal_kept first tests.0, goal_kept second tests.1)
in_range Form.TlmFlush first second e = let r = ranged 0 0 0 0 first second e in (omega (arith, r), omega (arith, r))
in_range Form.FlushAuto first second e = let r = ranged 0 1 0 0 first second e in (omega (arith, r), omega (arith, r))
in_range Form.Open first second e = let r = ranged 0 7 0 0 first second e in (omega (arith, r), omega (arith, r))
in_range Form.Close first second e = let r = ranged 0 0 0 0 first second e in (omega (arith, r), omega (arith, r))
in_range Form.Run first second e = let r = ranged 0 7 0 0 first second e in (omega (arith, r), omega (arith, r))
in_range Form.Wait first second e = let r = ranged 1 600 0 0 first second e in (omega (arith, r), omega (arith, r))
in_range Form.Stop first second e = let r = ranged 0 0 0 0 first second e in (omega (arith, r), omega (arith, r))
in_range Form.Clear first second e = let r = ranged 0 0 0 0 first second e in (omega (arith, r), omega (arith, r))

pub in_range_parts : (form : Form) (first second : ℕ) → bad_in (parts_with form first second) ≡ 0
    → parts_of (kind_of form first second) ≡ parts_with form first second
in_range_parts form first second e = parts_kind form first second (in_range form first second e)

pub in_range_judge : (form : Form) (flag : Bool) (first second : ℕ) → bad_in (parts_with form first second) ≡ 0
    → judge_code (record { flag = flag; kind = kind_of form first second }) ≡ first_of (part_checks flag (parts_with form first second))
unfolding judge_code
in_range_judge form flag first second e = ap (λ (parts : Parts). first_of (part_checks flag parts)) (in_range_parts form first second e)
