-- 01 gives the rule on a goal for its bits as they stand on the wire, and so does reading. A decoded command's goal is two singles, and the answer on
-- it is the same: a single keeps the bits that it was read from unless they are a not-a-number's, and every one of those is out of range.
use Prim.Native.Nat.{ℕ, ◌%◌, ◌^◌, ◌≤◌, ◌<◌}
use mathlib.Core.Path.{◌≡◌, refl, sym, ap, ◌∙◌}
use mathlib.Core.Logic.{◌↔◌, ◌⊎◌, inl, inr}
use mathlib.Core.Bool.{Bool, true, false, cond, ◌||◌, false≢true}
use native.Mathlib.Omega.{arith}
use lib.Dec.{eqb, leb, ltb}
use lib.Ieee.{nan, binary32, of_bits, to_bits}
use lib.Ieee.Bits.{to_bits-of_bits, nan_bits_is}
use borrow.Author.Tests.{eqb-true, ne_eqb, leb-true, le-leb, lt-leb, ltb-true, ltb-false}
use Rattle.wire.specs.declared.table.Form.{Form}
use Rattle.wire.specs.declared.table.Layout.{Layout}
use Rattle.wire.specs.Table.{row_of}
use Rattle.wire.specs.Kind.{parts_of}
use Rattle.wire.specs.Judge.{in_limits, bad_in, part_checks, arg_checks}
use Rattle.wire.specs.Read.{parts_as, command_as}
use Rattle.wire.proofs.Singles.{low_is_number, high_is_nan}
use Rattle.wire.proofs.Layouts.{BitsIn, fields_within, parts_kind}

-- Is a goal value with these bits in range? (The limits are those of the table's row: `goal_judged`, below.)
abbrev pub goal_allowed : ℕ → Bool
goal_allowed bits = in_limits Layout.Singles 0 0x447fffff bits

-- "A GOAL value is allowed when its bits are at most 0x447fffff .. or are exactly 0x80000000 (minus zero); no other bits are."
pub goal_allowed_lem : (bits : ℕ) → (goal_allowed bits ≡ true) ↔ ((bits ≤ 0x447fffff) ⊎ (bits ≡ 0x80000000))
goal_allowed_lem bits = (λ e. only (eqb bits 0x80000000) (leb bits 0x447fffff) refl refl (sym as_tests ∙ e), allowed)
  where
    as_tests : goal_allowed bits ≡ (eqb bits 0x80000000 || leb bits 0x447fffff)
    as_tests = rw (le-leb 0 bits (omega arith))

    only : (minus low : Bool) → eqb bits 0x80000000 ≡ minus → leb bits 0x447fffff ≡ low → (minus || low) ≡ true
        → (bits ≤ 0x447fffff) ⊎ (bits ≡ 0x80000000)
    only true low is at e = inr (eqb-true bits 0x80000000 is)
    only false true is at e = inl (leb-true bits 0x447fffff at)
    only false false is at e = absurd (false≢true e)

    allowed : (bits ≤ 0x447fffff) ⊎ (bits ≡ 0x80000000) → goal_allowed bits ≡ true
    allowed (inl low) = as_tests ∙ simp (ne_eqb bits 0x80000000 (λ e. omega arith), le-leb bits 0x447fffff low)
    allowed (inr minus) = rw minus

-- The bits of a not-a-number: without the sign they are above infinity's.
abbrev pub NotANumber : ℕ → Type 0
NotANumber bits = 0x7f800000 < bits % 0x80000000

-- A single keeps the bits that it was read from, unless they are a not-a-number's.
pub bits_kept : (bits : ℕ) → bits < 2 ^ 32 → (NotANumber bits → ⊥) → to_bits binary32 (of_bits binary32 bits) ≡ bits
bits_kept bits h number = to_bits-of_bits binary32 bits h (rw (nan_bits_is binary32 bits) at (low_is_number bits (omega (arith, number))))

-- And every not-a-number is out of range.
pub nan_refused : (bits : ℕ) → NotANumber bits → goal_allowed bits ≡ false
nan_refused bits above = simp (ne_eqb bits 0x80000000 (λ e. omega arith), le-leb 0 bits (omega arith), lt-leb bits 0x447fffff (omega arith))

-- So the single that was read is in range exactly where the bits are.
goal_limits : (bits : ℕ) → bits < 2 ^ 32 → goal_allowed (to_bits binary32 (of_bits binary32 bits)) ≡ goal_allowed bits
unfolding to_bits
goal_limits bits h = go (ltb 0x7f800000 (bits % 0x80000000)) refl
  where
    go : (b : Bool) → ltb 0x7f800000 (bits % 0x80000000) ≡ b → goal_allowed (to_bits binary32 (of_bits binary32 bits)) ≡ goal_allowed bits
    go true is =
        let above = ltb-true 0x7f800000 (bits % 0x80000000) is in
        rw (high_is_nan bits above) (sym (nan_refused bits above))
    go false is = ap goal_allowed (bits_kept bits h (λ above. omega (arith, ltb-false 0x7f800000 (bits % 0x80000000) is)))

-- A decoded not-a-number is told by the bits that all of them count as.
pub nan_value : to_bits binary32 nan ≡ 0x7fc00000
unfolding to_bits
nan_value = refl

-- Rows 8 to 10 on the numbers in the fields, and the first bad one, are those of the command that is made of them.
record SameRows (form : Form) (flag : Bool) (one two : ℕ) : Type 0 where
  checks : arg_checks (command_as form flag one two) ≡ part_checks flag (parts_as form one two)
  bad : bad_in (parts_of (command_as form flag one two).kind) ≡ bad_in (parts_as form one two)

-- They are where the numbers are the command's own.
fits_same : (form : Form) (flag : Bool) (one two : ℕ) → one < 2 ^ 32 → BitsIn (row_of form).layout one two → SameRows form flag one two
fits_same form flag one two h bits =
    let parts = parts_as form one two in
    let same = parts_kind form parts.first parts.second (fields_within (row_of form).layout one two h bits) in
    record { checks = ap (part_checks flag) same; bad = ap bad_in same }

-- And of a goal too, whose bits may be those of no number.
same_rows : (form : Form) (flag : Bool) (one two : ℕ) → one < 2 ^ 32 → two < 2 ^ 32 → SameRows form flag one two
same_rows Form.ImgPwr flag one two h k = fits_same Form.ImgPwr flag one two h tt
same_rows Form.ImgRegion flag one two h k = fits_same Form.ImgRegion flag one two h tt
same_rows Form.ImgTrack flag one two h k = fits_same Form.ImgTrack flag one two h tt
same_rows Form.TrkAlg flag one two h k = fits_same Form.TrkAlg flag one two h tt
same_rows Form.TrkLoop flag one two h k = fits_same Form.TrkLoop flag one two h tt
same_rows Form.ImgImage flag one two h k = fits_same Form.ImgImage flag one two h tt
same_rows Form.TrkGoal flag one two h k =
    record { checks = rw (goal_limits one h, goal_limits two k); bad = rw (goal_limits one h, goal_limits two k) }
same_rows Form.TlmFlush flag one two h k = fits_same Form.TlmFlush flag one two h tt
same_rows Form.FlushAuto flag one two h k = fits_same Form.FlushAuto flag one two h tt
same_rows Form.Open flag one two h k = fits_same Form.Open flag one two h tt
same_rows Form.Close flag one two h k = fits_same Form.Close flag one two h tt
same_rows Form.Run flag one two h k = fits_same Form.Run flag one two h tt
same_rows Form.Wait flag one two h k = fits_same Form.Wait flag one two h tt
same_rows Form.Stop flag one two h k = fits_same Form.Stop flag one two h tt
same_rows Form.Clear flag one two h k = fits_same Form.Clear flag one two h tt

-- So with words of 32 bits the judgement on the wire's own numbers, goals by their bits, is the one on the command that was made of them.
pub rows_on_wire : (form : Form) (flag : Bool) (one two : ℕ) → one < 2 ^ 32 → two < 2 ^ 32
    → (arg_checks (command_as form flag one two) ≡ part_checks flag (parts_as form one two))
    × (bad_in (parts_of (command_as form flag one two).kind) ≡ bad_in (parts_as form one two))
rows_on_wire form flag one two h k =
    let same = same_rows form flag one two h k in
    (same.checks, same.bad)

-- The goal's row by itself: the first bad value is the first whose bits are not allowed.
pub goal_judged : (xbits ybits : ℕ) → bad_in (parts_as Form.TrkGoal xbits ybits) ≡ cond (goal_allowed xbits) (cond (goal_allowed ybits) 0 2) 1
goal_judged xbits ybits = refl
