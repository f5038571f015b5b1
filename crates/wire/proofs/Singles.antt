-- Which singles are no number: told by the test of the single, and by the bits, whose part below the sign is then above infinity's.
use Prim.Native.Nat.{ℕ, ◌%◌, ◌≤◌, ◌<◌}
use mathlib.Core.Path.{◌≡◌, refl, sym, subst, ap, ◌∙◌}
use mathlib.Core.Bool.{true, not}
use lib.Dec.{T}
use lib.Ieee.{Float, nan, inf, fin, binary32, is_nan, nan_bits, of_bits, to_bits}
use lib.Ieee.Bits.{nan_bits_is, nan_bits_above}
use borrow.Author.Tests.{lt-ltb, le-ltb}

-- There is one not-a-number, with the bits that every not-a-number counts as.
is_nan_lem : (x : Float) → is_nan x ≡ true → x ≡ nan
unfolding is_nan
is_nan_lem nan e = refl
is_nan_lem (inf s) e = absurd (subst T (sym e) tt)
is_nan_lem (fin s m k) e = absurd (subst T (sym e) tt)

pub nan_has_bits : (x : Float) → is_nan x ≡ true → to_bits binary32 x ≡ 0x7fc0_0000
unfolding to_bits
nan_has_bits x e = ap (to_bits binary32) (is_nan_lem x e)

-- Bits at most infinity's, but for the sign, are a number's; those above are read as not-a-number.
pub low_is_number : (bits : ℕ) → bits % 0x8000_0000 ≤ 0x7f80_0000 → T (not (nan_bits binary32 bits))
low_is_number bits h = rw (nan_bits_above binary32 bits, le-ltb _ _ h) tt

pub high_is_nan : (bits : ℕ) → 0x7f80_0000 < bits % 0x8000_0000 → of_bits binary32 bits ≡ nan
high_is_nan bits h = is_nan_lem (of_bits binary32 bits) (sym (nan_bits_is binary32 bits) ∙ nan_bits_above binary32 bits ∙ lt-ltb _ _ h)
