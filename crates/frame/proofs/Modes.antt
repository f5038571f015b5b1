-- Byte 24: each of its flags is a bit, and the whole is below 64 where the algorithm is in range.
use Prim.Native.Nat.{ℕ, ◌≤◌}
use mathlib.Core.Bool.{Bool, true, false}
use native.Mathlib.Omega.{arith}
use Rattle.frame.specs.Bytes.{bit, modes_of}

pub bit_le : (on : Bool) → bit on ≤ 1
bit_le false = omega arith
bit_le true = omega arith

pub modes_le : (power auto looping : Bool) (algorithm : ℕ) → algorithm ≤ 2 → modes_of power auto looping algorithm ≤ 39
modes_le power auto looping algorithm h = omega (arith, bit_le power, bit_le auto, bit_le looping)
