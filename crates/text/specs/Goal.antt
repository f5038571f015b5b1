-- A goal's bits: those of the single nearest to so many quarters, which is exactly that number (proofs/Goals, `goal_exact`).
use Rattle.std.specs.Prelude.{ℕ, zero, suc, false, cond, eqb, Float}
use Rattle.std.specs.Float.{binary32}
use Rattle.std.specs.Float.Ieee.{round, to_bits}
use Rattle.std.specs.Prelude.{Option, Some, None}

-- The single of so many quarters.
unfoldable pub single_of : ℕ → Float
unfolding round
single_of quarters = round binary32 false quarters 4

unfoldable pub goal_bits : ℕ → ℕ
unfolding single_of to_bits
goal_bits quarters = to_bits binary32 (single_of quarters)

-- The number of quarters below so many that has these bits, if there is one.
unfoldable pub said_below : ℕ → ℕ → Option ℕ
unfolding goal_bits
said_below zero bits = None
said_below (suc n) bits = cond (eqb (goal_bits n) bits) (Some n) (said_below n bits)

-- A goal that the text can say: 4,096 quarters lie below 1024.
unfoldable pub quarters_in : ℕ → Option ℕ
unfolding said_below
quarters_in bits = said_below 4096 bits
