-- Text as bytes: characters, numbers in decimal, and what a writer that puts bytes at a place of a room leaves there.
use Rattle.std.specs.Prelude.{ℕ, zero, suc, ◌+◌, ◌*◌, ◌-◌, ◌/◌, ◌%◌, List, [], ◌∷◌, ◌++◌, Bool, cond, length, ltb, leb}
use Prim.Native.Char.{code}
use Prim.Native.String.{String, [] as none, ◌∷◌ as ◌then◌}
use Rattle.std.proofs.lemmas.List.Edits.{sets}

-- A text as the bytes of its characters.
abbrev pub ascii : String → List ℕ
ascii none = []
ascii (c then s) = code c ∷ ascii s

-- A number in decimal without leading zeros, in at most so many digits.
unfoldable pub decimal_in : ℕ → ℕ → List ℕ
decimal_in zero n = []
decimal_in (suc most) n = cond (ltb n 10) [] (decimal_in most (n / 10)) ++ ((48 + n % 10) ∷ [])

-- Ten digits hold every number of 32 bits.
abbrev pub decimal : ℕ → List ℕ
decimal n = decimal_in 10 n

-- The number that digits say, read from the left behind a number that was read already.
abbrev pub value_from : ℕ → List ℕ → ℕ
value_from read [] = read
value_from read (d ∷ ds) = value_from (read * 10 + (d - 48)) ds

-- Is there room for bytes behind the first so many of a room?
abbrev pub fits_at : List ℕ → ℕ → List ℕ → Bool
fits_at bytes at room = leb (at + length bytes) (length room)

-- The room afterwards: the bytes from that place on; all of it is as it was where they do not fit.
abbrev pub stored_at : List ℕ → ℕ → List ℕ → List ℕ
stored_at bytes at room = cond (fits_at bytes at room) (sets room at bytes) room

-- The place behind them; where they do not fit, the place where they should have begun.
abbrev pub place_after : List ℕ → ℕ → List ℕ → ℕ
place_after bytes at room = cond (fits_at bytes at room) (at + length bytes) at
