-- How long a number is with the byte behind it.
use Prim.Native.Nat.{ℕ, ◌+◌}
use mathlib.Core.Path.{◌≡◌}
use mathlib.Core.List.{[], ◌∷◌}
use lib.ListN.{length, length-append}
use Rattle.words.specs.Text.{decimal}
use Rattle.listing.specs.Text.{ended}

pub length-ended : (n last : ℕ) → length (ended n last) ≡ length (decimal n) + 1
length-ended n last = length-append (decimal n) (last ∷ [])
