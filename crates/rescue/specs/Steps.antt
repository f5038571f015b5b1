-- Steps of the code. No public promise needs them.
use Rattle.std.specs.Prelude.{ℕ, ◌≤◌, ◌≡◌, List, length, take}
use Rattle.rescue.specs.declared.Sums.{Sums}
use Rattle.rescue.specs.Pieces.{kept_of, stretches_of, table_of}

-- `gather`: the kept commands at the front of one buffer, the table of stretches at the front of the other.
pub record Gathered (s kept table : List ℕ) (sums : Sums) : Type 0 where
  pub kept_fits : sums.kept ≤ length kept
  pub table_fits : sums.table ≤ length table
  pub kept_front : take sums.kept kept ≡ kept_of s
  pub table_front : take sums.table table ≡ table_of (stretches_of s)
