-- `put_lines` meets its contract: after so many turns the lines of so many records are laid down.
use Prim.Native.Nat.{ℕ, ◌+◌, ◌/◌, ◌≤◌}
use mathlib.Core.List.{List}
use lib.ListN.{length}
use Rattle.words.proofs.Stores.{Laid}
use Rattle.report.specs.Record.{record_length}
use Rattle.listing.specs.Text.{lines_to, lines_of}
use Rattle.listing.proofs.put_lines.Given as goal

pub record Lines (room₀ : List ℕ) (from : ℕ) (records room : List ℕ) (at place : ℕ) : Type 0 where
  pub laid : Laid room₀ from (lines_to records place) room at
  pub within : place ≤ length records / record_length
  pub fits : from + length (lines_of records) ≤ length room₀

abbrev pub invariant-loop-place : goal.invariant-loop-place
invariant-loop-place l = Lines l.initial.room l.from l.records l.room l.at l.place
