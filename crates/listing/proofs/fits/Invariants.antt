-- `fits` meets its contract: what is left of the room, the header and the lines so far are the room.
use Prim.Native.Nat.{ℕ, ◌+◌, ◌/◌, ◌≤◌}
use mathlib.Core.Path.{◌≡◌}
use mathlib.Core.List.{List}
use lib.ListN.{length}
use Rattle.report.specs.Record.{record_length}
use Rattle.listing.specs.Text.{lines_to, header_line}
use Rattle.listing.proofs.fits.Given as goal

pub record Counted (records : List ℕ) (room left line : ℕ) : Type 0 where
  pub within : line ≤ length records / record_length
  pub parts : left + length header_line + length (lines_to records line) ≡ room

abbrev pub invariant-loop-line : goal.invariant-loop-line
invariant-loop-line l = Counted l.records l.room l.left l.line
