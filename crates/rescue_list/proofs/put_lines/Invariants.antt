-- `put_lines` meets its contract: after so many turns the lines of so many stretches are laid down.
use Prim.Native.Nat.{ℕ, ◌*◌, ◌-◌, ◌/◌, ◌≤◌}
use mathlib.Core.List.{List}
use lib.ListN.{length}
use Rattle.words.proofs.Front.{Bytes}
use Rattle.words.proofs.Stores.{Laid}
use Rattle.rescue_list.specs.Steps.{lines_to}
use Rattle.rescue_list.proofs.put_lines.Given as goal

-- What holds after so many turns, with what the next one needs.
pub record Lines (room₀ table room : List ℕ) (at place : ℕ) : Type 0 where
  pub laid : Laid room₀ 0 (lines_to table place) room at
  pub within : place ≤ length table / 4
  pub bytes : Bytes table
  pub enough : length table / 4 * 20 ≤ length room₀

abbrev pub invariant-loop-place : goal.invariant-loop-place
invariant-loop-place l = Lines l.initial.room l.table l.room l.at l.place

abbrev pub decreases-loop-place : goal.decreases-loop-place
decreases-loop-place l = l.place-end - l.place
