-- How much of a list is walked. `gather` has one turn for each command that begins from a place on: its measure is how many of them are left.
-- Building visits each command of the list once, extending only those from the last offset on.
use Prim.Native.Nat.{ℕ, ◌+◌, ◌*◌, ◌-◌, ◌≤◌}
use mathlib.Core.Path.{◌≡◌, sym, ap, ◌∙◌}
use mathlib.Core.List.{List, [], ◌++◌}
use lib.ListN.{length}
use Rattle.walk.specs.Walk.{rests}
use Rattle.index.specs.Index.{starts_from, last_of, built}
use Rattle.index.proofs.Starts.{length_starts, starts_few}
use Rattle.index.proofs.Ends.{length_index}
use Rattle.index.proofs.Built.{built_holds}
use Rattle.index.proofs.Extended.{extended_built}

-- How many commands a call visits.
abbrev pub visited : List ℕ → List ℕ → ℕ
visited s old = length (starts_from s (last_of old))

pub anew_visits : (s : List ℕ) → visited s [] ≡ length (rests s)
anew_visits s = length_starts s 0

-- An extended index has the offsets that stay, whose commands are not visited, and one to each command that is.
pub extending_visits : (s t : List ℕ) → length (built s) - 1 + visited (s ++ t) (built s) ≡ length (rests (s ++ t))
extending_visits s t = sym (length_index (s ++ t) (built s)) ∙ ap length (extended_built s t) ∙ (built_holds (s ++ t)).count

-- No call visits more than one for each eight bytes behind the last offset, and one.
pub visits_few : (s old : List ℕ) → 8 * visited s old ≤ length s - last_of old + 7
visits_few s old = starts_few s (last_of old)
