-- `climbs` meets its contract: the offsets so far climb, and those that are left decide.
use mathlib.Core.Path.{◌≡◌}
use lib.ListN.{drop}
use Rattle.index.specs.Steps.{climbing}
use Rattle.index.proofs.climbs.Given as goal

abbrev pub invariant-loop-offset : goal.invariant-loop-offset
invariant-loop-offset l = climbing l.least l.end (drop l.offset-index l.old) ≡ climbing 0 l.end l.old
