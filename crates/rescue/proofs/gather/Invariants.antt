-- `gather` meets its contract (`Turns`). The measure is how many pieces are left: each turn reads once at most, and comes past one of them.
use lib.ListN.{length, drop}
use Rattle.rescue.specs.Pieces.{pieces_of}
use Rattle.rescue.proofs.Turns.{Gathering}
use Rattle.rescue.proofs.gather.Given as goal

abbrev pub invariant-loop-at : goal.invariant-loop-at
invariant-loop-at l = Gathering l.list l.initial.kept l.initial.table l.kept l.table l.at l.run l.n l.m

abbrev pub decreases-loop-at : goal.decreases-loop-at
decreases-loop-at l = length (pieces_of (drop l.at l.list))
