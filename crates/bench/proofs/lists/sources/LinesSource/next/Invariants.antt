-- `Lines::next` meets its contract, by the laws of `Sources`: the loop's invariant is that so many commands and numbers are left as at its start, and that
-- the lines' numbers keep within 32 bits. Each turn passes a line.
use Prim.Native.Nat.{◌+◌, ◌^◌, ◌<◌}
use lib.ListN.{length}
use Rattle.bench.proofs.Sources.{Same}
use Rattle.bench.proofs.lists.sources.LinesSource.next.Given as goal

abbrev pub invariant-loop-self : goal.invariant-loop-self
invariant-loop-self l =
    Same l.initial.self.left.now l.initial.self.number l.self.left.now l.self.number × (l.self.number + length l.self.left.now < 2 ^ 32)

abbrev pub decreases-loop-self : goal.decreases-loop-self
decreases-loop-self l = length l.self.left.now
