-- The invariant of `sum_of`: the sum is that of the first i words.
use Prim.Native.Nat.{◌≤◌}
use mathlib.Core.Path.{◌≡◌}
use Rattle.wire.specs.Read.{sum_of}
use Rattle.wire.proofs.decoding.sum_of.Given as goal

abbrev pub invariant-loop-i : goal.invariant-loop-i
invariant-loop-i l = (l.i ≤ l.n) × (l.sum ≡ sum_of l.s l.i)
