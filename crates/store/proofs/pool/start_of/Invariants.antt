-- `store::pool::start_of`: the sum so far is where the macro that is next starts.
use Prim.Native.Nat.{◌*◌, ◌≤◌}
use mathlib.Core.Path.{◌≡◌}
use Rattle.store.specs.Pool.{start_of}
use Rattle.store.proofs.pool.start_of.Given as goal

abbrev pub invariant-loop-i : goal.invariant-loop-i
invariant-loop-i l = (l.i ≤ l.m) × (l.sum ≤ 255 * l.i) × (l.sum ≡ start_of l.counts l.closed l.opened l.i)
