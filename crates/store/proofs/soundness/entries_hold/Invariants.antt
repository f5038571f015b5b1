-- `store::soundness::entries_hold` meets its contract. The loop's invariant: whether the entries from i on hold is whether all of them do.
use Prim.Native.Nat.{ℕ, ◌-◌}
use mathlib.Core.Path.{◌≡◌}
use mathlib.Core.List.{List}
use mathlib.Core.Bool.{Bool}
use Rattle.wire.specs.declared.kinds.Command.{Command}
use Rattle.store.specs.Pool.{between}
use Rattle.store.specs.TallySteps.{entries_by}
use Rattle.store.proofs.Walk.{Walk}
use Rattle.store.proofs.soundness.entries_hold.Given as goal

-- Whether the entries from i on hold is whether all of them do.
pub record Held (words : List ℕ) (es : List Command) (m : ℕ) (closed : List Bool) (end i : ℕ) : Type 0 where
  pub walk : Walk words end
  pub held : entries_by closed m (between words i (end - i)) ≡ entries_by closed m es

abbrev pub invariant-loop-i : goal.invariant-loop-i
invariant-loop-i l = Held l.words (between l.words l.start l.size) l.m l.tally.closed l.end l.i
