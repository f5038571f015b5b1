-- `store::soundness::holds` meets its contract. The loop's invariant: the macros below m hold. Where all do, the running one has at most
-- 600 seconds, so the table tells them as they are.
use Prim.Native.Nat.{ℕ, ◌*◌, ◌≤◌}
use mathlib.Core.Path.{◌≡◌}
use mathlib.Core.List.{List}
use mathlib.Core.Bool.{true}
use lib.ListN.{length}
use Rattle.store.specs.declared.tally.Tally.{Tally}
use Rattle.store.specs.Pool.{start_of}
use Rattle.store.specs.SpanSteps.{TellsBelow}
use Rattle.store.specs.Sound.{all_below, macro_holds}
use Rattle.store.specs.TallySteps.{store_of}
use Rattle.store.proofs.soundness.holds.Given as goal

-- The macros below m hold, and macro m starts here.
pub record Held (words : List ℕ) (tally : Tally) (start m : ℕ) : Type 0 where
  pub whole : length words ≡ 576
  pub marks : length tally.closed ≡ 8
  pub tells : TellsBelow (store_of words tally) 8 tally.spans
  pub within : m ≤ 8
  pub small : start ≤ m * 255
  pub starts : start ≡ start_of tally.counts tally.closed tally.opened m
  pub held : all_below m (macro_holds (store_of words tally)) ≡ true

abbrev pub invariant-loop-m : goal.invariant-loop-m
invariant-loop-m l = Held l.words l.tally l.start l.m
