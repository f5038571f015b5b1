-- Steps of the implementation: no public promise of the product (`bench`, `wire`, `frame`) needs them.
-- One second of the store, which judges itself: where it is not sound it stays, and nothing is handed over.
use Rattle.std.specs.Prelude.{ℕ, cond, Result, Ok, Err}
use Rattle.store.specs.declared.Store.{Store}
use Rattle.store.specs.declared.Step.{Step}
use Rattle.store.specs.declared.Unsound.{Unsound}
use Rattle.store.specs.declared.groups.Group.{Group}
use Rattle.store.specs.Effects.{group_of, next_group, after_second}
use Rattle.store.specs.Sound.{store_sound}

-- The macro that runs afterwards with its seconds left, and the group that was handed over.
abbrev pub step_with : ℕ → ℕ → Group → Step
step_with running left group = record { running = running; left = left; group = group }

unfoldable pub stepped_of : Store → Result Step Unsound
stepped_of s =
    cond (store_sound s)
    (Ok (step_with (after_second s).running (after_second s).left (group_of (next_group s))))
    (Err (record {}))
