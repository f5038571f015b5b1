-- `put_digits` meets its contract. The invariant: what is left of the number, put before the place that was reached, gives what the whole number gives.
use Prim.Native.Nat.{ℕ, ◌-◌, ◌^◌, ◌≤◌, ◌<◌}
use mathlib.Core.Path.{◌≡◌}
use mathlib.Core.List.{List}
use lib.ListN.{length}
use lib.Seq.{sets}
use Rattle.words.specs.Text.{decimal}
use Rattle.words.proofs.putting.put_digits.Given as goal

-- The room with a number that ends before a place.
abbrev pub ending_at : List ℕ → ℕ → ℕ → List ℕ
ending_at room end n = sets room (end - length (decimal n)) (decimal n)

pub record Rest (room₀ : List ℕ) (end value : ℕ) (room : List ℕ) (behind left : ℕ) : Type 0 where
  pub small : left < 2 ^ 32
  pub fits : length (decimal left) ≤ behind
  pub within : behind ≤ length room
  pub same : length room ≡ length room₀
  pub whole : ending_at room behind left ≡ ending_at room₀ end value

abbrev pub invariant-loop-left : goal.invariant-loop-left
invariant-loop-left l = Rest l.initial.room l.end l.value l.room l.behind l.left

abbrev pub decreases-loop-left : goal.decreases-loop-left
decreases-loop-left l = l.left
