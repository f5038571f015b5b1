-- `words::put_words` meets its contract. The invariant: the first i numbers stand at the front of the room, and the rest is as it was.
use Prim.Native.Nat.{ℕ, ◌*◌, ◌≤◌}
use mathlib.Core.Path.{◌≡◌}
use mathlib.Core.List.{List, ◌++◌}
use lib.ListN.{length, take, drop}
use Rattle.words.specs.BigEndian.{bytes_of}
use Rattle.words.proofs.put_words.Given as goal

-- The first i numbers stand at the front of the room, and the rest of it is as it was.
pub record Front (ws room₀ room : List ℕ) (i : ℕ) : Type 0 where
  pub within : i ≤ length ws
  pub fits : length ws * 4 ≤ length room₀
  pub same : length room ≡ length room₀
  pub front : room ≡ bytes_of (take i ws) ++ drop (i * 4) room₀

abbrev pub invariant-loop-i : goal.invariant-loop-i
invariant-loop-i l = Front l.values l.initial.room l.room l.i
