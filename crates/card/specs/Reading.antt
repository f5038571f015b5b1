-- Reading from the front, number by number: what is had from the bytes at a place, and where it ends; or what is told of them. 02, Q-4: "at each number 34
-- .., 35 .., then at once ..": what follows is looked at only where all before it passed.
use Rattle.std.specs.Prelude.{ℕ, List, cond, eqb}
use Rattle.words.specs.Codes.{Check, first_of}
use Rattle.wire.specs.declared.judging.Told.{Told}
use Rattle.wire.specs.Judge.{plain}

-- Something and the place behind it, or why it is not had.
pub data Got (A : Type 0) : Type 0 where
  got : A → ℕ → Got A
  refused : Told → Got A

-- The next thing, from what was had and the place behind it.
abbrev pub and_then : {A B : Type 0} → Got A → (A → ℕ → Got B) → Got B
and_then (got a end) next = next a end
and_then (refused told) next = refused told

-- The code of the first check that is due; what stands behind them where none is.
abbrev pub passing : {A : Type 0} → List Check → Got A → Got A
passing checks passed = cond (eqb (first_of checks) 0) passed (refused (plain (first_of checks)))
