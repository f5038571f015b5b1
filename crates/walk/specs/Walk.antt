-- "after any other code the next command starts 4L bytes on"; codes 1, 2 and 3 end their list, so that the command takes all that is left.
use Rattle.std.specs.Prelude.{ℕ, zero, suc, ◌+◌, List, [], ◌∷◌, Bool, true, false, ◌&&◌, length, drop, eqb}
use Rattle.wire.specs.Read.{reach_code, span_of}

-- Where the command behind the first k begins; the list's length where there is no such command.
unfoldable pub start_after : List ℕ → ℕ → ℕ
start_after s zero = 0
start_after s (suc k) = start_after s k + span_of (drop (start_after s k) s)

-- The list as each of its commands finds it: a list with no byte left has ended. So many steps are enough as the list has bytes.
unfoldable pub rests_in : ℕ → List ℕ → List (List ℕ)
rests_in zero s = []
rests_in (suc n) s = elim (eqb (length s) 0) [ true ↦ [] | false ↦ s ∷ rests_in n (drop (span_of s) s) ]

unfoldable pub rests : List ℕ → List (List ℕ)
unfolding rests_in
rests s = rests_in (length s) s

-- 02, Q-12, "no code 1, 2 or 3 occurs": each command, as it finds the list, passes these three, so that the list ends with its last command.
abbrev pub all_reach : List (List ℕ) → Bool
all_reach [] = true
all_reach (r ∷ rs) = eqb (reach_code r) 0 && all_reach rs

abbrev pub unbroken : List ℕ → Bool
unbroken s = all_reach (rests s)
