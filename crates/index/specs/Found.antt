-- 02, Q-14: "Looked up through an index built here for that list, each command shows the same bytes as the walk does."
use Rattle.std.specs.Prelude.{ℕ, ◌-◌, List, Bool, cond, ◌||◌, length, get_or, eqb, ltb}
use Rattle.walk.specs.Shown.{bytes_at, offset_to}

-- The number 0, one past the offsets, and any number of a list above 4,096 bytes have no command.
abbrev pub lacking : List ℕ → List ℕ → ℕ → Bool
lacking s offsets number = ltb 4096 (length s) || (eqb number 0 || ltb (length offsets) number)

-- Where command `number`, from 1, begins by some offsets; the list's length where there is no such command.
abbrev pub place_by : List ℕ → List ℕ → ℕ → ℕ
place_by s offsets number = cond (lacking s offsets number) (length s) (get_or offsets (number - 1) 0)

-- The bytes that begin there, to the end of their command: none where the place lies outside the list.
abbrev pub found_of : List ℕ → List ℕ → ℕ → List ℕ
found_of s offsets number = bytes_at s (place_by s offsets number)

-- How far into the list they begin; an empty part begins at the list's start.
abbrev pub found_at : List ℕ → List ℕ → ℕ → ℕ
found_at s offsets number = offset_to (found_of s offsets number) (place_by s offsets number)
