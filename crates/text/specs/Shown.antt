-- The line that a record's number names: "A typed list's records carry the text's line number."
use Rattle.std.specs.Prelude.{ℕ, ◌+◌, ◌-◌, List, [], ◌∷◌, Bool, cond, ◌&&◌, length, get_or, take, ltb, leb}
use Rattle.text.specs.Split.{lines_of}

-- Is there such a line? Lines are numbered from 1; a text above 32,768 bytes shows none.
abbrev pub has_line : List ℕ → ℕ → Bool
has_line text number = leb (length text) 32768 && (ltb 0 number && leb number (length (lines_of text)))

-- The line with this number, without its line feed; nothing where there is no such line.
unfoldable pub line_shown : List ℕ → ℕ → List ℕ
line_shown text number = cond (has_line text number) (get_or (lines_of text) (number - 1) []) []

-- How many bytes lines take, each with its line feed.
unfoldable pub reach_of : List (List ℕ) → ℕ
reach_of [] = 0
reach_of (l ∷ ls) = length l + 1 + reach_of ls

-- Where that line begins in the text; at its start where there is no such line.
unfoldable pub line_start : List ℕ → ℕ → ℕ
line_start text number = cond (has_line text number) (reach_of (take (number - 1) (lines_of text))) 0
