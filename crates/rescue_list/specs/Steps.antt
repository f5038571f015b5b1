-- Steps of the code. No meaning of what is written needs them.
use Rattle.std.specs.Prelude.{ℕ, zero, suc, ◌+◌, ◌*◌, List, [], ◌++◌}
use Rattle.words.specs.BigEndian.{half_at}
use Rattle.rescue_list.specs.Printed.{line_of}

-- `put_line`: the line of a start and a length.
abbrev pub line_with : ℕ → ℕ → List ℕ
line_with start size = line_of (record { start = start; size = size })

-- `put_lines`: the lines of the first so many stretches of a table, by its bytes.
unfoldable pub lines_to : List ℕ → ℕ → List ℕ
lines_to table zero = []
lines_to table (suc n) = lines_to table n ++ line_with (half_at table (n * 4)) (half_at table (n * 4 + 2))
