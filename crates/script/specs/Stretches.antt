-- Stretches of a script: so many bytes from a place on, where the script has them all.
use Rattle.std.specs.Prelude.{ℕ, ◌+◌, ◌-◌, List, [], true, false, cond, ◌&&◌, length, take, drop, leb}
use Rattle.words.specs.BigEndian.{byte_at, half_at}
use Rattle.script.specs.declared.stretches.Stretch.{Stretch}

-- One that the script does not have lies at its end.
abbrev pub no_stretch : List ℕ → Stretch
no_stretch s = record { from = length s; to = length s; whole = false }

abbrev pub stretch_of : List ℕ → ℕ → ℕ → Stretch
stretch_of s from count = cond (leb (from + count) (length s)) (record { from = from; to = from + count; whole = true }) (no_stretch s)

-- Bytes behind their number, which is read where the script has the `head` bytes that it takes.
abbrev pub behind : List ℕ → ℕ → ℕ → ℕ → Stretch
behind s at head count = cond (leb (at + head) (length s)) (stretch_of s (at + head) count) (no_stretch s)

-- The number in one byte, and in two.
abbrev pub short_of : List ℕ → ℕ → Stretch
short_of s at = behind s at 1 (byte_at s at)

abbrev pub long_of : List ℕ → ℕ → Stretch
long_of s at = behind s at 2 (half_at s at)

-- The bytes of a stretch; none where it does not lie in the script.
abbrev pub bytes_of : List ℕ → Stretch → List ℕ
bytes_of s part = cond (leb part.from part.to && leb part.to (length s)) (take (part.to - part.from) (drop part.from s)) []

-- The first so many bytes; none where there are fewer.
abbrev pub front_of : List ℕ → ℕ → List ℕ
front_of s count = cond (leb count (length s)) (take count s) []
