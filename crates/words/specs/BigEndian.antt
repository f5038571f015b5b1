-- Numbers of 16 and 32 bits as bytes, highest byte first (003, section 1.1: all numbers are big-endian), and what a writer leaves in its room.
use Rattle.std.specs.Prelude.{ℕ, ◌+◌, ◌*◌, ◌/◌, ◌%◌, List, [], ◌∷◌, ◌++◌, Bool, cond, length, get_or, drop, leb}

-- The byte at place i; what lies past the end reads as 0.
abbrev pub byte_at : List ℕ → ℕ → ℕ
byte_at s i = get_or s i 0

-- The 16-bit number that begins at place i.
abbrev pub half_at : List ℕ → ℕ → ℕ
half_at s i = byte_at s i * 256 + byte_at s (i + 1)

-- The 32-bit number that begins at place i.
abbrev pub word_at : List ℕ → ℕ → ℕ
word_at s i = half_at s i * 65536 + half_at s (i + 2)

-- The two bytes of a 16-bit number.
abbrev pub half_bytes : ℕ → List ℕ
half_bytes v = v / 256 ∷ v % 256 ∷ []

-- The four bytes of a 32-bit number.
abbrev pub word_bytes : ℕ → List ℕ
word_bytes v = half_bytes (v / 65536) ++ half_bytes (v % 65536)

-- The bytes of several 32-bit numbers, one after another.
unfoldable pub bytes_of : List ℕ → List ℕ
bytes_of [] = []
bytes_of (w ∷ ws) = word_bytes w ++ bytes_of ws

-- Is there room for these bytes?
abbrev pub has_room : List ℕ → List ℕ → Bool
has_room bytes room = leb (length bytes) (length room)

-- The room after a writer of these bytes: they stand at its front and the rest is as it was; where they have no room, all of it is.
abbrev pub written : List ℕ → List ℕ → List ℕ
written bytes room = cond (has_room bytes room) (bytes ++ drop (length bytes) room) room
