-- How a teacher lays a rescued list out: "Kept and skipped bytes together are the whole input, each once" (02, Q-10).
use Rattle.std.specs.Prelude.{ℕ, ◌+◌, ◌-◌, ◌≤◌, ◌<◌, ◌≡◌, List, [], ◌∷◌, ◌++◌, Bool, true, false, ◌&&◌, length, take, drop}
use Rattle.rescue.specs.Pieces.{passing, Piece, kept, skipped, pieces_of, Stretch}

-- A part of the list: a command that was kept, or a whole stretch that was skipped, with its start; both with their bytes.
pub data Part : Type 0 where
  command : List ℕ → Part
  stretch : ℕ → List ℕ → Part

-- The bytes skipped right before a place, as one stretch; none where there are none.
abbrev pub skipped_to : ℕ → List ℕ → List Part
skipped_to end [] = []
skipped_to end (b ∷ bs) = stretch (end - length (b ∷ bs)) (b ∷ bs) ∷ []

-- The parts of the pieces from a place on, where these bytes right before it were skipped.
unfoldable pub parts_in : ℕ → List ℕ → List Piece → List Part
parts_in at run [] = skipped_to at run
parts_in at run (kept bs ∷ ps) = skipped_to at run ++ (command bs ∷ parts_in (at + length bs) [] ps)
parts_in at run (skipped b ∷ ps) = parts_in (at + 1) (run ++ (b ∷ [])) ps

abbrev pub parts_of : List ℕ → List Part
parts_of s = parts_in 0 [] (pieces_of s)

-- All parts put back, one behind the other.
unfoldable pub put_back : List Part → List ℕ
put_back [] = []
put_back (command bs ∷ ps) = bs ++ put_back ps
put_back (stretch start bs ∷ ps) = bs ++ put_back ps

-- The commands alone, and the stretches alone.
unfoldable pub commands_in : List Part → List ℕ
commands_in [] = []
commands_in (command bs ∷ ps) = bs ++ commands_in ps
commands_in (stretch start bs ∷ ps) = commands_in ps

unfoldable pub skips_in : List Part → List Stretch
skips_in [] = []
skips_in (command bs ∷ ps) = skips_in ps
skips_in (stretch start bs ∷ ps) = record { start = start; size = length bs } ∷ skips_in ps

-- At no place of these bytes, with which a list begins, would a command pass.
abbrev pub NonePasses : List ℕ → List ℕ → Type 0
NonePasses s [] = Unit
NonePasses s (b ∷ bs) = (passing s ≡ false) × NonePasses (drop 1 s) bs

-- Each part of a list, of which the first byte stands at this place, begins where the parts before it end. There the list has the part's bytes. A command
-- passes there; a stretch has that place as its start, and at no place of it would a command pass.
abbrev pub Placed : ℕ → List ℕ → List Part → Type 0
Placed at s [] = s ≡ []
Placed at s (command bs ∷ ps) = (passing s ≡ true) × ((take (length bs) s ≡ bs) × Placed (at + length bs) (drop (length bs) s) ps)
Placed at s (stretch start bs ∷ ps) =
    (start ≡ at) × (NonePasses s bs × ((take (length bs) s ≡ bs) × Placed (at + length bs) (drop (length bs) s) ps))

-- Stretches from a place on: none is empty, each begins behind the one before it with a byte between them at least, and all end by the list's end.
abbrev pub Apart : ℕ → ℕ → List Stretch → Type 0
Apart from end [] = Unit
Apart from end (x ∷ xs) = (from ≤ x.start) × ((0 < x.size) × ((x.start + x.size ≤ end) × Apart (x.start + x.size + 1) end xs))

-- The bytes of a list, of which the first stands at this place, that lie in none of some stretches.
unfoldable pub without : ℕ → List Stretch → List ℕ → List ℕ
without at [] s = s
without at (x ∷ xs) s = take (x.start - at) s ++ without (x.start + x.size) xs (drop (x.start + x.size - at) s)

-- Each command that a walk finds passes 1 to 8.
abbrev pub all_pass : List (List ℕ) → Bool
all_pass [] = true
all_pass (r ∷ rs) = passing r && all_pass rs
