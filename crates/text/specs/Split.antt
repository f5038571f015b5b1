-- A text is split into lines at line feeds, and a line into words at spaces.
use Rattle.std.specs.Prelude.{ℕ, List, [], ◌∷◌, Bool, true, false, cond, ◌&&◌, eqb}

abbrev pub line_feed : ℕ
line_feed = 10

abbrev pub space : ℕ
space = 32

-- A byte put in front of the first of some parts; where there is none, it is one.
abbrev pub onto : ℕ → List (List ℕ) → List (List ℕ)
onto b [] = (b ∷ []) ∷ []
onto b (p ∷ ps) = (b ∷ p) ∷ ps

-- The lines of a text: each ends at a line feed, and the last may end without one. A text that ends in a line feed has no further line.
unfoldable pub lines_of : List ℕ → List (List ℕ)
lines_of [] = []
lines_of (b ∷ s) = cond (eqb b line_feed) ([] ∷ lines_of s) (onto b (lines_of s))

-- Does a text end in a line feed?
unfoldable pub ends_line : List ℕ → Bool
ends_line [] = false
ends_line (b ∷ []) = eqb b line_feed
ends_line (b ∷ c ∷ s) = ends_line (c ∷ s)

-- The words of a line: it is split at every space, so that there is one word more than spaces, and some may be empty.
unfoldable pub words_of : List ℕ → List (List ℕ)
words_of [] = [] ∷ []
words_of (b ∷ s) = cond (eqb b space) ([] ∷ words_of s) (onto b (words_of s))

-- Are two texts the same, byte for byte?
unfoldable pub same_text : List ℕ → List ℕ → Bool
same_text [] [] = true
same_text [] (y ∷ ys) = false
same_text (x ∷ xs) [] = false
same_text (x ∷ xs) (y ∷ ys) = eqb x y && same_text xs ys
