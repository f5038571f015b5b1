-- 02, Q-10: "a command that passes checks 1 to 8 is kept and passed; otherwise one byte is skipped."
use Rattle.std.specs.Prelude.{ℕ, zero, suc, ◌+◌, ◌-◌, List, [], ◌∷◌, ◌++◌, Bool, true, false, cond, ◌||◌, length, take, drop, eqb}
use Rattle.words.specs.BigEndian.{half_bytes}
use Rattle.wire.specs.Read.{read_code, span_of}

-- Reading gives 0, 9 or 10. The last two are about the flag alone, and no row of 1 to 8 is due (proofs/Passing, `passing_checks`).
abbrev pub passes : ℕ → Bool
passes code = eqb code 0 || (eqb code 9 || eqb code 10)

-- The command at the front of some bytes passes.
unfoldable pub passing : List ℕ → Bool
passing s = passes (read_code s)

-- What a rescue comes past, one after another: a command that it keeps, with its bytes, or a byte that it skips.
pub data Piece : Type 0 where
  kept : List ℕ → Piece
  skipped : ℕ → Piece

-- The pieces of a list, from the front. Each takes a byte at least, so that as many are enough as the list has bytes.
unfoldable pub pieces_in : ℕ → List ℕ → List Piece
pieces_in zero s = []
pieces_in (suc n) [] = []
pieces_in (suc n) (b ∷ bs) =
    elim (passing (b ∷ bs)) [
      | true ↦ kept (take (span_of (b ∷ bs)) (b ∷ bs)) ∷ pieces_in n (drop (span_of (b ∷ bs)) (b ∷ bs))
      | false ↦ skipped b ∷ pieces_in n bs
    ]

unfoldable pub pieces_of : List ℕ → List Piece
unfolding pieces_in
pieces_of s = pieces_in (length s) s

-- "It writes the kept commands, in order"
unfoldable pub kept_in : List Piece → List ℕ
kept_in [] = []
kept_in (kept bs ∷ ps) = bs ++ kept_in ps
kept_in (skipped b ∷ ps) = kept_in ps

abbrev pub kept_of : List ℕ → List ℕ
kept_of s = kept_in (pieces_of s)

-- "for each unbroken stretch skipped, its start and length"
pub record Stretch : Type 0 where
  pub start : ℕ
  pub size : ℕ

-- The stretch of so many bytes that ends at a place; none where no byte was skipped.
abbrev pub stretch_to : ℕ → ℕ → List Stretch
stretch_to end run = cond (eqb run 0) [] (record { start = end - run; size = run } ∷ [])

-- The stretches of the pieces from a place on, where `run` bytes right before it were skipped: a kept command, or the list's end, ends a stretch.
unfoldable pub stretches_in : ℕ → ℕ → List Piece → List Stretch
stretches_in at run [] = stretch_to at run
stretches_in at run (kept bs ∷ ps) = stretch_to at run ++ stretches_in (at + length bs) 0 ps
stretches_in at run (skipped b ∷ ps) = stretches_in (at + 1) (run + 1) ps

abbrev pub stretches_of : List ℕ → List Stretch
stretches_of s = stretches_in 0 0 (pieces_of s)

-- A stretch in the table: two numbers of 16 bits. (The start and the length of a stretch of a list that is taken are at most 4,096.)
abbrev pub stretch_bytes : Stretch → List ℕ
stretch_bytes x = half_bytes x.start ++ half_bytes x.size

unfoldable pub table_of : List Stretch → List ℕ
table_of [] = []
table_of (x ∷ xs) = stretch_bytes x ++ table_of xs
