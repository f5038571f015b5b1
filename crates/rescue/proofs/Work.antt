-- How much a rescue reads: `gather` has one turn for each piece (its measure is how many of them are left), and a turn reads once at most, at the piece's own
-- place. A reading looks at no more than 128 bytes (`wire` Local, `read_128`).
use Prim.Native.Nat.{ℕ, ◌≤◌}
use mathlib.Core.Path.{◌≡◌, sym, ap, ◌∙◌}
use mathlib.Core.List.{List, ◌∷◌}
use mathlib.Core.Bool.{true, false}
use native.Mathlib.Omega.{arith}
use lib.ListN.{length, take, drop, length-drop}
use Rattle.wire.specs.Read.{span_of}
use Rattle.wire.proofs.Local.{read_128}
use Rattle.rescue.specs.Pieces.{passing, pieces_of}
use Rattle.rescue.proofs.Passing.{passing_eight, read_code_lem}
use Rattle.rescue.proofs.Pieces.{pieces_none, pieces_kept, pieces_skipped, by_pieces}

-- As many readings as a rescue makes at most.
abbrev pub readings : List ℕ → ℕ
readings s = length (pieces_of s)

-- No more than the list has bytes, so that a list that is taken is read 4,096 times at most.
pub readings_few : (s : List ℕ) → readings s ≤ length s
readings_few = by_pieces (λ s. readings s ≤ length s) (omega (arith, ap length pieces_none)) kept_one skipped_one
  where
    kept_one : (s : List ℕ) → passing s ≡ true → readings (drop (span_of s) s) ≤ length (drop (span_of s) s) → readings s ≤ length s
    kept_one s is rest = omega (arith, ap length (pieces_kept s is), rest, length-drop (span_of s) s, passing_eight s is)

    skipped_one : (b : ℕ) (bs : List ℕ) → passing (b ∷ bs) ≡ false → readings bs ≤ length bs → readings (b ∷ bs) ≤ length (b ∷ bs)
    skipped_one b bs is rest = omega (arith, ap length (pieces_skipped b bs is), rest)

-- Whether a command passes is settled by the first 128 bytes.
pub passing_128 : (s : List ℕ) → passing (take 128 s) ≡ passing s
passing_128 s = sym (read_code_lem (take 128 s)) ∙ rw (read_128 s) (read_code_lem s)
