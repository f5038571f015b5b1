-- How much room is enough: no more is kept than there is, and between two stretches lies a command, which has eight bytes at least.
use Prim.Native.Nat.{ℕ, ◌+◌, ◌*◌, ◌-◌, ◌≤◌}
use mathlib.Core.Path.{◌≡◌, refl, ap}
use mathlib.Core.List.{List, [], ◌∷◌}
use mathlib.Core.Bool.{Bool, true, false, cond}
use native.Mathlib.Omega.{arith}
use lib.ListN.{length, take, drop, length-append, length-drop}
use lib.Seq.{length-take-le}
use lib.Dec.{eqb}
use borrow.Author.Tests.{eqb-false}
use Rattle.wire.specs.Read.{span_of}
use Rattle.rescue.specs.Pieces.{passing, pieces_of, kept_in, kept_of, Stretch, stretch_to, stretches_in, stretches_of}
use Rattle.rescue.specs.Answers.{skipped_of}
use Rattle.rescue.proofs.Passing.{passing_eight}
use Rattle.rescue.proofs.Pieces.{pieces_none, pieces_kept, pieces_skipped, by_pieces}
use Rattle.rescue.proofs.Turns.{length_table}

-- The bytes of a command that passes, and those behind it.
command_length : (s : List ℕ) → passing s ≡ true → (8 ≤ length (take (span_of s) s)) × (length (take (span_of s) s) + length (drop (span_of s) s) ≡ length s)
command_length s is =
    let eight = passing_eight s is in
    let own = length-take-le (span_of s) s eight.1 in
    (omega (arith, eight, own), omega (arith, eight, own, length-drop (span_of s) s))

-- A room as long as the list is enough for the commands that are kept.
pub kept_short : (s : List ℕ) → length (kept_of s) ≤ length s
unfolding kept_in
kept_short = by_pieces (λ s. length (kept_of s) ≤ length s) (omega (arith, ap (λ ps. length (kept_in ps)) pieces_none)) kept_one skipped_one
  where
    kept_one : (s : List ℕ) → passing s ≡ true → length (kept_of (drop (span_of s) s)) ≤ length (drop (span_of s) s) → length (kept_of s) ≤ length s
    kept_one s is rest =
        rw (pieces_kept s is) (omega (arith, length-append (take (span_of s) s) (kept_of (drop (span_of s) s)), command_length s is, rest))

    skipped_one : (b : ℕ) (bs : List ℕ) → passing (b ∷ bs) ≡ false → length (kept_of bs) ≤ length bs → length (kept_of (b ∷ bs)) ≤ length (b ∷ bs)
    skipped_one b bs is rest = rw (pieces_skipped b bs is) (omega (arith, rest))

-- A stretch skips a byte at least.
stretch_few : (end run : ℕ) → 9 * length (stretch_to end run) ≤ 8 + run
stretch_few end run = go (eqb run 0) refl
  where
    go : (b : Bool) → eqb run 0 ≡ b → 9 * length (cond {A = List Stretch} b [] (record { start = end - run; size = run } ∷ [])) ≤ 8 + run
    go true is = omega arith
    go false is =
        let some = eqb-false run 0 is in
        omega arith

stretches_from : (s : List ℕ) (at run : ℕ) → 9 * length (stretches_in at run (pieces_of s)) ≤ length s + 8 + run
unfolding stretches_in
stretches_from = by_pieces (λ s. (at run : ℕ) → 9 * length (stretches_in at run (pieces_of s)) ≤ length s + 8 + run) none kept_one skipped_one
  where
    none : (at run : ℕ) → 9 * length (stretches_in at run (pieces_of [])) ≤ 0 + 8 + run
    none at run = rw pieces_none (omega (arith, stretch_few at run))

    kept_one : (s : List ℕ) → passing s ≡ true
        → ((at run : ℕ) → 9 * length (stretches_in at run (pieces_of (drop (span_of s) s))) ≤ length (drop (span_of s) s) + 8 + run)
        → (at run : ℕ) → 9 * length (stretches_in at run (pieces_of s)) ≤ length s + 8 + run
    kept_one s is rest at run =
        let behind = at + length (take (span_of s) s) in
        let more = stretches_in behind 0 (pieces_of (drop (span_of s) s)) in
        rw (pieces_kept s is) (omega (arith, length-append (stretch_to at run) more, stretch_few at run, command_length s is, rest behind 0))

    skipped_one : (b : ℕ) (bs : List ℕ) → passing (b ∷ bs) ≡ false
        → ((at run : ℕ) → 9 * length (stretches_in at run (pieces_of bs)) ≤ length bs + 8 + run)
        → (at run : ℕ) → 9 * length (stretches_in at run (pieces_of (b ∷ bs))) ≤ length (b ∷ bs) + 8 + run
    skipped_one b bs is rest at run = rw (pieces_skipped b bs is) (omega (arith, rest (at + 1) (run + 1)))

pub stretches_few : (s : List ℕ) → 9 * length (stretches_of s) ≤ length s + 8
stretches_few s = omega (arith, stretches_from s 0 0)

-- A list that is taken has at most 456 stretches, so that 1,824 bytes are enough for the table.
pub stretches_456 : (s : List ℕ) → length s ≤ 4096 → length (stretches_of s) ≤ 456
stretches_456 s short = omega (arith, stretches_few s)

pub table_short : (s : List ℕ) → length s ≤ 4096 → length (skipped_of s) ≤ 1824
table_short s short = omega (arith, length_table (stretches_of s), stretches_456 s short)
