-- The lines of stretches: how long a line is, and that the lines made from a table's bytes are those of its stretches.
use Prim.Native.Nat.{ℕ, zero, suc, ◌+◌, ◌*◌, ◌≤◌, ◌<◌}
use mathlib.Core.Path.{◌≡◌, refl, ap, ◌∙◌}
use mathlib.Core.List.{List, [], ◌∷◌, ◌++◌, append_assoc, append-nil}
use native.Mathlib.Omega.{arith}
use lib.ListN.{length, length-append}
use Rattle.words.specs.BigEndian.{byte_at, half_at}
use Rattle.words.specs.Text.{ascii, decimal}
use Rattle.words.proofs.Decimal.{digits_below}
use Rattle.words.proofs.Front.{Bytes, half_back}
use Rattle.rescue.specs.Pieces.{Stretch, stretch_bytes, table_of}
use Rattle.rescue.specs.Whole.{Apart}
use Rattle.rescue_list.specs.Printed.{line_of, lines_of}
use Rattle.rescue_list.specs.Steps.{line_with, lines_to}

-- How long a line is, and its front part by part: two numbers and ten bytes more.
pub record Parts (start size : ℕ) : Type 0 where
  pub first : length (ascii "skipped " ++ decimal start) ≡ 8 + length (decimal start)
  pub second : length (ascii "skipped " ++ decimal start ++ ascii " ") ≡ 9 + length (decimal start)
  pub third : length (ascii "skipped " ++ decimal start ++ ascii " " ++ decimal size) ≡ 9 + length (decimal start) + length (decimal size)
  pub all : length (line_with start size) ≡ 10 + length (decimal start) + length (decimal size)

pub parts : (start size : ℕ) → Parts start size
parts start size =
    let one : length (ascii "skipped " ++ decimal start) ≡ 8 + length (decimal start) = length-append (ascii "skipped ") (decimal start) in
    let two : length (ascii "skipped " ++ decimal start ++ ascii " ") ≡ 9 + length (decimal start) =
    length-append (ascii "skipped " ++ decimal start) (ascii " ") ∙ omega (arith, one) in
    let three : length (ascii "skipped " ++ decimal start ++ ascii " " ++ decimal size) ≡ 9 + length (decimal start) + length (decimal size) =
    length-append (ascii "skipped " ++ decimal start ++ ascii " ") (decimal size) ∙ omega (arith, two) in
    record {
      first = one;
      second = two;
      third = three;
      all = length-append (ascii "skipped " ++ decimal start ++ ascii " " ++ decimal size) (ascii "\n") ∙ omega (arith, three);
    }

-- No line of two numbers of 16 bits has more than 20 bytes.
line_short : (start size : ℕ) → start < 65536 → size < 65536 → length (line_with start size) ≤ 20
line_short start size hs hz =
    omega (arith, (parts start size).all, digits_below 10 4 start (omega arith), digits_below 10 4 size (omega arith))

-- The line of the stretch at a place of a table, by its bytes: its two numbers are of 16 bits, so that it is short.
abbrev pub line_at : List ℕ → ℕ → List ℕ
line_at table n = line_with (half_at table (n * 4)) (half_at table (n * 4 + 2))

half_small : (table : List ℕ) → Bytes table → (i : ℕ) → half_at table i < 65536
half_small table bytes i = omega (arith, bytes i, bytes (i + 1))

line_at_short : (table : List ℕ) → Bytes table → (n : ℕ) → length (line_at table n) ≤ 20
line_at_short table bytes n = line_short _ _ (half_small table bytes (n * 4)) (half_small table bytes (n * 4 + 2))

lines_short : (table : List ℕ) → Bytes table → (n : ℕ) → length (lines_to table n) ≤ n * 20
unfolding lines_to
lines_short table bytes zero = omega arith
lines_short table bytes (suc n) =
    omega (arith, length-append (lines_to table n) (line_at table n), lines_short table bytes n, line_at_short table bytes n)

-- So each line has room behind those before it, where there are 20 bytes for each.
pub line_fits : (table : List ℕ) → Bytes table → (n all room : ℕ) → n < all → all * 20 ≤ room
    → 0 + length (lines_to table n) + length (line_at table n) ≤ room
line_fits table bytes n all room more enough = omega (arith, lines_short table bytes n, line_at_short table bytes n)

-- The numbers behind the first stretch of a table.
half_behind : (x : Stretch) (t : List ℕ) (i j : ℕ) → j ≡ 4 + i → half_at (stretch_bytes x ++ t) j ≡ half_at t i
half_behind x t i j is = omega (arith, byte_behind i j (omega arith), byte_behind (i + 1) (j + 1) (omega arith))
  where
    byte_behind : (i j : ℕ) → j ≡ suc (suc (suc (suc i))) → byte_at (stretch_bytes x ++ t) j ≡ byte_at t i
    byte_behind i j is = ap (byte_at (stretch_bytes x ++ t)) is

-- The lines of a table that begins with a stretch are that stretch's line, and then those of the bytes behind it.
lines_behind : (x : Stretch) (t : List ℕ) (n : ℕ) → lines_to (stretch_bytes x ++ t) (suc n) ≡ line_of x ++ lines_to t n
unfolding lines_to
lines_behind x t zero = rw (half_back x.start, half_back x.size, append-nil)
lines_behind x t (suc n) =
    rw (half_behind x t (n * 4) (suc n * 4) (omega arith), half_behind x t (n * 4 + 2) (suc n * 4 + 2) (omega arith))
    (ap (λ l. l ++ line_at t n) (lines_behind x t n) ∙ append_assoc (line_of x) (lines_to t n) (line_at t n))

-- So the lines of the table of some stretches are theirs.
pub table_lines : (xs : List Stretch) → lines_to (table_of xs) (length xs) ≡ lines_of xs
unfolding lines_to lines_of table_of
table_lines [] = refl
table_lines (x ∷ xs) = lines_behind x (table_of xs) (length xs) ∙ ap (λ l. line_of x ++ l) (table_lines xs)

-- Stretches of a list whose places are of 16 bits have lines of at most 20 bytes each.
pub lines_few : (from end : ℕ) (xs : List Stretch) → end < 65536 → Apart from end xs → length (lines_of xs) ≤ length xs * 20
unfolding lines_of
lines_few from end [] small apart = omega arith
lines_few from end (x ∷ xs) small apart =
    let rest = lines_few (x.start + x.size + 1) end xs small apart.1.1.1 in
    let short = line_short x.start x.size (omega (arith, apart.1.1.0)) (omega (arith, apart.1.1.0)) in
    omega (arith, length-append (line_of x) (lines_of xs), rest, short)
