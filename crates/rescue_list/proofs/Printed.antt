-- What the program writes, of the meanings: its rooms are enough for every list that is not too long, so that 24 is never found, and what a rescue
-- answers and leaves says what is written; and an example, whole.
use Prim.Native.Nat.{ℕ, ◌*◌, ◌/◌, ◌≤◌, ◌<◌}
use mathlib.Core.Path.{◌≡◌, refl, sym, ap, ◌∙◌}
use mathlib.Core.Logic.{◌≢◌}
use mathlib.Core.List.{List, [], ◌∷◌, ◌++◌}
use mathlib.Core.Bool.{Bool, true, false}
use native.Mathlib.Omega.{arith}
use lib.ListN.{length, take, drop}
use lib.Seq.{sets}
use lib.Dec.{ltb}
use borrow.Author.Tests.{lt-ltb, le-ltb, ltb-true, ltb-false}
use Rattle.words.specs.BigEndian.{bytes_of}
use Rattle.words.specs.Text.{ascii, decimal_in}
use Rattle.words.proofs.Laws.{with_room, sets-written}
use Rattle.wire.specs.Judge.{plain}
use Rattle.wire.specs.Read.{sum_of, read_code, span_of}
use Rattle.text.specs.Findings.{finding}
use Rattle.rescue.specs.Pieces.{passing, pieces_of, kept_in, kept_of, stretches_in, stretches_of}
use Rattle.rescue.specs.Answers.{skipped_of, rescue_code, table_size, rescued_as, room_after, table_after}
use Rattle.rescue.proofs.Turns.{length_table}
use Rattle.rescue.proofs.Together.{together}
use Rattle.rescue.proofs.Bounds.{stretches_456}
use Rattle.rescue.proofs.Calls.{refused_leaves, taken, too_long_code, enough_room, kept_count, stretch_count, table_count, table_front}
use Rattle.listing.specs.declared.refusals.Numbered.{Numbered}
use Rattle.listing.specs.Refusal.{refusal_line}
use Rattle.rescue_list.specs.Printed.{printed, lines_of, noted}
use Rattle.rescue_list.specs.Steps.{lines_to}
use Rattle.rescue_list.proofs.Lines.{lines_few, table_lines}

-- Of a list that is not too long the commands that are kept are printed, with a line for each stretch, and 9,120 bytes are enough for the lines.
module _ (s : List ℕ) (short : length s ≤ 4096) where
  short_printed : printed s ≡ kept_of s
  unfolding printed
  short_printed = rw (le-ltb 4096 (length s) short)

  short_noted : noted s ≡ lines_of (stretches_of s)
  unfolding noted
  short_noted = rw (le-ltb 4096 (length s) short)

  noted_short : length (noted s) ≤ 9120
  noted_short =
      omega (arith, ap length short_noted, lines_few 0 (length s) (stretches_of s) (omega arith) (together s).apart, stretches_456 s short)

-- A rescue into 4,096 bytes and a table of 1,824 is refused only where the list is too long.
pub refused_long : (s room table : List ℕ) → 4096 ≤ length room → 1824 ≤ length table → rescue_code s room table ≢ 0 → 4096 < length s
refused_long s room table room_long table_long refused = go (ltb 4096 (length s)) refl
  where
    go : (long : Bool) → ltb 4096 (length s) ≡ long → 4096 < length s
    go true is = ltb-true 4096 (length s) is
    go false is =
        let short = ltb-false 4096 (length s) is in
        absurd (refused (enough_room s room table short (omega arith) table_long))

-- Then nothing is printed, the room stays as it was, and the line of the code says why.
module _ (s room table : List ℕ) (long : 4096 < length s) where
  pub long_printed : printed s ≡ []
  unfolding printed
  long_printed = rw (lt-ltb 4096 (length s) long)

  pub long_room : room_after s room table ≡ printed s ++ drop (length (printed s)) room
  long_room =
      let refused : rescue_code s room table ≢ 0 = λ none. omega (arith, too_long_code s room table long, none) in
      (refused_leaves s room table refused).0 ∙ sym (ap (λ l. l ++ drop (length l) room) long_printed)

  pub long_noted : (code : ℕ) → code ≡ rescue_code s room table → refusal_line Numbered.Commands (finding (plain code) 0) ≡ noted s
  unfolding noted
  long_noted code is =
      rw (lt-ltb 4096 (length s) long)
      (ap (λ n. refusal_line Numbered.Commands (finding (plain n) 0)) (is ∙ too_long_code s room table long))

-- Where it is taken, its counts and rooms are of what is printed, and the part of the table that is filled gives the lines.
module _ (s room table : List ℕ) (code : rescue_code s room table ≡ 0) where
  short : length s ≤ 4096
  short = ((taken s room table).0 code).0

  pub kept_printed : (rescued_as s room table).kept ≡ length (printed s)
  kept_printed = kept_count s room table code ∙ sym (ap length (short_printed s short))

  pub kept_room : room_after s room table ≡ printed s ++ drop (length (printed s)) room
  unfolding room_after
  kept_room = rw (code, short_printed s short)

  module _ (n : ℕ) (is : n ≡ table_size (rescued_as s room table).stretches) (table' : List ℕ) (left : table' ≡ table_after s room table) where
    -- The bytes of the stretches at the table's front, which are no more than a table has at most, and their lines.
    abbrev front : List ℕ
    front = take n table'

    pub table_few : n ≤ 1824
    table_few = omega (arith, is, table_count s room table code, length_table (stretches_of s), stretches_456 s short)

    filled : front ≡ skipped_of s
    filled =
        let size : n ≡ 4 * (rescued_as s room table).stretches =
        omega (arith, is, table_count s room table code, length_table (stretches_of s), stretch_count s room table code) in
        ap (λ k. take k table') size ∙ ap (take (4 * (rescued_as s room table).stretches)) left ∙ table_front s room table code

    pub filled_lines : lines_to front (length front / 4) ≡ noted s
    filled_lines =
        let count : length (skipped_of s) / 4 ≡ length (stretches_of s) = omega (arith, length_table (stretches_of s)) in
        ap (λ t. lines_to t (length t / 4)) filled ∙ ap (lines_to (skipped_of s)) count ∙ table_lines (stretches_of s) ∙ sym (short_noted s short)

    pub filled_room : (notes notes' : List ℕ) → 9120 ≤ length notes → notes' ≡ sets notes 0 (lines_to front (length front / 4))
        → notes' ≡ noted s ++ drop (length (noted s)) notes
    filled_room notes notes' enough put =
        let fits : length (noted s) ≤ length notes = omega (arith, noted_short s short) in
        put ∙ ap (sets notes 0) filled_lines ∙ sets-written (noted s) notes fits ∙ with_room (noted s) notes fits

-- A damaged list, as the program is run on it: a flush, three bytes of noise, power on, a wait without its flag, and the first half of a command.
abbrev example : List ℕ
example =
    bytes_of (0x015a0002 ∷ 0x015a0002 ∷ [])
    ++ (0xff ∷ 0x01 ∷ 0x5a ∷ [])
    ++ bytes_of (0x01140003 ∷ 0x01000000 ∷ 0x00140003 ∷ 0x7f040003 ∷ 0x000a0000 ∷ 0x7f0e0003 ∷ [])
    ++ (0x01 ∷ 0x14 ∷ 0x00 ∷ 0x03 ∷ 0x01 ∷ 0x00 ∷ [])

pub example-printed : printed example
    ≡ bytes_of (0x015a0002 ∷ 0x015a0002 ∷ 0x01140003 ∷ 0x01000000 ∷ 0x00140003 ∷ 0x7f040003 ∷ 0x000a0000 ∷ 0x7f0e0003 ∷ [])
unfolding printed kept_in pieces_of passing read_code span_of bytes_of sum_of
example-printed = refl

pub example-noted : noted example ≡ ascii "skipped 8 3\nskipped 35 6\n"
unfolding noted lines_of stretches_in pieces_of passing read_code span_of bytes_of sum_of decimal_in
example-noted = refl

-- Of a list above 4,096 bytes the line is this one.
pub too_long : (list : List ℕ) → 4096 < length list → noted list ≡ ascii "refused 20\n"
unfolding noted refusal_line decimal_in
too_long list above = rw (lt-ltb 4096 (length list) above)
