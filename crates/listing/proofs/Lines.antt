-- The lines: a sender's name by cases, and how long a line is.
use Prim.Native.Nat.{ℕ, zero, suc, ◌+◌, ◌*◌, ◌/◌, ◌≤◌, ◌<◌}
use mathlib.Core.Path.{◌≡◌, refl, ap, ◌∙◌}
use mathlib.Core.List.{List, ◌++◌}
use mathlib.Core.Bool.{Bool, true, false, cond}
use native.Mathlib.Omega.{arith}
use lib.ListN.{length, drop, length-append}
use lib.Dec.{ltb, eqb}
use borrow.Author.Tests.{eq-eqb, ne_eqb, le-leb, ltb-true, ltb-false}
use Rattle.words.specs.BigEndian.{byte_at, written}
use Rattle.words.specs.Text.{ascii, decimal}
use Rattle.words.proofs.Laws.{with_room}
use Rattle.words.proofs.Decimal.{digits_few, digits_below}
use Rattle.report.specs.Record.{record_length}
use Rattle.listing.specs.declared.Fields.{Fields}
use Rattle.std.specs.Prelude.{Result, Ok, Err}
use Rattle.std.specs.Result.{result_unwrap_or}
use Rattle.words.specs.declared.codes.NoRoom.{NoRoom}
use Rattle.listing.specs.Answer.{answer_of, answer_for}
use Rattle.listing.specs.Text.{
  ended,
  blank,
  line_feed,
  name_of,
  line_of,
  fields_at,
  line_at,
  lines_to,
  lines_of,
  header_line,
  report_text,
  longest_line,
  text_room,
}
use Rattle.listing.proofs.Decimal.{length-ended}

-- The name of a sender: the kit's, the pupil's, and any other.
pub name_kit : (sender : ℕ) → sender ≡ 1 → name_of sender ≡ ascii "kit "
name_kit sender is = simp (eq-eqb _ _ is)

pub name_pupil : (sender : ℕ) → (sender ≡ 1 → ⊥) → sender ≡ 2 → name_of sender ≡ ascii "pupil "
name_pupil sender other is = simp (ne_eqb _ _ other, eq-eqb _ _ is)

pub name_other : (sender : ℕ) → (sender ≡ 1 → ⊥) → (sender ≡ 2 → ⊥) → name_of sender ≡ ended sender blank
name_other sender other another = simp (ne_eqb _ _ other, ne_eqb _ _ another)

-- A name is as short as six bytes and the sender's number with a blank are.
name_within : (sender most : ℕ) → 6 ≤ most → length (decimal sender) + 1 ≤ most → length (name_of sender) ≤ most
name_within sender most six other = go (eqb sender 1) (eqb sender 2)
  where
    go : (kit pupil : Bool) → length (cond kit (ascii "kit ") (cond pupil (ascii "pupil ") (ended sender blank))) ≤ most
    go true pupil = omega arith
    go false true = omega arith
    go false false = omega (arith, length-ended sender blank)

pub name_few : (sender : ℕ) → length (name_of sender) ≤ 11
name_few sender = name_within sender 11 (omega arith) (omega (arith, digits_few 10 sender))

-- A line is as long as its fields with what stands behind each.
pub length_line : (f : Fields)
    → length (line_of f)
    ≡ length (name_of f.sender) + length (ended f.number blank) + length (ended f.code blank) + length (ended f.par blank)
    + length (ended f.value line_feed)
unfolding line_of
length_line f = simp length-append

-- No line is longer than the longest, where its sender, code and parameter are bytes.
pub line_short : (f : Fields) → f.sender < 256 → f.code < 256 → f.par < 256 → length (line_of f) ≤ longest_line
line_short f hs hc hp =
    omega (
      arith,
      length_line f,
      name_within f.sender 6 (omega arith) (omega (arith, digits_below 10 2 f.sender (omega arith))),
      length-ended f.number blank,
      digits_few 10 f.number,
      length-ended f.code blank,
      digits_below 10 2 f.code (omega arith),
      length-ended f.par blank,
      digits_below 10 2 f.par (omega arith),
      length-ended f.value line_feed,
      digits_few 10 f.value,
    )

-- The lines of one record more.
pub length_lines : (report : List ℕ) (n : ℕ) → length (lines_to report (suc n)) ≡ length (lines_to report n) + length (line_at report n)
unfolding lines_to
length_lines report n = length-append (lines_to report n) (line_at report n)

-- Where the lines of all records have room, each has, behind those before it.
pub lines_within : (report : List ℕ) (k n : ℕ) → k < n → length (lines_to report k) + length (line_at report k) ≤ length (lines_to report n)
lines_within report k zero before = absurd (omega arith)
lines_within report k (suc n) before = go (ltb k n) refl (λ earlier. lines_within report k n earlier)
  where
    go : (b : Bool) → ltb k n ≡ b → (k < n → length (lines_to report k) + length (line_at report k) ≤ length (lines_to report n))
        → length (lines_to report k) + length (line_at report k) ≤ length (lines_to report (suc n))
    go true earlier rest = omega (arith, length_lines report n, rest (ltb-true k n earlier))
    go false last rest =
        let same : k ≡ n = omega (arith, ltb-false k n last) in
        rw (same, length_lines report n) (omega arith)

-- A report's text is a header and the lines, and where the report's elements are bytes, what is said to be room enough is.
pub length_text : (report : List ℕ) → length (report_text report) ≡ length header_line + length (lines_of report)
unfolding report_text
length_text report = length-append header_line (lines_of report)

lines_short : (report : List ℕ) → ((i : ℕ) → byte_at report i < 256) → (n : ℕ) → length (lines_to report n) ≤ n * longest_line
unfolding lines_to
lines_short report bytes zero = omega arith
lines_short report bytes (suc n) =
    let at = n * record_length in
    let short = line_short (fields_at report n) (bytes at) (bytes (at + 1)) (bytes (at + 2)) in
    omega (arith, length_lines report n, lines_short report bytes n, short)

pub text_short : (report : List ℕ) → ((i : ℕ) → byte_at report i < 256) → length (report_text report) ≤ text_room (length report)
text_short report bytes = omega (arith, length_text report, lines_short report bytes (length report / record_length))

-- A writer that has room says how many bytes it put.
put_whole : (put : Result ℕ NoRoom) (bytes room : List ℕ) → answer_of put ≡ answer_for bytes room → length bytes ≤ length room
    → result_unwrap_or put 0 ≡ length bytes
put_whole put bytes room told fits = go put ∙ ap (λ a. a.bytes) told ∙ simp (le-leb _ _ fits)
  where
    go : (p : Result ℕ NoRoom) → result_unwrap_or p 0 ≡ (answer_of p).bytes
    go (Ok n) = refl
    go (Err refusal) = refl

-- So what it put, which is what is wanted, stands at the front of its room.
pub put_front : (put : Result ℕ NoRoom) (n : ℕ) (bytes wanted room after : List ℕ) → bytes ≡ wanted → length bytes ≤ length room
    → n ≡ result_unwrap_or put 0 → answer_of put ≡ answer_for bytes room → after ≡ written bytes room
    → (n ≡ length wanted) × (after ≡ wanted ++ drop (length wanted) room)
put_front put n bytes wanted room after is fits count told left = (
  count ∙ put_whole put bytes room told fits ∙ ap length is,
  left ∙ with_room bytes room fits ∙ ap (λ l. l ++ drop (length l) room) is,
)
