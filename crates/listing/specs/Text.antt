-- The text that the list program prints, as bytes.
use Rattle.std.specs.Prelude.{ℕ, zero, suc, ◌+◌, ◌*◌, ◌/◌, List, [], ◌∷◌, ◌++◌, cond, length, eqb}
use Rattle.words.specs.BigEndian.{byte_at, word_at}
use Rattle.words.specs.Text.{ascii, decimal}
use Rattle.report.specs.Record.{record_length}
use Rattle.listing.specs.declared.Fields.{Fields}

-- A field that is a number, and the byte behind it: a blank or a line feed.
abbrev pub ended : ℕ → ℕ → List ℕ
ended n last = decimal n ++ (last ∷ [])

abbrev pub blank : ℕ
blank = 32

abbrev pub line_feed : ℕ
line_feed = 10

-- A sender by name, and a blank; a sender that 01 does not know, by its number.
abbrev pub name_of : ℕ → List ℕ
name_of sender = cond (eqb sender 1) (ascii "kit ") (cond (eqb sender 2) (ascii "pupil ") (ended sender blank))

-- "Fields are sender, number in that sender's list, code, parameter." The value is "a fifth column" (02, Q-6).
unfoldable pub line_of : Fields → List ℕ
line_of f = name_of f.sender ++ ended f.number blank ++ ended f.code blank ++ ended f.par blank ++ ended f.value line_feed

-- What the line of a report's record says, by the record's place from 0: "sender .., code, parameter .., 0, then its number .., 32 bits", and
-- "the last four the value".
abbrev pub fields_at : List ℕ → ℕ → Fields
fields_at report place =
    let at = place * record_length in
    record {
      sender = byte_at report at;
      number = word_at report (at + 4);
      code = byte_at report (at + 1);
      par = byte_at report (at + 2);
      value = word_at report (at + 8);
    }

-- The line of a record.
abbrev pub line_at : List ℕ → ℕ → List ℕ
line_at report place = line_of (fields_at report place)

-- The lines of the first so many records, in their order.
unfoldable pub lines_to : List ℕ → ℕ → List ℕ
lines_to report zero = []
lines_to report (suc n) = lines_to report n ++ line_at report n

-- A line for each whole record.
abbrev pub lines_of : List ℕ → List ℕ
lines_of report = lines_to report (length report / record_length)

-- The line above the records; the fifth column is "headed `val`".
abbrev pub header_line : List ℕ
header_line = ascii "from no code par val\n"

-- A report as the list program prints it, whole.
unfoldable pub report_text : List ℕ → List ℕ
report_text report = header_line ++ lines_of report

-- A line has at most 36 bytes, so that this room is enough for the text of so many bytes of records.
abbrev pub longest_line : ℕ
longest_line = 36

abbrev pub text_room : ℕ → ℕ
text_room bytes = length header_line + bytes / record_length * longest_line
