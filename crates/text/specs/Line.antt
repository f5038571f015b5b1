-- One line: "an optional `+` for the macro flag, the table's name in lower case, then arguments in decimal, each after one space".
use Rattle.std.specs.Prelude.{ℕ, ◌+◌, List, [], ◌∷◌, Bool, true, false, cond, not, ◌||◌, length, get_or, drop, eqb}
use Rattle.words.specs.BigEndian.{byte_at}
use Rattle.words.specs.Codes.{Check, ◌when◌, first_of as first_due}
use Rattle.wire.specs.declared.table.Form.{Form}
use Rattle.wire.specs.declared.table.Layout.{Layout}
use Rattle.wire.specs.declared.kinds.Command.{Command}
use Rattle.wire.specs.declared.kinds.Parts.{Parts}
use Rattle.wire.specs.Table.{row_of, arguments_of}
use Rattle.wire.specs.Kind.{parts_with, kind_of}
use Rattle.wire.specs.Judge.{plain, told_for, part_checks}
use Rattle.wire.specs.Read.{Answer}
use Rattle.text.specs.Split.{words_of}
use Rattle.text.specs.Number.{whole_of, quarters_of, is_malformed, value_of}
use Rattle.text.specs.Goal.{goal_bits}
use Rattle.text.specs.Names.{form_named}
use Rattle.text.specs.Findings.{told_fault}
use Rattle.std.specs.Prelude.{Option, Some, None, Result, Ok, Err}
use Rattle.text.specs.declared.findings.Fault.{Fault}

-- "Empty lines and lines that begin with `#` carry no command". (35 is `#`, 43 is `+`.)
abbrev pub is_blank : List ℕ → Bool
is_blank line = eqb (length line) 0 || eqb (byte_at line 0) 35

abbrev pub flag_in : List ℕ → Bool
flag_in line = eqb (byte_at line 0) 43

-- What stands behind the `+`, where there is one, as words: the name, and then the arguments.
abbrev pub body_in : List ℕ → List ℕ
body_in line = cond (flag_in line) (drop 1 line) line

abbrev pub name_in : List (List ℕ) → List ℕ
name_in words = get_or words 0 []

abbrev pub argument_in : List (List ℕ) → ℕ → List ℕ
argument_in words k = get_or words k []

-- Quarters as the bits of a single.
abbrev pub as_bits : Option ℕ → Option ℕ
as_bits (Some quarters) = Some (goal_bits quarters)
as_bits None = None

-- A goal, by its bits.
abbrev pub goal_of : List ℕ → Option ℕ
goal_of s = as_bits (quarters_of s)

-- An argument by its layout: a whole number, or a goal; 0 where the layout has none.
abbrev pub first_of : Layout → List ℕ → Option ℕ
first_of Layout.Bare s = Some 0
first_of Layout.Byte s = whole_of s
first_of Layout.Half s = whole_of s
first_of Layout.Halves s = whole_of s
first_of Layout.Singles s = goal_of s

abbrev pub second_of : Layout → List ℕ → Option ℕ
second_of Layout.Bare s = Some 0
second_of Layout.Byte s = Some 0
second_of Layout.Half s = Some 0
second_of Layout.Halves s = whole_of s
second_of Layout.Singles s = goal_of s

abbrev pub first_in : Form → List (List ℕ) → Option ℕ
first_in form words = first_of (row_of form).layout (argument_in words 1)

abbrev pub second_in : Form → List (List ℕ) → Option ℕ
second_in form words = second_of (row_of form).layout (argument_in words 2)

-- The form and the numbers as they were typed, not cut to the width of their fields.
abbrev pub parts_in : Form → List (List ℕ) → Parts
parts_in form words = parts_with form (value_of (first_in form words)) (value_of (second_in form words))

-- Rows 32 and 31 of a line whose name is known; then rows 8 to 10, on those numbers.
abbrev pub form_checks : Form → Bool → List (List ℕ) → List Check
form_checks form flag words =
    32 when not (eqb (length words) (arguments_of (row_of form).layout + 1))
    ∷ 31 when (is_malformed (first_in form words) || is_malformed (second_in form words))
    ∷ part_checks flag (parts_in form words)

-- Row 30 before them: the name is not in the table.
abbrev pub line_checks : Option Form → Bool → List (List ℕ) → List Check
line_checks None flag words = 30 when true ∷ []
line_checks (Some form) flag words = 30 when false ∷ form_checks form flag words

-- The form that was named. Where none was, row 30 has spoken and any form will do.
abbrev pub form_in : Option Form → Form
form_in (Some form) = form
form_in None = Form.TlmFlush

-- The command that the words of a line say.
abbrev pub command_in : Form → Bool → List (List ℕ) → Command
command_in form flag words =
    let parts = parts_in form words in
    record { flag = flag; kind = kind_of form parts.first parts.second }

-- A line by its flag and words: the first row that is due, with what was wrong with the number; the command where none is.
unfoldable pub typed_as : Bool → List (List ℕ) → Answer
typed_as flag words =
    let named = form_named (name_in words) in
    let code = first_due (line_checks named flag words) in
    record {
      told = told_for code (parts_in (form_in named) words);
      taken = cond (eqb code 0) (command_in (form_in named) flag words ∷ []) [];
    }

-- What a line says: what is told of it, and the command where the code is 0 and the line carries one.
unfoldable pub line_of : List ℕ → Answer
line_of line = cond (is_blank line) (record { told = plain 0; taken = [] }) (typed_as (flag_in line) (words_of (body_in line)))

-- What the code says of a command that was to be said, or of one that was to be read.
abbrev pub answer_command : Result Command Fault → Answer
answer_command (Ok command) = record { told = plain 0; taken = command ∷ [] }
answer_command (Err fault) = record { told = told_fault fault; taken = [] }

-- What the code says of a line.
abbrev pub answer_line : Result (Option Command) Fault → Answer
answer_line (Ok None) = record { told = plain 0; taken = [] }
answer_line (Ok (Some command)) = record { told = plain 0; taken = command ∷ [] }
answer_line (Err fault) = record { told = told_fault fault; taken = [] }
