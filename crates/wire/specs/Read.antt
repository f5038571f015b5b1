-- Reading the command at the front of some bytes: rows 1 to 10 of 01's codes, and how far the command reaches.
use Rattle.std.specs.Prelude.{ℕ, zero, suc, ◌*◌, ◌/◌, ◌%◌, ◌-◌, List, [], ◌∷◌, ◌++◌, Bool, true, false, cond, not, ◌||◌, length, leb, ltb, eqb}
use Rattle.std.specs.Int.Bits.{bit_xor}
use Rattle.words.specs.BigEndian.{half_at, word_at}
use Rattle.words.specs.Codes.{Check, ◌when◌, first_of}
use Rattle.wire.specs.declared.table.Form.{Form}
use Rattle.wire.specs.declared.table.Layout.{Layout}
use Rattle.std.specs.Prelude.{Option, Some, None}
use Rattle.wire.specs.declared.kinds.Command.{Command}
use Rattle.wire.specs.declared.kinds.Parts.{Parts}
use Rattle.wire.specs.declared.judging.Refusal.{Refusal}
use Rattle.wire.specs.declared.judging.Told.{Told}
use Rattle.std.specs.Prelude.{Result, Ok, Err}
use Rattle.wire.specs.declared.decoding.Fields.{Fields}
use Rattle.wire.specs.Table.{row_of, rule_of}
use Rattle.wire.specs.Kind.{parts_with, kind_of}
use Rattle.wire.specs.Judge.{plain, told_of, told_for, part_checks}

-- Word 1: opcode, 16 bits; macro flag, 1 bit; length in words, 15 bits.
abbrev pub opcode_of : List ℕ → ℕ
opcode_of s = half_at s 0

abbrev pub flag_of : List ℕ → Bool
flag_of s = leb 32768 (half_at s 2)

abbrev pub length_of : List ℕ → ℕ
length_of s = half_at s 2 % 32768

-- The XOR of the first n words.
unfoldable pub sum_of : List ℕ → ℕ → ℕ
sum_of s zero = 0
sum_of s (suc n) = bit_xor (sum_of s n) (word_at s (n * 4))

-- The third word of a command that has four words; a shorter command has no such argument word.
abbrev pub third_word : List ℕ → ℕ → ℕ
third_word s words = cond (ltb words 4) 0 (word_at s 8)

abbrev pub fields_with : ℕ → ℕ → ℕ → Fields
fields_with first second pad = record { first = first; second = second; pad = pad }

-- The arguments in the words behind the first, and their pad.
abbrev pub fields_of : Layout → ℕ → ℕ → Fields
fields_of Layout.Bare one two = fields_with 0 0 0
fields_of Layout.Byte one two = fields_with (one / 16777216) 0 (one % 16777216)
fields_of Layout.Half one two = fields_with (one / 65536) 0 (one % 65536)
fields_of Layout.Halves one two = fields_with (one / 65536) (one % 65536) 0
fields_of Layout.Singles one two = fields_with one two 0

-- The form and the numbers in the fields of these words, as they stand on the wire, a goal's bit for bit; and the command that they say.
abbrev pub parts_as : Form → ℕ → ℕ → Parts
parts_as form one two =
    let fields = fields_of (row_of form).layout one two in
    parts_with form fields.first fields.second

abbrev pub command_as : Form → Bool → ℕ → ℕ → Command
command_as form flag one two =
    let parts = parts_as form one two in
    record { flag = flag; kind = kind_of form parts.first parts.second }

-- What a reading says: what is told of the bytes, and the command where the code is 0.
pub record Answer : Type 0 where
  pub told : Told
  pub taken : List Command

abbrev pub answer_of : Result Command Refusal → Answer
answer_of (Ok c) = record { told = plain 0; taken = c ∷ [] }
answer_of (Err refusal) = record { told = told_of refusal; taken = [] }

-- The answer with this code to a form and two numbers, and to the command that they say.
abbrev pub answer_for : ℕ → Parts → Command → Answer
answer_for code parts c = record { told = told_for code parts; taken = cond (eqb code 0) (c ∷ []) [] }

-- Rows 1 to 3.
abbrev pub reach_checks : List ℕ → List Check
reach_checks s =
    1 when ltb (length s) 8
    ∷ 2 when (ltb (length_of s) 2 || ltb 32 (length_of s))
    ∷ 3 when ltb (length s) (length_of s * 4)
    ∷ []

abbrev pub reach_code : List ℕ → ℕ
reach_code s = first_of (reach_checks s)

-- Rows 7 to 10, where the form is known. Rows 8 to 10 are asked of the fields as they stand on the wire, goals by their bits; that they are those of
-- the command that is made of them is proved in proofs/Goals (`rows_on_wire`).
abbrev pub form_checks : Form → Bool → ℕ → ℕ → List Check
form_checks form flag one two =
    7 when not (eqb (fields_of (row_of form).layout one two).pad 0) ∷ part_checks flag (parts_as form one two)

-- Rows 5 to 10: the opcode is not in the table, or it is and the rows of its form follow.
abbrev pub decode_checks : Option (Form × ℕ) → Bool → ℕ → ℕ → ℕ → List Check
decode_checks None flag words one two = 5 when true ∷ []
decode_checks (Some (form, length)) flag words one two =
    5 when false ∷ 6 when not (eqb words length) ∷ form_checks form flag one two

-- The form that was found. Where none was, row 5 has spoken and any form will do.
abbrev pub form_in : Option (Form × ℕ) → Form
form_in (Some (form, length)) = form
form_in None = Form.TlmFlush

-- Row 4: the last word is not the XOR of all words before it.
abbrev pub sum_differs : List ℕ → ℕ → Bool
sum_differs s words = not (eqb (sum_of s (words - 1)) (word_at s ((words - 1) * 4)))

-- Rows 4 to 10, where a whole command of so many words stands at the front.
abbrev pub whole_checks : List ℕ → ℕ → List Check
whole_checks s words =
    4 when sum_differs s words ∷ decode_checks (rule_of (opcode_of s)) (flag_of s) words (word_at s 4) (third_word s words)

-- The numbers that the bytes say, and the command.
abbrev pub parts_in : List ℕ → ℕ → Parts
parts_in s words = parts_as (form_in (rule_of (opcode_of s))) (word_at s 4) (third_word s words)

abbrev pub command_in : List ℕ → ℕ → Command
command_in s words = command_as (form_in (rule_of (opcode_of s))) (flag_of s) (word_at s 4) (third_word s words)

-- The numbers and the command at the front of some bytes.
abbrev pub said_parts : List ℕ → Parts
said_parts s = parts_in s (length_of s)

abbrev pub said : List ℕ → Command
said s = command_in s (length_of s)

-- Rows 1 to 10 on the bytes left, in their order.
abbrev pub read_checks : List ℕ → List Check
read_checks s = reach_checks s ++ whole_checks s (length_of s)

unfoldable pub read_code : List ℕ → ℕ
read_code s = first_of (read_checks s)

-- Reading the command at the front.
unfoldable pub read_of : List ℕ → Answer
unfolding read_code
read_of s = answer_for (read_code s) (said_parts s) (said s)

-- How far the command at the front reaches: all that is left where codes 1 to 3 end a list, else 4L bytes.
unfoldable pub span_of : List ℕ → ℕ
span_of s = cond (eqb (reach_code s) 0) (length_of s * 4) (length s)
