-- Steps of the implementation; no public promise of the product needs them.
-- How the code takes a line apart at its marks, judges it branch by branch, guesses a goal's quarters, and gathers a text's bytes.
use Rattle.std.specs.Prelude.{ℕ, suc, ◌+◌, ◌-◌, ◌/◌, ◌%◌, ◌^◌, ◌<◌, ◌≤◌, ◌≡◌, List, [], ◌∷◌, Bool, true, false, cond, length, get_or, take, drop, eqb, ltb}
use Rattle.wire.specs.declared.table.Form.{Form}
use Rattle.wire.specs.declared.judging.Told.{Told}
use Rattle.wire.specs.Table.{row_of, arguments_of}
use Rattle.wire.specs.Kind.{kind_of}
use Rattle.wire.specs.Judge.{plain, judged_by}
use Rattle.wire.specs.Read.{Answer}
use Rattle.wire.specs.Write.{list_bytes}
use Rattle.text.specs.declared.number.Digits.{Digits}
use Rattle.text.specs.Split.{space}
use Rattle.text.specs.Number.{digits_of}
use Rattle.text.specs.Names.{form_named}
use Rattle.text.specs.Line.{first_of, second_of, line_of}
use Rattle.text.specs.Findings.{told_fault, translated_of}
use Rattle.text.specs.Assemble.{bytes_in, judged_text}
use Rattle.std.specs.Prelude.{Option, Some, None, Result, Ok, Err}
use Rattle.text.specs.declared.findings.Fault.{Fault}
use Rattle.text.specs.declared.findings.Refusal.{Refusal}

-- How many bytes stand before the first mark: all where there is none.
unfoldable pub run_of : ℕ → List ℕ → ℕ
run_of mark [] = 0
run_of mark (b ∷ s) = cond (eqb b mark) 0 (suc (run_of mark s))

-- How many marks there are.
unfoldable pub count_of : ℕ → List ℕ → ℕ
count_of mark [] = 0
count_of mark (b ∷ s) = cond (eqb b mark) (suc (count_of mark s)) (count_of mark s)

-- How many marks there are, counted up to three: is there a first, a second, a third?
abbrev pub up_to_three : Bool → Bool → Bool → ℕ
up_to_three one two three = cond one (cond two (cond three 3 2) 1) 0

-- The part before the first mark, and the part behind it.
abbrev pub front_of : ℕ → List ℕ → List ℕ
front_of mark s = take (run_of mark s) s

abbrev pub behind_of : ℕ → List ℕ → List ℕ
behind_of mark s = drop (run_of mark s + 1) s

-- What `digits_of` says.
pub record Counted (s : List ℕ) (digits : Digits) : Type 0 where
  pub is : digits ≡ digits_of s
  pub small : digits.value < 100000
  pub within : digits.count ≤ length s

-- The whole quarters in a single: its digits, the leading one with them, shifted by what its exponent says.
abbrev pub guess_of : ℕ → ℕ
guess_of bits = cond (ltb bits 0x3e800000) 0 ((bits % 8388608 + 8388608) / 2 ^ (148 - bits / 8388608))

abbrev pub refused : ℕ → Answer
refused code = record { told = plain code; taken = [] }

-- Codes 8 to 10.
abbrev pub judged_line : Form → Bool → ℕ → ℕ → Answer
judged_line form flag first second =
    let told = judged_by (row_of form) flag first second in
    record { told = told; taken = cond (eqb told.code 0) (record { flag = flag; kind = kind_of form first second } ∷ []) [] }

-- Code 31.
abbrev pub read_line : Form → Bool → Option ℕ → Option ℕ → Answer
read_line form flag (Some first) (Some second) = judged_line form flag first second
read_line form flag (Some first) None = refused 31
read_line form flag None second = refused 31

-- Code 32.
unfoldable pub known_line : Form → Bool → List ℕ → Answer
known_line form flag body =
    let layout = (row_of form).layout in
    let arguments = behind_of space body in
    cond (eqb (count_of space body) (arguments_of layout))
    (read_line form flag (first_of layout (front_of space arguments)) (second_of layout (front_of space (behind_of space arguments))))
    (refused 32)

-- Code 30.
abbrev pub named_line : Option Form → Bool → List ℕ → Answer
named_line (Some form) flag body = known_line form flag body
named_line None flag body = refused 30

unfoldable pub typed_line : Bool → List ℕ → Answer
typed_line flag body = named_line (form_named (front_of space body)) flag body

-- A line, branch by branch. That it says what the checks say is proved in proofs/ByWords (`line_by_lem`).
unfoldable pub line_by : List ℕ → Answer
line_by s =
    cond (eqb (length s) 0) (refused 0)
    (cond (eqb (get_or s 0 0) 35) (refused 0)
    (cond (eqb (get_or s 0 0) 43) (typed_line true (drop 1 s))
    (typed_line false s)))

-- What a line adds to a list: its code, and how many bytes it gives.
pub record Part : Type 0 where
  pub told : Told
  pub bytes : ℕ

abbrev pub part_of : Result ℕ Fault → Part
part_of (Ok bytes) = record { told = plain 0; bytes = bytes }
part_of (Err fault) = record { told = told_fault fault; bytes = 0 }

abbrev pub part_for : List ℕ → Part
part_for line = record { told = (line_of line).told; bytes = length (list_bytes (line_of line).taken) }

-- What `gather` leaves: the judgement on a text, and its whole list at the front of the buffer, where the buffer is long enough.
pub record Gathered (text buffer : List ℕ) (judgement : Result ℕ Refusal) : Type 0 where
  pub is : translated_of judgement ≡ judged_text text
  pub front : (translated_of judgement).found.told.code ≡ 0 → (translated_of judgement).bytes ≤ length buffer
      → take (translated_of judgement).bytes buffer ≡ bytes_in text
