-- Steps of the code: what its private functions answer on the way to a reading, a judgement or a writing. No public promise of the product needs
-- them; the meanings that 01 gives are in the files before this one.
use Rattle.std.specs.Prelude.{ℕ, List, Bool, cond, length, eqb}
use Rattle.words.specs.BigEndian.{has_room}
use Rattle.words.specs.Codes.{first_of}
use Rattle.wire.specs.declared.table.Form.{Form}
use Rattle.wire.specs.declared.kinds.Command.{Command}
use Rattle.wire.specs.declared.judging.Refusal.{Refusal}
use Rattle.wire.specs.declared.judging.Told.{Told}
use Rattle.std.specs.Prelude.{Result, Ok, Err}
use Rattle.wire.specs.Table.{rule_of}
use Rattle.wire.specs.Judge.{plain, told_of}
use Rattle.wire.specs.Read.{Answer, answer_for, parts_as, command_as, form_checks, decode_checks, form_in, whole_checks, parts_in, command_in, length_of, reach_code}
use Rattle.wire.specs.Write.{command_bytes, Wrote}

-- `reach_of`: rows 1 to 3, the code, and how many words the command has where it is 0.
pub record Reached : Type 0 where
  pub told : Told
  pub words : ℕ

abbrev pub reach_of : Result ℕ Refusal → Reached
reach_of (Ok words) = record { told = plain 0; words = words }
reach_of (Err refusal) = record { told = told_of refusal; words = 0 }

unfoldable pub reach_at : List ℕ → Reached
reach_at s = record { told = plain (reach_code s); words = cond (eqb (reach_code s) 0) (length_of s) 0 }

-- `read_whole`: rows 4 to 10, where a whole command of so many words stands at the front.
unfoldable pub read_whole : List ℕ → ℕ → Answer
read_whole s words = answer_for (first_of (whole_checks s words)) (parts_in s words) (command_in s words)

-- `decode`: rows 5 to 10, from the opcode, the flag, the length and the two words behind the first.
unfoldable pub decoded : ℕ → Bool → ℕ → ℕ → ℕ → Answer
decoded opcode flag words one two =
    let form = form_in (rule_of opcode) in
    answer_for (first_of (decode_checks (rule_of opcode) flag words one two)) (parts_as form one two) (command_as form flag one two)

-- `decode_form` and `decode_as`: rows 7 to 10, where the form is known and the length is its own (else both answer row 6).
unfoldable pub decoded_as : Form → Bool → ℕ → ℕ → Answer
decoded_as form flag one two = answer_for (first_of (form_checks form flag one two)) (parts_as form one two) (command_as form flag one two)

-- `write_allowed`: the answer to a command that rows 8 to 10 passed.
abbrev pub wrote_allowed : Command → List ℕ → Wrote
wrote_allowed c room =
    cond (has_room (command_bytes c) room)
    (record { told = plain 0; bytes = length (command_bytes c) })
    (record { told = plain 24; bytes = 0 })
