-- Steps of the lister's implementation; no public promise of the product needs them.
-- How a line is put part by part, what a command comes to, and what a list comes to before a room is looked at.
use Rattle.std.specs.Prelude.{ℕ, ◌≤◌, ◌≡◌, List, [], ◌∷◌, ◌++◌, Bool, true, false, cond, length, take, eqb}
use Rattle.wire.specs.declared.kinds.Command.{Command}
use Rattle.wire.specs.Read.{Answer, said}
use Rattle.text.specs.Split.{line_feed}
use Rattle.text.specs.Line.{answer_command}
use Rattle.text.specs.Findings.{first_found, Outcome, outcome_for, translated_of}
use Rattle.text.specs.Lister.{line_text, text_of, list_told, raw_findings}
use Rattle.std.specs.Prelude.{Result}
use Rattle.text.specs.declared.findings.Fault.{Fault}
use Rattle.text.specs.declared.findings.Refusal.{Refusal}

-- The mark of the macro flag.
abbrev pub mark : Bool → List ℕ
mark true = 43 ∷ []
mark false = []

-- The line of a command with its line feed.
abbrev pub ended_line : Command → List ℕ
ended_line c = line_text c ++ (line_feed ∷ [])

-- What the command at the front of a list comes to: its code and, where that is 0, itself.
abbrev pub offer_of : Result Command Fault → Answer
offer_of = answer_command

unfoldable pub offered_at : List ℕ → Answer
offered_at s = record { told = list_told s; taken = cond (eqb (list_told s).code 0) (said s ∷ []) [] }

-- A list judged by itself, without a room: how many bytes its text has, or why there is none.
unfoldable pub judged_list : List ℕ → Outcome
judged_list raw = outcome_for (first_found (raw_findings raw)) (length (text_of raw))

-- What `gather_lines` leaves: the judgement on a list, and its text at the front of the buffer.
pub record Lined (raw buffer : List ℕ) (judgement : Result ℕ Refusal) : Type 0 where
  pub is : translated_of judgement ≡ judged_list raw
  pub fits : (translated_of judgement).bytes ≤ 8192
  pub front : (translated_of judgement).found.told.code ≡ 0 → take (translated_of judgement).bytes buffer ≡ text_of raw
