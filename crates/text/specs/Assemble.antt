-- "The assembler gives bytes, or the first bad line's code and line number".
use Rattle.std.specs.Prelude.{ℕ, suc, List, [], ◌∷◌, ◌++◌, map, cond, not, length, eqb, ltb}
use Rattle.words.specs.BigEndian.{has_room, written}
use Rattle.words.specs.Codes.{◌when◌}
use Rattle.wire.specs.declared.kinds.Command.{Command}
use Rattle.wire.specs.Write.{list_bytes}
use Rattle.text.specs.declared.findings.Finding.{Finding}
use Rattle.text.specs.Split.{lines_of}
use Rattle.text.specs.Line.{line_of}
use Rattle.text.specs.Findings.{finding, whole, first_found, Outcome, outcome_for}

-- The commands that lines say.
unfoldable pub commands_in : List (List ℕ) → List Command
commands_in [] = []
commands_in (l ∷ ls) = (line_of l).taken ++ commands_in ls

-- The number of each one's line, where the first of these lines has this number: every line is counted, and those that carry a command give theirs.
unfoldable pub numbers_in : ℕ → List (List ℕ) → List ℕ
numbers_in n [] = []
numbers_in n (l ∷ ls) = map (λ c. n) (line_of l).taken ++ numbers_in (suc n) ls

abbrev pub commands_of : List ℕ → List Command
commands_of text = commands_in (lines_of text)

abbrev pub line_numbers : List ℕ → List ℕ
line_numbers text = numbers_in 1 (lines_of text)

-- The raw list that a text says.
abbrev pub bytes_in : List ℕ → List ℕ
bytes_in text = list_bytes (commands_of text)

-- What is found on each line, where the first of these lines has this number.
unfoldable pub line_findings : ℕ → List (List ℕ) → List Finding
line_findings n [] = []
line_findings n (l ∷ ls) = finding (line_of l).told n ∷ line_findings (suc n) ls

-- The first bad line.
abbrev pub bad_line : List ℕ → Finding
bad_line text = first_found (line_findings 1 (lines_of text))

-- "20 first, for text above 32,768 bytes", the first bad line, then 20 where the list would be above 4,096 bytes.
abbrev pub text_findings : List ℕ → List Finding
text_findings text =
    whole (20 when ltb 32768 (length text))
    ∷ bad_line text
    ∷ whole (20 when ltb 4096 (length (bytes_in text)))
    ∷ []

-- A text judged by itself, without a room: how many bytes its list has, or why there is none.
unfoldable pub judged_text : List ℕ → Outcome
judged_text text = outcome_for (first_found (text_findings text)) (length (bytes_in text))

-- "24 last."
abbrev pub assemble_findings : List ℕ → List ℕ → List Finding
assemble_findings text room = text_findings text ++ (whole (24 when not (has_room (bytes_in text) room)) ∷ [])

unfoldable pub assembled_as : List ℕ → List ℕ → Outcome
assembled_as text room = outcome_for (first_found (assemble_findings text room)) (length (bytes_in text))

-- The room afterwards: the list at its front and the rest as it was; all of it as it was on a refusal.
unfoldable pub room_after : List ℕ → List ℕ → List ℕ
unfolding assembled_as
room_after text room = cond (eqb (assembled_as text room).found.told.code 0) (written (bytes_in text) room) room
