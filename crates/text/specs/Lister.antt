-- "the lister goes back, without leading zeros, each line ended by a line feed".
use Rattle.std.specs.Prelude.{ℕ, suc, ◌/◌, ◌%◌, List, [], ◌∷◌, ◌++◌, map, Bool, true, false, cond, not, ◌&&◌, length, eqb, ltb}
use Rattle.words.specs.BigEndian.{has_room, written}
use Rattle.words.specs.Text.{ascii, decimal}
use Rattle.words.specs.Codes.{Check, ◌when◌, first_of}
use Rattle.wire.specs.declared.table.Layout.{Layout}
use Rattle.wire.specs.declared.kinds.Command.{Command}
use Rattle.wire.specs.declared.judging.Told.{Told}
use Rattle.wire.specs.Table.{row_of, name_of}
use Rattle.wire.specs.Kind.{parts_of}
use Rattle.wire.specs.Judge.{told_for}
use Rattle.wire.specs.Read.{read_checks, said_parts, said}
use Rattle.walk.specs.Walk.{rests}
use Rattle.text.specs.declared.findings.Finding.{Finding}
use Rattle.text.specs.Split.{line_feed, space}
use Rattle.text.specs.Goal.{quarters_in}
use Rattle.text.specs.Findings.{finding, whole, first_found, Outcome, outcome_for}
use Rattle.std.specs.Prelude.{Option, Some, None}

-- The end of a goal that is so many quarters above a whole number.
abbrev pub fraction : ℕ → List ℕ
fraction quarters = cond (ltb quarters 1) [] (cond (ltb quarters 2) (ascii ".25") (cond (ltb quarters 3) (ascii ".5") (ascii ".75")))

-- A goal in text: its whole part and its quarters.
abbrev pub goal_text : ℕ → List ℕ
goal_text q = decimal (q / 4) ++ fraction (q % 4)

abbrev pub said_text : Option ℕ → List ℕ
said_text (Some q) = goal_text q
said_text None = []

-- The arguments, each after one space.
abbrev pub arguments_text : Layout → ℕ → ℕ → List ℕ
arguments_text Layout.Bare first second = []
arguments_text Layout.Byte first second = space ∷ decimal first
arguments_text Layout.Half first second = space ∷ decimal first
arguments_text Layout.Halves first second = space ∷ (decimal first ++ space ∷ decimal second)
arguments_text Layout.Singles first second = space ∷ (said_text (quarters_in first) ++ space ∷ said_text (quarters_in second))

-- The line of a command, behind its `+`.
abbrev pub body_text : Command → List ℕ
body_text c =
    let parts = parts_of c.kind in
    name_of parts.form ++ arguments_text (row_of parts.form).layout parts.first parts.second

-- 43 is `+`.
abbrev pub flagged : Bool → List ℕ → List ℕ
flagged true s = 43 ∷ s
flagged false s = s

unfoldable pub line_text : Command → List ℕ
line_text c = flagged c.flag (body_text c)

-- The text of commands, a line to each.
unfoldable pub list_text : List Command → List ℕ
unfolding line_text
list_text [] = []
list_text (c ∷ cs) = line_text c ++ line_feed ∷ list_text cs

-- The text of a raw list: of the command that each of its rests begins with.
abbrev pub text_of : List ℕ → List ℕ
text_of raw = list_text (map said (rests raw))

abbrev pub is_said : Option ℕ → Bool
is_said (Some q) = true
is_said None = false

-- Can text say these arguments? Whole numbers always; goals where each is a number of quarters. So minus zero cannot be said.
abbrev pub sayable : Layout → ℕ → ℕ → Bool
sayable Layout.Bare first second = true
sayable Layout.Byte first second = true
sayable Layout.Half first second = true
sayable Layout.Halves first second = true
sayable Layout.Singles first second = is_said (quarters_in first) && is_said (quarters_in second)

abbrev pub can_say : Command → Bool
can_say c =
    let parts = parts_of c.kind in
    sayable (row_of parts.form).layout parts.first parts.second

-- "in listing the first of 1 to 10, then 33 goal that the text cannot say": at a command, on the list as that command finds it.
abbrev pub list_checks : List ℕ → List Check
list_checks s = read_checks s ++ (33 when not (can_say (said s)) ∷ [])

unfoldable pub list_told : List ℕ → Told
list_told s = told_for (first_of (list_checks s)) (said_parts s)

-- What is found at each command, where the first of these has this number.
unfoldable pub command_findings : ℕ → List (List ℕ) → List Finding
command_findings n [] = []
command_findings n (r ∷ rs) = finding (list_told r) n ∷ command_findings (suc n) rs

-- The first command that cannot be listed.
abbrev pub bad_command : List ℕ → Finding
bad_command raw = first_found (command_findings 1 (rests raw))

-- "20 first, for .. a raw list above 4,096", the first bad command,
abbrev pub raw_findings : List ℕ → List Finding
raw_findings raw = whole (20 when ltb 4096 (length raw)) ∷ bad_command raw ∷ []

-- "24 last."
abbrev pub list_findings : List ℕ → List ℕ → List Finding
list_findings raw room = raw_findings raw ++ (whole (24 when not (has_room (text_of raw) room)) ∷ [])

unfoldable pub listed_as : List ℕ → List ℕ → Outcome
listed_as raw room = outcome_for (first_found (list_findings raw room)) (length (text_of raw))

-- The room afterwards: the text at its front and the rest as it was; all of it as it was on a refusal.
unfoldable pub listed_room : List ℕ → List ℕ → List ℕ
unfolding listed_as
listed_room raw room = cond (eqb (listed_as raw room).found.told.code 0) (written (text_of raw) room) room
