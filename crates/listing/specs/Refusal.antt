-- The line that says why something was refused: `refused 20`, `refused 30 line 4`, `refused 8 line 4 par 1 val 2 from 0 to 1`; with `number` for a
-- command of a raw list.
use Rattle.std.specs.Prelude.{ℕ, List, [], ◌∷◌, ◌++◌, true, false, cond, eqb}
use Rattle.words.specs.BigEndian.{written}
use Rattle.words.specs.Text.{ascii, decimal}
use Rattle.wire.specs.declared.judging.Stray.{Stray}
use Rattle.wire.specs.declared.judging.Told.{Told}
use Rattle.text.specs.declared.findings.Finding.{Finding}
use Rattle.text.specs.Findings.{Outcome}
use Rattle.listing.specs.declared.refusals.Numbered.{Numbered}
use Rattle.listing.specs.declared.refusals.Output.{Output}
use Rattle.listing.specs.Answer.{answer_for}
use Rattle.listing.specs.Text.{line_feed}

-- A number behind its label.
abbrev pub labelled : List ℕ → ℕ → List ℕ
labelled label n = label ++ decimal n

-- What a finding's number counts, as the line says it.
abbrev pub word_of : Numbered → List ℕ
word_of Numbered.Lines = ascii " line "
word_of Numbered.Commands = ascii " number "

-- What was wrong with the number: the parameter, the value found, the lowest and the highest allowed.
abbrev pub stray_text : Stray → List ℕ
stray_text stray =
    labelled (ascii " par ") stray.par
    ++ labelled (ascii " val ") stray.value
    ++ labelled (ascii " from ") stray.low
    ++ labelled (ascii " to ") stray.high

-- Only code 8 says so.
abbrev pub wrong_text : Told → List ℕ
wrong_text told = cond (eqb told.code 8) (stray_text told.stray) []

-- Where it was found. A finding of the whole has number 0, and nothing more is said of it.
abbrev pub place_text : Numbered → Finding → List ℕ
place_text numbered found = cond (eqb found.number 0) [] (labelled (word_of numbered) found.number ++ wrong_text found.told)

unfoldable pub refusal_line : Numbered → Finding → List ℕ
refusal_line numbered found = labelled (ascii "refused ") found.told.code ++ place_text numbered found ++ (line_feed ∷ [])

-- So many bytes are enough for the line.
abbrev pub refusal_room : ℕ
refusal_room = 81

-- What a program writes that was to make these bytes: them, or the line that says why there are none.
abbrev pub printed_for : Numbered → Finding → List ℕ → List ℕ
printed_for numbered found bytes = cond (eqb found.told.code 0) bytes (refusal_line numbered found)

-- What is to be written of the room that they were to be made in: how much of its front, and whether that is the line.
abbrev pub output_for : Numbered → Outcome → List ℕ → Output
output_for numbered outcome room =
    cond (eqb outcome.found.told.code 0)
    (record { bytes = outcome.bytes; refused = false })
    (record { bytes = (answer_for (refusal_line numbered outcome.found) room).bytes; refused = true })

-- The room afterwards.
abbrev pub room_for : Numbered → Outcome → List ℕ → List ℕ
room_for numbered outcome room = cond (eqb outcome.found.told.code 0) room (written (refusal_line numbered outcome.found) room)
