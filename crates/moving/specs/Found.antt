-- What is found wrong with a list that is moved to a card or from one (02, Q-4), by what it says, and the bytes that it is moved as.
use Rattle.std.specs.Prelude.{ℕ, List, [], Bool, not, eqb}
use Rattle.words.specs.Codes.{Check, first_of}
use Rattle.wire.specs.declared.kinds.Command.{Command}
use Rattle.wire.specs.Judge.{plain}
use Rattle.text.specs.declared.findings.Finding.{Finding}
use Rattle.text.specs.Findings.{finding, Outcome, outcome}
use Rattle.card.specs.List.{Said, said, bad}
use Rattle.card.specs.Answers.{Answer}

-- A finding of a command says that command's number; 0 where it is of none.
abbrev pub outcome_of : Answer → Outcome
outcome_of a = outcome (finding a.told a.number) a.bytes

-- What is told of the first bad command; else the first of these checks, which are of the whole.
abbrev pub found_by : Said → (List Command → ℕ → List Check) → Finding
found_by (said cs end) checks = finding (plain (first_of (checks cs end))) 0
found_by (bad number told) checks = finding told number

-- The commands in the form that they are moved to.
abbrev pub bytes_by : Said → (List Command → List ℕ) → List ℕ
bytes_by (said cs end) bytes = bytes cs
bytes_by (bad number told) bytes = []

abbrev pub refused_by : Finding → Bool
refused_by found = not (eqb found.told.code 0)
