-- What is found wrong with a whole text or list: checks tried one after another, of which the first that finds something speaks.
use Rattle.std.specs.Prelude.{ℕ, List, [], ◌∷◌, cond, eqb}
use Rattle.words.specs.Codes.{Check}
use Rattle.wire.specs.declared.judging.Refusal.{Refusal as WireRefusal}
use Rattle.wire.specs.declared.judging.Told.{Told}
use Rattle.wire.specs.Judge.{plain, told_of}
use Rattle.text.specs.declared.findings.Fault.{Fault}
use Rattle.text.specs.declared.findings.Finding.{Finding}
use Rattle.std.specs.Prelude.{Result, Ok, Err}
use Rattle.text.specs.declared.findings.Refusal.{Refusal}

-- What is told, and the number of the line or command that it is of.
abbrev pub finding : Told → ℕ → Finding
finding told number = record { told = told; number = number }

-- Nothing was found.
abbrev pub nothing : Finding
nothing = finding (plain 0) 0

-- "codes 20, 21, 24, 27 name no line": a check of the whole.
abbrev pub whole : Check → Finding
whole check = cond check.due (finding (plain check.code) 0) nothing

-- The first that finds something.
unfoldable pub first_found : List Finding → Finding
first_found [] = nothing
first_found (f ∷ fs) = cond (eqb f.told.code 0) (first_found fs) f

-- 02, Q-1: what is told of each fault of a line, and of a command that is to be listed.
abbrev pub told_fault : Fault → Told
told_fault Fault.UnknownName = plain 30
told_fault Fault.WrongCount = plain 32
told_fault Fault.Malformed = plain 31
told_fault Fault.Unsayable = plain 33
told_fault (Fault.Wire refusal) = told_of refusal

-- Too little room, which is of no line.
abbrev pub no_room : Result ℕ Refusal
no_room = Err (Refusal.BadLine 0 (Fault.Wire WireRefusal.NoRoom))

-- What a call answers: what it found, and where that is nothing, how many bytes there are.
pub record Outcome : Type 0 where
  pub found : Finding
  pub bytes : ℕ

abbrev pub outcome : Finding → ℕ → Outcome
outcome found bytes = record { found = found; bytes = bytes }

-- So many bytes, or none on a refusal.
abbrev pub outcome_for : Finding → ℕ → Outcome
outcome_for found bytes = outcome found (cond (eqb found.told.code 0) bytes 0)

-- What the code answers.
abbrev pub translated_of : Result ℕ Refusal → Outcome
translated_of (Ok bytes) = outcome nothing bytes
translated_of (Err Refusal.TooLong) = outcome (finding (plain 20) 0) 0
translated_of (Err (Refusal.BadLine number fault)) = outcome (finding (told_fault fault) number) 0
