-- Steps of the code. No public promise needs them.
use Rattle.std.specs.Prelude.{ℕ, ◌+◌, ◌≤◌, ◌<◌, ◌≡◌, List, [], ◌∷◌, true, cond, ◌&&◌, ◌||◌, length, take, drop, leb, ltb, eqb, Result, Ok, Err}
use Rattle.std.proofs.lemmas.List.Edits.{sets}
use Rattle.words.specs.Codes.{◌when◌}
use Rattle.wire.specs.declared.kinds.Command.{Command}
use Rattle.wire.specs.declared.kinds.Parts.{Parts}
use Rattle.wire.specs.declared.table.Form.{Form}
use Rattle.wire.specs.Kind.{parts_with}
use Rattle.wire.specs.Write.{command_bytes, list_bytes}
use Rattle.card.specs.declared.answers.Fault.{Fault}
use Rattle.card.specs.declared.answers.Refused.{Refused}
use Rattle.card.specs.declared.command.Stored.{Stored}
use Rattle.card.specs.Reading.{Got, got, refused, passing}
use Rattle.card.specs.Number.{endless}
use Rattle.card.specs.List.{stored_commands, Said, said, bad}
use Rattle.card.specs.Answers.{told_fault}

-- What the readers of a number and of a command answer, and that of a form's arguments.
abbrev pub got_of : {A : Type 0} → Result (A × ℕ) Fault → Got A
got_of (Ok (value, end)) = got value end
got_of (Err fault) = refused (told_fault fault)

abbrev pub got_command : Stored → Got Command
got_command (Stored.Taken c end) = got c end
got_command (Stored.Bad fault) = refused (told_fault fault)

abbrev pub got_arguments : Form → Result (ℕ × ℕ × ℕ) Fault → Got Parts
got_arguments form (Ok (first, second, end)) = got (parts_with form first second) end
got_arguments form (Err fault) = refused (told_fault fault)

-- `longer`: a number that goes on at a place and has too many groups already.
abbrev pub longer_as : List ℕ → ℕ → Got ℕ
longer_as s at = passing (34 when endless (drop at s) ∷ 35 when true ∷ []) (got 0 at)

-- `closed`: a number that ends before a place, by its value, its last group and how many stand before that.
abbrev pub closed_as : ℕ → ℕ → ℕ → ℕ → Got ℕ
closed_as value last before end = passing (35 when (eqb last 0 && ltb 0 before || ltb 0xffffffff value) ∷ []) (got value end)

-- `put_behind`: a command behind the first so many bytes of a buffer, where the list is not too long yet, and how many bytes there are then.
abbrev pub end_after : Command → ℕ → ℕ
end_after c pos = cond (ltb 4096 pos) pos (pos + length (command_bytes c))

abbrev pub buffer_after : Command → ℕ → List ℕ → List ℕ
buffer_after c pos buffer = cond (leb (pos + length (command_bytes c)) (length buffer)) (sets buffer pos (command_bytes c)) buffer

-- `gather`: so many bytes of a raw list stand in its buffer, as many as there are, or too many.
pub record Kept (cs : List Command) (pos : ℕ) (buffer : List ℕ) : Type 0 where
  pub exact : pos ≤ 4096 → pos ≡ length (list_bytes cs)
  pub over : 4096 < pos → 4096 < length (list_bytes cs)
  pub front : pos ≤ 4096 → take pos buffer ≡ list_bytes cs

pub record All (x : Said) (pos end : ℕ) (buffer : List ℕ) : Type 0 where
  pub cs : List Command
  pub is : x ≡ said cs end
  pub kept : Kept cs pos buffer

abbrev pub AsSaid : Result (ℕ × ℕ) Refused → Said → List ℕ → Type 0
AsSaid (Ok (pos, end)) x buffer = All x pos end buffer
AsSaid (Err why) x buffer = x ≡ bad why.number (told_fault why.fault)

-- `pack`: so many commands in stored form stand at the front of its buffer.
pub record Packs (x : Said) (count pos : ℕ) (buffer : List ℕ) : Type 0 where
  pub cs : List Command
  pub is : x ≡ said cs 0
  pub counted : count ≡ length cs
  pub size : pos ≡ length (stored_commands cs)
  pub short : pos ≤ 4096
  pub front : take pos buffer ≡ stored_commands cs

abbrev pub AsPacked : Result (ℕ × ℕ) Refused → Said → List ℕ → Type 0
AsPacked (Ok (count, pos)) x buffer = Packs x count pos buffer
AsPacked (Err why) x buffer = x ≡ bad why.number (told_fault why.fault)
