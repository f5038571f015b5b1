-- What is said of an argument out of range (02, Q-6): of a typed line, of a command that is to be listed, and of the line or command that the answer
-- on a whole text or list names. It is the law of `wire`, on the numbers as they were typed, not cut to the width of their fields, and on those that
-- stand on the wire.
use Prim.Native.Nat.{ℕ, suc, ◌+◌, ◌-◌}
use mathlib.Core.Path.{◌≡◌, refl, sym, ap}
use mathlib.Core.Logic.{◌↔◌}
use mathlib.Core.List.{List, [], ◌∷◌}
use mathlib.Core.Bool.{Bool, true, false, cond, not, false≢true}
use native.Mathlib.Omega.{arith}
use lib.ListN.{length, get_or, take}
use lib.Dec.{eqb, ltb}
use borrow.Author.Tests.{eqb-false}
use Rattle.words.specs.BigEndian.{has_room}
use Rattle.words.specs.Codes.{◌when◌, first_of}
use Rattle.words.proofs.Order.{NoneDue}
use Rattle.wire.specs.declared.kinds.Parts.{Parts}
use Rattle.wire.specs.Judge.{plain, part_checks}
use Rattle.wire.specs.Read.{read_checks, said_parts, said}
use Rattle.wire.proofs.Parameters.{SomeOut, Parameter, RangeRow, parameter, eight, range_parts, range_none, range_append, range_read}
use Rattle.walk.specs.Walk.{rests}
use Rattle.text.specs.declared.findings.Finding.{Finding}
use Rattle.text.specs.Split.{lines_of, words_of}
use Rattle.text.specs.Names.{form_named}
use Rattle.text.specs.Line.{is_blank, flag_in, body_in, name_in, parts_in, line_checks, form_in, typed_as, line_of}
use Rattle.text.specs.Findings.{nothing, whole, first_found}
use Rattle.text.specs.Assemble.{bytes_in, line_findings, bad_line, assemble_findings, assembled_as}
use Rattle.text.specs.Lister.{text_of, can_say, list_checks, list_told, command_findings, list_findings, listed_as}
use Rattle.std.specs.Prelude.{Option, Some, None}
use Rattle.wire.specs.declared.table.Form.{Form}

-- Rows 30, 32 and 31 stand before row 8.
module _ (flag : Bool) (words : List (List ℕ)) where
  abbrev named_parts : Option Form → Parts
  named_parts named = parts_in (form_in named) words

  range_named : (named : Option Form) → RangeRow (named_parts named) (line_checks named flag words)
  range_named None = range_none (named_parts None) (line_checks None flag words) refl
  range_named (Some form) =
      let parts = parts_in form words in
      let front = take 3 (line_checks (Some form) flag words) in
      range_append parts front (part_checks flag parts) (range_none parts front refl) (range_parts flag parts)

  -- The words of a line that is not blank.
  pub typed_parameter : Parameter (parts_in (form_in (form_named (name_in words))) words) (typed_as flag words).told
  unfolding typed_as
  typed_parameter =
      let named = form_named (name_in words) in
      parameter (named_parts named) (line_checks named flag words) (range_named named)

  -- Code 8 comes exactly where the name is known, the arguments are as many as it has and well formed, and one of them is out of range.
  pub typed_eight : ((typed_as flag words).told.code ≡ 8)
      ↔ (NoneDue (take 3 (line_checks (form_named (name_in words)) flag words)) × SomeOut (parts_in (form_in (form_named (name_in words))) words))
  unfolding typed_as
  typed_eight = go (form_named (name_in words))
    where
      go : (named : Option Form) → (first_of (line_checks named flag words) ≡ 8) ↔ (NoneDue (take 3 (line_checks named flag words)) × SomeOut (named_parts named))
      go (Some form) =
          let named = Some form in
          eight (named_parts named) (line_checks named flag words) 3 (range_named named) refl (omega arith) refl
      go None = (λ e. absurd (omega arith), λ d. absurd (false≢true (sym d.0.0)))

-- The numbers as a line has them: what it says behind its `+`, by the form that its first word names.
abbrev pub typed_parts : List ℕ → Parts
typed_parts line =
    let words = words_of (body_in line) in
    parts_in (form_in (form_named (name_in words))) words

-- A typed line; an empty one and a comment have no number.
pub line_parameter : (line : List ℕ) → Parameter (typed_parts line) (line_of line).told
unfolding line_of
line_parameter line = go (is_blank line)
  where
    go : (blank : Bool) → Parameter (typed_parts line) (cond blank (record { told = plain 0; taken = [] }) (typed_as (flag_in line) (words_of (body_in line)))).told
    go true = parameter (typed_parts line) [] tt
    go false = typed_parameter (flag_in line) (words_of (body_in line))

-- The command at the front of a list that is to be listed.
pub list_parameter : (s : List ℕ) → Parameter (said_parts s) (list_told s)
unfolding list_told
list_parameter s =
    let last = 33 when not (can_say (said s)) ∷ [] in
    parameter (said_parts s) (list_checks s) (range_append (said_parts s) (read_checks s) last (range_read s) (range_none (said_parts s) last refl))

-- Of a whole text or list: what is found there is told of the line or command that the finding names. (0 names none, and tells of no number.)
module _ (parts_at : ℕ → Parts) where
  abbrev pub ToldOf : Finding → Type 0
  ToldOf f = Parameter (parts_at f.number) f.told

  abbrev pub AllToldOf : List Finding → Type 0
  AllToldOf [] = Unit {0}
  AllToldOf (f ∷ fs) = ToldOf f × AllToldOf fs

  none_told : ToldOf nothing
  none_told = parameter (parts_at 0) [] tt

  pub whole_told : (code : ℕ) (due : Bool) → eqb code 8 ≡ false → ToldOf (whole (code when due))
  whole_told code true other = rw other at (parameter (parts_at 0) (code when true ∷ []) (λ e. absurd (eqb-false code 8 other e), tt))
  whole_told code false other = none_told

  pub first_told : (fs : List Finding) → AllToldOf fs → ToldOf (first_found fs)
  unfolding first_found
  first_told [] all = none_told
  first_told (f ∷ fs) all = go (eqb f.told.code 0) (first_told fs all.1)
    where
      go : (silent : Bool) → ToldOf (first_found fs) → ToldOf (cond silent (first_found fs) f)
      go true rest = rest
      go false rest = all.0

  lines_told : (n : ℕ) (ls : List (List ℕ)) → ((m i : ℕ) → m ≡ n + i → parts_at m ≡ typed_parts (get_or ls i [])) → AllToldOf (line_findings n ls)
  unfolding line_findings
  lines_told n [] at = tt
  lines_told n (l ∷ ls) at = (rw (at n 0 (omega arith)) (line_parameter l), lines_told (suc n) ls (λ m i e. at m (suc i) (omega arith)))

  commands_told : (n : ℕ) (rs : List (List ℕ)) → ((m i : ℕ) → m ≡ n + i → parts_at m ≡ said_parts (get_or rs i [])) → AllToldOf (command_findings n rs)
  unfolding command_findings
  commands_told n [] at = tt
  commands_told n (r ∷ rs) at = (rw (at n 0 (omega arith)) (list_parameter r), commands_told (suc n) rs (λ m i e. at m (suc i) (omega arith)))

-- Lines and commands are numbered from 1.
abbrev pub parts_of_line : List ℕ → ℕ → Parts
parts_of_line text number = typed_parts (get_or (lines_of text) (number - 1) [])

abbrev pub parts_of_command : List ℕ → ℕ → Parts
parts_of_command raw number = said_parts (get_or (rests raw) (number - 1) [])

from_one : (m i : ℕ) → m ≡ 1 + i → m - 1 ≡ i
from_one m i e = omega arith

-- The first bad line, which a run of a typed list tells too, and the assembler's answer.
module _ (text : List ℕ) where
  pub bad_line_parameter : Parameter (parts_of_line text (bad_line text).number) (bad_line text).told
  bad_line_parameter =
      let at = parts_of_line text in
      first_told at (line_findings 1 (lines_of text)) (lines_told at 1 (lines_of text) (λ m i e. ap (λ k. typed_parts (get_or (lines_of text) k [])) (from_one m i e)))

  pub assembled_parameter : (room : List ℕ)
      → let found = (assembled_as text room).found in
      Parameter (parts_of_line text found.number) found.told
  unfolding assembled_as
  assembled_parameter room =
      let at = parts_of_line text in
      let long = whole_told at 20 (ltb 32768 (length text)) refl in
      let list_long = whole_told at 20 (ltb 4096 (length (bytes_in text))) refl in
      let no_room = whole_told at 24 (not (has_room (bytes_in text) room)) refl in
      first_told at (assemble_findings text room) (long, (bad_line_parameter, (list_long, (no_room, tt))))

-- The lister's answer.
pub listed_parameter : (raw room : List ℕ)
    → let found = (listed_as raw room).found in
    Parameter (parts_of_command raw found.number) found.told
unfolding listed_as
listed_parameter raw room =
    let at = parts_of_command raw in
    let each = commands_told at 1 (rests raw) (λ m i e. ap (λ k. said_parts (get_or (rests raw) k [])) (from_one m i e)) in
    let long = whole_told at 20 (ltb 4096 (length raw)) refl in
    let no_room = whole_told at 24 (not (has_room (text_of raw) room)) refl in
    first_told at (list_findings raw room) (long, (first_told at (command_findings 1 (rests raw)) each, (no_room, tt)))
