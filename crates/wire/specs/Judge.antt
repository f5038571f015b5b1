-- 01's number of each refusal and, for code 8, what was wrong with the number (02, Q-6); and rows 8 to 10 of 01's codes, on a form and two numbers.
use Rattle.std.specs.Prelude.{ℕ, List, [], ◌∷◌, Bool, true, false, cond, not, ◌&&◌, ◌||◌, leb, eqb}
use Rattle.words.specs.Codes.{Check, ◌when◌, first_of}
use Rattle.wire.specs.declared.table.Layout.{Layout}
use Rattle.wire.specs.declared.table.FlagRule.{FlagRule}
use Rattle.wire.specs.declared.table.Row.{Row}
use Rattle.wire.specs.declared.kinds.Command.{Command}
use Rattle.wire.specs.declared.kinds.Parts.{Parts}
use Rattle.wire.specs.declared.judging.Stray.{Stray}
use Rattle.wire.specs.declared.judging.Refusal.{Refusal}
use Rattle.wire.specs.declared.judging.Told.{Told}
use Rattle.std.specs.Prelude.{Result, Ok, Err}
use Rattle.wire.specs.Table.{row_of}
use Rattle.wire.specs.Kind.{parts_of}

-- 02, Q-6: an argument out of range by its parameter, 1 or 2, with "the value found and the lowest and highest allowed".
abbrev pub stray_with : ℕ → ℕ → ℕ → ℕ → Stray
stray_with par value low high = record { par = par; value = value; low = low; high = high }

-- All four are 0 where there is none.
abbrev pub no_stray : Stray
no_stray = stray_with 0 0 0 0

abbrev pub told_with : ℕ → Stray → Told
told_with code stray = record { code = code; stray = stray }

-- A code by itself.
abbrev pub plain : ℕ → Told
plain code = told_with code no_stray

-- 01, "Codes": the number of each refusal, and beside 8 what was wrong with the number.
abbrev pub told_of : Refusal → Told
told_of Refusal.TooFewBytes = plain 1
told_of Refusal.LengthOutOfBounds = plain 2
told_of Refusal.CutOff = plain 3
told_of Refusal.SumDiffers = plain 4
told_of Refusal.UnknownOpcode = plain 5
told_of Refusal.WrongLength = plain 6
told_of Refusal.PadNotZero = plain 7
told_of (Refusal.OutOfRange stray) = told_with 8 stray
told_of Refusal.FlagForbidden = plain 9
told_of Refusal.FlagMissing = plain 10
told_of Refusal.NoRoom = plain 24

-- What is told of an answer, from what each refusal tells: code 0 where it was accepted.
abbrev pub told_by : {A E : Type 0} → (E → Told) → Result A E → Told
told_by told (Ok x) = plain 0
told_by told (Err refusal) = told refusal

abbrev pub told_judged : Result Unit Refusal → Told
told_judged = told_by told_of

-- 01: a goal's bits may also be exactly 0x80000000 (minus zero). With the limits of its row this is 01's rule on a goal (proofs/Goals,
-- `goal_allowed_lem`), and a not-a-number is out of range whatever its bits are (`nan_refused`).
abbrev pub minus_zero : Layout → ℕ → Bool
minus_zero Layout.Bare value = false
minus_zero Layout.Byte value = false
minus_zero Layout.Half value = false
minus_zero Layout.Halves value = false
minus_zero Layout.Singles value = eqb value 0x80000000

-- Is a value within its limits?
abbrev pub in_limits : Layout → ℕ → ℕ → ℕ → Bool
in_limits layout low high value = minus_zero layout value || (leb low value && leb value high)

-- The first argument out of range by a row of the table, 1 or 2; 0 where there is none.
abbrev pub first_bad : Row → ℕ → ℕ → ℕ
first_bad row first second =
    cond (in_limits row.layout row.low1 row.high1 first)
    (cond (in_limits row.layout row.low2 row.high2 second) 0 2)
    1

-- The argument that a parameter names: its value, and the limits that the row has for it.
abbrev pub named : Row → ℕ → ℕ → ℕ → Stray
named row first second par =
    cond (eqb par 1) (stray_with 1 first row.low1 row.high1)
    (cond (eqb par 2) (stray_with 2 second row.low2 row.high2) no_stray)

-- "the first bad one", with its value and limits.
abbrev pub stray_by : Row → ℕ → ℕ → Stray
stray_by row first second = named row first second (first_bad row first second)

abbrev pub is_never : FlagRule → Bool
is_never FlagRule.Either = false
is_never FlagRule.Never = true
is_never FlagRule.Always = false

abbrev pub is_always : FlagRule → Bool
is_always FlagRule.Either = false
is_always FlagRule.Never = false
is_always FlagRule.Always = true

-- Rows 9 and 10: flag 1 where it may never be, flag 0 where it must be 1.
abbrev pub flag_checks : FlagRule → Bool → List Check
flag_checks rule flag = 9 when (is_never rule && flag) ∷ 10 when (is_always rule && not flag) ∷ []

-- What they tell of a flag by itself.
abbrev pub flag_refused : FlagRule → Bool → Told
flag_refused rule flag = plain (first_of (flag_checks rule flag))

-- Rows 8 to 10, on a flag and two numbers, by a row of the table.
abbrev pub row_checks : Row → Bool → ℕ → ℕ → List Check
row_checks row flag first second = 8 when not (eqb (first_bad row first second) 0) ∷ flag_checks row.flags flag

-- "0 unless the code is 8": parameter, value and limits.
abbrev pub stray_for : ℕ → Stray → Stray
stray_for code stray = cond (eqb code 8) stray no_stray

-- The judgement on a flag and two numbers, by a row of the table.
abbrev pub judged_by : Row → Bool → ℕ → ℕ → Told
judged_by row flag first second =
    let code = first_of (row_checks row flag first second) in
    told_with code (stray_for code (stray_by row first second))

-- The same of a form and two numbers, by the row of the form: of a decoded command, of a command's fields on the wire, or of a typed line.
abbrev pub bad_in : Parts → ℕ
bad_in parts = first_bad (row_of parts.form) parts.first parts.second

abbrev pub stray_in : Parts → Stray
stray_in parts = stray_by (row_of parts.form) parts.first parts.second

abbrev pub part_checks : Bool → Parts → List Check
part_checks flag parts = row_checks (row_of parts.form) flag parts.first parts.second

-- What is told of a form and two numbers with this code.
abbrev pub told_for : ℕ → Parts → Told
told_for code parts = told_with code (stray_for code (stray_in parts))

-- Rows 8 to 10, on a decoded command.
abbrev pub arg_checks : Command → List Check
arg_checks c = part_checks c.flag (parts_of c.kind)

unfoldable pub judge_code : Command → ℕ
judge_code c = first_of (arg_checks c)

-- The judgement on a decoded command.
abbrev pub judged : Command → Told
judged c = told_for (judge_code c) (parts_of c.kind)
