-- 02, Q-4: "each command is opcode, flag and arguments", "goals go as their 32-bit patterns"; and what is told of one: at each number 34 and 35, "then at
-- once" 5, 38 or 8, and "9 or 10 after each command's last number".
use Rattle.std.specs.Prelude.{ℕ, List, [], ◌∷◌, ◌++◌, Bool, cond, ltb, eqb}
use Rattle.words.specs.Codes.{◌when◌}
use Rattle.wire.specs.declared.table.Form.{Form}
use Rattle.wire.specs.declared.table.Layout.{Layout}
use Rattle.std.specs.Prelude.{Option, Some, None}
use Rattle.wire.specs.declared.kinds.Command.{Command}
use Rattle.wire.specs.declared.kinds.Parts.{Parts}
use Rattle.wire.specs.Table.{row_of, rule_of, arguments_of}
use Rattle.wire.specs.Kind.{parts_with, parts_of, kind_of}
use Rattle.wire.specs.Judge.{stray_with, told_with, plain, in_limits, flag_checks}
use Rattle.wire.specs.Write.{flag_bit}
use Rattle.card.specs.Reading.{Got, got, refused, and_then, passing}
use Rattle.card.specs.Number.{number_bytes, number_at}

-- So many of two arguments.
abbrev pub arguments_in : ℕ → ℕ → ℕ → List ℕ
arguments_in many first second = cond (ltb many 1) [] (first ∷ cond (ltb many 2) [] (second ∷ []))

-- The numbers of a form with its flag and arguments: as many arguments as its layout has.
abbrev pub numbers_in : Bool → Parts → List ℕ
numbers_in flag parts =
    let row = row_of parts.form in
    row.opcode ∷ flag_bit flag ∷ arguments_in (arguments_of row.layout) parts.first parts.second

-- Numbers, one after another.
unfoldable pub numbers_bytes : List ℕ → List ℕ
numbers_bytes [] = []
numbers_bytes (v ∷ vs) = number_bytes v ++ numbers_bytes vs

-- The stored form of a command.
unfoldable pub stored_command : Command → List ℕ
unfolding numbers_bytes
stored_command c = numbers_bytes (numbers_in c.flag (parts_of c.kind))

-- An argument: 8 "at once" where it is out of its limits, told with parameter, value and limits (Q-6). Where the layout has none it is 0 and takes no byte.
unfoldable pub argument_at : List ℕ → ℕ → Layout → ℕ → ℕ → ℕ → Got ℕ
argument_at s at layout par low high =
    cond (ltb (arguments_of layout) par) (got 0 at)
    (and_then (number_at s at) (λ value end. cond (in_limits layout low high value) (got value end) (refused (told_with 8 (stray_with par value low high)))))

-- Both arguments of a form.
unfoldable pub arguments_at : List ℕ → ℕ → Form → Got Parts
arguments_at s at form =
    let row = row_of form in
    and_then (argument_at s at row.layout 1 row.low1 row.high1) (λ first next.
    and_then (argument_at s next row.layout 2 row.low2 row.high2) (λ second end. got (parts_with form first second) end))

-- "38 flag neither 0 nor 1"
unfoldable pub flag_at : List ℕ → ℕ → Got ℕ
flag_at s at = and_then (number_at s at) (λ flag end. passing (38 when ltb 1 flag ∷ []) (got flag end))

-- Behind the last number: 9 or 10, and else the command.
unfoldable pub flagged : Bool → Parts → ℕ → Got Command
flagged flag parts end =
    passing (flag_checks (row_of parts.form).flags flag) (got (record { flag = flag; kind = kind_of parts.form parts.first parts.second }) end)

-- Behind the opcode: the flag, then the arguments.
unfoldable pub behind_opcode : List ℕ → ℕ → Form → Got Command
behind_opcode s at form = and_then (flag_at s at) (λ flag next. and_then (arguments_at s next form) (λ parts end. flagged (eqb flag 1) parts end))

-- 5 where the opcode is not in the table, whatever 32-bit number it is.
abbrev pub found_at : List ℕ → ℕ → Option (Form × ℕ) → Got Command
found_at s at (Some (form, words)) = behind_opcode s at form
found_at s at None = refused (plain 5)

-- The command that begins at a place.
unfoldable pub command_at : List ℕ → ℕ → Got Command
command_at s at = and_then (number_at s at) (λ opcode next. found_at s next (rule_of opcode))
