-- 01, "A command on the wire": the table, a line to a row, in 01's order. The opcode, length, layout, flag rule, limits and name of a command stand
-- here alone. Kind says which arguments each command has; Read and Write how each layout puts them into words; Judge that a goal may also be minus
-- zero.
use Rattle.std.specs.Prelude.{ℕ, List, [], ◌∷◌, cond, eqb}
use Rattle.words.specs.Text.{ascii}
use Rattle.wire.specs.declared.table.Form.{Form}
use Rattle.wire.specs.declared.table.Layout.{Layout}
use Rattle.wire.specs.declared.table.FlagRule.{FlagRule}
use Rattle.wire.specs.declared.table.Row.{Row}
use Rattle.std.specs.Prelude.{Option, Some, None}

abbrev pub row_with : ℕ → ℕ → Layout → FlagRule → ℕ → ℕ → ℕ → ℕ → Row
row_with opcode words layout flags low1 high1 low2 high2 =
    record { opcode = opcode; words = words; layout = layout; flags = flags; low1 = low1; high1 = high1; low2 = low2; high2 = high2 }

-- Opcode, L, layout, flag, the first argument's limits, the second's (0 and 0 where there is no such argument).
abbrev pub row_of : Form → Row
row_of Form.ImgPwr = row_with 0x0114 3 Layout.Byte FlagRule.Either 0 1 0 0
row_of Form.ImgRegion = row_with 0x0117 3 Layout.Halves FlagRule.Either 0 1023 0 1023
row_of Form.ImgTrack = row_with 0x0118 3 Layout.Halves FlagRule.Either 0 65535 1 65535
row_of Form.TrkAlg = row_with 0x0148 3 Layout.Byte FlagRule.Either 0 2 0 0
row_of Form.TrkLoop = row_with 0x014b 3 Layout.Byte FlagRule.Either 0 1 0 0
row_of Form.ImgImage = row_with 0x0150 3 Layout.Halves FlagRule.Either 0 65535 1 65535
row_of Form.TrkGoal = row_with 0x0153 4 Layout.Singles FlagRule.Either 0 0x447fffff 0 0x447fffff
row_of Form.TlmFlush = row_with 0x015a 2 Layout.Bare FlagRule.Either 0 0 0 0
row_of Form.FlushAuto = row_with 0x015c 3 Layout.Byte FlagRule.Either 0 1 0 0
row_of Form.Open = row_with 0x7f01 3 Layout.Byte FlagRule.Never 0 7 0 0
row_of Form.Close = row_with 0x7f02 2 Layout.Bare FlagRule.Never 0 0 0 0
row_of Form.Run = row_with 0x7f03 3 Layout.Byte FlagRule.Either 0 7 0 0
row_of Form.Wait = row_with 0x7f04 3 Layout.Half FlagRule.Always 1 600 0 0
row_of Form.Stop = row_with 0x7f05 2 Layout.Bare FlagRule.Never 0 0 0 0
row_of Form.Clear = row_with 0x7f06 2 Layout.Bare FlagRule.Never 0 0 0 0

-- "the table's name in lower case", as a typed list has it (Q-1).
unfoldable pub name_of : Form → List ℕ
name_of Form.ImgPwr = ascii "img_pwr"
name_of Form.ImgRegion = ascii "img_region"
name_of Form.ImgTrack = ascii "img_track"
name_of Form.TrkAlg = ascii "trk_alg"
name_of Form.TrkLoop = ascii "trk_loop"
name_of Form.ImgImage = ascii "img_image"
name_of Form.TrkGoal = ascii "trk_goal"
name_of Form.TlmFlush = ascii "tlm_flush"
name_of Form.FlushAuto = ascii "flush_auto"
name_of Form.Open = ascii "open"
name_of Form.Close = ascii "close"
name_of Form.Run = ascii "run"
name_of Form.Wait = ascii "wait"
name_of Form.Stop = ascii "stop"
name_of Form.Clear = ascii "clear"

-- How many arguments a layout has.
abbrev pub arguments_of : Layout → ℕ
arguments_of Layout.Bare = 0
arguments_of Layout.Byte = 1
arguments_of Layout.Half = 1
arguments_of Layout.Halves = 2
arguments_of Layout.Singles = 2

-- The forms in the table's order: those of the guide (opcodes 0x01xx), then those of 01 (0x7fxx).
abbrev pub guide_forms : List Form
guide_forms =
    Form.ImgPwr ∷ Form.ImgRegion ∷ Form.ImgTrack ∷ Form.TrkAlg ∷ Form.TrkLoop ∷ Form.ImgImage ∷ Form.TrkGoal ∷ Form.TlmFlush ∷ Form.FlushAuto ∷ []

abbrev pub macro_forms : List Form
macro_forms = Form.Open ∷ Form.Close ∷ Form.Run ∷ Form.Wait ∷ Form.Stop ∷ Form.Clear ∷ []

-- The first form of a list that has this opcode, with its length; else what is found otherwise.
abbrev pub look_up : ℕ → List Form → Option (Form × ℕ) → Option (Form × ℕ)
look_up opcode [] otherwise = otherwise
look_up opcode (f ∷ fs) otherwise = cond (eqb opcode (row_of f).opcode) (Some (f, (row_of f).words)) (look_up opcode fs otherwise)

abbrev pub macro_rule_of : ℕ → Option (Form × ℕ)
macro_rule_of opcode = look_up opcode macro_forms None

-- What an opcode stands for.
abbrev pub rule_of : ℕ → Option (Form × ℕ)
rule_of opcode = look_up opcode guide_forms (macro_rule_of opcode)
