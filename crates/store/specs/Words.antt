-- The pool's words, three to an entry, and the commands that they say.
use Rattle.std.specs.Prelude.{ℕ, ◌+◌, ◌*◌, ◌-◌, ◌/◌, ◌%◌, List, [], ◌∷◌, ◌++◌, Bool, true, false, cond, take, drop, eqb}
use Rattle.wire.specs.declared.table.Form.{Form}
use Rattle.std.specs.Prelude.{Option, Some, None}
use Rattle.wire.specs.declared.kinds.Kind.{Kind}
use Rattle.wire.specs.declared.kinds.Command.{Command}
use Rattle.wire.specs.Table.{row_of, rule_of}
use Rattle.wire.specs.Kind.{parts_of, kind_of}
use Rattle.wire.specs.Judge.{first_bad}

abbrev pub bit : Bool → ℕ
bit false = 0
bit true = 1

-- An entry's words: the opcode with the flag as its lowest bit, and the two arguments as numbers.
abbrev pub head_of : Form → Bool → ℕ
head_of form flag = (row_of form).opcode * 2 + bit flag

abbrev pub words_of : Command → List ℕ
words_of c =
    let parts = parts_of c.kind in
    head_of parts.form c.flag ∷ parts.first ∷ parts.second ∷ []

-- What three words say that are no command. Its flag is 0, so no sound state has such an entry.
abbrev pub no_command : Command
no_command = record { flag = false; kind = Kind.ImgPwr 0 }

-- The command that three words say: the opcode is in the table, and the arguments are in range.
abbrev pub command_for : Option (Form × ℕ) → Bool → ℕ → ℕ → Command
command_for (Some (form, words)) flag first second =
    cond (eqb (first_bad (row_of form) first second) 0) (record { flag = flag; kind = kind_of form first second }) no_command
command_for None flag first second = no_command

abbrev pub command_of : ℕ → ℕ → ℕ → Command
command_of head first second = command_for (rule_of (head / 2)) (eqb (head % 2) 1) first second

-- The commands that words say, three by three.
unfoldable pub commands_in : List ℕ → List Command
commands_in [] = []
commands_in (a ∷ []) = []
commands_in (a ∷ b ∷ []) = []
commands_in (a ∷ b ∷ c ∷ ws) = command_of a b c ∷ commands_in ws

-- The words with an entry put in at `from`, and those up to `to` behind it, one entry further up.
unfoldable pub inserted : List ℕ → ℕ → ℕ → Command → List ℕ
inserted ws from to c = take from ws ++ (words_of c ++ (take (to - from) (drop from ws) ++ drop (to + 3) ws))
