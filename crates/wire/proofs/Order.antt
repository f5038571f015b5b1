-- Demand 2, "the one code that stands first in the order of checks", of the calls of this crate.
use Prim.Native.Nat.{ℕ}
use mathlib.Core.Path.{◌≡◌, refl}
use mathlib.Core.List.{List, ◌∷◌, ◌++◌}
use mathlib.Core.Bool.{true}
use Rattle.words.specs.BigEndian.{word_at}
use Rattle.words.specs.Codes.{Check, ◌when◌}
use Rattle.words.proofs.Order.{apart, Order, order}
use Rattle.wire.specs.declared.table.Form.{Form}
use Rattle.std.specs.Prelude.{Option, Some, None}
use Rattle.wire.specs.declared.kinds.Command.{Command}
use Rattle.wire.specs.Table.{rule_of}
use Rattle.wire.specs.Judge.{arg_checks, judge_code}
use Rattle.wire.specs.Read.{reach_checks, sum_differs, decode_checks, opcode_of, flag_of, length_of, third_word, read_checks, read_code}
use Rattle.wire.specs.Write.{write_checks, write_code}

-- Reading a command: rows 1 to 10.
pub read_order : (s : List ℕ) → Order (read_checks s) (read_code s)
unfolding read_code
read_order s = order (read_checks s) (go (rule_of (opcode_of s)))
  where
    later : Option (Form × ℕ) → List Check
    later found = 4 when sum_differs s (length_of s) ∷ decode_checks found (flag_of s) (length_of s) (word_at s 4) (third_word s (length_of s))

    go : (found : Option (Form × ℕ)) → apart (reach_checks s ++ later found) ≡ true
    go (Some (form, length)) = refl
    go None = refl

-- Judging a decoded command: rows 8 to 10.
pub judge_order : (c : Command) → Order (arg_checks c) (judge_code c)
unfolding judge_code
judge_order c = order (arg_checks c) refl

-- Writing a command: rows 8 to 10, then 24.
pub write_order : (c : Command) (room : List ℕ) → Order (write_checks c room) (write_code c room)
unfolding write_code
write_order c room = order (write_checks c room) refl
