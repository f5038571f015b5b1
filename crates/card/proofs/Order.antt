-- Demand 2, "the one code that stands first in the order of checks", for a stored list: at each number 34, then 35, "then at once" what that number must be;
-- 9 or 10 behind a command's last; 37, then 20, then 24 behind the list's. What follows is not looked at.
use Prim.Native.Nat.{ℕ, suc}
use mathlib.Core.Path.{◌≡◌, refl, ap, ◌∙◌}
use mathlib.Core.List.{List}
use lib.Dec.{eqb}
use Rattle.words.specs.Codes.{first_of}
use Rattle.words.proofs.Order.{Order, order}
use Rattle.wire.specs.declared.table.Form.{Form}
use Rattle.std.specs.Prelude.{Some, None}
use Rattle.wire.specs.declared.kinds.Command.{Command}
use Rattle.wire.specs.declared.kinds.Parts.{Parts}
use Rattle.wire.specs.declared.judging.Told.{Told}
use Rattle.wire.specs.Table.{row_of, rule_of}
use Rattle.wire.specs.Judge.{plain}
use Rattle.card.specs.Reading.{got, refused, and_then}
use Rattle.card.specs.Number.{number_checks, number_at}
use Rattle.card.specs.Command.{argument_at, arguments_at, flag_at, flagged, behind_opcode, found_at, command_at}
use Rattle.card.specs.List.{bad, said_from, first_at, count_at, stored_says}
use Rattle.card.specs.Answers.{refused_as, end_checks, from_card}

-- One number: 34, then 35.
pub number_order : (s : List ℕ) → Order (number_checks s) (first_of (number_checks s))
number_order s = order (number_checks s) refl

-- Behind the last command: 37, then 20, then 24.
pub end_order : (size : ℕ) (cs : List Command) (end : ℕ) (room : List ℕ) → Order (end_checks size cs end room) (first_of (end_checks size cs end room))
end_order size cs end room = order (end_checks size cs end room) refl

-- One command: what is told of its opcode stands first, then of its flag, then of its first argument, its second, and the flag's rule.
module _ (s : List ℕ) (at : ℕ) where
  pub opcode_first : (told : Told) → number_at s at ≡ refused told → command_at s at ≡ refused told
  unfolding command_at
  opcode_first told e = rw e

  module _ (opcode next : ℕ) (is : number_at s at ≡ got opcode next) where
    pub opcode_unknown : rule_of opcode ≡ None → command_at s at ≡ refused (plain 5)
    unfolding command_at
    opcode_unknown e = ap (λ x. and_then x (λ v p. found_at s p (rule_of v))) is ∙ ap (found_at s next) e

    module _ (form : Form) (words : ℕ) (known : rule_of opcode ≡ Some (form, words)) where
      opcode_known : command_at s at ≡ behind_opcode s next form
      unfolding command_at
      opcode_known = ap (λ x. and_then x (λ v p. found_at s p (rule_of v))) is ∙ ap (found_at s next) known

      pub flag_second : (told : Told) → flag_at s next ≡ refused told → command_at s at ≡ refused told
      unfolding behind_opcode
      flag_second told e = opcode_known ∙ rw e

      module _ (flag place : ℕ) (flag_is : flag_at s next ≡ got flag place) where
        behind_flag : command_at s at ≡ and_then (arguments_at s place form) (λ parts end. flagged (eqb flag 1) parts end)
        unfolding behind_opcode
        behind_flag = opcode_known ∙ ap (λ x. and_then x (λ v p. and_then (arguments_at s p form) (λ parts end. flagged (eqb v 1) parts end))) flag_is

        pub argument_third : (told : Told) → argument_at s place (row_of form).layout 1 (row_of form).low1 (row_of form).high1 ≡ refused told
            → command_at s at ≡ refused told
        unfolding arguments_at
        argument_third told e = behind_flag ∙ rw e

        pub argument_fourth : (first later : ℕ) (told : Told)
            → argument_at s place (row_of form).layout 1 (row_of form).low1 (row_of form).high1 ≡ got first later
            → argument_at s later (row_of form).layout 2 (row_of form).low2 (row_of form).high2 ≡ refused told → command_at s at ≡ refused told
        unfolding arguments_at
        argument_fourth first later told e f = behind_flag ∙ rw (e, f)

        pub rule_last : (parts : Parts) (end : ℕ) → arguments_at s place form ≡ got parts end → command_at s at ≡ flagged (eqb flag 1) parts end
        rule_last parts end e = behind_flag ∙ rw e

-- The whole list: the first number, the number of commands, the commands in their order, and only then what stands behind them.
module _ (s room : List ℕ) where
  pub head_first : (told : Told) → count_at s ≡ refused told → from_card s room ≡ refused_as told 0 room
  unfolding from_card stored_says
  head_first told e = rw e

  pub one_first : (told : Told) → first_at s ≡ refused told → count_at s ≡ refused told
  unfolding count_at
  one_first told e = rw e

  pub command_before_end : (number : ℕ) (told : Told) → stored_says s ≡ bad number told → from_card s room ≡ refused_as told number room
  unfolding from_card
  command_before_end number told e = rw e

-- The first of so many commands that is refused is told with its number, whatever stands behind it.
pub first_refused : (k number : ℕ) (s : List ℕ) (at : ℕ) (told : Told) → command_at s at ≡ refused told
    → said_from (suc k) number s at ≡ bad number told
unfolding said_from
first_refused k number s at told e = rw e
