-- What a line gives passes codes 8 to 10, and is one command at most.
use Prim.Native.Nat.{ℕ, ◌≤◌}
use mathlib.Core.Path.{◌≡◌, refl, ap, ◌∙◌}
use mathlib.Core.List.{List, [], ◌∷◌, append-nil}
use mathlib.Core.Bool.{Bool, true, false, cond, not}
use native.Mathlib.Omega.{arith}
use lib.ListN.{length}
use lib.Dec.{eqb}
use borrow.Author.Tests.{eqb-true}
use Rattle.words.specs.Codes.{Check, ◌when◌, first_of as first_due}
use Rattle.wire.specs.declared.table.Form.{Form}
use Rattle.wire.specs.declared.kinds.Command.{Command}
use Rattle.wire.specs.Table.{row_of}
use Rattle.wire.specs.Kind.{parts_of, kind_of, parts_with}
use Rattle.wire.specs.Judge.{bad_in, flag_checks, judged_by, judge_code}
use Rattle.wire.specs.Write.{command_bytes, list_bytes}
use Rattle.wire.proofs.Ranges.{in_range_parts, in_range_judge}
use Rattle.wire.proofs.RoundTrip.{Held, kind_held}
use Rattle.wire.proofs.Lengths.{length_command, row_words_most}
use Rattle.text.specs.Line.{line_of}
use Rattle.text.specs.Steps.{judged_line}
use Rattle.text.proofs.Branches.{line_any}

-- Numbers that pass as they were typed are in range.
first_eight : (b : Bool) (cs : List Check) → first_due (8 when not b ∷ cs) ≡ 0 → b ≡ true
first_eight true cs e = refl
first_eight false cs e = absurd (omega arith)

module _ (form : Form) (flag : Bool) (first second : ℕ) (passes : (judged_by (row_of form) flag first second).code ≡ 0) where
  pub typed_in_range : bad_in (parts_with form first second) ≡ 0
  typed_in_range = eqb-true _ 0 (first_eight (eqb (bad_in (parts_with form first second)) 0) (flag_checks (row_of form).flags flag) passes)

  -- So they are the arguments of the command that is made of them, and it passes too.
  pub typed_parts : parts_of (kind_of form first second) ≡ parts_with form first second
  typed_parts = in_range_parts form first second typed_in_range

  typed_allowed : judge_code (record { flag = flag; kind = kind_of form first second }) ≡ 0
  typed_allowed = in_range_judge form flag first second typed_in_range ∙ passes

-- Commands that a program can hold and that pass codes 8 to 10.
abbrev pub AllAllowed : List Command → Type 0
AllAllowed [] = Unit {0}
AllAllowed (c ∷ cs) = (Held c × (judge_code c ≡ 0)) × AllAllowed cs

pub record Fine (cs : List Command) : Type 0 where
  pub allowed : AllAllowed cs
  pub short : length (list_bytes cs) ≤ 16

pub listed_one : (c : Command) → list_bytes (c ∷ []) ≡ command_bytes c
unfolding list_bytes
listed_one c = append-nil (command_bytes c)

none : Fine []
unfolding list_bytes
none = record { allowed = tt; short = omega arith }

one_command : (c : Command) → Held c → judge_code c ≡ 0 → Fine (c ∷ [])
one_command c held e =
    record { allowed = ((held, e), tt); short = omega (arith, ap length (listed_one c), length_command c, row_words_most (parts_of c.kind).form) }

judged_fine : (form : Form) (flag : Bool) (first second : ℕ) → Fine (judged_line form flag first second).taken
judged_fine form flag first second = go (eqb (judged_by (row_of form) flag first second).code 0) refl
  where
    go : (b : Bool) → eqb (judged_by (row_of form) flag first second).code 0 ≡ b
        → Fine (cond b (record { flag = flag; kind = kind_of form first second } ∷ []) [])
    go true is =
        one_command _ (kind_held form first second)
        (typed_allowed form flag first second (eqb-true (judged_by (row_of form) flag first second).code 0 is))
    go false is = none

pub line_fine : (s : List ℕ) → Fine (line_of s).taken
line_fine s = line_any Fine none (λ form flag one two first second first_is second_is. judged_fine form flag first second) s
