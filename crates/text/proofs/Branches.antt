-- What holds of no command, and of what two numbers that were read come to, holds of what any line says: one walk through the code's branches.
use Prim.Native.Nat.{ℕ}
use mathlib.Core.Path.{◌≡◌, refl, subst}
use mathlib.Core.List.{List, []}
use mathlib.Core.Bool.{Bool, true, false, cond}
use lib.ListN.{length, get_or, drop}
use lib.Dec.{eqb}
use Rattle.wire.specs.declared.table.Form.{Form}
use Rattle.wire.specs.declared.kinds.Command.{Command}
use Rattle.wire.specs.Table.{row_of, arguments_of}
use Rattle.wire.specs.Read.{Answer}
use Rattle.text.specs.Split.{space}
use Rattle.text.specs.Names.{form_named}
use Rattle.text.specs.Line.{first_of, second_of, line_of}
use Rattle.text.specs.Steps.{count_of, front_of, behind_of, refused, judged_line, read_line, known_line, named_line, typed_line, line_by}
use Rattle.text.proofs.ByWords.{line_by_lem}
use Rattle.std.specs.Prelude.{Option, Some, None}

module _ (P : List Command → Type 0) (none : P [])
    (judged : (form : Form) (flag : Bool) (one two : List ℕ) (first second : ℕ)
    → first_of (row_of form).layout one ≡ Some first → second_of (row_of form).layout two ≡ Some second
    → P (judged_line form flag first second).taken) where
  read_any : (form : Form) (flag : Bool) (one two : List ℕ)
      → P (read_line form flag (first_of (row_of form).layout one) (second_of (row_of form).layout two)).taken
  read_any form flag one two = go (first_of (row_of form).layout one) (second_of (row_of form).layout two) refl refl
    where
      go : (a b : Option ℕ) → first_of (row_of form).layout one ≡ a → second_of (row_of form).layout two ≡ b → P (read_line form flag a b).taken
      go (Some first) (Some second) first_is second_is = judged form flag one two first second first_is second_is
      go (Some first) None first_is second_is = none
      go None b first_is second_is = none

  known_any : (form : Form) (flag : Bool) (body : List ℕ) → P (known_line form flag body).taken
  unfolding known_line
  known_any form flag body = go (eqb (count_of space body) (arguments_of (row_of form).layout))
    where
      go : (b : Bool)
          → P
          (cond b
          (read_line form flag (first_of (row_of form).layout (front_of space (behind_of space body)))
          (second_of (row_of form).layout (front_of space (behind_of space (behind_of space body)))))
          (refused 32)).taken
      go true = read_any form flag (front_of space (behind_of space body)) (front_of space (behind_of space (behind_of space body)))
      go false = none

  named_any : (n : Option Form) (flag : Bool) (body : List ℕ) → P (named_line n flag body).taken
  named_any (Some form) flag body = known_any form flag body
  named_any None flag body = none

  typed_any : (flag : Bool) (body : List ℕ) → P (typed_line flag body).taken
  unfolding typed_line
  typed_any flag body = named_any (form_named (front_of space body)) flag body

  by_any : (s : List ℕ) → P (line_by s).taken
  unfolding line_by
  by_any s = go (eqb (length s) 0) (eqb (get_or s 0 0) 35) (eqb (get_or s 0 0) 43)
    where
      go : (empty comment flag : Bool)
          → P (cond empty (refused 0) (cond comment (refused 0) (cond flag (typed_line true (drop 1 s)) (typed_line false s)))).taken
      go true comment flag = none
      go false true flag = none
      go false false true = typed_any true (drop 1 s)
      go false false false = typed_any false s

  pub line_any : (s : List ℕ) → P (line_of s).taken
  line_any s = subst (λ (a : Answer). P a.taken) (line_by_lem s) (by_any s)
