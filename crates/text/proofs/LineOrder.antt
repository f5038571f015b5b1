-- "on a line 30 unknown name, 32 wrong number of arguments, 31 malformed argument, then 8 to 10": a line gets the code of the first row that is due, and 0
-- exactly when none is. The codes do not rise here, so that a row is named by its place.
use Prim.Native.Nat.{ℕ}
use mathlib.Core.Path.{◌≡◌, refl}
use mathlib.Core.List.{List}
use mathlib.Core.Bool.{Bool, true}
use Rattle.words.proofs.Order.{InOrder, none_zero, in_order}
use Rattle.text.specs.Names.{form_named}
use Rattle.text.specs.Line.{name_in, line_checks, typed_as}
use Rattle.std.specs.Prelude.{Option, Some, None}
use Rattle.wire.specs.declared.table.Form.{Form}

-- A line, by its flag and words.
pub line_order : (flag : Bool) (words : List (List ℕ)) → InOrder (line_checks (form_named (name_in words)) flag words) (typed_as flag words).told.code
unfolding typed_as
line_order flag words = in_order (line_checks (form_named (name_in words)) flag words) (codes (form_named (name_in words)))
  where
    codes : (named : Option Form) → none_zero (line_checks named flag words) ≡ true
    codes None = refl
    codes (Some form) = refl
