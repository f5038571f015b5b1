-- "the table's name in lower case": which form has a name.
use Rattle.std.specs.Prelude.{ℕ, List, [], ◌∷◌, cond}
use Rattle.wire.specs.declared.table.Form.{Form}
use Rattle.wire.specs.Table.{name_of, guide_forms, macro_forms}
use Rattle.text.specs.Split.{same_text}
use Rattle.std.specs.Prelude.{Option, Some, None}

-- The first form of a list that has this name.
abbrev pub named_in : List ℕ → List Form → Option Form → Option Form
named_in name [] otherwise = otherwise
named_in name (f ∷ fs) otherwise = cond (same_text name (name_of f)) (Some f) (named_in name fs otherwise)

unfoldable pub macro_named : List ℕ → Option Form
unfolding name_of
macro_named name = named_in name macro_forms None

unfoldable pub form_named : List ℕ → Option Form
unfolding macro_named
form_named name = named_in name guide_forms (macro_named name)
