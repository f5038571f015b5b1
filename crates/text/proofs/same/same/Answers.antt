-- `same` meets its contract: two slices are equal where their items are, one by one.
use mathlib.Core.Path.{◌∙◌}
use Rattle.text.proofs.Texts.{by_items}
use Rattle.text.proofs.same.same.Goals as goal

pub returns : goal.returns
returns c = c.eq.ensures ∙ by_items _ _
