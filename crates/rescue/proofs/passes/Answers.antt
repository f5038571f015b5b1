-- `passes` meets its contract: what reaches further than any command can does not pass (`Passing`).
use mathlib.Core.Path.{◌∙◌}
use native.Mathlib.Omega.{arith}
use borrow.Author.Tests.{lt-leb}
use Rattle.rescue.proofs.Passing.{none_longer}
use Rattle.rescue.proofs.passes.Goals as goal

pub returns-else-span-le-LONGEST_COMMAND : goal.returns-else-span-le-LONGEST_COMMAND
returns-else-span-le-LONGEST_COMMAND c = lt-leb _ _ c.if-span-le-LONGEST_COMMAND.false ∙ none_longer _ (omega (arith, c.span.ensures, c.if-span-le-LONGEST_COMMAND.false))
