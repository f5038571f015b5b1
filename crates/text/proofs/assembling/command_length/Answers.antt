-- `command_length` meets its contract: four bytes to each word of its row.
use Prim.Native.Nat.{◌*◌}
use mathlib.Core.Path.{sym, ap, ◌∙◌}
use Rattle.wire.proofs.Lengths.{length_command}
use Rattle.wire.specs.Table.{row_of}
use Rattle.text.proofs.assembling.command_length.Goals as goal

pub returns : goal.returns
returns c =
    sym
    (length_command c.args.command
    ∙ ap (λ p. (row_of p.form).words * 4) (sym c.parts_of-parts.ensures)
    ∙ ap (λ r. r.words * 4) (sym c.row_of.ensures))
