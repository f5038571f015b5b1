-- `reads_well` meets its contract: what the reader answers says whether the command passes (`Passing`).
use mathlib.Core.Path.{sym, ap, ◌∙◌}
use Rattle.wire.specs.Read.{answer_of}
use Rattle.rescue.proofs.Passing.{taken_passes, refused_passes}
use Rattle.rescue.proofs.reads_well.Goals as goal

pub returns-in-Ok : goal.returns-in-Ok
returns-in-Ok c = taken_passes _ c.in-Ok.field-0 (sym (ap answer_of c.in-Ok.is) ∙ c.read_command.ensures)

pub returns-in-Err : goal.returns-in-Err
returns-in-Err c = c.is_for_flag.ensures ∙ refused_passes _ c.in-Err.refusal (sym (ap answer_of c.in-Err.is) ∙ c.read_command.ensures)
