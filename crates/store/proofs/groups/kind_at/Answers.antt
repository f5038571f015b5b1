-- `store::groups::kind_at` meets its contract: past the last place no command is read.
use mathlib.Core.Path.{ap}
use Rattle.wire.specs.declared.kinds.Command.{Command}
use Rattle.store.specs.Words.{no_command, commands_in}
use Rattle.store.proofs.Entries.{length_commands}
use Rattle.store.proofs.Laws.{read_past}
use Rattle.store.proofs.groups.kind_at.Goals as goal

pub returns-else-i-lt-GROUP : goal.returns-else-i-lt-GROUP
returns-else-i-lt-GROUP c =
    let words = c.args.words.now in
    ap (λ (e : Command). e.kind) (read_past (commands_in words) no_command c.args.i 64 (length_commands 64 words c.requires) c.if-i-lt-GROUP.false)
