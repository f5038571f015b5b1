-- `deciding::decide_bytes` meets its contract: it decides what the reader says of these bytes.
use Rattle.bench.proofs.deciding.decide_bytes.Goals as goal

pub returns : goal.returns
returns c = c.decide_read.ensures c.args.bytes.now c.read_command.ensures
