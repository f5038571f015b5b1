-- `put_offsets` meets its contract: a part of the room is written over by the offsets.
use native.Mathlib.Omega.{arith}
use Rattle.index.proofs.Starts.{part_set}
use Rattle.index.proofs.put_offsets.Goals as goal

pub returns : goal.returns
returns c = part_set c.args.at _ c.args.room.now c.copy_from_slice.new.self c.args.offsets.now c.copy_from_slice.ensures.after (omega arith) c.requires
