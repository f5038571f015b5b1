-- `put_at` meets its contract: a writer at the front of the part that begins at the place is a writer at that place.
use native.Mathlib.Omega.{arith}
use Rattle.words.proofs.Stores.{part_stored}
use Rattle.words.proofs.putting.put_at.Goals as goal

pub returns-clause-room_after : goal.returns-clause-room_after
returns-clause-room_after c =
    let start = c.args in
    part_stored start.at start.bytes.now start.room.now (omega arith) _ c.put_bytes.ensures.room_after
