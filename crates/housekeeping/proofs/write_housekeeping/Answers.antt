-- `write_housekeeping` meets its contract: the bytes that `put_bytes` is handed are the frame's (Answers).
use Rattle.housekeeping.proofs.Answers.{told}
use Rattle.housekeeping.proofs.write_housekeeping.Goals as goal

pub returns-clause-result_value : goal.returns-clause-result_value
returns-clause-result_value c =
    told c.args.h c.args.room.now c.put_bytes.result (rw (c.as_flattened.ensures.value, c.bytes_of.ensures) at c.put_bytes.ensures.value)
