-- `read_input` meets its contract and ends: what was read lies within the room, and each turn that goes on has read something.
use Rattle.std.proofs.Common.{◌≡◌, length, ◌-◌, ◌≤◌}
use Rattle.input.proofs.read_input.Given as goal

abbrev pub invariant-loop-bytes : goal.invariant-loop-bytes
invariant-loop-bytes g l = (length l.room ≡ length l.initial.room) × (l.bytes ≤ length l.initial.room)

abbrev pub decreases-loop-bytes : goal.decreases-loop-bytes
decreases-loop-bytes g l = length l.initial.room - l.bytes
