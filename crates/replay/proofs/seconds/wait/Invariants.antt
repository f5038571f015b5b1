-- `wait` is safe: no second hands over more than 64 entries, so the count fits.
use Rattle.std.proofs.Common.{◌*◌, ◌≤◌}
use Rattle.replay.proofs.seconds.wait.Given as goal

abbrev pub invariant-loop-passed : goal.invariant-loop-passed
invariant-loop-passed l = l.entries ≤ l.passed * 64
