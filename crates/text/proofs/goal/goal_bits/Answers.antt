-- `goal_bits` meets its contract: whole numbers to 2^24 are singles, and a quarter of one is rounded once.
use mathlib.Core.Path.{ap}
use lib.Ieee.{binary32, to_bits}
use Rattle.text.specs.Goal.{goal_bits}
use Rattle.text.proofs.Goals.{divided, single_number}
use Rattle.text.proofs.goal.goal_bits.Goals as goal

pub float_to_bits-result : goal.float_to_bits-result
float_to_bits-result c = rw (divided _ c.requires) (single_number _ c.requires)

pub returns : goal.returns
unfolding goal_bits
returns c = ap (to_bits binary32) (divided _ c.requires)
