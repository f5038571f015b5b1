-- `Raw::new` keeps the invariant of its type: a list has 512 commands at most.
use mathlib.Core.Path.{ap}
use native.Mathlib.Omega.{arith}
use lib.ListN.{length}
use Rattle.walk.specs.Walk.{rests}
use Rattle.walk.proofs.Rests.{rests_512}
use Rattle.bench.proofs.lists.sources.Raw.new.Goals as goal

pub invariant_of-result : goal.invariant_of-result
invariant_of-result c = omega (arith, rests_512 c.args.list.now c.requires, ap (λ s. length (rests s.now)) c.new.ensures)
