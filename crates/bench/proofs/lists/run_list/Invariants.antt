-- `run_list` meets its contract, by the laws of `Listing`: the loop's invariant is that what is left of the list, carried out from here, gives what the
-- whole list gives from its start, with a tally that is true of a sound bench. Each turn passes a command.
use lib.ListN.{length}
use Rattle.bench.specs.Run.{run_rests}
use Rattle.bench.specs.Steps.{bench_of}
use Rattle.bench.proofs.Listing.{Behind}
use Rattle.bench.proofs.lists.run_list.Given as goal

abbrev pub invariant-loop-number : goal.invariant-loop-number
invariant-loop-number g l =
    Behind
    (run_rests (bench_of l.initial.works l.initial.pool) l.sender (g.S.Source.numbers l.initial.list) (g.S.Source.commands l.initial.list))
    (length (g.S.Source.commands l.initial.list)) l.sender l.initial.room l.room l.works l.pool (g.S.Source.numbers l.list) (g.S.Source.commands l.list)
    l.count

abbrev pub decreases-loop-number : goal.decreases-loop-number
decreases-loop-number g l = length (g.S.Source.commands l.list)
