-- `lists::run_pupil` meets its contract: the list is carried out, and what its records say is noted (`Ending`).
use mathlib.Core.Path.{ap}
use Rattle.report.specs.declared.Latest.{Latest}
use Rattle.bench.specs.Steps.{bench_of, works_noting}
use Rattle.bench.proofs.Ending.{list_ended}
use Rattle.bench.proofs.lists.run_pupil.Goals as goal

pub returns-clause-pool_after : goal.returns-clause-pool_after
returns-clause-pool_after g c =
    let args = c.args in
    let part = c.run_list-part in
    list_ended (bench_of args.works args.pool.now) (g.S.Source.numbers args.list) (g.S.Source.commands args.list) c.requires.even.0
    part.result.works _ part.new.pool args.room.now part.new.room part.result.count part.ensures.pool_after part.ensures.room_after c.requires.fits
    part.ensures.count_value.0 (ap (λ (latest : Latest). works_noting part.result.works latest) c.latest_of-latest.ensures)
