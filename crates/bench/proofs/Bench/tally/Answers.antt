-- `Bench::tally` meets its contract: the store's survey, which is sound only where the rules outside the store hold (`Judging`).
use mathlib.Core.Path.{refl}
use Rattle.bench.proofs.Judging.{judged_sound}
use Rattle.bench.proofs.Bench.tally.Goals.{else-survey-via-else-survey, else-survey-via-then-survey+else-obeys}
use Rattle.bench.proofs.Bench.tally.Goals as goal

pub returns-then-obeys-clause-sound : goal.returns-then-obeys-clause-sound
returns-then-obeys-clause-sound c =
    let told = c.survey-survey in
    rw (c.if-survey.true, c.if-obeys.true) at
    (judged_sound c.args.self.now c.works-works.result c.works-works.ensures told.result told.ensures c.obeys.result c.obeys.ensures)

pub returns-else-survey-clause-sound : goal.returns-else-survey-clause-sound
returns-else-survey-clause-sound c =
    let told = c.survey-survey in
    let b = c.args.self.now in
    elim c.else-survey.branch [
      | else-survey-via-then-survey+else-obeys w ↦
          rw (w.if-survey.true, w.if-obeys.false) at
          (judged_sound b c.works-works.result c.works-works.ensures told.result told.ensures w.obeys.result w.obeys.ensures)
      | else-survey-via-else-survey w ↦
          rw w.if-survey.false at (judged_sound b c.works-works.result c.works-works.ensures told.result told.ensures _ refl)
    ]
