-- `store::second` meets its contract: a store that is not sound stays, and so does an idle one; otherwise one second less is left.
use mathlib.Core.Path.{◌≡◌, refl, sym, ap, ◌∙◌}
use borrow.Author.Rules.{rules}
use borrow.Author.Tests.{not-false}
use Rattle.store.specs.declared.Store.{Store}
use Rattle.store.specs.declared.tally.Survey.{Survey}
use Rattle.store.specs.Sound.{store_sound}
use Rattle.store.specs.TallySteps.{tally_of, store_of}
use Rattle.store.proofs.Clear.{sound_clear}
use Rattle.store.proofs.SoundLaws.{running_due}
use Rattle.store.proofs.second.Goals as goal

pub group_due-group-requires-clause-due : goal.group_due-group-requires-clause-due
group_due-group-requires-clause-due c =
    let handed_in : Store = store_of c.args.pool.now c.args.tally in
    let sound_told : c.survey-survey.result.sound ≡ store_sound handed_in = ap (λ (r : Survey). r.sound) c.survey-survey.ensures in
    let tally_told : c.survey-survey.result.tally ≡ tally_of handed_in = ap (λ (r : Survey). r.tally) c.survey-survey.ensures in
    let store = handed_in in
    let sound = sym sound_told ∙ not-false c.survey-survey.result.sound c.if-not-survey.false in
    let busy = c.if-running.false in
    rw tally_told (running_due store _ (search rules) sound busy refl (sound_clear store (search rules) sound))
