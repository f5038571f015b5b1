-- `store::groups::group_due` meets its contract: what the walk collects from an empty group is the group that is due.
use mathlib.Core.Path.{refl}
use Rattle.store.specs.TallySteps.{store_of}
use Rattle.store.proofs.Turns.{walked_due, due_shown}
use Rattle.store.proofs.groups.group_due.Goals as goal

pub collect-spot-requires-clause-walked : goal.collect-spot-requires-clause-walked
collect-spot-requires-clause-walked c =
    let args = c.args in
    walked_due (store_of args.words.now args.tally.now) args.m args.tally.now.spans _ c.requires.due refl

pub returns : goal.returns
returns c =
    let args = c.args in
    due_shown (store_of args.words.now args.tally.now) args.m args.left args.tally.now.spans _ _ _ _ c.requires.due
    c.span.ensures c.seconds_of-length.ensures c.saturating_sub.ensures c.collect-spot.ensures
