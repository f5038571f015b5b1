-- `store::soundness::entries_hold` meets its contract: one law for an entry that holds, one for an entry that fails, one for the end.
use mathlib.Core.Path.{sym, ap, ◌∙◌}
use native.Mathlib.Omega.{arith}
use borrow.Author.Tests.{not-true, not-false}
use Rattle.store.specs.Sound.{entry_holds}
use Rattle.store.specs.TallySteps.{entries_by}
use Rattle.store.proofs.Walk.{walk_start, walk_next, walk_end}
use Rattle.store.proofs.SoundLaws.{all_on, all_fail, all_end}
use mathlib.Core.Bool.{not}
use Rattle.store.proofs.soundness.entries_hold.Goals as goal

pub loop-i-init : goal.loop-i-init
loop-i-init c =
    let args = c.args in
    let walked = walk_start args.words.now args.start args.size _ c.requires.0 c.end_of-end.ensures in
    record {
      walk = record { whole = c.requires.0; inside = omega arith };
      held = ap (λ es. entries_by args.tally.now.closed args.m es) (sym walked);
    }

pub returns-then-not-entry_holds : goal.returns-then-not-entry_holds
returns-then-not-entry_holds c =
    let args = c.args in
    let at = c.loop-i in
    let read = walk_next args.words.now _ at.i _ at.invariant.walk c.loop-i-test.true c.entry_at.ensures.result_value in
    let judged = c.entry_holds in
    let fails = sym judged.ensures ∙ not-true judged.result (ap not c.if-not-entry_holds.true) in
    sym (all_fail (entry_holds args.tally.now.closed args.m) _ _ _ read fails) ∙ at.invariant.held

pub loop-i-preserved : goal.loop-i-preserved
loop-i-preserved c =
    let args = c.args in
    let at = c.loop-i in
    let read = walk_next args.words.now _ at.i _ at.invariant.walk c.loop-i-test.true c.entry_at.ensures.result_value in
    let judged = c.entry_holds in
    let holds = sym judged.ensures ∙ not-false judged.result (ap not c.if-not-entry_holds.false) in
    record {
      walk = at.invariant.walk;
      held = sym (all_on (entry_holds args.tally.now.closed args.m) _ _ _ read holds) ∙ at.invariant.held;
    }

pub returns : goal.returns
returns c =
    let args = c.args in
    let at = c.loop-i in
    let none = walk_end args.words.now _ at.i c.loop-i-test.false in
    sym (all_end (entry_holds args.tally.now.closed args.m) _ none) ∙ at.invariant.held
