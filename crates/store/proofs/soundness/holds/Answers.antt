-- `store::soundness::holds` meets its contract: a macro is judged by the table, and where all hold, so is the running one.
use mathlib.Core.Path.{◌≡◌, refl, sym, ◌∙◌}
use mathlib.Core.Bool.{true}
use native.Mathlib.Omega.{arith}
use native.Mathlib.Numerals.{add-one}
use borrow.Author.Rules.{rules}
use borrow.Author.Tests.{not-true, not-false}
use Rattle.store.specs.Pool.{start_of}
use Rattle.store.specs.Sound.{all_below, macro_holds}
use Rattle.store.specs.TallySteps.{store_of}
use Rattle.store.proofs.Places.{start_next}
use Rattle.store.proofs.SpanTable.{all_told}
use Rattle.store.proofs.SoundLaws.{below_start, below_on, macro_told, running_told, sound_full, sound_fails, sound_by_running}
use mathlib.Core.Path.{ap}
use mathlib.Core.Bool.{not}
use Rattle.store.proofs.soundness.holds.Goals as goal

pub returns-then-used-gt-ENTRIES : goal.returns-then-used-gt-ENTRIES
returns-then-used-gt-ENTRIES c = sound_full (store_of c.args.words.now c.args.tally.now) c.args.used c.requires.spans_value.1 c.if-used-gt-ENTRIES.true

pub loop-m-init : goal.loop-m-init
unfolding start_of
loop-m-init c =
    let args = c.args in
    let s = store_of args.words.now args.tally.now in
    record {
      whole = c.requires.words_len;
      marks = search rules;
      tells = all_told s args.tally.now.spans c.requires.spans_value.0;
      within = omega arith;
      small = omega arith;
      starts = refl;
      held = below_start (macro_holds s);
    }

pub returns-then-not-macro_holds : goal.returns-then-not-macro_holds
returns-then-not-macro_holds c =
    let args = c.args in
    let at = c.loop-m in
    let told = at.invariant.tells at.m (omega arith) in
    let judged = macro_told args.words.now args.tally.now at.m at.start _ _ told at.invariant.starts c.size-size.ensures.0 c.macro_holds.ensures in
    let fails = sym judged ∙ not-true c.macro_holds.result (ap not c.if-not-macro_holds.true) in
    sound_fails (store_of args.words.now args.tally.now) at.m (omega arith) fails

pub loop-m-preserved : goal.loop-m-preserved
loop-m-preserved c =
    let args = c.args in
    let tally = args.tally.now in
    let at = c.loop-m in
    let size = c.size-size in
    let told = at.invariant.tells at.m (omega arith) in
    let judged = macro_told args.words.now args.tally.now at.m at.start _ _ told at.invariant.starts c.size-size.ensures.0 c.macro_holds.ensures in
    let holds = sym judged ∙ not-false c.macro_holds.result (ap not c.if-not-macro_holds.false) in
    record {
      whole = at.invariant.whole;
      marks = at.invariant.marks;
      tells = at.invariant.tells;
      within = omega arith;
      small = omega (arith, size.ensures.1);
      starts = rw add-one (omega (arith, start_next tally.counts tally.closed tally.opened at.m, at.invariant.starts, size.ensures.0));
      held = below_on (macro_holds (store_of args.words.now tally)) at.m at.invariant.held holds;
    }

pub returns : goal.returns
returns c =
    let args = c.args in
    let s = store_of args.words.now args.tally.now in
    let at = c.loop-m in
    let end : at.m ≡ 8 = omega arith in
    let all : all_below 8 (macro_holds s) ≡ true = rw end at at.invariant.held in
    let told = running_told s args.tally.now.spans _ at.invariant.marks at.invariant.tells all c.running_holds.ensures in
    let fits = c.if-used-gt-ENTRIES.false in
    sound_by_running s args.used _ c.requires.spans_value.1 fits all told
