-- `store::spans::span_by` meets its contract: an entry that is handed over is only counted, any other one joined.
use mathlib.Core.Path.{◌≡◌, sym, ◌∙◌}
use native.Mathlib.Omega.{arith}
use borrow.Author.Rules.{rules}
use Rattle.store.specs.SpanSteps.{no_span}
use Rattle.store.proofs.SpanTable.{sum_start, sum_counted, sum_joined, sum_end}
use Rattle.store.proofs.Walk.{walk_start, walk_next, walk_end}
use Rattle.store.proofs.spans.span_by.Goals.{in-Entry, in-Wait, in-Run}
use Rattle.store.proofs.spans.span_by.Goals as goal

pub loop-i-init : goal.loop-i-init
loop-i-init c =
    let args = c.args in
    let empty : c.default-sum.result ≡ no_span = search rules in
    let walked = walk_start args.words.now args.start args.size _ c.requires.0 c.end_of-end.ensures in
    record {
      walk = record { whole = c.requires.0; inside = omega arith };
      summed = rw empty (sum_start args.tally.now.closed args.tally.now.spans args.m _ _ walked);
    }

pub loop-i-preserved : goal.loop-i-preserved
loop-i-preserved c =
    let args = c.args in
    let at = c.loop-i in
    let next = walk_next args.words.now _ at.i _ at.invariant.walk c.loop-i-test.true c.entry_at.ensures.result_value in
    elim c.match-beat_in.branch [
      | in-Entry w ↦
          let beat = sym w.in-Entry.is ∙ c.beat_in.ensures in
          record {
            walk = at.invariant.walk;
            summed =
                rw (w.sum-is, w.count-is)
                (at.invariant.summed
                ∙ sum_counted args.tally.now.closed args.tally.now.spans args.m at.sum at.count _ _ _ _ next beat w.together-count.ensures);
          }
      | in-Wait w ↦
          let beat = sym w.in-Wait.is ∙ c.beat_in.ensures in
          record {
            walk = at.invariant.walk;
            summed =
                rw (w.sum-is, w.count-is)
                (at.invariant.summed
                ∙ sum_joined args.tally.now.closed args.tally.now.spans args.m at.sum _ _ _ at.count _ _ _ _ next beat
                w.wait_span.ensures w.with_entries.ensures w.joined-sum.ensures);
          }
      | in-Run w ↦
          let beat = sym w.in-Run.is ∙ c.beat_in.ensures in
          record {
            walk = at.invariant.walk;
            summed =
                rw (w.sum-is, w.count-is)
                (at.invariant.summed
                ∙ sum_joined args.tally.now.closed args.tally.now.spans args.m at.sum _ _ _ at.count _ _ _ _ next beat
                w.run_span.ensures w.with_entries-in-Run.ensures w.joined-sum-in-Run.ensures);
          }
    ]

pub returns : goal.returns
returns c =
    let args = c.args in
    let at = c.loop-i in
    let none = walk_end args.words.now _ at.i c.loop-i-test.false in
    c.with_entries-2.ensures ∙ sym (at.invariant.summed ∙ sum_end args.tally.now.closed args.tally.now.spans args.m _ _ none)
