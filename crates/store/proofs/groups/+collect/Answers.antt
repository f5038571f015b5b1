-- `store::groups::collect` meets its contract: one law for each turn, and the macro number falls at each call.
use native.Mathlib.Omega.{arith}
use Rattle.store.specs.TallySteps.{store_of}
use Rattle.store.specs.GroupSteps.{cursor_of}
use Rattle.store.proofs.Turns.{walk_opens, walk_over, walk_done, walk_below, walk_takes, walk_waits, walk_follows, follows_below}
use Rattle.store.proofs.groups.+collect.Goals.{in-Takes, in-Waits, in-Follows}
use Rattle.store.proofs.groups.+collect.Goals as goal

pub loop-i-init : goal.loop-i-init
loop-i-init t c =
    let args = c.args in
    walk_opens (store_of args.words.now args.tally.now) args.m args.tally.now.spans (cursor_of args.spot args.group.now) _ _ _
    c.requires.words_len c.requires.walked c.start-start.ensures c.size.ensures.0 c.end_of-end.ensures

pub returns-then-spot : goal.returns-then-spot
returns-then-spot t c = walk_done c.loop-i.invariant c.if-spot.true

pub collect-spot-requires : goal.collect-spot-requires
collect-spot-requires t c =
    let less =
    follows_below c.loop-i.invariant c.entry_at-entry.result _ _ c.loop-i-test.true c.entry_at-entry.ensures.result_value
    c.beat_in.ensures c.turn_in.ensures _ c.in-Follows.is in
    (omega (arith, less, c.decreases), (c.loop-i.invariant.whole, walk_below c.loop-i.invariant _ less))

pub loop-i-preserved : goal.loop-i-preserved
loop-i-preserved t c =
    elim c.match-turn_in.branch [
      | in-Takes w ↦
          rw (w.spot-is, w.group-is)
          (walk_takes c.loop-i.invariant c.entry_at-entry.result _ _ c.loop-i-test.true c.entry_at-entry.ensures.result_value
          c.beat_in.ensures c.turn_in.ensures _ c.entry_at-entry.ensures.result_value_2
          w.in-Takes.is w.taken-spot.ensures)
      | in-Waits w ↦
          rw (w.spot-is, w.group-is)
          (walk_waits c.loop-i.invariant c.entry_at-entry.result _ _ c.loop-i-test.true c.entry_at-entry.ensures.result_value
          c.beat_in.ensures c.turn_in.ensures _ _ c.if-spot.false
          w.in-Waits.is (w.waited-spot.ensures c.loop-i.group))
      | in-Follows w ↦
          rw (w.spot-is, w.group-is)
          (walk_follows c.loop-i.invariant c.entry_at-entry.result _ _ c.loop-i-test.true c.entry_at-entry.ensures.result_value
          c.beat_in.ensures c.turn_in.ensures _ _
          w.in-Follows.is w.collect-spot.ensures)
    ]

pub returns : goal.returns
returns t c = walk_over c.loop-i.invariant c.loop-i-test.false
