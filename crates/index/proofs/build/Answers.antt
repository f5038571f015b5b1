-- `build` meets its contract: each of its ends by `Ends`.
use mathlib.Core.Path.{sym, ◌∙◌}
use Rattle.index.proofs.Ends.{Walked, too_long, bad_offsets, too_many_found, too_few_places, done}
use native.Mathlib.Omega.{arith}
use lib.ListN.{length}
use Rattle.index.proofs.Offsets.{fit_last}
use Rattle.index.proofs.build.Goals.{then-count-gt-MOST-via-then-count-gt-MOST, then-count-gt-MOST-via-else-count-gt-MOST+then-room-count}
use Rattle.index.proofs.build.Goals as goal

pub returns-then-list-gt-LONGEST-clause-result_value : goal.returns-then-list-gt-LONGEST-clause-result_value
returns-then-list-gt-LONGEST-clause-result_value c =
    let start = c.args in
    (too_long start.list.now start.old.now start.room.now c.if-list-gt-LONGEST.true).0

pub returns-then-list-gt-LONGEST-clause-room_after : goal.returns-then-list-gt-LONGEST-clause-room_after
returns-then-list-gt-LONGEST-clause-room_after c =
    let start = c.args in
    (too_long start.list.now start.old.now start.room.now c.if-list-gt-LONGEST.true).1

pub returns-then-are_unfit-clause-result_value : goal.returns-then-are_unfit-clause-result_value
returns-then-are_unfit-clause-result_value c =
    let start = c.args in
    (bad_offsets start.list.now start.old.now start.room.now c.if-list-gt-LONGEST.false
    (sym c.are_unfit.ensures ∙ c.if-are_unfit.true)).0

pub returns-then-are_unfit-clause-room_after : goal.returns-then-are_unfit-clause-room_after
returns-then-are_unfit-clause-room_after c =
    let start = c.args in
    (bad_offsets start.list.now start.old.now start.room.now c.if-list-gt-LONGEST.false
    (sym c.are_unfit.ensures ∙ c.if-are_unfit.true)).1

pub returns-then-count-gt-MOST-clause-result_value : goal.returns-then-count-gt-MOST-clause-result_value
returns-then-count-gt-MOST-clause-result_value c =
    let walked : Walked c.args.list.now c.args.old.now c.kept_of-kept.result c.last_of.result c.gather-found.result = record {
      short = c.if-list-gt-LONGEST.false;
      fit = sym c.are_unfit.ensures ∙ c.if-are_unfit.false;
      stay = c.kept_of-kept.ensures;
      last = c.last_of.ensures;
      counted = c.gather-found.ensures.count;
    } in
    let room = c.args.room.now in
    elim c.then-count-gt-MOST.branch [
      | then-count-gt-MOST-via-then-count-gt-MOST w ↦ (too_many_found _ _ room _ _ _ walked w.if-count-gt-MOST.true).0
      | then-count-gt-MOST-via-else-count-gt-MOST+then-room-count w ↦ (too_few_places _ _ room _ _ _ walked w.if-count-gt-MOST.false w.if-room-count.true).0
    ]

pub returns-then-count-gt-MOST-clause-room_after : goal.returns-then-count-gt-MOST-clause-room_after
returns-then-count-gt-MOST-clause-room_after c =
    let walked : Walked c.args.list.now c.args.old.now c.kept_of-kept.result c.last_of.result c.gather-found.result = record {
      short = c.if-list-gt-LONGEST.false;
      fit = sym c.are_unfit.ensures ∙ c.if-are_unfit.false;
      stay = c.kept_of-kept.ensures;
      last = c.last_of.ensures;
      counted = c.gather-found.ensures.count;
    } in
    let room = c.args.room.now in
    elim c.then-count-gt-MOST.branch [
      | then-count-gt-MOST-via-then-count-gt-MOST w ↦ (too_many_found _ _ room _ _ _ walked w.if-count-gt-MOST.true).1
      | then-count-gt-MOST-via-else-count-gt-MOST+then-room-count w ↦ (too_few_places _ _ room _ _ _ walked w.if-count-gt-MOST.false w.if-room-count.true).1
    ]

pub returns-clause-result_value : goal.returns-clause-result_value
returns-clause-result_value c =
    let walked : Walked c.args.list.now c.args.old.now c.kept_of-kept.result c.last_of.result c.gather-found.result = record {
      short = c.if-list-gt-LONGEST.false;
      fit = sym c.are_unfit.ensures ∙ c.if-are_unfit.false;
      stay = c.kept_of-kept.ensures;
      last = c.last_of.ensures;
      counted = c.gather-found.ensures.count;
    } in
    let room = c.args.room.now in
    (done _ _ room _ _ _ walked c.if-count-gt-MOST.false c.if-room-count.false _ _ _ c.gather-found.ensures.front
    c.put_offsets.ensures c.put_offsets-2.ensures).0

pub returns-clause-room_after : goal.returns-clause-room_after
returns-clause-room_after c =
    let walked : Walked c.args.list.now c.args.old.now c.kept_of-kept.result c.last_of.result c.gather-found.result = record {
      short = c.if-list-gt-LONGEST.false;
      fit = sym c.are_unfit.ensures ∙ c.if-are_unfit.false;
      stay = c.kept_of-kept.ensures;
      last = c.last_of.ensures;
      counted = c.gather-found.ensures.count;
    } in
    let room = c.args.room.now in
    (done _ _ room _ _ _ walked c.if-count-gt-MOST.false c.if-room-count.false _ _ _ c.gather-found.ensures.front
    c.put_offsets.ensures c.put_offsets-2.ensures).1

pub gather-found-requires-clause-from_bound : goal.gather-found-requires-clause-from_bound
gather-found-requires-clause-from_bound c =
    let start = c.args in
    let fit = fit_last (length start.list.now) start.old.now (sym c.are_unfit.ensures ∙ c.if-are_unfit.false) in
    omega (arith, fit, c.last_of.ensures)
