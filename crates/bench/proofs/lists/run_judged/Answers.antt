-- `lists::run_judged` meets its contract: 21, then 27, else the kit's list and then the pupil's, whose records stand behind the kit's (`TwoLists`).
use mathlib.Core.Path.{◌≡◌, sym, ap, ◌∙◌}
use native.Mathlib.Omega.{arith}
use borrow.Author.Rules.{rules}
use lib.ListN.{length}
use Rattle.std.specs.Prelude.{Err}
use Rattle.walk.specs.Walk.{rests}
use Rattle.walk.proofs.Rests.{rests_512}
use Rattle.bench.specs.declared.lists.RunRefusal.{RunRefusal}
use Rattle.bench.specs.Run.{ran_of}
use Rattle.bench.proofs.Shapes.{judged_bench, judged_at_work}
use Rattle.bench.proofs.TwoLists.{raw_even, kit_done, rest_fits, part_fits, bench_left, both_put, room_small, not_sound, run_done}
use Rattle.bench.proofs.lists.run_judged.Goals as goal

pub returns-then-room-lt-ROOM : goal.returns-then-room-lt-ROOM
returns-then-room-lt-ROOM g c =
    let args = c.args in
    let refused =
    room_small args.bench args.kit.now (g.S.Source.numbers args.pupil) (g.S.Source.commands args.pupil) args.room.now c.if-room-lt-ROOM.true in
    record { result_value = refused.0; room_after = refused.1 }

pub returns-in_err-tally : goal.returns-in_err-tally
returns-in_err-tally g c =
    let args = c.args in
    let is : c.from_residual.result ≡ Err RunRefusal.Unsound = search rules in
    let refused =
    not_sound args.bench args.kit.now (g.S.Source.numbers args.pupil) (g.S.Source.commands args.pupil) args.room.now c.if-room-lt-ROOM.false
    (sym c.in_err-tally.ensures.sound) in
    record { result_value = ap (ran_of args.bench) is ∙ refused.0; room_after = refused.1 }

pub run_list-first-requires-clause-even : goal.run_list-first-requires-clause-even
run_list-first-requires-clause-even g c = raw_even c.args.kit.now c.new.ensures c.requires.short

pub run_list-first-requires-clause-fits : goal.run_list-first-requires-clause-fits
run_list-first-requires-clause-fits g c =
    omega (arith, rests_512 c.args.kit.now c.requires.short, ap (λ s. length (rests s)) c.new.ensures.0, c.if-room-lt-ROOM.false)

pub run_list-first-requires-clause-at_work : goal.run_list-first-requires-clause-at_work
run_list-first-requires-clause-at_work g c =
    let tally = c.in_ok-tally in
    judged_at_work c.args.bench c.well_formed.0 tally.ensures.sound c.works.result c.works.ensures tally.tally tally.ensures.tally_value

pub slice_bounds-run_pupil-count : goal.slice_bounds-run_pupil-count
slice_bounds-run_pupil-count g c =
    let tally = c.in_ok-tally in
    let first = c.run_list-first.ensures in
    let whole = judged_bench c.args.bench c.well_formed.0 tally.ensures.sound c.works.result c.works.ensures tally.tally tally.ensures.tally_value in
    let done = kit_done c.new.ensures c.requires.short c.if-room-lt-ROOM.false c.requires.even whole first.pool_after first.count_value.0 first.room_after in
    omega (arith, rest_fits done)

pub slice_bounds-run_pupil-start : goal.slice_bounds-run_pupil-start
slice_bounds-run_pupil-start g c =
    let tally = c.in_ok-tally in
    let first = c.run_list-first.ensures in
    let whole = judged_bench c.args.bench c.well_formed.0 tally.ensures.sound c.works.result c.works.ensures tally.tally tally.ensures.tally_value in
    let done = kit_done c.new.ensures c.requires.short c.if-room-lt-ROOM.false c.requires.even whole first.pool_after first.count_value.0 first.room_after in
    omega (arith, rest_fits done)

pub run_pupil-second-requires-clause-fits : goal.run_pupil-second-requires-clause-fits
run_pupil-second-requires-clause-fits g c =
    let tally = c.in_ok-tally in
    let first = c.run_list-first.ensures in
    let whole = judged_bench c.args.bench c.well_formed.0 tally.ensures.sound c.works.result c.works.ensures tally.tally tally.ensures.tally_value in
    let done = kit_done c.new.ensures c.requires.short c.if-room-lt-ROOM.false c.requires.even whole first.pool_after first.count_value.0 first.room_after in
    part_fits done

pub returns : goal.returns
returns g c =
    let tally = c.in_ok-tally in
    let first = c.run_list-first.ensures in
    let whole = judged_bench c.args.bench c.well_formed.0 tally.ensures.sound c.works.result c.works.ensures tally.tally tally.ensures.tally_value in
    let done = kit_done c.new.ensures c.requires.short c.if-room-lt-ROOM.false c.requires.even whole first.pool_after first.count_value.0 first.room_after in
    let second = c.run_pupil-second.ensures in
    let ran =
    run_done c.args.bench c.args.kit.now (g.S.Source.numbers c.args.pupil) (g.S.Source.commands c.args.pupil) c.args.room.now c.if-room-lt-ROOM.false
    (sym tally.ensures.sound) done.count second.count_value
    (c.bench_of.ensures ∙ bench_left done second.pool_after second.room_after) (both_put done second.pool_after second.room_after) in
    record { result_value = ran.0; room_after = ran.1 }
