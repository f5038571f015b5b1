-- `run_list` meets its contract, by the laws of `Listing`: the loop's invariant is that what is left of the list, carried out from here, gives what the
-- whole list gives from its start, with a tally that is true of a sound bench. Each turn passes a command.
use native.Mathlib.Omega.{arith}
use Rattle.bench.proofs.Shapes.{at_work_good}
use Rattle.bench.proofs.Listing.{start, given_next, given_none, room_left, one_less, given_refused, given_accepted, none_given}
use Rattle.bench.proofs.lists.run_list.Goals as goal

pub loop-number-init : goal.loop-number-init
loop-number-init g c =
    let args = c.args in
    start args.works args.pool.now args.sender (g.S.Source.numbers args.list) (g.S.Source.commands args.list) args.room.now
    (at_work_good args.works args.pool.now c.well_formed.0 c.requires.at_work) c.requires.at_work.tallied c.requires.even.0

pub overflow_add-count : goal.overflow_add-count
overflow_add-count g c = omega (arith, room_left c.loop-number.invariant (given_next c.in-Some.is c.next.ensures) c.requires.fits, c.requires.even.1)

pub slice_bounds-put_decided-count : goal.slice_bounds-put_decided-count
slice_bounds-put_decided-count g c = omega (arith, room_left c.loop-number.invariant (given_next c.in-Some.is c.next.ensures) c.requires.fits)

pub slice_bounds-put_decided-start : goal.slice_bounds-put_decided-start
slice_bounds-put_decided-start g c = omega (arith, room_left c.loop-number.invariant (given_next c.in-Some.is c.next.ensures) c.requires.fits)

pub loop-number-smaller-in-Err : goal.loop-number-smaller-in-Err
loop-number-smaller-in-Err g c = one_less c.loop-number.invariant (given_next c.in-Some.is c.next.ensures)

pub loop-number-preserved-in-Err : goal.loop-number-preserved-in-Err
loop-number-preserved-in-Err g c =
    given_refused c.loop-number.invariant (given_next c.in-Some.is c.next.ensures) c.requires.fits c.decide_read-decision.result c.decide_read-decision.ensures
    c.put_decided.ensures c.in-Err.is

pub loop-number-smaller : goal.loop-number-smaller
loop-number-smaller g c = one_less c.loop-number.invariant (given_next c.in-Some.is c.next.ensures)

pub loop-number-preserved : goal.loop-number-preserved
loop-number-preserved g c =
    given_accepted c.loop-number.invariant (given_next c.in-Some.is c.next.ensures) c.requires.fits c.decide_read-decision.result c.decide_read-decision.ensures
    c.put_decided.ensures c.in-Ok.is c.take_effect-works.ensures.value c.take_effect-works.ensures.pool_after

pub returns-clause-pool_after : goal.returns-clause-pool_after
returns-clause-pool_after g c = (none_given c.loop-number.invariant (given_none _ _ _ c.in_default.is c.next.ensures)).0

pub returns-clause-count_value : goal.returns-clause-count_value
returns-clause-count_value g c = (none_given c.loop-number.invariant (given_none _ _ _ c.in_default.is c.next.ensures)).1.0

pub returns-clause-room_after : goal.returns-clause-room_after
returns-clause-room_after g c = (none_given c.loop-number.invariant (given_none _ _ _ c.in_default.is c.next.ensures)).1.1
