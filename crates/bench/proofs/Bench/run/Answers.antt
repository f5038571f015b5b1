-- `Bench::run` meets its contract: lists that are too long are found first; the rest is `run_judged`'s (`TwoLists`).
use Rattle.std.specs.Prelude.{Err}
use Rattle.bench.specs.declared.lists.RunRefusal.{RunRefusal}
use Rattle.bench.proofs.TwoLists.{RawPromise, kit_long, pupil_long, raw_even, raw_run}
use Rattle.bench.proofs.Bench.run.Goals.{then-kit-gt-LONGEST-via-then-kit-gt-LONGEST, then-kit-gt-LONGEST-via-else-kit-gt-LONGEST+then-pupil-gt-LONGEST}
use Rattle.bench.proofs.Bench.run.Goals as goal

pub returns-then-kit-gt-LONGEST : goal.returns-then-kit-gt-LONGEST
returns-then-kit-gt-LONGEST c =
    let args = c.args in
    let refused : RawPromise args.self args.kit.now args.pupil.now args.room.now (Err RunRefusal.ListTooLong) args.room.now =
    elim c.then-kit-gt-LONGEST.branch [
      | then-kit-gt-LONGEST-via-then-kit-gt-LONGEST w ↦ kit_long args.self args.kit.now args.pupil.now args.room.now w.if-kit-gt-LONGEST.true
      | then-kit-gt-LONGEST-via-else-kit-gt-LONGEST+then-pupil-gt-LONGEST w ↦
          pupil_long args.self args.kit.now args.pupil.now args.room.now w.if-kit-gt-LONGEST.false w.if-pupil-gt-LONGEST.true
    ] in
    record { result_value = refused.0; room_after = refused.1 }

pub returns : goal.returns
returns c =
    let args = c.args in
    let ran =
    raw_run args.self args.kit.now args.pupil.now args.room.now c.if-kit-gt-LONGEST.false c.run_judged.result c.if-pupil-gt-LONGEST.false c.new.ensures
    (c.run_judged.ensures.result_value, c.run_judged.ensures.room_after) in
    record { result_value = ran.0; room_after = ran.1 }

pub run_judged-requires-clause-even : goal.run_judged-requires-clause-even
run_judged-requires-clause-even c = raw_even c.args.pupil.now c.new.ensures c.if-pupil-gt-LONGEST.false
