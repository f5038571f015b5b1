-- `write_frame` meets its contract: what `put_frame` puts, of whichever act, is the frame (Answers).
use Rattle.valve.specs.declared.Act.{Act}
use Rattle.valve.proofs.Answers.{no_room, put}
use Rattle.valve.proofs.write_frame.Goals as goal

pub returns-then-room-lt-SIZE-clause-result_value : goal.returns-then-room-lt-SIZE-clause-result_value
returns-then-room-lt-SIZE-clause-result_value c = (no_room c.args.f c.args.room.now c.if-room-lt-SIZE.true).0

pub returns-then-room-lt-SIZE-clause-room_after : goal.returns-then-room-lt-SIZE-clause-room_after
returns-then-room-lt-SIZE-clause-room_after c = (no_room c.args.f c.args.room.now c.if-room-lt-SIZE.true).1

pub returns-in-Arm-clause-result_value : goal.returns-in-Arm-clause-result_value
returns-in-Arm-clause-result_value c =
    let start = c.args in
    (put start.f start.room.now c.if-room-lt-SIZE.false c.head_of.result Act.Arm c.head_of.ensures c.in-Arm.is
    c.put_frame.new.room c.put_frame.ensures).0

pub returns-in-Arm-clause-room_after : goal.returns-in-Arm-clause-room_after
returns-in-Arm-clause-room_after c =
    let start = c.args in
    (put start.f start.room.now c.if-room-lt-SIZE.false c.head_of.result Act.Arm c.head_of.ensures c.in-Arm.is
    c.put_frame.new.room c.put_frame.ensures).1

pub returns-in-Fire-clause-result_value : goal.returns-in-Fire-clause-result_value
returns-in-Fire-clause-result_value c =
    let start = c.args in
    (put start.f start.room.now c.if-room-lt-SIZE.false c.head_of-in-Fire.result (Act.Fire c.in-Fire.code) c.head_of-in-Fire.ensures
    c.in-Fire.is c.put_frame-in-Fire.new.room c.put_frame-in-Fire.ensures).0

pub returns-in-Fire-clause-room_after : goal.returns-in-Fire-clause-room_after
returns-in-Fire-clause-room_after c =
    let start = c.args in
    (put start.f start.room.now c.if-room-lt-SIZE.false c.head_of-in-Fire.result (Act.Fire c.in-Fire.code) c.head_of-in-Fire.ensures
    c.in-Fire.is c.put_frame-in-Fire.new.room c.put_frame-in-Fire.ensures).1
