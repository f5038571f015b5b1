-- `Seats::queue` meets its contract: 27, then what seat and bytes say, then whether there is room.
use Rattle.std.proofs.Common.{◌≡◌, ap, ◌∙◌, rules}
use borrow.Author.Tests.{le-leb, lt-leb}
use Rattle.std.specs.Prelude.{Err}
use Rattle.bench.proofs.Exports.{fails, holds}
use Rattle.seats.specs.Queueing.{queued_of}
use Rattle.seats.proofs.States.{queue_unsound, front_takes, queue_refused, queue_taken}
use mathlib.Core.Bool.{not}
use Rattle.seats.proofs.Seats.queue.Goals as goal

pub returns-then-not-sound : goal.returns-then-not-sound
returns-then-not-sound c = queue_unsound _ _ _ (fails c.sound.ensures (ap not c.if-not-sound.true))

pub returns-in_err-command : goal.returns-in_err-command
returns-in_err-command c =
    let sound = holds c.sound.ensures (ap not c.if-not-sound.false) in
    let is : c.from_residual.result ≡ Err c.in_err-command.field-0.0 = search rules in
    ap (queued_of c.args.self) is ∙ queue_refused _ _ _ _ sound c.in_err-command.ensures

pub bounds-self-seat : goal.bounds-self-seat
bounds-self-seat c = (front_takes c.args.seat _ _ c.in_ok-command.ensures).below

pub bounds-seats-seat : goal.bounds-seats-seat
bounds-seats-seat c = (front_takes c.args.seat _ _ c.in_ok-command.ensures).below

pub returns-then-self-seat-ge-LONGEST : goal.returns-then-self-seat-ge-LONGEST
returns-then-self-seat-ge-LONGEST c =
    let sound = holds c.sound.ensures (ap not c.if-not-sound.false) in
    queue_taken _ _ _ c.in_ok-command.command _ sound c.in_ok-command.ensures (rw (le-leb 32 _ c.if-self-seat-ge-LONGEST.true))

pub returns : goal.returns
returns c =
    let sound = holds c.sound.ensures (ap not c.if-not-sound.false) in
    queue_taken _ _ _ c.in_ok-command.command _ sound c.in_ok-command.ensures (rw (lt-leb 32 _ c.if-self-seat-ge-LONGEST.false, c.enter.ensures))
