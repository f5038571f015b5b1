-- `words::put_words` meets its contract. The invariant: the first i numbers stand at the front of the room, and the rest is as it was.
use Prim.Native.Nat.{◌+◌, ◌<◌}
use mathlib.Core.Path.{refl, sym, ap, ◌∙◌}
use native.Mathlib.Omega.{arith}
use lib.ListN.{length}
use borrow.Author.Tests.{lt-leb}
use Rattle.words.specs.BigEndian.{bytes_of}
use Rattle.words.proofs.Laws.{length-bytes_of, without_room, turn, whole}
use Rattle.words.proofs.put_words.Goals as goal

pub returns-then-room-values-clause-value : goal.returns-then-room-values-clause-value
returns-then-room-values-clause-value c =
    let room = c.args.room.now in
    let values = c.args.values.now in
    let short : length room < length (bytes_of values) = omega (arith, length-bytes_of values) in
    sym (lt-leb (length (bytes_of values)) (length room) short)

pub returns-then-room-values-clause-room_after : goal.returns-then-room-values-clause-room_after
returns-then-room-values-clause-room_after c =
    let room = c.args.room.now in
    let values = c.args.values.now in
    let short : length room < length (bytes_of values) = omega (arith, length-bytes_of values) in
    sym (without_room (bytes_of values) room short)

pub loop-i-init : goal.loop-i-init
unfolding bytes_of
loop-i-init c = record { within = omega arith; fits = omega arith; same = refl; front = refl }

pub loop-i-preserved : goal.loop-i-preserved
loop-i-preserved c =
    let at = c.loop-i in
    let start = c.args in
    let put = c.put_word.ensures.room_after in
    let next = turn start.values.now start.room.now at.room _ at.i (omega arith) at.invariant.fits at.invariant.front put in
    record {
      within = omega arith;
      fits = at.invariant.fits;
      same = ap length next ∙ whole start.values.now start.room.now (at.i + 1) (omega arith) at.invariant.fits;
      front = next;
    }
