-- `put_arguments` meets its contract.
use Rattle.card.specs.Number.{number_bytes}
use Rattle.card.proofs.Stores.{put_none, put_both, put_as, fits_rest}
use Rattle.card.proofs.Packing.{no_arguments, one_argument, two_arguments, argument_fits}
use mathlib.Core.Path.{subst}
use mathlib.Core.List.{[]}
use Prim.Native.Nat.{◌+◌, ◌≤◌}
use lib.ListN.{length}
use Rattle.card.proofs.storing.put_arguments.Goals as goal

pub returns-then-many-lt1-clause-value : goal.returns-then-many-lt1-clause-value
returns-then-many-lt1-clause-value c =
    let args = c.args in
    (put_as args.room.now args.room.now args.at args.at [] _ (no_arguments args.many args.first args.second c.if-many-lt1.true) (put_none _ _)).0

pub returns-then-many-lt1-clause-room_after : goal.returns-then-many-lt1-clause-room_after
returns-then-many-lt1-clause-room_after c =
    let args = c.args in
    (put_as args.room.now args.room.now args.at args.at [] _ (no_arguments args.many args.first args.second c.if-many-lt1.true) (put_none _ _)).1

pub put_number-next-requires : goal.put_number-next-requires
put_number-next-requires c =
    let args = c.args in
    argument_fits args.many args.first args.second args.room.now args.at c.if-many-lt1.false c.requires

pub returns-then-many-lt2-clause-value : goal.returns-then-many-lt2-clause-value
returns-then-many-lt2-clause-value c =
    let args = c.args in
    (put_as _ _ _ _ _ _ (one_argument args.many args.first args.second c.if-many-lt1.false c.if-many-lt2.true)
    (c.put_number-next.ensures.value, c.put_number-next.ensures.room_after)).0

pub returns-then-many-lt2-clause-room_after : goal.returns-then-many-lt2-clause-room_after
returns-then-many-lt2-clause-room_after c =
    let args = c.args in
    (put_as _ _ _ _ _ _ (one_argument args.many args.first args.second c.if-many-lt1.false c.if-many-lt2.true)
    (c.put_number-next.ensures.value, c.put_number-next.ensures.room_after)).1

pub put_number-requires : goal.put_number-requires
put_number-requires c =
    let args = c.args in
    let both = two_arguments args.many args.first args.second c.if-many-lt1.false c.if-many-lt2.false in
    fits_rest args.room.now _ args.at _ (number_bytes args.first) (number_bytes args.second) (c.put_number-next.ensures.value, c.put_number-next.ensures.room_after)
    (subst (λ l. args.at + length l ≤ length args.room.now) both c.requires)

pub returns-clause-value : goal.returns-clause-value
returns-clause-value c =
    let args = c.args in
    let both = two_arguments args.many args.first args.second c.if-many-lt1.false
    c.if-many-lt2.false in
    (put_as _ _ _ _ _ _ both (put_both args.room.now _ _ args.at _ _ (number_bytes args.first) (number_bytes args.second)
    (c.put_number-next.ensures.value, c.put_number-next.ensures.room_after) (c.put_number.ensures.value, c.put_number.ensures.room_after))).0

pub returns-clause-room_after : goal.returns-clause-room_after
returns-clause-room_after c =
    let args = c.args in
    let both = two_arguments args.many args.first args.second c.if-many-lt1.false
    c.if-many-lt2.false in
    (put_as _ _ _ _ _ _ both (put_both args.room.now _ _ args.at _ _ (number_bytes args.first) (number_bytes args.second)
    (c.put_number-next.ensures.value, c.put_number-next.ensures.room_after) (c.put_number.ensures.value, c.put_number.ensures.room_after))).1
