-- `rescue` meets its contract: each of its ends by `Ends`.
use Rattle.rescue.proofs.Ends.{too_long, no_room_kept, no_room_table, done}
use Rattle.rescue.proofs.rescue.Goals.{then-room-sums-via-then-room-sums, then-room-sums-via-else-room-sums+then-table-sums}
use Rattle.rescue.proofs.rescue.Goals as goal

pub returns-then-list-gt-LONGEST-clause-result_value : goal.returns-then-list-gt-LONGEST-clause-result_value
returns-then-list-gt-LONGEST-clause-result_value c = (too_long _ _ _ c.if-list-gt-LONGEST.true).0

pub returns-then-list-gt-LONGEST-clause-room_after : goal.returns-then-list-gt-LONGEST-clause-room_after
returns-then-list-gt-LONGEST-clause-room_after c = (too_long _ _ _ c.if-list-gt-LONGEST.true).1.0

pub returns-then-list-gt-LONGEST-clause-table_after : goal.returns-then-list-gt-LONGEST-clause-table_after
returns-then-list-gt-LONGEST-clause-table_after c = (too_long _ _ _ c.if-list-gt-LONGEST.true).1.1

pub returns-then-room-sums-clause-result_value : goal.returns-then-room-sums-clause-result_value
returns-then-room-sums-clause-result_value c =
    elim c.then-room-sums.branch [
      | then-room-sums-via-then-room-sums w ↦ (no_room_kept _ _ _ c.if-list-gt-LONGEST.false _ _ _ c.gather-sums.ensures w.if-room-sums.true).0
      | then-room-sums-via-else-room-sums+then-table-sums w ↦ (no_room_table _ _ _ c.if-list-gt-LONGEST.false _ _ _ c.gather-sums.ensures w.if-room-sums.false w.if-table-sums.true).0
    ]

pub returns-then-room-sums-clause-room_after : goal.returns-then-room-sums-clause-room_after
returns-then-room-sums-clause-room_after c =
    elim c.then-room-sums.branch [
      | then-room-sums-via-then-room-sums w ↦ (no_room_kept _ _ _ c.if-list-gt-LONGEST.false _ _ _ c.gather-sums.ensures w.if-room-sums.true).1.0
      | then-room-sums-via-else-room-sums+then-table-sums w ↦ (no_room_table _ _ _ c.if-list-gt-LONGEST.false _ _ _ c.gather-sums.ensures w.if-room-sums.false w.if-table-sums.true).1.0
    ]

pub returns-then-room-sums-clause-table_after : goal.returns-then-room-sums-clause-table_after
returns-then-room-sums-clause-table_after c =
    elim c.then-room-sums.branch [
      | then-room-sums-via-then-room-sums w ↦ (no_room_kept _ _ _ c.if-list-gt-LONGEST.false _ _ _ c.gather-sums.ensures w.if-room-sums.true).1.1
      | then-room-sums-via-else-room-sums+then-table-sums w ↦ (no_room_table _ _ _ c.if-list-gt-LONGEST.false _ _ _ c.gather-sums.ensures w.if-room-sums.false w.if-table-sums.true).1.1
    ]

pub returns-clause-result_value : goal.returns-clause-result_value
returns-clause-result_value c =
    (done _ _ _ c.if-list-gt-LONGEST.false _ _ _ c.gather-sums.ensures c.if-room-sums.false c.if-table-sums.false _ _ c.copy_from_slice.ensures.after c.copy_from_slice-2.ensures.after).0

pub returns-clause-room_after : goal.returns-clause-room_after
returns-clause-room_after c =
    (done _ _ _ c.if-list-gt-LONGEST.false _ _ _ c.gather-sums.ensures c.if-room-sums.false c.if-table-sums.false _ _ c.copy_from_slice.ensures.after c.copy_from_slice-2.ensures.after).1.0

pub returns-clause-table_after : goal.returns-clause-table_after
returns-clause-table_after c =
    (done _ _ _ c.if-list-gt-LONGEST.false _ _ _ c.gather-sums.ensures c.if-room-sums.false c.if-table-sums.false _ _ c.copy_from_slice.ensures.after c.copy_from_slice-2.ensures.after).1.1
