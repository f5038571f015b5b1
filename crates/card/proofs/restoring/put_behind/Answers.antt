-- `put_behind` meets its contract: what the writer of `wire` leaves in the part behind the first so many bytes is a store from there on.
use Rattle.card.proofs.Gathering.{put_in}
use Rattle.card.proofs.restoring.put_behind.Goals as goal

pub returns-clause-buffer_after : goal.returns-clause-buffer_after
returns-clause-buffer_after c =
    (put_in _ _ _ _ _ c.if-pos-gt-LONGEST.false c.requires.value c.requires.command_value c.command_length-n.ensures c.write_command.ensures.room_after).1
