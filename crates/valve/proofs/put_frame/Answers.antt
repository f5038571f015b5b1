-- `put_frame` meets its contract: the twelve bytes at the front, then the zeros behind them (Answers).
use Rattle.std.proofs.Common.{ap, ◌∙◌}
use Rattle.valve.specs.Frame.{bytes_of}
use Rattle.valve.proofs.Answers.{placed}
use Rattle.valve.proofs.put_frame.Goals as goal

pub returns : goal.returns
returns c =
    placed c.args.head c.args.act c.args.room.now c.requires c.as_flattened.result.now c.put_at-next.new.room
    c.put_at.new.room c.put_at-next.result (c.as_flattened.ensures.value ∙ c.front_bytes-front.ensures ∙ ap bytes_of c.front_words.ensures)
    c.put_at-next.ensures.value c.put_at-next.ensures.room_after c.put_at.ensures.room_after
