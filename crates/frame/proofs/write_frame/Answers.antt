-- `frame::write_frame` meets its contract: the bytes that `put_bytes` is handed are the frame's, and they fit or nothing is written (Answers).
use Rattle.std.proofs.Common.{◌≡◌, sym, ap, ◌∙◌, rules}
use Rattle.std.specs.Prelude.{Err}
use Rattle.frame.specs.declared.Refusal.{Refusal}
use Rattle.frame.specs.Answers.{wrote_of}
use Rattle.frame.proofs.Laws.{ruled}
use Rattle.frame.proofs.Answers.{wrote_broken, wrote_none, wrote_all, room_left}
use Rattle.frame.proofs.write_frame.Goals as goal

pub returns-then-not-obeys-clause-result_value : goal.returns-then-not-obeys-clause-result_value
returns-then-not-obeys-clause-result_value c = (wrote_broken c.args.f c.args.room.now (sym c.obeys.ensures ∙ c.if-not-obeys.true)).0

pub returns-then-not-obeys-clause-room_after : goal.returns-then-not-obeys-clause-room_after
returns-then-not-obeys-clause-room_after c = (wrote_broken c.args.f c.args.room.now (sym c.obeys.ensures ∙ c.if-not-obeys.true)).1

pub bytes_of-requires : goal.bytes_of-requires
bytes_of-requires c = (ruled c.args.f (sym c.obeys.ensures ∙ c.if-not-obeys.false)).algorithm

pub returns-in_err-put_bytes-clause-result_value : goal.returns-in_err-put_bytes-clause-result_value
returns-in_err-put_bytes-clause-result_value c =
    let is : c.from_residual.result ≡ Err Refusal.NoRoom = search rules in
    let put = rw (c.as_flattened.ensures.value, c.bytes_of.ensures) at c.in_err-put_bytes.ensures.value in
    ap wrote_of is ∙ wrote_none c.args.f c.args.room.now (sym c.obeys.ensures ∙ c.if-not-obeys.false) (sym put)

pub returns-in_err-put_bytes-clause-room_after : goal.returns-in_err-put_bytes-clause-room_after
returns-in_err-put_bytes-clause-room_after c =
    let put = rw (c.as_flattened.ensures.value, c.bytes_of.ensures) at c.in_err-put_bytes.ensures.room_after in
    put ∙ room_left c.args.f c.args.room.now (sym c.obeys.ensures ∙ c.if-not-obeys.false)

pub returns-clause-result_value : goal.returns-clause-result_value
returns-clause-result_value c =
    let put = rw (c.as_flattened.ensures.value, c.bytes_of.ensures) at c.in_ok-put_bytes.ensures.value in
    wrote_all c.args.f c.args.room.now (sym c.obeys.ensures ∙ c.if-not-obeys.false) (sym put)

pub returns-clause-room_after : goal.returns-clause-room_after
returns-clause-room_after c =
    let put = rw (c.as_flattened.ensures.value, c.bytes_of.ensures) at c.in_ok-put_bytes.ensures.room_after in
    put ∙ room_left c.args.f c.args.room.now (sym c.obeys.ensures ∙ c.if-not-obeys.false)
