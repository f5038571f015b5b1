-- `wire::encoding::put_one` meets its contract: the last word written is the XOR of both words, which closes them.
use mathlib.Core.List.{[], ◌∷◌}
use Rattle.wire.proofs.Sums.{xor_of, closed_words}
use Rattle.wire.proofs.encoding.put_one.Goals as goal

pub returns-clause-value : goal.returns-clause-value
unfolding xor_of
returns-clause-value c =
    let args = c.args in
    rw (closed_words (args.head ∷ args.one ∷ [])) c.put_words.ensures.value

pub returns-clause-room_after : goal.returns-clause-room_after
unfolding xor_of
returns-clause-room_after c =
    let args = c.args in
    rw (closed_words (args.head ∷ args.one ∷ [])) c.put_words.ensures.room_after
