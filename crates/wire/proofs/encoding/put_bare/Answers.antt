-- `wire::encoding::put_bare` meets its contract: the last word written is the first word itself, which closes them.
use mathlib.Core.List.{[], ◌∷◌}
use Rattle.wire.proofs.Sums.{xor_of, closed_words}
use Rattle.wire.proofs.encoding.put_bare.Goals as goal

pub returns-clause-value : goal.returns-clause-value
unfolding xor_of
returns-clause-value c =
    let args = c.args in
    rw (closed_words (args.head ∷ [])) c.put_words.ensures.value

pub returns-clause-room_after : goal.returns-clause-room_after
unfolding xor_of
returns-clause-room_after c =
    let args = c.args in
    rw (closed_words (args.head ∷ [])) c.put_words.ensures.room_after
