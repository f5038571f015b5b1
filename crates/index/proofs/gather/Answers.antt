-- `gather` meets its contract: the starts gathered so far and those that are left are all of them.
use mathlib.Core.Path.{ap, ◌∙◌}
use Rattle.walk.specs.Walk.{rests}
use Rattle.walk.proofs.Turns.{from_place}
use Rattle.index.proofs.Starts.{none_gathered, before_end, place_left, gathers, all_gathered}
use Rattle.index.proofs.gather.Goals as goal

pub loop-rest-init : goal.loop-rest-init
loop-rest-init c =
    none_gathered _ _ _ _ c.requires.list_len_bound c.requires.in_bounds (
    ap (λ w. rests w.left.now) c.into_iter-rest-iterator.ensures.into_iter_gives
    ∙ ap (λ part. rests part.now) c.new-rest-items.ensures
    ∙ ap rests (from_place c.args.list.now c.args.from)
    )

pub overflow_sub-buffer : goal.overflow_sub-buffer
overflow_sub-buffer c = before_end _ _ _ _ _ _ c.loop-rest.invariant _ _ c.in-Some.ensures.steps

pub bounds-buffer-n : goal.bounds-buffer-n
bounds-buffer-n c = place_left _ _ _ _ _ _ c.loop-rest.invariant _ _ c.in-Some.ensures.steps

pub loop-rest-preserved : goal.loop-rest-preserved
loop-rest-preserved c = gathers _ _ _ _ _ _ c.loop-rest.invariant _ _ c.in-Some.ensures.steps

pub returns : goal.returns
returns c = all_gathered _ _ _ _ _ _ c.loop-rest.invariant c.in-None.ensures.steps.0
