-- `reach_of` meets its contract: at each return the tests passed on the way are the rows 1 to 3 of `reach_at`.
use borrow.Author.Tests.{lt-ltb, le-ltb}
use Rattle.wire.specs.Steps.{reach_at}
use Rattle.wire.proofs.decoding.reach_of.Goals as goal
use Rattle.wire.proofs.decoding.reach_of.Goals.{then-length-lt-FEWEST_WORDS-via-then-length-lt-FEWEST_WORDS, then-length-lt-FEWEST_WORDS-via-else-length-lt-FEWEST_WORDS+then-length-gt-MOST_WORDS}

pub returns-then-s-lt-SHORTEST : goal.returns-then-s-lt-SHORTEST
unfolding reach_at
returns-then-s-lt-SHORTEST c = simp (lt-ltb _ _ c.if-s-lt-SHORTEST.true)

pub returns-then-length-lt-FEWEST_WORDS : goal.returns-then-length-lt-FEWEST_WORDS
unfolding reach_at
returns-then-length-lt-FEWEST_WORDS c =
    rw (← c.half_at-length.ensures)
    (elim c.then-length-lt-FEWEST_WORDS.branch [
      | then-length-lt-FEWEST_WORDS-via-then-length-lt-FEWEST_WORDS w ↦
          simp (le-ltb _ _ c.if-s-lt-SHORTEST.false, lt-ltb _ _ w.if-length-lt-FEWEST_WORDS.true)
      | then-length-lt-FEWEST_WORDS-via-else-length-lt-FEWEST_WORDS+then-length-gt-MOST_WORDS w ↦
          simp (le-ltb _ _ c.if-s-lt-SHORTEST.false, le-ltb _ _ w.if-length-lt-FEWEST_WORDS.false, lt-ltb _ _ w.if-length-gt-MOST_WORDS.true)
    ])

pub returns-then-s-length : goal.returns-then-s-length
unfolding reach_at
returns-then-s-length c =
    rw (← c.half_at-length.ensures)
    (simp (
      le-ltb _ _ c.if-s-lt-SHORTEST.false,
      le-ltb _ _ c.if-length-lt-FEWEST_WORDS.false,
      le-ltb _ _ c.if-length-gt-MOST_WORDS.false,
      lt-ltb _ _ c.if-s-length.true,
    ))

pub returns : goal.returns
unfolding reach_at
returns c =
    rw (← c.half_at-length.ensures)
    (simp (
      le-ltb _ _ c.if-s-lt-SHORTEST.false,
      le-ltb _ _ c.if-length-lt-FEWEST_WORDS.false,
      le-ltb _ _ c.if-length-gt-MOST_WORDS.false,
      le-ltb _ _ c.if-s-length.false,
    ))
