-- `quarters_in` meets its contract: the guess decides.
use mathlib.Core.Path.{sym, ◌∙◌}
use Rattle.text.proofs.Goals.{too_large, guessed, not_guessed}
use Rattle.text.proofs.goal.quarters_in.Goals as goal

pub returns-then-bits-gt-LAST_GOAL : goal.returns-then-bits-gt-LAST_GOAL
returns-then-bits-gt-LAST_GOAL c = too_large _ c.if-bits-gt-LAST_GOAL.true

pub returns-then-goal_bits-bits : goal.returns-then-goal_bits-bits
returns-then-goal_bits-bits c = not_guessed _ _ c.guess_of-guess.ensures (λ e. c.if-goal_bits-bits.true (c.goal_bits.ensures ∙ e))

pub returns : goal.returns
returns c = guessed _ _ c.guess_of-guess.ensures c.if-bits-gt-LAST_GOAL.false (sym c.goal_bits.ensures ∙ c.if-goal_bits-bits.false)
