-- `store::spans::span_by`: what is summed and counted so far, with the entries from i on, spans what all entries do.
use Prim.Native.Nat.{ℕ, ◌-◌}
use mathlib.Core.Path.{◌≡◌}
use mathlib.Core.List.{List}
use mathlib.Core.Bool.{Bool}
use Rattle.wire.specs.declared.kinds.Command.{Command}
use Rattle.store.specs.declared.spans.Span.{Span}
use Rattle.store.specs.Pool.{between}
use Rattle.store.specs.SpanSteps.{no_span, behind, spans_from}
use Rattle.store.proofs.Walk.{Walk}
use Rattle.store.proofs.spans.span_by.Given as goal

-- What is summed so far, with the entries counted behind it and those from i on behind these, is what all entries span.
pub record Summed (words : List ℕ) (es : List Command) (m : ℕ) (closed : List Bool) (table : List Span) (end count i : ℕ) (sum : Span) : Type 0 where
  pub walk : Walk words end
  pub summed : spans_from closed table m no_span es ≡ spans_from closed table m (behind sum count) (between words i (end - i))

abbrev pub invariant-loop-i : goal.invariant-loop-i
invariant-loop-i l = Summed l.words (between l.words l.start l.size) l.m l.tally.closed l.tally.spans l.end l.count l.i l.sum
