-- `store::spans::spans_below`: the measure is the macro number.
use Rattle.store.proofs.spans.+spans_below.Given as goal

abbrev pub decreases-spans_below : goal.decreases-spans_below
decreases-spans_below l = l.n
