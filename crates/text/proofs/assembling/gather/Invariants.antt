-- `gather` meets its contract: what was judged and gathered so far, and the lines that are left, are the whole.
use Rattle.text.specs.Split.{lines_of}
use Rattle.text.proofs.Gathers.{Gathering}
use Rattle.text.proofs.assembling.gather.Given as goal

abbrev pub invariant-loop-line : goal.invariant-loop-line
invariant-loop-line l = Gathering l.text l.initial.buffer l.buffer (lines_of l.line-iterator.left.now) l.number l.bytes
