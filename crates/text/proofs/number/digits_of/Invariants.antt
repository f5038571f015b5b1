-- `digits_of` meets its contract.
use Rattle.text.proofs.Digits.{Got}
use Rattle.text.proofs.number.digits_of.Given as goal

abbrev pub invariant-loop-count : goal.invariant-loop-count
invariant-loop-count l = Got l.part l.value l.count
