-- `name_length` meets its contract, by the cases of a sender.
use native.Mathlib.Omega.{arith}
use Rattle.words.proofs.Decimal.{digits_few}
use Rattle.listing.proofs.name_length.Goals as goal

pub overflow_add-result : goal.overflow_add-result
overflow_add-result c = omega (arith, digits_few 10 c.args.sender)
