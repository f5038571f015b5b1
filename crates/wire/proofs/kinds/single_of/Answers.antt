-- `wire::kinds::single_of` meets its contract: bits above infinity's are read as not-a-number, which zero / zero is.
use Rattle.wire.proofs.Singles.{low_is_number, high_is_nan}
use mathlib.Core.Path.{sym}
use lib.Ieee.{of_bits, div}
use Rattle.wire.proofs.kinds.single_of.Goals as goal

pub float_from_bits-result : goal.float_from_bits-result
float_from_bits-result c = low_is_number c.args.bits c.if-bits-gt-INFINITY_BITS.false

pub returns-then-bits-gt-INFINITY_BITS : goal.returns-then-bits-gt-INFINITY_BITS
unfolding of_bits div
returns-then-bits-gt-INFINITY_BITS c = sym (high_is_nan c.args.bits c.if-bits-gt-INFINITY_BITS.true)
