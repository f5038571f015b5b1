-- `wire::kinds::bits_of` meets its contract: every not-a-number has the same bits.
use mathlib.Core.Path.{sym, ◌∙◌}
use Rattle.wire.proofs.Singles.{nan_has_bits}
use Rattle.wire.proofs.kinds.bits_of.Goals as goal

pub returns-then-is_nan : goal.returns-then-is_nan
returns-then-is_nan c = sym (nan_has_bits c.args.x (sym c.is_nan.ensures.value ∙ c.if-is_nan.true))
