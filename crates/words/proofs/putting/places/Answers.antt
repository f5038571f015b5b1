-- `places` meets its contract: the power of ten below a number says how many digits it has (Decimal).
use Rattle.std.proofs.Common.{◌+◌, ap, ◌∙◌}
use Rattle.words.proofs.Decimal.{length-decimal}
use Rattle.words.proofs.putting.places.Goals as goal

pub returns : goal.returns
returns c =
    let power = c.checked_ilog10.ensures in
    ap (λ k. k + 1) c.unwrap_or.ensures ∙ length-decimal c.checked_ilog10.result c.args.value c.ranges.value.fits power.none power.power_le power.next_power_gt
