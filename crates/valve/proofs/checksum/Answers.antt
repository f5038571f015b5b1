-- `checksum` meets its contract: sums that wrap, one word after another (Fronts).
use Rattle.std.proofs.Common.{◌≡◌, ◌+◌, ◌%◌, ◌∙◌, rules}
use Rattle.std.specs.List.{fold}
use Rattle.valve.proofs.Fronts.{checksum-fold}
use Rattle.valve.proofs.checksum.Goals as goal

pub returns : goal.returns
returns c =
    let folded : c.fold.result ≡ fold (λ sum word. (sum + word) % 65536) 0 c.args.summed.now = search rules in
    folded ∙ checksum-fold c.args.summed.now
