-- `put_outcome` meets its contract: by whether something was found.
use native.Mathlib.Omega.{arith}
use Rattle.listing.proofs.RefusalLine.{refusal_short}
use Rattle.listing.proofs.refusals.put_outcome.Goals as goal

pub returns-clause-found_len_bound : goal.returns-clause-found_len_bound
returns-clause-found_len_bound c = refusal_short c.args.numbered c.args.found (omega arith) (omega arith)
