-- What the lister writes (02, Q-1).
use Rattle.std.specs.Prelude.{ℕ, List, Bool, not, eqb}
use Rattle.text.specs.declared.findings.Finding.{Finding}
use Rattle.text.specs.Findings.{first_found}
use Rattle.text.specs.Lister.{raw_findings, text_of}
use Rattle.listing.specs.declared.refusals.Numbered.{Numbered}
use Rattle.listing.specs.Refusal.{printed_for}

-- What is found wrong with a raw list: 20, then the first command that cannot be listed.
abbrev pub found : List ℕ → Finding
found raw = first_found (raw_findings raw)

abbrev pub refused : List ℕ → Bool
refused raw = not (eqb (found raw).told.code 0)

-- The text that says it; where it is refused, the line that says why, which goes to standard error.
unfoldable pub printed : List ℕ → List ℕ
printed raw = printed_for Numbered.Commands (found raw) (text_of raw)
