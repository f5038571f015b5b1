-- What the assembler writes (02, Q-1).
use Rattle.std.specs.Prelude.{ℕ, List, Bool, not, eqb}
use Rattle.text.specs.declared.findings.Finding.{Finding}
use Rattle.text.specs.Findings.{first_found}
use Rattle.text.specs.Assemble.{text_findings, bytes_in}
use Rattle.listing.specs.declared.refusals.Numbered.{Numbered}
use Rattle.listing.specs.Refusal.{printed_for}

-- What is found wrong with a typed list: 20, the first bad line, 20 where its list would be too long.
abbrev pub found : List ℕ → Finding
found typed = first_found (text_findings typed)

abbrev pub refused : List ℕ → Bool
refused typed = not (eqb (found typed).told.code 0)

-- The raw list that it says; where it is refused, the line that says why, which goes to standard error.
unfoldable pub printed : List ℕ → List ℕ
printed typed = printed_for Numbered.Lines (found typed) (bytes_in typed)
