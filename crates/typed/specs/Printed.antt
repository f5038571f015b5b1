-- What the program for typed lists prints (02, Q-1).
use Rattle.std.specs.Prelude.{ℕ, List}
use Rattle.text.specs.declared.findings.Finding.{Finding}
use Rattle.text.specs.Findings.{first_found}
use Rattle.text.specs.Assemble.{text_findings}
use Rattle.bench.specs.Status.{fresh_bench}
use Rattle.bench.specs.Typed.{typed_report}
use Rattle.listing.specs.declared.refusals.Numbered.{Numbered}
use Rattle.listing.specs.Kit.{kit_bytes}
use Rattle.listing.specs.Text.{report_text}
use Rattle.listing.specs.Refusal.{printed_for}

-- What is found wrong with a typed list: 20, the first bad line, 20 where its list would be too long.
abbrev pub found : List ℕ → Finding
found typed = first_found (text_findings typed)

-- The line that says why it is refused; of any other the report of the kit's list and then the typed one, run on a fresh bench.
unfoldable pub printed : List ℕ → List ℕ
printed typed = printed_for Numbered.Lines (found typed) (report_text (typed_report fresh_bench kit_bytes typed))
