-- What the list program prints: 01, the end of "Examples on each side of a line".
use Rattle.std.specs.Prelude.{ℕ, List, cond, length, ltb}
use Rattle.bench.specs.Run.{report_of}
use Rattle.bench.specs.Status.{fresh_bench}
use Rattle.listing.specs.Kit.{kit_bytes}
use Rattle.wire.specs.Judge.{plain}
use Rattle.text.specs.Findings.{finding}
use Rattle.listing.specs.declared.refusals.Numbered.{Numbered}
use Rattle.listing.specs.Text.{report_text}
use Rattle.listing.specs.Refusal.{refusal_line}

-- The line of a run that was refused: a finding of the whole, so that it names no line.
abbrev pub refusal : ℕ → List ℕ
refusal code = refusal_line Numbered.Lines (finding (plain code) 0)

-- "Input above 4,096 bytes prints only `refused 20`"; of other input the report of the kit's list and then the pupil's, run on a fresh bench.
unfoldable pub printed : List ℕ → List ℕ
printed pupil = cond (ltb 4096 (length pupil)) (refusal 20) (report_text (report_of fresh_bench kit_bytes pupil))
