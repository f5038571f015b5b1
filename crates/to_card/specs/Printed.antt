-- What the program writes that moves a raw list to a card (02, Q-4).
use Rattle.std.specs.Prelude.{ℕ, List, [], Bool, cond, length, ltb}
use Rattle.wire.specs.Judge.{plain}
use Rattle.text.specs.declared.findings.Finding.{Finding}
use Rattle.text.specs.Findings.{finding}
use Rattle.card.specs.List.{stored_bytes, raw_says}
use Rattle.listing.specs.declared.refusals.Numbered.{Numbered}
use Rattle.listing.specs.Refusal.{printed_for}
use Rattle.moving.specs.Found.{found_by, bytes_by, refused_by}

-- What is found wrong with a raw list: 20, then the first bad command.
abbrev pub found : List ℕ → Finding
found raw = cond (ltb 4096 (length raw)) (finding (plain 20) 0) (found_by (raw_says raw) (λ cs end. []))

-- The stored form of its commands.
abbrev pub bytes_in : List ℕ → List ℕ
bytes_in raw = bytes_by (raw_says raw) stored_bytes

abbrev pub refused : List ℕ → Bool
refused raw = refused_by (found raw)

-- The stored list; where the raw one is refused, the line that says why, which goes to standard error.
unfoldable pub printed : List ℕ → List ℕ
printed raw = printed_for Numbered.Commands (found raw) (bytes_in raw)
