-- What the program writes that moves a stored list from a card (02, Q-4).
use Rattle.std.specs.Prelude.{ℕ, List, [], ◌∷◌, Bool, length}
use Rattle.words.specs.Codes.{Check}
use Rattle.wire.specs.declared.kinds.Command.{Command}
use Rattle.wire.specs.Write.{list_bytes}
use Rattle.text.specs.declared.findings.Finding.{Finding}
use Rattle.card.specs.List.{stored_says}
use Rattle.card.specs.Answers.{left_over, too_long}
use Rattle.listing.specs.declared.refusals.Numbered.{Numbered}
use Rattle.listing.specs.Refusal.{printed_for}
use Rattle.moving.specs.Found.{found_by, bytes_by, refused_by}

-- 37, then 20, for a stored list of so many bytes; there is always room.
abbrev pub whole_checks : ℕ → List Command → ℕ → List Check
whole_checks size cs end = left_over size end ∷ too_long cs ∷ []

-- What is found wrong with a stored list: the first bad number or command, then 37, then 20.
abbrev pub found : List ℕ → Finding
found stored = found_by (stored_says stored) (whole_checks (length stored))

-- Its commands as a raw list.
abbrev pub bytes_in : List ℕ → List ℕ
bytes_in stored = bytes_by (stored_says stored) list_bytes

abbrev pub refused : List ℕ → Bool
refused stored = refused_by (found stored)

-- The raw list; where the stored one is refused, the line that says why, which goes to standard error.
unfoldable pub printed : List ℕ → List ℕ
printed stored = printed_for Numbered.Commands (found stored) (bytes_in stored)
