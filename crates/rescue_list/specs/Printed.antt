-- What the program writes that rescues a damaged list (02, Q-10).
use Rattle.std.specs.Prelude.{ℕ, List, [], ◌∷◌, ◌++◌, Bool, cond, length, ltb}
use Rattle.words.specs.Text.{ascii, decimal}
use Rattle.wire.specs.Judge.{plain}
use Rattle.text.specs.Findings.{finding}
use Rattle.rescue.specs.Pieces.{Stretch, kept_of, stretches_of}
use Rattle.listing.specs.declared.refusals.Numbered.{Numbered}
use Rattle.listing.specs.Refusal.{refusal_line}

-- "20": the list is above 4,096 bytes.
abbrev pub too_long : List ℕ → Bool
too_long list = ltb 4096 (length list)

-- To standard output: the commands that are kept; nothing of a list that is too long.
unfoldable pub printed : List ℕ → List ℕ
printed list = cond (too_long list) [] (kept_of list)

-- The line of a stretch.
abbrev pub line_of : Stretch → List ℕ
line_of x = ascii "skipped " ++ decimal x.start ++ ascii " " ++ decimal x.size ++ ascii "\n"

unfoldable pub lines_of : List Stretch → List ℕ
lines_of [] = []
lines_of (x ∷ xs) = line_of x ++ lines_of xs

-- To standard error: a line for each stretch that is skipped; of a list that is too long the line that says so, which names no command.
unfoldable pub noted : List ℕ → List ℕ
noted list = cond (too_long list) (refusal_line Numbered.Commands (finding (plain 20) 0)) (lines_of (stretches_of list))
