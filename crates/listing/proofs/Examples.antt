-- Lines of 01's transcript, the line of a sender that 01 does not know with the largest numbers, lines of refusals, and the text of a report without
-- records and of one with a record and a byte more.
use Prim.Native.Nat.{ℕ}
use mathlib.Core.Path.{◌≡◌, refl}
use mathlib.Core.List.{List, [], ◌∷◌}
use Rattle.words.specs.Text.{ascii, decimal_in}
use Rattle.wire.specs.Judge.{stray_with, told_with, plain}
use Rattle.text.specs.Findings.{finding}
use Rattle.listing.specs.declared.refusals.Numbered.{Numbered}
use Rattle.listing.specs.Text.{line_of, lines_to, report_text}
use Rattle.listing.specs.Refusal.{refusal_line}

abbrev pub line : ℕ → ℕ → ℕ → ℕ → ℕ → List ℕ
line sender number code par value = line_of (record { sender = sender; number = number; code = code; par = par; value = value })

pub kit_first : line 1 1 0 0 0 ≡ ascii "kit 1 0 0 0\n"
unfolding line_of decimal_in
kit_first = refl

pub pupil_second : line 2 2 8 2 0 ≡ ascii "pupil 2 8 2 0\n"
unfolding line_of decimal_in
pupil_second = refl

pub largest : line 255 0xffffffff 255 255 0xffffffff ≡ ascii "255 4294967295 255 255 4294967295\n"
unfolding line_of decimal_in
largest = refl

pub too_long : refusal_line Numbered.Lines (finding (plain 20) 0) ≡ ascii "refused 20\n"
unfolding refusal_line decimal_in
too_long = refl

pub unknown_name : refusal_line Numbered.Lines (finding (plain 30) 4) ≡ ascii "refused 30 line 4\n"
unfolding refusal_line decimal_in
unknown_name = refl

-- A number out of range: which, its value, and its limits.
abbrev pub out_of_range : Numbered → ℕ → ℕ → ℕ → ℕ → ℕ → List ℕ
out_of_range numbered number par value low high = refusal_line numbered (finding (told_with 8 (stray_with par value low high)) number)

pub out_of_range_lem : out_of_range Numbered.Lines 12 2 1024 0 1023 ≡ ascii "refused 8 line 12 par 2 val 1024 from 0 to 1023\n"
unfolding refusal_line decimal_in
out_of_range_lem = refl

pub goal_out_of_range : out_of_range Numbered.Lines 1 1 0x44800000 0 0x447fffff ≡ ascii "refused 8 line 1 par 1 val 1149239296 from 0 to 1149239295\n"
unfolding refusal_line decimal_in
goal_out_of_range = refl

pub longest : out_of_range Numbered.Commands 0xffffffff 255 0xffffffff 0xffffffff 0xffffffff
    ≡ ascii "refused 8 number 4294967295 par 255 val 4294967295 from 4294967295 to 4294967295\n"
unfolding refusal_line decimal_in
longest = refl

pub no_record : report_text [] ≡ ascii "from no code par val\n"
unfolding report_text lines_to
no_record = refl

pub whole_records : report_text (1 ∷ 8 ∷ 2 ∷ 0 ∷ 0 ∷ 0 ∷ 0 ∷ 3 ∷ 0 ∷ 0 ∷ 4 ∷ 0 ∷ 1 ∷ []) ≡ ascii "from no code par val\nkit 3 8 2 1024\n"
unfolding report_text lines_to line_of decimal_in
whole_records = refl
