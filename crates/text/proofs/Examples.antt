-- Q-1's readings on lines and small texts, as one claim that the machine computes.
use Prim.Native.Nat.{ℕ}
use Prim.Native.String.{String}
use mathlib.Core.Path.{◌≡◌, refl}
use mathlib.Core.List.{List, [], ◌∷◌}
use mathlib.Core.Bool.{Bool, true, false}
use Rattle.words.specs.Text.{ascii, decimal_in}
use Rattle.wire.specs.declared.kinds.Kind.{Kind}
use Rattle.wire.specs.declared.judging.Told.{Told}
use Rattle.wire.specs.Table.{name_of}
use Rattle.wire.specs.Judge.{stray_with, told_with, plain}
use Rattle.text.specs.Split.{lines_of, words_of, same_text}
use Rattle.text.specs.Number.{digits_in, whole_of, fraction_of, quarters_of}
use Rattle.text.specs.Goal.{goal_bits}
use Rattle.text.specs.Names.{form_named}
use Rattle.text.specs.Line.{typed_as, line_of}
use Rattle.text.specs.Findings.{finding, first_found}
use Rattle.text.specs.Assemble.{commands_in, numbers_in, line_findings, bad_line, line_numbers}
use Rattle.text.specs.Lister.{line_text}

-- What a line comes to: a code, with what was wrong with the number where it is 8, or a command.
abbrev out_of_range : ℕ → ℕ → ℕ → ℕ → Told
out_of_range par value low high = told_with 8 (stray_with par value low high)

abbrev Gets : String → Told → Type 0
Gets line told = line_of (ascii line) ≡ record { told = told; taken = [] }

abbrev Says : String → Bool → Kind → Type 0
Says line flag kind = line_of (ascii line) ≡ record { told = plain 0; taken = record { flag = flag; kind = kind } ∷ [] }

-- The lister's line of a command.
abbrev Prints : Bool → Kind → String → Type 0
Prints flag kind line = line_text (record { flag = flag; kind = kind }) ≡ ascii line

-- The first bad line of a text, and the numbers of the lines that carry a command.
abbrev Bad : String → ℕ → Told → Type 0
Bad text line told = bad_line (ascii text) ≡ finding told line

abbrev Numbers : String → List ℕ → Type 0
Numbers text numbers = line_numbers (ascii text) ≡ numbers

pub lines :
    Says "img_pwr 1" false (Kind.ImgPwr 1)
    × Says "+tlm_flush" true Kind.TlmFlush
    × Says "img_region 00512 7" false (Kind.ImgRegion 512 7)
    × Says "+wait 600" true (Kind.Wait 600)
    × Gets "" (plain 0)
    × Gets "# a comment" (plain 0)
    × Gets " open 1" (plain 30)
    × Gets "+ open 1" (plain 30)
    × Gets "OPEN 1" (plain 30)
    × Gets "open" (plain 32)
    × Gets "open  1" (plain 32)
    × Gets "open 1 " (plain 32)
    × Gets "img_region x" (plain 32)
    × Gets "img_region x 1024" (plain 31)
    × Gets "open 000001" (plain 31)
    × Gets "wait -1" (plain 31)
    × Gets "trk_goal 1 2.50" (plain 31)
    × Gets "trk_goal .5 0" (plain 31)
    × Gets "img_pwr 256" (out_of_range 1 256 0 1)
    × Gets "img_region 70000 0" (out_of_range 1 70000 0 1023)
    × Gets "img_image 70000 1" (out_of_range 1 70000 0 65535)
    × Gets "img_image 5 0" (out_of_range 2 0 1 65535)
    × Gets "trk_goal 0 1024" (out_of_range 2 0x44800000 0 0x447fffff)
    × Gets "+open 8" (out_of_range 1 8 0 7)
    × Gets "+open 1" (plain 9)
    × Gets "wait 5" (plain 10)
unfolding line_of typed_as words_of form_named same_text whole_of quarters_of fraction_of digits_in goal_bits
lines = (refl, refl, refl, refl, refl, refl, refl, refl, refl, refl, refl, refl, refl, refl, refl, refl, refl, refl, refl, refl, refl, refl, refl, refl, refl, refl)

pub texts :
    Numbers "" []
    × Numbers "\n\n" []
    × Numbers "open 0" (1 ∷ [])
    × Numbers "# one\n\nopen 0\n\nclose\n" (3 ∷ 5 ∷ [])
    × Bad "open 0\n\nclose" 0 (plain 0)
    × Bad "open 0\n\nclose 1\nopen 9" 3 (plain 32)
    × Bad "# one\nopen 8\n" 2 (out_of_range 1 8 0 7)
unfolding lines_of line_of typed_as words_of form_named same_text whole_of digits_in commands_in numbers_in line_findings first_found
texts = (refl, refl, refl, refl, refl, refl, refl)

pub prints :
    Prints false (Kind.ImgPwr 0) "img_pwr 0"
    × Prints true (Kind.ImgTrack 65535 1) "+img_track 65535 1"
    × Prints false Kind.Clear "clear"
unfolding line_text name_of decimal_in
prints = (refl, refl, refl)
