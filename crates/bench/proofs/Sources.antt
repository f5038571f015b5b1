-- The sources of a run's commands: a raw list, which gives its commands as the walk does, and a text, whose lines give the commands that they say. A line
-- that says none changes nothing but the number of the line.
use Prim.Native.Nat.{ℕ, suc, ◌+◌, ◌-◌, ◌<◌, ◌≤◌, min}
use mathlib.Core.Path.{◌≡◌, refl, sym, ap, ◌∙◌, subst}
use mathlib.Core.List.{List, [], ◌∷◌, ◌++◌, map}
use native.Mathlib.Omega.{arith}
use lib.ListN.{length, take, drop, length-drop, drop_of_length-le}
use mathlib.Core.Bool.{Bool, true, false}
use lib.Dec.{ltb, leb}
use borrow.Author.Tests.{ltb-false, leb-true, leb-false}
use Rattle.std.specs.Prelude.{Option, Some, None, Result, Ok}
use Rattle.wire.specs.declared.kinds.Command.{Command}
use Rattle.wire.specs.declared.judging.Refusal.{Refusal}
use Rattle.wire.specs.Read.{answer_of, read_of}
use Rattle.wire.specs.Write.{list_bytes}
use Rattle.walk.specs.Walk.{rests}
use Rattle.walk.proofs.Rests.{rests_none}
use Rattle.walk.proofs.Turns.{from_place}
use Rattle.text.specs.Split.{lines_of}
use Rattle.text.specs.Line.{line_of, answer_line}
use Rattle.text.specs.Findings.{first_found}
use Rattle.text.specs.Assemble.{commands_in, numbers_in, bytes_in, bad_line, text_findings}
use Rattle.text.specs.Steps.{front_of}
use Rattle.text.proofs.Allowed.{AllAllowed, line_fine}
use Rattle.text.proofs.Splitting.{lines_at, line_within}
use Rattle.text.proofs.Found.{found_silent, whole_silent}
use Rattle.text.proofs.Assembled.{rests_listed, reads_listed}
use Rattle.bench.specs.Run.{numbers_from}
use Rattle.bench.specs.Steps.{GivesOne, said_by}

-- A text that was judged good: it is not too long, no line of it is bad, and neither is its list too long.
pub record Passed (text : List ℕ) : Type 0 where
  pub short : length text ≤ 32768
  pub good : (bad_line text).told.code ≡ 0
  pub list_short : length (bytes_in text) ≤ 4096

pub passed : (text : List ℕ) → (first_found (text_findings text)).told.code ≡ 0 → Passed text
passed text none =
    let silent = found_silent (text_findings text) none in
    record {
      short = ltb-false 32768 (length text) (whole_silent 20 (ltb 32768 (length text)) (λ e. omega arith) silent.0);
      good = silent.1.0;
      list_short = ltb-false 4096 (length (bytes_in text)) (whole_silent 20 (ltb 4096 (length (bytes_in text))) (λ e. omega arith) silent.1.1.0);
    }

-- A raw list gives the command at its front, where the walk goes on behind it.
pub raw_gives : (before rest after : List ℕ) (number : ℕ) (read : Result Command Refusal) → rests before ≡ rest ∷ rests after → answer_of read ≡ read_of rest
    → GivesOne (rests before) (numbers_from (number + 1) (rests before)) (number + 1) read (rests after) (numbers_from (number + 1 + 1) (rests after))
raw_gives before rest after number read steps reads =
    record { rest = rest; commands_are = steps; numbers_are = ap (numbers_from (number + 1)) steps; reads = reads }

-- What a text's lines give, and the numbers of these.
abbrev pub text_commands : List ℕ → List (List ℕ)
text_commands s = rests (list_bytes (commands_in (lines_of s)))

abbrev pub text_numbers : ℕ → List ℕ → List ℕ
text_numbers number s = numbers_in (number + 1) (lines_of s)

-- What is left behind a line that ends the text is nothing, as behind its end.
cut_behind : (before : List ℕ) (n : ℕ) → drop (min (length before) n) before ≡ drop n before
cut_behind before n = go (leb n (length before)) refl
  where
    go : (b : Bool) → leb n (length before) ≡ b → drop (min (length before) n) before ≡ drop n before
    go true e =
        let within = leb-true n (length before) e in
        let same : min (length before) n ≡ n = omega (arith, within) in
        ap (λ m. drop m before) same
    go false e =
        let beyond = leb-false n (length before) e in
        let same : min (length before) n ≡ length before = omega (arith, beyond) in
        ap (λ m. drop m before) same
        ∙ drop_of_length-le before {i = length before} (omega arith)
        ∙ sym (drop_of_length-le before {i = n} (omega (arith, beyond)))

-- From a line on, so much is left as from another place with a later line.
pub record Same (before : List ℕ) (number : ℕ) (after : List ℕ) (number₁ : ℕ) : Type 0 where
  pub commands : text_commands before ≡ text_commands after
  pub numbers : text_numbers number before ≡ text_numbers number₁ after

-- The line at the front of a text, and what is left behind it.
module _ (before after line : List ℕ) (number : ℕ) (more : 0 < length before) (is_line : line ≡ front_of 10 before)
    (behind : after ≡ drop (length line + 1) before) where
  at_start : line ≡ front_of 10 (take (length before - 0) (drop 0 before))
  at_start = is_line ∙ ap (front_of 10) (sym (from_place before 0))

  pub line_ends : length line ≤ length before
  line_ends = omega (arith, line_within before 0 more line at_start)

  later : lines_of before ≡ line ∷ lines_of after
  later =
      let one : 0 + (length line + 1) ≡ length line + 1 = omega arith in
      lines_at before 0 more line at_start ∙ ap (λ n. line ∷ lines_of (drop n before)) one ∙ ap (λ s. line ∷ lines_of s) (sym behind)

  commands_are : commands_in (lines_of before) ≡ (line_of line).taken ++ commands_in (lines_of after)
  unfolding commands_in
  commands_are = ap commands_in later

  numbers_are : text_numbers number before ≡ map (λ (c : Command). number + 1) (line_of line).taken ++ text_numbers (number + 1) after
  unfolding numbers_in
  numbers_are =
      let one : suc (number + 1) ≡ number + 1 + 1 = omega arith in
      ap (numbers_in (number + 1)) later
      ∙ ap (λ m. map (λ (c : Command). number + 1) (line_of line).taken ++ numbers_in m (lines_of after)) one

  -- It says no command.
  pub says_none : (line_of line).taken ≡ [] → Same before number after (number + 1)
  says_none none =
      record {
        commands = ap (λ cs. rests (list_bytes cs)) (commands_are ∙ ap (λ cs. cs ++ commands_in (lines_of after)) none);
        numbers = numbers_are ∙ ap (λ cs. map (λ (c : Command). number + 1) cs ++ text_numbers (number + 1) after) none;
      }

  -- It says a command.
  pub says_one : (c : Command) → c ∷ [] ≡ (line_of line).taken
      → GivesOne (text_commands before) (text_numbers number before) (number + 1) (Ok c) (text_commands after) (text_numbers (number + 1) after)
  says_one c says =
      let cs = commands_in (lines_of after) in
      let allowed : AllAllowed (c ∷ []) = subst AllAllowed (sym says) (line_fine line).allowed in
      record {
        rest = list_bytes (c ∷ cs);
        commands_are =
            ap (λ ds. rests (list_bytes ds)) (commands_are ∙ ap (λ ds. ds ++ cs) (sym says))
            ∙ rests_listed c cs;
        numbers_are = numbers_are ∙ ap (λ ds. map (λ (d : Command). number + 1) ds ++ text_numbers (number + 1) after) (sym says);
        reads = sym (reads_listed c cs allowed.0.0 allowed.0.1);
      }

-- What the code says of a line has the command that it says.
pub some_said : (said : Option Command) → said_by said ≡ (answer_line (Ok said)).taken
some_said None = refl
some_said (Some c) = refl

-- The same on the way through a text: behind a line that says no command, so much is left as from where the way began; one that says a command gives it.
module _ {first before : List ℕ} {first_number number : ℕ} (same : Same first first_number before number) where
  module _ (after line : List ℕ) (more : 0 < length before) (is_line : line ≡ front_of 10 before)
      (behind : after ≡ drop (min (length before) (length line + 1)) before) (said : Option Command) (says : said_by said ≡ (line_of line).taken) where
    pub front_ends : length line ≤ length before
    front_ends = line_ends before (drop (length line + 1) before) line number more is_line refl

    cut : after ≡ drop (length line + 1) before
    cut = behind ∙ cut_behind before (length line + 1)

    pub shorter : length after + 1 ≤ length before
    shorter = omega (arith, ap length behind, length-drop (min (length before) (length line + 1)) before, more)

    pub goes_on : None ≡ said → Same first first_number after (number + 1)
    goes_on none =
        let on = says_none before after line number more is_line cut (sym says ∙ ap said_by (sym none)) in
        record { commands = same.commands ∙ on.commands; numbers = same.numbers ∙ on.numbers }

    pub gives : (c : Command) → Some c ≡ said
        → GivesOne (text_commands first) (text_numbers first_number first) (number + 1) (Ok c) (text_commands after) (text_numbers (number + 1) after)
    gives c some =
        let one = says_one before after line number more is_line cut c (ap said_by some ∙ says) in
        record { rest = one.rest; commands_are = same.commands ∙ one.commands_are; numbers_are = same.numbers ∙ one.numbers_are; reads = one.reads }

  -- Nothing is left at the end.
  pub none_left : length before ≤ 0 → text_commands first ≡ []
  unfolding lines_of commands_in list_bytes
  none_left end = same.commands ∙ ap text_commands (empty before end) ∙ rests_none
    where
      empty : (s : List ℕ) → length s ≤ 0 → s ≡ []
      empty [] e = refl
      empty (x ∷ s) e = absurd (omega arith)
