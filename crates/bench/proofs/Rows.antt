-- The rows of 01's codes as each call tries them. Carrying out tries, on a sound bench, rows 8 to 19 or, from bytes, 1 to 19, with 26 behind 10
-- and 25 behind 15, and no two of them have one code; on any other bench row 27 is the first. The other calls of a bench follow, and the writer of its records.
use Prim.Native.Nat.{ℕ, suc, ◌≤◌}
use mathlib.Core.Path.{◌≡◌, refl, sym, ap, subst, ◌∙◌}
use mathlib.Core.Logic.{◌↔◌, ◌≢◌}
use mathlib.Core.List.{List, [], ◌∷◌, ◌++◌}
use mathlib.Core.Bool.{Bool, true, false, cond, not, ◌&&◌, ◌||◌}
use native.Mathlib.Omega.{arith}
use lib.ListN.{length, take}
use lib.Dec.{eqb, leb, ltb}
use borrow.Author.Tests.{leb-true}
use Rattle.words.specs.BigEndian.{word_at, has_room}
use Rattle.words.specs.Codes.{Check, ◌when◌, first_of}
use Rattle.words.proofs.Tests.{both}
use Rattle.words.proofs.Order.{NoneDue, Order, code_lacked, order, apart}
use Rattle.wire.specs.declared.table.Form.{Form}
use Rattle.std.specs.Prelude.{Option, Some, None}
use Rattle.wire.specs.declared.kinds.Command.{Command}
use Rattle.wire.specs.Table.{rule_of}
use Rattle.wire.specs.Judge.{plain, arg_checks}
use Rattle.wire.specs.Read.{reach_checks, sum_differs, decode_checks, opcode_of, flag_of, length_of, third_word, read_checks, read_code, said_parts, said}
use Rattle.wire.specs.Kind.{parts_of}
use Rattle.wire.specs.declared.kinds.Parts.{Parts}
use Rattle.wire.proofs.Parameters.{SomeOut, Parameter, RangeRow, parameter, eight, range_args, range_read, range_none, range_append, read_eight}
use Rattle.report.specs.Record.{report_room, put_code}
use Rattle.text.specs.declared.findings.Finding.{Finding}
use Rattle.text.specs.Split.{lines_of, words_of}
use Rattle.text.specs.Names.{form_named}
use Rattle.text.specs.Line.{is_blank, flag_in, body_in, name_in, line_checks, typed_as, line_of}
use Rattle.text.specs.Findings.{finding, nothing, whole, first_found}
use Rattle.text.specs.Assemble.{bytes_in, line_findings, bad_line}
use Rattle.bench.specs.declared.Bench.{Bench}
use Rattle.bench.specs.Status.{bench_sound, sound_check, status_at, free_at, housekeeping_at}
use Rattle.bench.specs.Carry.{Outcome, effect_of, outcome_for, state_checks, command_checks, carry_checks, carry_out}
use Rattle.bench.specs.Carry.{bytes_checks, carry_bytes_checks, carry_out_bytes}
use Rattle.bench.specs.Second.{second_at}
use Rattle.bench.specs.Run.{run_checks, run_code, run_of}
use Rattle.bench.specs.Typed.{typed_findings, typed_found, typed_of}
use Rattle.text.proofs.FirstFinding.{FindsFirst, first_found_lem}
use Rattle.bench.proofs.Outcomes.{behind_code, read_then, carry_bytes_code_lem, unsound, unsound_bytes}

-- What an accepted command is answered: code 0, and the bench after its effect.
abbrev pub taken_as : Bench → Command → Outcome
taken_as b c = record { told = plain 0; bench = effect_of b c }

-- The code that is told.
pub command_code : (b : Bench) (c : Command) → bench_sound b ≡ true → (carry_out b c).told.code ≡ first_of (command_checks b c)
unfolding carry_out
command_code b c sound = rw sound

pub bytes_code : (b : Bench) (s : List ℕ) → bench_sound b ≡ true → (carry_out_bytes b s).told.code ≡ first_of (bytes_checks b s)
unfolding carry_out_bytes
bytes_code b s sound = carry_bytes_code_lem b s sound

-- The codes differ, so each says which row was the first; and none is above 26.
abbrev pub up_to : ℕ → List Check → Bool
up_to n [] = true
up_to n (c ∷ cs) = leb c.code n && up_to n cs

bytes_apart : (b : Bench) (s : List ℕ) → (apart (bytes_checks b s) ≡ true) × (up_to 26 (bytes_checks b s) ≡ true)
bytes_apart b s = go (rule_of (opcode_of s))
  where
    whole : Option (Form × ℕ) → List Check
    whole found = 4 when sum_differs s (length_of s) ∷ decode_checks found (flag_of s) (length_of s) (word_at s 4) (third_word s (length_of s))

    all : Option (Form × ℕ) → List Check
    all found = (reach_checks s ++ whole found) ++ state_checks b (said s)

    go : (found : Option (Form × ℕ)) → (apart (all found) ≡ true) × (up_to 26 (all found) ≡ true)
    go (Some (form, length)) = (refl, refl)
    go None = (refl, refl)

-- The same of the rows of reading alone, none of which is above 10.
pub read_apart : (s : List ℕ) → (apart (read_checks s) ≡ true) × (up_to 10 (read_checks s) ≡ true)
read_apart s = go (rule_of (opcode_of s))
  where
    all : Option (Form × ℕ) → List Check
    all found = reach_checks s ++ (4 when sum_differs s (length_of s) ∷ decode_checks found (flag_of s) (length_of s) (word_at s 4) (third_word s (length_of s)))

    go : (found : Option (Form × ℕ)) → (apart (all found) ≡ true) × (up_to 10 (all found) ≡ true)
    go (Some (form, length)) = (refl, refl)
    go None = (refl, refl)

pub command_order : (b : Bench) → bench_sound b ≡ true → (c : Command) → Order (command_checks b c) (carry_out b c).told.code
command_order b sound c = subst (Order (command_checks b c)) (sym (command_code b c sound)) (order (command_checks b c) refl)

pub bytes_order : (b : Bench) → bench_sound b ≡ true → (s : List ℕ) → Order (bytes_checks b s) (carry_out_bytes b s).told.code
bytes_order b sound s = subst (Order (bytes_checks b s)) (sym (bytes_code b s sound)) (order (bytes_checks b s) (bytes_apart b s).0)

pub first_up_to : (n : ℕ) (cs : List Check) → up_to n cs ≡ true → first_of cs ≤ n
first_up_to n [] h = omega arith
first_up_to n (c ∷ cs) h =
    let parts = both (leb c.code n) (up_to n cs) h in
    go c.due (leb-true c.code n parts.0) (first_up_to n cs parts.1)
  where
    go : (t : Bool) → c.code ≤ n → first_of cs ≤ n → cond t c.code (first_of cs) ≤ n
    go true own rest = own
    go false own rest = rest

pub command_most : (b : Bench) → bench_sound b ≡ true → (c : Command) → (carry_out b c).told.code ≤ 26
command_most b sound c = rw (command_code b c sound) (first_up_to 26 (command_checks b c) refl)

pub bytes_most : (b : Bench) → bench_sound b ≡ true → (s : List ℕ) → (carry_out_bytes b s).told.code ≤ 26
bytes_most b sound s = rw (bytes_code b s sound) (first_up_to 26 (bytes_checks b s) (bytes_apart b s).1)

-- Where no row holds the command is taken: code 0, and its effect.
pub command_taken : (b : Bench) → bench_sound b ≡ true → (c : Command) → (carry_out b c ≡ taken_as b c) ↔ NoneDue (command_checks b c)
unfolding carry_out
command_taken b sound c =
    let rows = (command_order b sound c).accepted in
    (λ e. rows.0 (ap (λ (o : Outcome). o.told.code) e), λ none. ap (λ n. outcome_for n (parts_of c.kind) b c) (rows.1 none))

pub bytes_taken : (b : Bench) → bench_sound b ≡ true → (s : List ℕ) → (carry_out_bytes b s ≡ taken_as b (said s)) ↔ NoneDue (bytes_checks b s)
unfolding carry_out_bytes
bytes_taken b sound s =
    let rows = (bytes_order b sound s).accepted in
    (λ e. rows.0 (ap (λ (o : Outcome). o.told.code) e), λ none. ap (λ n. outcome_for n (said_parts s) b (said s)) (rows.1 none))

-- On a bench that is not sound row 27 is the first.
pub command_unsound : (b : Bench) → bench_sound b ≡ false → (c : Command) → (carry_out b c).told.code ≡ 27
command_unsound b e c = ap (λ (o : Outcome). o.told.code) (sym (unsound b c e))

pub bytes_unsound : (b : Bench) → bench_sound b ≡ false → (s : List ℕ) → (carry_out_bytes b s).told.code ≡ 27
bytes_unsound b e s = ap (λ (o : Outcome). o.told.code) (sym (unsound_bytes b s e))

-- A second and the status have row 27 alone; a second that gets it leaves the bench and hands over nothing.
pub second_order : (b : Bench) → Order (sound_check b ∷ []) (second_at b).told.code
unfolding second_at
second_order b = order (sound_check b ∷ []) refl

pub second_refused : (b : Bench) → (second_at b).told.code ≢ 0 → ((second_at b).bench ≡ b) × ((second_at b).handed ≡ []) × ((second_at b).codes ≡ [])
unfolding second_at
second_refused b refused = go (bench_sound b) refl
  where
    go : (t : Bool) → bench_sound b ≡ t → ((second_at b).bench ≡ b) × ((second_at b).handed ≡ []) × ((second_at b).codes ≡ [])
    go true e = absurd (refused (rw e))
    go false e = (rw e, rw e, rw e)

pub status_order : (b : Bench) → Order (sound_check b ∷ []) (status_at b).code
unfolding status_at
status_order b = order (sound_check b ∷ []) refl

pub free_order : (b : Bench) → Order (sound_check b ∷ []) (free_at b).code
unfolding free_at
free_order b = order (sound_check b ∷ []) refl

pub housekeeping_order : (b : Bench) → Order (sound_check b ∷ []) (housekeeping_at b).code
unfolding housekeeping_at
housekeeping_order b = order (sound_check b ∷ []) refl

-- The code of a run is the first of 20, 21 and 27 that is due; on a sound bench 27 is not.
pub run_order : (b : Bench) (kit pupil room : List ℕ) → Order (run_checks b kit pupil room) (run_of b kit pupil room).code
unfolding run_of run_code
run_order b kit pupil room = order (run_checks b kit pupil room) refl

pub run_not_27 : (b : Bench) → bench_sound b ≡ true → (kit pupil room : List ℕ) → (run_of b kit pupil room).code ≢ 27
run_not_27 b sound kit pupil room e =
    let due : not (bench_sound b) ≡ true = (((run_order b kit pupil room).placed 2 (omega arith)).0 e).due in
    let never : ◌≡◌ {A = Bool} false true = rw sound at due in
    absurd (let z : ◌≡◌ {A = ℕ} 0 1 = cc in omega arith)

-- What a typed run finds is what the first of its findings finds; and of its lines the first bad one speaks.
pub typed_order : (b : Bench) (kit text room : List ℕ) → FindsFirst (typed_findings b kit text room) (typed_of b kit text room).found
unfolding typed_of typed_found
typed_order b kit text room = first_found_lem (typed_findings b kit text room)

pub lines_order : (text : List ℕ) → FindsFirst (line_findings 1 (lines_of text)) (bad_line text)
lines_order text = first_found_lem (line_findings 1 (lines_of text))

-- On a sound bench it does not find 27: no line has that code.
line_not_27 : (l : List ℕ) → (line_of l).told.code ≢ 27
unfolding line_of typed_as
line_not_27 l = go (is_blank l) (words (form_named (name_in (words_of (body_in l)))))
  where
    words : (named : Option Form) → first_of (line_checks named (flag_in l) (words_of (body_in l))) ≢ 27
    words (Some form) = code_lacked 27 (line_checks (Some form) (flag_in l) (words_of (body_in l))) refl (λ e. omega arith)
    words None = code_lacked 27 (line_checks None (flag_in l) (words_of (body_in l))) refl (λ e. omega arith)

    go : (t : Bool) → (typed_as (flag_in l) (words_of (body_in l))).told.code ≢ 27
        → (cond t (record { told = plain 0; taken = [] }) (typed_as (flag_in l) (words_of (body_in l)))).told.code ≢ 27
    go true other e = absurd (omega arith)
    go false other e = other e

lines_not_27 : (number : ℕ) (ls : List (List ℕ)) → (first_found (line_findings number ls)).told.code ≢ 27
unfolding first_found line_findings
lines_not_27 number [] e = absurd (omega arith)
lines_not_27 number (l ∷ ls) e = go (eqb (line_of l).told.code 0) (lines_not_27 (suc number) ls) e
  where
    own : Finding
    own = finding (line_of l).told number

    go : (t : Bool) → (first_found (line_findings (suc number) ls)).told.code ≢ 27
        → (cond t (first_found (line_findings (suc number) ls)) own).told.code ≢ 27
    go true rest = rest
    go false rest = line_not_27 l

pub typed_not_27 : (b : Bench) → bench_sound b ≡ true → (kit text room : List ℕ) → (typed_of b kit text room).found.told.code ≢ 27
unfolding typed_of typed_found first_found
typed_not_27 b sound kit text room e =
    let long = ltb 32768 (length text) || ltb 4096 (length kit) in
    go long (ltb 4096 (length (bytes_in text))) (ltb (length room) report_room) (eqb (bad_line text).told.code 0) (rw sound at e)
  where
    last : Bool → Bool → List Finding
    last list small = whole (20 when list) ∷ whole (21 when small) ∷ nothing ∷ []

    rest : (list small : Bool) → (first_found (last list small)).told.code ≢ 27
    rest true small e = absurd (omega arith)
    rest false true e = absurd (omega arith)
    rest false false e = absurd (omega arith)

    behind : Bool → Bool → Bool → Finding
    behind list small good = cond good (first_found (last list small)) (bad_line text)

    go : (long list small good : Bool)
        → (cond (eqb (whole (20 when long)).told.code 0) (behind list small good) (whole (20 when long))).told.code ≢ 27
    go true list small good e = absurd (omega arith)
    go false list small true e = rest list small e
    go false list small false e = lines_not_27 1 (lines_of text) e

-- What is told of a number beside the code of carrying out: no row but 8 asks for an argument's range.
state_ranges : (parts : Parts) (b : Bench) (c : Command) → RangeRow parts (state_checks b c)
state_ranges parts b c = range_none parts (state_checks b c) refl

pub command_parameter : (b : Bench) (c : Command) → Parameter (parts_of c.kind) (carry_out b c).told
unfolding carry_out
command_parameter b c =
    let parts = parts_of c.kind in
    parameter parts (carry_checks b c)
    (λ e. absurd (omega arith), range_append parts (arg_checks c) (state_checks b c) (range_args c) (state_ranges parts b c))

pub bytes_parameter : (b : Bench) (s : List ℕ) → Parameter (said_parts s) (carry_out_bytes b s).told
unfolding carry_out_bytes
bytes_parameter b s =
    let parts = said_parts s in
    parameter parts (carry_bytes_checks b s)
    (λ e. absurd (omega arith), range_append parts (read_checks s) (state_checks b (said s)) (range_read s) (state_ranges parts b (said s)))

-- On a sound bench code 8 comes exactly where an argument is out of range: no row is tried before 8 on a decoded command, and rows 1 to 7 on bytes.
pub command_eight : (b : Bench) → bench_sound b ≡ true → (c : Command) → ((carry_out b c).told.code ≡ 8) ↔ SomeOut (parts_of c.kind)
command_eight b sound c =
    let parts = parts_of c.kind in
    let rows = range_append parts (arg_checks c) (state_checks b c) (range_args c) (state_ranges parts b c) in
    let at = eight parts (command_checks b c) 0 rows refl (omega arith) refl in
    let code = command_code b c sound in
    (λ e. (at.0 (sym code ∙ e)).1, λ out. code ∙ at.1 (tt, out))

pub bytes_eight : (b : Bench) → bench_sound b ≡ true → (s : List ℕ)
    → ((carry_out_bytes b s).told.code ≡ 8) ↔ (NoneDue (take 7 (read_checks s)) × SomeOut (said_parts s))
unfolding behind_code
bytes_eight b sound s = (λ e. (read_eight s).0 (only (eqb (read_code s) 0) refl (sym code ∙ e)), λ d. code ∙ first ((read_eight s).1 d))
  where
    code : (carry_out_bytes b s).told.code ≡ cond (eqb (read_code s) 0) (behind_code b (said s)) (read_code s)
    code = bytes_code b s sound ∙ read_then b s

    only : (passed : Bool) → eqb (read_code s) 0 ≡ passed → cond passed (behind_code b (said s)) (read_code s) ≡ 8 → read_code s ≡ 8
    only true is e = absurd (code_lacked 8 (state_checks b (said s)) refl (λ zero. omega arith) e)
    only false is e = e

    first : read_code s ≡ 8 → cond (eqb (read_code s) 0) (behind_code b (said s)) (read_code s) ≡ 8
    first e = rw e

-- A record's writer has row 24 alone.
pub put_order : (bytes room : List ℕ) → Order (24 when not (has_room bytes room) ∷ []) (put_code bytes room)
put_order bytes room = go (has_room bytes room)
  where
    go : (fits : Bool) → Order (24 when not fits ∷ []) (cond fits 0 24)
    go true = order (24 when false ∷ []) refl
    go false = order (24 when true ∷ []) refl
