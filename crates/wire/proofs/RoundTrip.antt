-- Demand 2, "Commands ... can be written as well as read, and come back equal": a command that was written is read back, whatever follows it,
-- and a command that was read is written back as the bytes that it was read from.
use Prim.Native.Nat.{ℕ, suc, ◌+◌, ◌*◌, ◌%◌, ◌-◌, ◌^◌, ◌≤◌, ◌<◌}
use mathlib.Core.Path.{◌≡◌, refl, sym, ap, ◌∙◌}
use mathlib.Core.List.{List, [], ◌∷◌, ◌++◌}
use mathlib.Core.Bool.{Bool, true, false, not}
use native.Mathlib.Nat.{mod-eq_of_lt}
use native.Mathlib.Omega.{arith}
use lib.ListN.{length, get_or, take, length-append}
use lib.Dec.{T, eqb, leb}
use lib.Ieee.{binary32, to_bits, fits}
use lib.Ieee.Bits.{of_bits-to_bits, of_bits-fits}
use borrow.Author.Tests.{eqb-true, le-ltb}
use Rattle.words.specs.BigEndian.{half_at, word_at, bytes_of}
use Rattle.words.specs.Codes.{first_of}
use Rattle.words.proofs.Order.{NoneDue, none_due}
use Rattle.words.proofs.Front.{Bytes}
use Rattle.words.proofs.Front.{front_words}
use Rattle.wire.specs.declared.table.Form.{Form}
use Rattle.wire.specs.declared.table.Layout.{Layout}
use Rattle.wire.specs.declared.table.Row.{Row}
use Rattle.std.specs.Prelude.{Option, Some, None}
use Rattle.wire.specs.declared.kinds.Kind.{Kind}
use Rattle.wire.specs.declared.kinds.Command.{Command}
use Rattle.wire.specs.declared.kinds.Parts.{Parts}
use Rattle.wire.specs.declared.decoding.Fields.{Fields}
use Rattle.wire.specs.Table.{row_of, rule_of}
use Rattle.wire.specs.Kind.{parts_with, parts_of, kind_of}
use Rattle.wire.specs.Judge.{plain, bad_in, part_checks, judge_code}
use Rattle.wire.specs.Read.{Answer, answer_for, fields_with, fields_of, opcode_of, flag_of, length_of, sum_of, third_word, parts_as, command_as, command_in}
use Rattle.wire.specs.Read.{form_in, decode_checks, reach_code, read_checks, read_code, read_of, span_of}
use Rattle.wire.specs.Write.{head_of, packed_of, closed, words_of, command_bytes}
use Rattle.wire.specs.Steps.{read_whole}
use Rattle.wire.proofs.Order.{read_order}
use Rattle.wire.proofs.Answers.{Reaches, reaches, sum_passed, length_passed, pad_passed}
use Rattle.wire.proofs.Local.{read_whole_lem, span_whole, reached}
use Rattle.wire.proofs.Front.{high_half, low_half, opcode_back, flag_back, length_back, head_made, closed-summed}
use Rattle.wire.proofs.Front.{sum_closed, closed_front}
use Rattle.wire.proofs.Sums.{word_back}
use Rattle.wire.proofs.Lengths.{few_words, length-closed}
use Rattle.wire.proofs.Layouts.{arg_words, length_packed, form_words, form_found, found_form, Within, fields_packed, packed_fields}
use Rattle.wire.proofs.Ranges.{in_range_parts, in_range_judge}

-- A command that a program can hold: each argument within its width, and a goal's are singles.
abbrev pub HeldKind : Kind → Type 0
HeldKind (Kind.ImgPwr mode) = mode < 256
HeldKind (Kind.ImgRegion x y) = (x < 65536) × (y < 65536)
HeldKind (Kind.ImgTrack time interval) = (time < 65536) × (interval < 65536)
HeldKind (Kind.TrkAlg mode) = mode < 256
HeldKind (Kind.TrkLoop mode) = mode < 256
HeldKind (Kind.ImgImage time interval) = (time < 65536) × (interval < 65536)
HeldKind (Kind.TrkGoal x y) = T (fits binary32 x) × T (fits binary32 y)
HeldKind Kind.TlmFlush = Unit
HeldKind (Kind.FlushAuto mode) = mode < 256
HeldKind (Kind.Open number) = number < 256
HeldKind Kind.Close = Unit
HeldKind (Kind.Run number) = number < 256
HeldKind (Kind.Wait seconds) = seconds < 65536
HeldKind Kind.Stop = Unit
HeldKind Kind.Clear = Unit

abbrev pub Held : Command → Type 0
Held c = HeldKind c.kind

-- The parts of such a kind fit the fields of its layout.
pub held_within : (k : Kind) → HeldKind k → Within (row_of (parts_of k).form).layout (parts_of k).first (parts_of k).second
held_within (Kind.ImgPwr mode) h = (h, refl)
held_within (Kind.ImgRegion x y) h = h
held_within (Kind.ImgTrack time interval) h = h
held_within (Kind.TrkAlg mode) h = (h, refl)
held_within (Kind.TrkLoop mode) h = (h, refl)
held_within (Kind.ImgImage time interval) h = h
held_within (Kind.TrkGoal x y) h = (ap (to_bits binary32) (of_bits-to_bits binary32 x h.0), ap (to_bits binary32) (of_bits-to_bits binary32 y h.1))
held_within Kind.TlmFlush h = (refl, refl)
held_within (Kind.FlushAuto mode) h = (h, refl)
held_within (Kind.Open number) h = (h, refl)
held_within Kind.Close h = (refl, refl)
held_within (Kind.Run number) h = (h, refl)
held_within (Kind.Wait seconds) h = (h, refl)
held_within Kind.Stop h = (refl, refl)
held_within Kind.Clear h = (refl, refl)

-- And put together they are that kind.
pub held_made : (k : Kind) → HeldKind k → kind_of (parts_of k).form (parts_of k).first (parts_of k).second ≡ k
held_made (Kind.ImgPwr mode) h = ap Kind.ImgPwr (mod-eq_of_lt h)
held_made (Kind.ImgRegion x y) h = rw (mod-eq_of_lt h.0, mod-eq_of_lt h.1)
held_made (Kind.ImgTrack time interval) h = rw (mod-eq_of_lt h.0, mod-eq_of_lt h.1)
held_made (Kind.TrkAlg mode) h = ap Kind.TrkAlg (mod-eq_of_lt h)
held_made (Kind.TrkLoop mode) h = ap Kind.TrkLoop (mod-eq_of_lt h)
held_made (Kind.ImgImage time interval) h = rw (mod-eq_of_lt h.0, mod-eq_of_lt h.1)
held_made (Kind.TrkGoal x y) h = rw (of_bits-to_bits binary32 x h.0, of_bits-to_bits binary32 y h.1)
held_made Kind.TlmFlush h = refl
held_made (Kind.FlushAuto mode) h = ap Kind.FlushAuto (mod-eq_of_lt h)
held_made (Kind.Open number) h = ap Kind.Open (mod-eq_of_lt h)
held_made Kind.Close h = refl
held_made (Kind.Run number) h = ap Kind.Run (mod-eq_of_lt h)
held_made (Kind.Wait seconds) h = ap Kind.Wait (mod-eq_of_lt h)
held_made Kind.Stop h = refl
held_made Kind.Clear h = refl

-- Every kind that is put together is one that a program can hold.
pub kind_held : (form : Form) (first second : ℕ) → HeldKind (kind_of form first second)
kind_held Form.ImgPwr first second = omega arith
kind_held Form.ImgRegion first second = (omega arith, omega arith)
kind_held Form.ImgTrack first second = (omega arith, omega arith)
kind_held Form.TrkAlg first second = omega arith
kind_held Form.TrkLoop first second = omega arith
kind_held Form.ImgImage first second = (omega arith, omega arith)
kind_held Form.TrkGoal first second = (of_bits-fits binary32 first, of_bits-fits binary32 second)
kind_held Form.TlmFlush first second = tt
kind_held Form.FlushAuto first second = omega arith
kind_held Form.Open first second = omega arith
kind_held Form.Close first second = tt
kind_held Form.Run first second = omega arith
kind_held Form.Wait first second = omega arith
kind_held Form.Stop first second = tt
kind_held Form.Clear first second = tt

-- The argument words that were written are those that the reader takes, where there are any.
arg_one : (w : ℕ) (ps us t : List ℕ) → get_or ps 0 (word_at (bytes_of (w ∷ (ps ++ us)) ++ t) 4) ≡ word_at (bytes_of (w ∷ (ps ++ us)) ++ t) 4
arg_one w [] us t = refl
arg_one w (p ∷ ps) us t = sym (word_back (w ∷ p ∷ (ps ++ us)) t 1 (omega arith))

arg_two : (w : ℕ) (ps us t : List ℕ) (n : ℕ) → n ≡ length ps + 2
    → get_or ps 1 (third_word (bytes_of (w ∷ (ps ++ us)) ++ t) n) ≡ third_word (bytes_of (w ∷ (ps ++ us)) ++ t) n
arg_two w [] us t n e = refl
arg_two w (p ∷ []) us t n e = refl
arg_two w (p ∷ q ∷ ps) us t n e = rw (le-ltb n 4 (omega arith)) (sym (word_back (w ∷ p ∷ q ∷ (ps ++ us)) t 2 (omega arith)))

-- The answer to a command by its parts, rows 8 to 10.
abbrev answer_by : Parts → Command → Answer
answer_by parts c = answer_for (first_of (part_checks c.flag parts)) parts c

abbrev command_with : Bool → Kind → Command
command_with flag kind = record { flag = flag; kind = kind }

-- Reading what was written.
module _ (c : Command) (t : List ℕ) where
  abbrev parts : Parts
  parts = parts_of c.kind

  abbrev row : Row
  row = row_of parts.form

  abbrev packed : List ℕ
  packed = packed_of row.layout parts.first parts.second

  abbrev head : ℕ
  head = head_of row.opcode c.flag row.words

  abbrev last : List ℕ
  last = sum_of (bytes_of (head ∷ packed)) (length (head ∷ packed)) ∷ []

  abbrev s : List ℕ
  s = command_bytes c ++ t

  s_is : s ≡ bytes_of (head ∷ (packed ++ last)) ++ t
  unfolding command_bytes
  s_is = ap (λ l. l ++ t) (closed-summed (head ∷ packed))

  long : row.words ≡ length packed + 2
  long = form_words parts.form ∙ ap (λ n. n + 2) (sym (length_packed row.layout parts.first parts.second))

  short : row.words ≤ 4
  short = omega (arith, form_words parts.form, few_words row.layout)

  opcode_is : opcode_of s ≡ row.opcode
  opcode_is =
      ap opcode_of s_is ∙ high_half head (packed ++ last) t ∙ opcode_back row.opcode c.flag row.words (omega (arith, short))

  half_is : half_at s 2 ≡ head % 65536
  half_is = ap (λ l. half_at l 2) s_is ∙ low_half head (packed ++ last) t

  flag_is : flag_of s ≡ c.flag
  flag_is = ap (leb 32768) half_is ∙ flag_back row.opcode c.flag row.words (omega (arith, short))

  length_is : length_of s ≡ row.words
  length_is = ap (λ half. half % 32768) half_is ∙ length_back row.opcode c.flag row.words (omega (arith, short))

  size : length (command_bytes c) ≡ row.words * 4
  unfolding command_bytes
  size = length-closed (head ∷ packed) ∙ omega (arith, long)

  whole : Reaches s
  whole =
      let bytes : length s ≡ row.words * 4 + length t = length-append (command_bytes c) t ∙ ap (λ n. n + length t) size in
      record {
        head = omega (arith, bytes, long);
        least = rw length_is (omega (arith, long));
        most = rw length_is (omega (arith, short));
        whole = rw length_is (omega (arith, bytes));
      }

  sum_is : sum_of s (row.words - 1) ≡ word_at s ((row.words - 1) * 4)
  unfolding command_bytes
  sum_is =
      let count : row.words - 1 ≡ length (head ∷ packed) = omega (arith, long) in
      rw count (sum_closed (head ∷ packed) t)

  abbrev one : ℕ
  one = word_at s 4

  abbrev two : ℕ
  two = third_word s row.words

  one_is : get_or packed 0 one ≡ one
  one_is = rw s_is (arg_one head packed last t)

  two_is : get_or packed 1 two ≡ two
  two_is = rw s_is (arg_two head packed last t row.words long)

  -- A command reaches as far as its bytes do, whatever follows them.
  pub span_back : span_of (command_bytes c ++ t) ≡ length (command_bytes c)
  span_back = span_whole s whole ∙ ap (λ n. n * 4) length_is ∙ sym size

  module _ (held : Held c) where
    fields_are : fields_of row.layout one two ≡ fields_with parts.first parts.second 0
    fields_are = rw (one_is, two_is) at (fields_packed row.layout parts.first parts.second one two (held_within c.kind held))

    command_is : command_as parts.form (flag_of s) one two ≡ c
    command_is =
        ap (λ f. command_with f (kind_of parts.form (fields_of row.layout one two).first (fields_of row.layout one two).second)) flag_is
        ∙ ap (λ (fields : Fields). command_with c.flag (kind_of parts.form fields.first fields.second)) fields_are
        ∙ ap (command_with c.flag) (held_made c.kind held)

    -- A command that a program can hold and that is allowed is read back from its bytes, whatever follows them.
    pub read_back : judge_code c ≡ 0 → read_of (command_bytes c ++ t) ≡ record { told = plain 0; taken = c ∷ [] }
    unfolding judge_code
    read_back allowed =
        read_whole_lem s whole
        ∙ ap (read_whole s) length_is
        ∙ sym (sum_passed s row.words (sum_of s (row.words - 1)) (word_at s ((row.words - 1) * 4)) refl refl
        (opcode_of s) (half_at s 2) one two refl refl refl refl sum_is refl)
        ∙ sym (length_passed (opcode_of s) (flag_of s) row.words one two parts.form row.words
        (sym (ap rule_of opcode_is ∙ form_found parts.form)) refl)
        ∙ pad_passed parts.form (flag_of s) one two row (fields_of row.layout one two) refl refl (ap (λ (fields : Fields). fields.pad) fields_are)
        ∙ ap (λ (d : Command). answer_by (parts_as parts.form one two) d) command_is
        ∙ ap (λ (fields : Fields). answer_by (parts_with parts.form fields.first fields.second) c) fields_are
        ∙ ap (λ code. answer_for code parts c) allowed

-- What an accepted reading passed: the form that it found, with its opcode and length, no pad, and arguments and flag that are allowed.
record Passed (s : List ℕ) : Type 0 where
  form : Form
  found : form_in (rule_of (opcode_of s)) ≡ form
  opcode : opcode_of s ≡ (row_of form).opcode
  words : length_of s ≡ (row_of form).words
  sum : sum_of s (length_of s - 1) ≡ word_at s ((length_of s - 1) * 4)
  no_pad : (fields_of (row_of form).layout (word_at s 4) (third_word s (length_of s))).pad ≡ 0
  in_range : bad_in (parts_as form (word_at s 4) (third_word s (length_of s))) ≡ 0
  judged : first_of (part_checks (flag_of s) (parts_as form (word_at s 4) (third_word s (length_of s)))) ≡ 0

alike : (a b : ℕ) → not (eqb a b) ≡ false → a ≡ b
alike a b e = go (eqb a b) refl e
  where
    go : (same : Bool) → eqb a b ≡ same → not same ≡ false → a ≡ b
    go true is e = eqb-true a b is
    go false is e = absurd (let z : ◌≡◌ {A = ℕ} 0 1 = cc in omega arith)

read_passed : (s : List ℕ) → read_code s ≡ 0 → Passed s
read_passed s read = go (rule_of (opcode_of s)) refl rows.1.1.1.1
  where
    rows : NoneDue (read_checks s)
    rows = (read_order s).accepted.0 read

    go : (found : Option (Form × ℕ)) → rule_of (opcode_of s) ≡ found → NoneDue (decode_checks found (flag_of s) (length_of s) (word_at s 4) (third_word s (length_of s)))
        → Passed s
    go None is none = absurd (let never = none.0 in let z : ◌≡◌ {A = ℕ} 0 1 = cc in omega arith)
    go (Some (form, n)) is none =
        let named = found_form (opcode_of s) form n is in
        record {
          form = form;
          found = ap form_in is;
          opcode = named.0;
          words = alike (length_of s) n none.1.0 ∙ named.1;
          sum = alike (sum_of s (length_of s - 1)) (word_at s ((length_of s - 1) * 4)) rows.1.1.1.0;
          no_pad = alike (fields_of (row_of form).layout (word_at s 4) (third_word s (length_of s))).pad 0 none.1.1.0;
          in_range = alike (bad_in (parts_as form (word_at s 4) (third_word s (length_of s)))) 0 none.1.1.1.0;
          judged = none_due (part_checks (flag_of s) (parts_as form (word_at s 4) (third_word s (length_of s)))) none.1.1.1;
        }

-- A command that was read is one that a program can hold.
pub read_held : (s : List ℕ) (words : ℕ) → Held (command_in s words)
read_held s words =
    let form = form_in (rule_of (opcode_of s)) in
    let fields = fields_of (row_of form).layout (word_at s 4) (third_word s words) in
    kind_held form fields.first fields.second

-- A command that was read without refusal is allowed.
pub read_allowed : (s : List ℕ) → read_code s ≡ 0 → judge_code (command_in s (length_of s)) ≡ 0
read_allowed s read =
    let p = read_passed s read in
    let parts = parts_as p.form (word_at s 4) (third_word s (length_of s)) in
    ap (λ form. judge_code (command_as form (flag_of s) (word_at s 4) (third_word s (length_of s)))) p.found
    ∙ in_range_judge p.form (flag_of s) parts.first parts.second p.in_range
    ∙ p.judged

-- Words that were read are below 2 ^ 32.
word_fits : (s : List ℕ) (i : ℕ) → Bytes s → word_at s i < 2 ^ 32
word_fits s i bytes = omega (arith, bytes i, bytes (i + 1), bytes (i + 2), bytes (i + 2 + 1))

-- The first word and the arguments' words are the words at the front but for the last.
front_args : (layout : Layout) (s : List ℕ) (words : ℕ) → words ≡ arg_words layout + 2
    → word_at s 0 ∷ take (arg_words layout) (word_at s 4 ∷ third_word s words ∷ []) ≡ front_words s (arg_words layout + 1)
front_args Layout.Bare s words e = refl
front_args Layout.Byte s words e = refl
front_args Layout.Half s words e = refl
front_args Layout.Halves s words e = refl
front_args Layout.Singles s words e = rw e

-- The words of a command, by its parts.
abbrev words_with : Bool → Parts → List ℕ
words_with flag parts =
    let row = row_of parts.form in
    head_of row.opcode flag row.words ∷ packed_of row.layout parts.first parts.second

-- Writing what was read.
module _ (s : List ℕ) (bytes : Bytes s) (read : read_code s ≡ 0) where
  abbrev p : Passed s
  p = read_passed s read

  abbrev found_row : Row
  found_row = row_of p.form

  abbrev third : ℕ
  third = third_word s (length_of s)

  abbrev fields : Fields
  fields = fields_of found_row.layout (word_at s 4) third

  abbrev command : Command
  command = command_as p.form (flag_of s) (word_at s 4) third

  parts_are : parts_of command.kind ≡ parts_with p.form fields.first fields.second
  parts_are = in_range_parts p.form fields.first fields.second p.in_range

  passes : reach_code s ≡ 0
  passes = reached s (λ e. omega arith) (λ e. omega arith) (λ e. omega arith)

  head_is : head_of found_row.opcode (flag_of s) found_row.words ≡ word_at s 0
  head_is = rw (← p.opcode, ← p.words) (head_made (half_at s 0) (half_at s 2) (omega (arith, bytes 2, bytes 3)))

  found_words : length_of s ≡ arg_words found_row.layout + 2
  found_words = p.words ∙ form_words p.form

  words_are : words_of command ≡ front_words s (arg_words found_row.layout + 1)
  words_are =
      ap (λ (parts : Parts). words_with (flag_of s) parts) parts_are
      ∙ ap (λ w. w ∷ packed_of found_row.layout fields.first fields.second) head_is
      ∙ ap (λ l. word_at s 0 ∷ l) (packed_fields found_row.layout (word_at s 4) third (word_fits s 4 bytes) p.no_pad)
      ∙ front_args found_row.layout s (length_of s) found_words

  -- A command that was read without refusal is written as the bytes that it was read from.
  pub written_back : command_bytes (command_in s (length_of s)) ≡ take (length_of s * 4) s
  unfolding command_bytes
  written_back =
      let n = arg_words found_row.layout + 1 in
      let before : length_of s - 1 ≡ n = omega (arith, found_words) in
      let all : suc n ≡ length_of s = omega (arith, found_words) in
      ap (λ form. command_bytes (command_as form (flag_of s) (word_at s 4) third)) p.found
      ∙ ap closed words_are
      ∙ closed_front s n bytes (rw all (reaches s passes).whole) (rw before at p.sum)
      ∙ ap (λ k. take (k * 4) s) all
