-- From one step of the reader to the answer of the whole: a refusal is an answer whose code is not 0, and each row that passes leaves the rows
-- behind it.
use Prim.Native.Nat.{ℕ, ◌*◌, ◌-◌, ◌≤◌}
use mathlib.Core.Path.{◌≡◌, refl, sym, ap, ◌∙◌}
use mathlib.Core.List.{List, [], ◌∷◌}
use mathlib.Core.Bool.{Bool, true, false, cond, not, ◌||◌}
use native.Mathlib.Omega.{arith}
use lib.ListN.{length}
use lib.Dec.{eqb, leb, ltb}
use borrow.Author.Tests.{eq-eqb, ne_eqb, ltb-false}
use Rattle.words.specs.BigEndian.{half_at, word_at}
use Rattle.words.specs.Codes.{Check, ◌when◌, first_of}
use Rattle.words.proofs.Tests.{neither}
use Rattle.words.proofs.Order.{due_none}
use Rattle.wire.specs.declared.table.Form.{Form}
use Rattle.wire.specs.declared.table.Row.{Row}
use Rattle.std.specs.Prelude.{Option, Some, None}
use Rattle.wire.specs.declared.kinds.Kind.{Kind}
use Rattle.wire.specs.declared.kinds.Command.{Command}
use Rattle.wire.specs.declared.kinds.Parts.{Parts}
use Rattle.wire.specs.declared.judging.Refusal.{Refusal}
use Rattle.wire.specs.declared.judging.Told.{Told}
use Rattle.std.specs.Prelude.{Ok, Err}
use Rattle.wire.specs.declared.decoding.Fields.{Fields}
use Rattle.wire.specs.Table.{row_of, rule_of}
use Rattle.wire.specs.Kind.{kind_of}
use Rattle.wire.specs.Judge.{plain, told_of, told_judged, judged_by, part_checks, told_for}
use Rattle.wire.specs.Read.{Answer, answer_of, answer_for, fields_of, parts_as, command_as, form_checks, decode_checks, form_in, opcode_of, length_of, sum_of}
use Rattle.wire.specs.Read.{third_word, said_parts, said, reach_code, reach_checks, whole_checks, read_code, read_of, span_of}
use Rattle.wire.specs.Steps.{decoded_as, decoded, read_whole, Reached, reach_of, reach_at}

-- The answer of a refusal.
abbrev pub refused_by : Told → Answer
refused_by told = record { told = told; taken = [] }

-- No refusal has code 0.
pub refusal_code : (r : Refusal) → eqb (told_of r).code 0 ≡ false
refusal_code Refusal.TooFewBytes = refl
refusal_code Refusal.LengthOutOfBounds = refl
refusal_code Refusal.CutOff = refl
refusal_code Refusal.SumDiffers = refl
refusal_code Refusal.UnknownOpcode = refl
refusal_code Refusal.WrongLength = refl
refusal_code Refusal.PadNotZero = refl
refusal_code (Refusal.OutOfRange stray) = refl
refusal_code Refusal.FlagForbidden = refl
refusal_code Refusal.FlagMissing = refl
refusal_code Refusal.NoRoom = refl

-- What was told of a command is the answer to it: a refusal hands over nothing, and acceptance hands the command over.
pub refused : (r : Refusal) (code : ℕ) (parts : Parts) (c : Command) → told_of r ≡ told_for code parts
    → refused_by (told_of r) ≡ answer_for code parts c
refused r code parts c e =
    let other : eqb code 0 ≡ false = rw (ap (λ (t : Told). t.code) e) at (refusal_code r) in
    rw (e, other)

pub allowed : (code : ℕ) (parts : Parts) (c : Command) → plain 0 ≡ told_for code parts
    → record { told = plain 0; taken = c ∷ [] } ≡ answer_for code parts c
allowed code parts c e = rw (← ap (λ (t : Told). t.code) e)

-- Rows 7 to 10, from what the code holds: the row of the form, the fields by its layout, the judgement on them and the kind made of them.
module _ (form : Form) (flag : Bool) (one two : ℕ) (row : Row) (fields : Fields)
    (is_row : row ≡ row_of form) (are_fields : fields ≡ fields_of row.layout one two) where
  abbrev parts : Parts
  parts = parts_as form one two

  abbrev code : ℕ
  code = first_of (part_checks flag parts)

  same_fields : fields ≡ fields_of (row_of form).layout one two
  same_fields = are_fields ∙ ap (λ (r : Row). fields_of r.layout one two) is_row

  pub pad_refused : (fields.pad ≡ 0 → ⊥) → refused_by (plain 7) ≡ decoded_as form flag one two
  unfolding decoded_as
  pad_refused h = rw (← same_fields) (simp (ne_eqb fields.pad 0 h))

  pub pad_passed : fields.pad ≡ 0
      → decoded_as form flag one two
      ≡ answer_for (first_of (part_checks flag (parts_as form one two))) (parts_as form one two) (command_as form flag one two)
  unfolding decoded_as
  pad_passed h =
      let none : eqb (fields_of (row_of form).layout one two).pad 0 ≡ true = rw (← same_fields) (eq-eqb fields.pad 0 h) in
      simp none

  same_judged : judged_by row flag fields.first fields.second ≡ told_for code parts
  same_judged = rw (is_row, same_fields)

  pub then_allowed : fields.pad ≡ 0 → (kind : Kind) → kind ≡ kind_of form fields.first fields.second
      → told_judged (Ok tt) ≡ judged_by row flag fields.first fields.second
      → answer_of (Ok (record { flag = flag; kind = kind })) ≡ decoded_as form flag one two
  then_allowed no_pad kind made e =
      let same : record { flag = flag; kind = kind } ≡ command_as form flag one two = rw (made, same_fields) in
      rw same (allowed code parts (command_as form flag one two) (e ∙ same_judged)) ∙ sym (pad_passed no_pad)

  pub then_refused : fields.pad ≡ 0 → (r : Refusal) → told_judged (Err r) ≡ judged_by row flag fields.first fields.second
      → answer_of (Err r) ≡ decoded_as form flag one two
  then_refused no_pad r e = refused r code parts (command_as form flag one two) (e ∙ same_judged) ∙ sym (pad_passed no_pad)

-- Rows 5 and 6, from what was found for the opcode.
module _ (opcode : ℕ) (flag : Bool) (words one two : ℕ) where
  abbrev from_found : Option (Form × ℕ) → Answer
  from_found found =
      let form = form_in found in
      answer_for (first_of (decode_checks found flag words one two)) (parts_as form one two) (command_as form flag one two)

  from_found_lem : (found : Option (Form × ℕ)) → found ≡ rule_of opcode → from_found found ≡ decoded opcode flag words one two
  unfolding decoded
  from_found_lem found e = ap from_found e

  pub unknown_refused : None ≡ rule_of opcode → refused_by (plain 5) ≡ decoded opcode flag words one two
  unknown_refused e = from_found_lem None e

  sized : (same : Bool) (form : Form)
      → cond same (decoded_as form flag one two) (refused_by (plain 6))
      ≡ answer_for (first_of (6 when not same ∷ form_checks form flag one two)) (parts_as form one two) (command_as form flag one two)
  unfolding decoded_as
  sized true form = refl
  sized false form = refl

  pub known_decoded : (form : Form) (n : ℕ) → Some (form, n) ≡ rule_of opcode
      → cond (eqb words n) (decoded_as form flag one two) (refused_by (plain 6)) ≡ decoded opcode flag words one two
  known_decoded form n e = sized (eqb words n) form ∙ from_found_lem (Some (form, n)) e

  pub length_passed : (form : Form) (n : ℕ) → Some (form, n) ≡ rule_of opcode → words ≡ n
      → decoded_as form flag one two ≡ decoded opcode flag words one two
  length_passed form n e h = simp (eq-eqb words n h) at (known_decoded form n e)

-- Row 4, from what the code holds: the sum, the last word, and the head and the arguments of the command.
module _ (s : List ℕ) (words sum last : ℕ) (is_sum : sum ≡ sum_of s (words - 1)) (is_last : last ≡ word_at s ((words - 1) * 4)) where
  pub sum_refused : (sum ≡ last → ⊥) → refused_by (plain 4) ≡ read_whole s words
  unfolding read_whole
  sum_refused h = rw (← is_sum, ← is_last) (simp (ne_eqb sum last h))

  pub sum_passed : (opcode half one two : ℕ) → opcode ≡ opcode_of s → half ≡ half_at s 2 → one ≡ word_at s 4 → two ≡ third_word s words
      → sum ≡ last → {a : Answer} → a ≡ decoded opcode (leb 32768 half) words one two → a ≡ read_whole s words
  unfolding read_whole decoded
  sum_passed opcode half one two is_opcode is_half is_one is_two h e =
      let same : eqb (sum_of s (words - 1)) (word_at s ((words - 1) * 4)) ≡ true = eq-eqb _ _ (sym is_sum ∙ h ∙ is_last) in
      e ∙ rw (is_opcode, is_half, is_one, is_two) (simp same)

-- Rows 1 to 3. Where none is due, a whole command stands at the front.
pub record Reaches (s : List ℕ) : Type 0 where
  pub head : 8 ≤ length s
  pub least : 2 ≤ length_of s
  pub most : length_of s ≤ 32
  pub whole : length_of s * 4 ≤ length s

pub reaches : (s : List ℕ) → reach_code s ≡ 0 → Reaches s
reaches s e =
    let passed = due_none (reach_checks s) refl e in
    let bounds = neither (ltb (length_of s) 2) (ltb 32 (length_of s)) passed.1.0 in
    record {
      head = ltb-false (length s) 8 passed.0;
      least = ltb-false (length_of s) 2 bounds.0;
      most = ltb-false 32 (length_of s) bounds.1;
      whole = ltb-false (length s) (length_of s * 4) passed.1.1.0;
    }

-- One of rows 1 to 3 is the whole answer; where none is due, rows 4 to 10 are.
ends : (few out cut : Bool) (rest : List Check) (parts : Parts) (c : Command)
    → eqb (first_of (1 when few ∷ 2 when out ∷ 3 when cut ∷ [])) 0 ≡ false
    → refused_by (plain (first_of (1 when few ∷ 2 when out ∷ 3 when cut ∷ [])))
    ≡ answer_for (first_of (1 when few ∷ 2 when out ∷ 3 when cut ∷ rest)) parts c
ends true out cut rest parts c h = refl
ends false true cut rest parts c h = refl
ends false false true rest parts c h = refl
ends false false false rest parts c h = absurd (let z : ◌≡◌ {A = ℕ} 0 1 = cc in omega arith)

pub goes : (s : List ℕ) → reach_code s ≡ 0 → read_code s ≡ first_of (whole_checks s (length_of s))
unfolding read_code
goes s e =
    let passed = due_none (reach_checks s) refl e in
    simp (passed.0, passed.1.0, passed.1.1.0)

-- What the code holds of the reach, for the reader and for the span.
module _ (s : List ℕ) where
  ends_code : (r : Refusal) → reach_of (Err r) ≡ reach_at s → (told_of r ≡ plain (reach_code s)) × (eqb (reach_code s) 0 ≡ false)
  unfolding reach_at
  ends_code r e =
      let same : told_of r ≡ plain (reach_code s) = ap (λ (a : Reached). a.told) e in
      (same, rw (ap (λ (t : Told). t.code) same) at (refusal_code r))

  pub goes_code : (n : ℕ) → reach_of (Ok n) ≡ reach_at s → (reach_code s ≡ 0) × (n ≡ length_of s)
  unfolding reach_at
  goes_code n e =
      let zero : reach_code s ≡ 0 = sym (ap (λ (a : Reached). a.told.code) e) in
      (zero, simp (eq-eqb (reach_code s) 0 zero) at (ap (λ (a : Reached). a.words) e))

  pub read_ends : (r : Refusal) → reach_of (Err r) ≡ reach_at s → refused_by (told_of r) ≡ read_of s
  unfolding read_of
  read_ends r e =
      let code = ends_code r e in
      ap refused_by code.0
      ∙ ends (ltb (length s) 8) (ltb (length_of s) 2 || ltb 32 (length_of s)) (ltb (length s) (length_of s * 4)) (whole_checks s (length_of s))
      (said_parts s) (said s) code.1

  pub read_goes : (n : ℕ) → reach_of (Ok n) ≡ reach_at s → read_whole s n ≡ read_of s
  unfolding read_of read_whole
  read_goes n e =
      let at = goes_code n e in
      rw (at.1, goes s at.0)

  pub goes_within : (n : ℕ) → reach_of (Ok n) ≡ reach_at s → (2 ≤ n) × (n ≤ 32)
  goes_within n e =
      let at = goes_code n e in
      let far = reaches s at.0 in
      omega (arith, at.1)

  pub span_ends : (r : Refusal) → reach_of (Err r) ≡ reach_at s → length s ≡ span_of s
  unfolding span_of
  span_ends r e = rw (ends_code r e).1

  pub span_goes : (n : ℕ) → reach_of (Ok n) ≡ reach_at s → n * 4 ≡ span_of s
  unfolding span_of
  span_goes n e = rw (eq-eqb (reach_code s) 0 (goes_code n e).0, (goes_code n e).1)
