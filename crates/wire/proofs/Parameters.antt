-- What is said of an argument out of range, of every answer that has a code (01, row 8; 02, Q-6): the parameter is 1 or 2 exactly with code 8 and
-- names the first bad argument; the value is that argument, the limits are those of its row of the table, and it lies outside them. With every other
-- code all four are 0. Code 8 comes exactly where some argument is out of range and no row before 8 is due.
use Prim.Native.Nat.{ℕ, zero, suc, ◌*◌, ◌<◌}
use mathlib.Core.Path.{◌≡◌, refl, sym, ap, ◌∙◌}
use mathlib.Core.Logic.{◌↔◌, ◌≢◌, ◌⊎◌, inl, inr, ⊎_elim}
use mathlib.Core.List.{List, [], ◌∷◌, ◌++◌}
use mathlib.Core.Bool.{Bool, true, false, cond, not, ◌&&◌, ◌||◌, false≢true}
use native.Mathlib.Omega.{arith}
use lib.ListN.{length, take}
use lib.Dec.{eqb, leb, ltb}
use borrow.Author.Tests.{eqb-true, eqb-false, ne_eqb, leb-false, not-true}
use Rattle.words.specs.BigEndian.{word_at, has_room}
use Rattle.words.specs.Codes.{Check, ◌when◌, first_of}
use Rattle.words.proofs.Tests.{neither}
use Rattle.words.proofs.Order.{row_at, NoneDue, FirstAt, lacks, apart, first_at, lacks_on, code_lacked, at_first}
use Rattle.wire.specs.declared.table.Layout.{Layout}
use Rattle.wire.specs.declared.table.Form.{Form}
use Rattle.std.specs.Prelude.{Option, Some, None}
use Rattle.wire.specs.declared.kinds.Command.{Command}
use Rattle.wire.specs.declared.kinds.Parts.{Parts}
use Rattle.wire.specs.declared.judging.Stray.{Stray}
use Rattle.wire.specs.declared.judging.Told.{Told}
use Rattle.wire.specs.Table.{row_of, rule_of}
use Rattle.wire.specs.Kind.{parts_of}
use Rattle.wire.specs.Judge.{stray_with, no_stray, told_with, plain, minus_zero, in_limits, bad_in, stray_in, part_checks, told_for, arg_checks, judge_code, judged}
use Rattle.wire.specs.Read.{opcode_of, flag_of, length_of, third_word, sum_differs, parts_as, decode_checks, form_in, said_parts}
use Rattle.wire.specs.Read.{reach_checks, read_checks, read_code, read_of}
use Rattle.wire.specs.Write.{command_bytes, write_checks, wrote_at}

-- Is the first of two numbers in range by the row of their form, and is the second? (An argument that a command does not have is.)
abbrev pub first_in_range : Parts → Bool
first_in_range parts =
    let row = row_of parts.form in
    in_limits row.layout row.low1 row.high1 parts.first

abbrev pub second_in_range : Parts → Bool
second_in_range parts =
    let row = row_of parts.form in
    in_limits row.layout row.low2 row.high2 parts.second

-- Some argument is out of range.
abbrev pub SomeOut : Parts → Type 0
SomeOut parts = (first_in_range parts ≡ false) ⊎ (second_in_range parts ≡ false)

-- A value outside its limits: below the lowest or above the highest, and no minus zero that its layout allows.
pub record Outside (layout : Layout) (low high value : ℕ) : Type 0 where
  pub beyond : (value < low) ⊎ (high < value)
  pub no_minus_zero : minus_zero layout value ≡ false

beyond_limits : (low high value : ℕ) → (leb low value && leb value high) ≡ false → (value < low) ⊎ (high < value)
beyond_limits low high value e = go (leb low value) (leb value high) refl refl e
  where
    go : (a b : Bool) → leb low value ≡ a → leb value high ≡ b → (a && b) ≡ false → (value < low) ⊎ (high < value)
    go false b is at e = inl (leb-false low value is)
    go true false is at e = inr (leb-false value high at)
    go true true is at e = absurd (false≢true (sym e))

pub outside : (layout : Layout) (low high value : ℕ) → in_limits layout low high value ≡ false → Outside layout low high value
outside layout low high value e =
    let tests = neither (minus_zero layout value) (leb low value && leb value high) e in
    record { beyond = beyond_limits low high value tests.1; no_minus_zero = tests.0 }

-- A goal's value outside its limits, which begin at 0: above the highest, and not minus zero.
pub goal_outside : (high bits : ℕ) → Outside Layout.Singles 0 high bits → (high < bits) × (bits ≢ 0x80000000)
goal_outside high bits out = (⊎_elim (λ below. absurd (omega arith)) (λ above. above) out.beyond, eqb-false bits 0x80000000 out.no_minus_zero)

-- What is told of a value by its row of the table.
pub record Tells (layout : Layout) (low high value : ℕ) (stray : Stray) : Type 0 where
  pub value_told : stray.value ≡ value
  pub low_told : stray.low ≡ low
  pub high_told : stray.high ≡ high
  pub out : Outside layout low high value

-- What is told of a form and two numbers.
pub record Parameter (parts : Parts) (t : Told) : Type 0 where
  -- The parameter is 1 or 2 exactly with code 8; parameter, value and limits are 0 with every other.
  pub with_8 : (t.code ≡ 8) ↔ ((t.stray.par ≡ 1) ⊎ (t.stray.par ≡ 2))
  pub else_0 : t.code ≢ 8 → t.stray ≡ no_stray
  -- It is 1 only where the first number is out of range, and 2 only where the second is and the first is not; that number is the value, and the limits
  -- are its own.
  pub one : t.stray.par ≡ 1
      → let row = row_of parts.form in
      Tells row.layout row.low1 row.high1 parts.first t.stray
  pub two : t.stray.par ≡ 2
      → let row = row_of parts.form in
      (first_in_range parts ≡ true) × Tells row.layout row.low2 row.high2 parts.second t.stray

-- The same without the limits, as a record of a report has it: a code, a parameter and a value.
pub record Recorded (parts : Parts) (code par value : ℕ) : Type 0 where
  pub with_8 : (code ≡ 8) ↔ ((par ≡ 1) ⊎ (par ≡ 2))
  pub else_0 : code ≢ 8 → (par ≡ 0) × (value ≡ 0)
  pub one : par ≡ 1
      → let row = row_of parts.form in
      (value ≡ parts.first) × Outside row.layout row.low1 row.high1 parts.first
  pub two : par ≡ 2
      → let row = row_of parts.form in
      (first_in_range parts ≡ true) × ((value ≡ parts.second) × Outside row.layout row.low2 row.high2 parts.second)

pub recorded : (parts : Parts) (t : Told) → Parameter parts t → Recorded parts t.code t.stray.par t.stray.value
recorded parts t p =
    record {
      with_8 = p.with_8;
      else_0 = λ other. (ap (λ (stray : Stray). stray.par) (p.else_0 other), ap (λ (stray : Stray). stray.value) (p.else_0 other));
      one = λ e. ((p.one e).value_told, (p.one e).out);
      two = λ e. ((p.two e).0, ((p.two e).1.value_told, (p.two e).1.out));
    }

-- With code 8 the first bad one is told; with any other code nothing is.
module _ (parts : Parts) where
  abbrev told8 : Bool → Bool → Told
  told8 first second =
      let row = row_of parts.form in
      told_with 8
      (cond first (cond second no_stray (stray_with 2 parts.second row.low2 row.high2))
      (stray_with 1 parts.first row.low1 row.high1))

  by_tests : (first second : Bool) → first_in_range parts ≡ first → second_in_range parts ≡ second → told_for 8 parts ≡ told8 first second
  by_tests true true a b = rw (a, b)
  by_tests true false a b = rw (a, b)
  by_tests false second a b = rw a

  bad_first : (t : Told) → first_in_range parts ≡ false → t ≡ told8 false true → Parameter parts t
  bad_first t out e =
      let row = row_of parts.form in
      rw e (record {
        with_8 = (λ e. inl refl, λ p. refl);
        else_0 = λ other. absurd (other refl);
        one = λ e. record {
          value_told = refl;
          low_told = refl;
          high_told = refl;
          out = outside row.layout row.low1 row.high1 parts.first out;
        };
        two = λ e. absurd (omega arith);
      })

  bad_second : (t : Told) → first_in_range parts ≡ true → second_in_range parts ≡ false → t ≡ told8 true false → Parameter parts t
  bad_second t fine out e =
      let row = row_of parts.form in
      rw e (record {
        with_8 = (λ e. inr refl, λ p. refl);
        else_0 = λ other. absurd (other refl);
        one = λ e. absurd (omega arith);
        two = λ e. (
          fine,
          record {
            value_told = refl;
            low_told = refl;
            high_told = refl;
            out = outside row.layout row.low2 row.high2 parts.second out;
          },
        );
      })

  with_eight : bad_in parts ≢ 0 → Parameter parts (told_for 8 parts)
  with_eight bad = go (first_in_range parts) (second_in_range parts) refl refl
    where
      go : (first second : Bool) → first_in_range parts ≡ first → second_in_range parts ≡ second → Parameter parts (told_for 8 parts)
      go true true a b = absurd (bad (rw (a, b)))
      go true false a b = bad_second (told_for 8 parts) a b (by_tests true false a b)
      go false second a b = bad_first (told_for 8 parts) a (by_tests false second a b)

  with_other : (code : ℕ) → code ≢ 8 → Parameter parts (plain code)
  with_other code other =
      record {
        with_8 = (λ e. absurd (other e), ⊎_elim (λ e. absurd (omega arith)) (λ e. absurd (omega arith)));
        else_0 = λ e. refl;
        one = λ e. absurd (omega arith);
        two = λ e. absurd (omega arith);
      }

  told_says : (code : ℕ) → (code ≡ 8 → bad_in parts ≢ 0) → Parameter parts (told_for code parts)
  told_says code bad = go (eqb code 8) refl
    where
      go : (b : Bool) → eqb code 8 ≡ b → Parameter parts (told_with code (cond b (stray_in parts) no_stray))
      go true is =
          let eight = eqb-true code 8 is in
          rw eight (with_eight (bad eight))
      go false is = with_other code (eqb-false code 8 is)

-- A list of checks in which row 8, wherever it stands, asks whether one of two numbers is out of range.
abbrev pub RangeRow : Parts → List Check → Type 0
RangeRow parts [] = Unit
RangeRow parts (row ∷ rows) = (row.code ≡ 8 → row.due ≡ not (eqb (bad_in parts) 0)) × RangeRow parts rows

-- Where such a list gives 8, an argument is bad.
eight_bad : (parts : Parts) (rows : List Check) → RangeRow parts rows → first_of rows ≡ 8 → bad_in parts ≢ 0
eight_bad parts [] h e = absurd (omega arith)
eight_bad parts (row ∷ rows) h e = go row.due refl e (λ later. eight_bad parts rows h.1 later)
  where
    go : (due : Bool) → row.due ≡ due → cond due row.code (first_of rows) ≡ 8 → (first_of rows ≡ 8 → bad_in parts ≢ 0) → bad_in parts ≢ 0
    go true is same more =
        let ranged : not (eqb (bad_in parts) 0) ≡ true = sym (h.0 same) ∙ is in
        eqb-false (bad_in parts) 0 (not-true (eqb (bad_in parts) 0) ranged)
    go false is same more = more same

-- The law: of any such list, the code that it gives and what is told of the two numbers.
pub parameter : (parts : Parts) (rows : List Check) → RangeRow parts rows → Parameter parts (told_for (first_of rows) parts)
parameter parts rows h = told_says parts (first_of rows) (eight_bad parts rows h)

-- Row 8 is due where some argument is out of range, and only there.
due_out : (parts : Parts) → (not (eqb (bad_in parts) 0) ≡ true) ↔ SomeOut parts
due_out parts = go (first_in_range parts) (second_in_range parts) refl refl
  where
    go : (first second : Bool) → first_in_range parts ≡ first → second_in_range parts ≡ second → (not (eqb (bad_in parts) 0) ≡ true) ↔ SomeOut parts
    go true true a b =
        (λ e. absurd (false≢true (rw (a, b) at e)), ⊎_elim (λ e. absurd (false≢true (sym e ∙ a))) (λ e. absurd (false≢true (sym e ∙ b))))
    go true false a b = (λ e. inr b, λ e. rw (a, b))
    go false second a b = (λ e. inl a, λ e. rw a)

row_at_lem : (parts : Parts) (rows : List Check) (k : ℕ) → RangeRow parts rows → (row_at rows k).code ≡ 8 → (row_at rows k).due ≡ not (eqb (bad_in parts) 0)
row_at_lem parts [] zero h e = absurd (omega arith)
row_at_lem parts [] (suc k) h e = absurd (omega arith)
row_at_lem parts (row ∷ rows) zero h e = h.0 e
row_at_lem parts (row ∷ rows) (suc k) h e = row_at_lem parts rows k h.1 e

-- And code 8 is given exactly where it is and no row before it is due.
pub eight : (parts : Parts) (rows : List Check) (k : ℕ) → RangeRow parts rows → apart rows ≡ true → k < length rows → (row_at rows k).code ≡ 8
    → (first_of rows ≡ 8) ↔ (NoneDue (take k rows) × SomeOut parts)
eight parts rows k h r less is = (
  λ e. let first : FirstAt rows k = at_first rows k r less (e ∙ sym is) in
      (first.before, (due_out parts).0 (sym (row_at_lem parts rows k h is) ∙ first.due)),
  λ d. first_at rows k (record { before = d.0; due = row_at_lem parts rows k h is ∙ (due_out parts).1 d.1 }) ∙ is,
)

-- Lists of checks that these hold of: rows 8 to 10, rows 1 to 10, any without a row 8, and one such list after another.
pub range_parts : (flag : Bool) (parts : Parts) → RangeRow parts (part_checks flag parts)
range_parts flag parts = (λ e. refl, (λ e. absurd (omega arith), (λ e. absurd (omega arith), tt)))

pub range_args : (c : Command) → RangeRow (parts_of c.kind) (arg_checks c)
range_args c = range_parts c.flag (parts_of c.kind)

pub range_none : (parts : Parts) (rows : List Check) → lacks 8 rows ≡ true → RangeRow parts rows
range_none parts [] h = tt
range_none parts (row ∷ rows) h =
    let on = lacks_on 8 row rows h in
    (λ e. absurd (on.0 e), range_none parts rows on.1)

-- A list without a row 8 tells of no number.
pub other_told : (parts : Parts) (rows : List Check) → lacks 8 rows ≡ true → told_for (first_of rows) parts ≡ plain (first_of rows)
other_told parts rows h = rw (ne_eqb (first_of rows) 8 (code_lacked 8 rows h (λ e. omega arith)))

pub range_append : (parts : Parts) (front rows : List Check) → RangeRow parts front → RangeRow parts rows → RangeRow parts (front ++ rows)
range_append parts [] rows h k = k
range_append parts (row ∷ front) rows h k = (h.0, range_append parts front rows h.1 k)

-- Rows 1 to 10 by what was found for the opcode.
module _ (s : List ℕ) where
  abbrev found_parts : Option (Form × ℕ) → Parts
  found_parts found = parts_as (form_in found) (word_at s 4) (third_word s (length_of s))

  abbrev found_checks : Option (Form × ℕ) → List Check
  found_checks found =
      reach_checks s ++ (4 when sum_differs s (length_of s) ∷ decode_checks found (flag_of s) (length_of s) (word_at s 4) (third_word s (length_of s)))

  range_found : (found : Option (Form × ℕ)) → RangeRow (found_parts found) (found_checks found)
  range_found None = range_none (found_parts None) (found_checks None) refl
  range_found (Some (form, n)) =
      let found = Some (form, n) in
      let front = take 7 (found_checks found) in
      range_append (found_parts found) front (part_checks (flag_of s) (found_parts found)) (range_none (found_parts found) front refl)
      (range_parts (flag_of s) (found_parts found))

  pub range_read : RangeRow (said_parts s) (read_checks s)
  range_read = range_found (rule_of (opcode_of s))

-- `judge`.
pub judge_parameter : (c : Command) → Parameter (parts_of c.kind) (judged c)
unfolding judge_code
judge_parameter c = parameter (parts_of c.kind) (arg_checks c) (range_args c)

pub judge_eight : (c : Command) → (judge_code c ≡ 8) ↔ SomeOut (parts_of c.kind)
unfolding judge_code
judge_eight c =
    let at = eight (parts_of c.kind) (arg_checks c) 0 (range_args c) refl (omega arith) refl in
    (λ e. (at.0 e).1, λ out. at.1 (tt, out))

-- `read_command`: of the numbers that the bytes say.
pub read_parameter : (s : List ℕ) → Parameter (said_parts s) (read_of s).told
unfolding read_of read_code
read_parameter s = parameter (said_parts s) (read_checks s) (range_read s)

-- Rows 1 to 7 stand before row 8, where the opcode is known; where it is not, row 5 is due.
pub read_eight : (s : List ℕ) → (read_code s ≡ 8) ↔ (NoneDue (take 7 (read_checks s)) × SomeOut (said_parts s))
unfolding read_code
read_eight s = go (rule_of (opcode_of s))
  where
    never : (few out cut sum : Bool) → first_of (1 when few ∷ 2 when out ∷ 3 when cut ∷ 4 when sum ∷ 5 when true ∷ []) ≡ 8 → ⊥
    never true out cut sum e = omega arith
    never false true cut sum e = omega arith
    never false false true sum e = omega arith
    never false false false true e = omega arith
    never false false false false e = omega arith

    go : (found : Option (Form × ℕ)) → (first_of (found_checks s found) ≡ 8) ↔ (NoneDue (take 7 (found_checks s found)) × SomeOut (found_parts s found))
    go (Some (form, n)) =
        let found = Some (form, n) in
        eight (found_parts s found) (found_checks s found) 7 (range_found s found) refl (omega arith) refl
    go None = (
      λ e. absurd (never (ltb (length s) 8) (ltb (length_of s) 2 || ltb 32 (length_of s)) (ltb (length s) (length_of s * 4)) (sum_differs s (length_of s)) e),
      λ d. absurd (false≢true (sym d.0.1.1.1.1.0)),
    )

-- `write_command`.
pub write_parameter : (c : Command) (room : List ℕ) → Parameter (parts_of c.kind) (wrote_at c room).told
unfolding wrote_at
write_parameter c room =
    let parts = parts_of c.kind in
    let last = 24 when not (has_room (command_bytes c) room) ∷ [] in
    parameter parts (write_checks c room) (range_append parts (arg_checks c) last (range_args c) (range_none parts last refl))
