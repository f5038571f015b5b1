-- A line, from what the code holds at each of its ends.
use Prim.Native.Nat.{ℕ, zero, suc, ◌+◌, ◌*◌, ◌-◌, ◌^◌, ◌≤◌, ◌<◌}
use mathlib.Core.Path.{◌≡◌, refl, sym, ap, ◌∙◌}
use mathlib.Core.List.{List, [], ◌∷◌}
use mathlib.Core.Bool.{Bool, true, false, cond, ◌&&◌}
use native.Mathlib.Omega.{arith}
use native.Mathlib.Nat.{pow-suc, mul-le-mul_right, mul-le-mul_left, mul_assoc, mul_comm, one-le-pow, le_trans, le_of_eq, lt_of_lt_of_le}
use lib.ListN.{length, take, drop, get_or, length-drop, drop_of_length-le}
use lib.Seq.{take_all, length-take-le}
use lib.Dec.{eqb, leb, ltb}
use borrow.Author.Tests.{eq-eqb, ne_eqb, eqb-true, leb-true}
use Rattle.words.specs.Text.{value_from}
use Rattle.wire.specs.declared.table.Form.{Form}
use Rattle.wire.specs.declared.table.Layout.{Layout}
use Rattle.wire.specs.declared.table.Row.{Row}
use Rattle.wire.specs.declared.kinds.Kind.{Kind}
use Rattle.wire.specs.declared.judging.Refusal.{Refusal}
use Rattle.wire.specs.declared.judging.Told.{Told}
use Rattle.wire.specs.Kind.{kind_of}
use Rattle.wire.specs.Judge.{plain, told_of, judged_by}
use Rattle.wire.specs.Read.{Answer}
use Rattle.wire.proofs.Answers.{refusal_code}
use Rattle.wire.specs.Table.{row_of, arguments_of}
use Rattle.text.specs.Line.{as_bits, goal_of, first_of, second_of}
use Rattle.text.specs.Names.{form_named}
use Rattle.text.specs.Number.{digits_in, fraction_of, quarters_with, quarters_of}
use Rattle.text.specs.Split.{space}
use Rattle.text.specs.Steps.{run_of, count_of, up_to_three, front_of, behind_of, refused, judged_line, read_line, known_line, named_line, typed_line, line_by}
use Rattle.text.proofs.Digits.{fraction_small}
use Rattle.text.proofs.Marks.{run_within, up_to_three_lem}
use Rattle.std.specs.Prelude.{Option, Some, None}

-- A part that starts somewhere, as the code lends it.
pub part_all : (s : List ℕ) (k n : ℕ) → k ≡ n → take (length s - k) (drop k s) ≡ drop n s
part_all s k n e = take_all (length s - k) (drop k s) (simp length-drop (omega arith)) ∙ ap (λ i. drop i s) e

pub part_none : (s : List ℕ) (at : ℕ) → length s ≤ at → take (length s - length s) (drop (length s) s) ≡ drop (at + 1) s
part_none s at end =
    part_all s (length s) (length s) refl ∙ drop_of_length-le s {i = length s} (omega arith) ∙ sym (drop_of_length-le s {i = at + 1} (omega arith))

-- Five digits say less than 100,000, and a goal less than 400,000 quarters.
few_digits : (read most : ℕ) → read < (read + 1) * 10 ^ most
few_digits read most =
    let least : (read + 1) * 1 ≤ (read + 1) * 10 ^ most = mul-le-mul_left (read + 1) (one-le-pow most 10 (omega arith)) in
    lt_of_lt_of_le (omega arith) least

next_digit : (read d most : ℕ) → d ≤ 9 → (read * 10 + d + 1) * 10 ^ most ≤ (read + 1) * 10 ^ suc most
next_digit read d most small =
    let more : read * 10 + d + 1 ≤ (read + 1) * 10 = omega arith in
    le_trans (mul-le-mul_right (10 ^ most) more)
    (le_of_eq (mul_assoc (read + 1) 10 (10 ^ most) ∙ ap (λ n. (read + 1) * n) (mul_comm 10 (10 ^ most) ∙ sym (pow-suc 10 most))))

some_digits : (most read : ℕ) (s : List ℕ) → value_from read (take (digits_in most s) s) < (read + 1) * 10 ^ most
unfolding digits_in
some_digits zero read s = few_digits read 0
some_digits (suc most) read [] = few_digits read (suc most)
some_digits (suc most) read (b ∷ s) = go (leb 48 b) (leb b 57) refl refl (some_digits most (read * 10 + (b - 48)) s)
  where
    go : (p q : Bool) → leb 48 b ≡ p → leb b 57 ≡ q
        → value_from (read * 10 + (b - 48)) (take (digits_in most s) s) < (read * 10 + (b - 48) + 1) * 10 ^ most
        → value_from read (take (cond (p && q) (suc (digits_in most s)) 0) (b ∷ s)) < (read + 1) * 10 ^ suc most
    go true true l h rest =
        let high : b ≤ 57 = leb-true b 57 h in
        lt_of_lt_of_le rest (next_digit read (b - 48) most (omega arith))
    go true false l h rest = few_digits read (suc most)
    go false q l h rest = few_digits read (suc most)

pub five_digits : (s : List ℕ) → value_from 0 (take (digits_in 5 s) s) < 100000
five_digits s = some_digits 5 0 s

pub quarters_small : (s : List ℕ) (q : ℕ) → quarters_of s ≡ Some q → q < 400000
unfolding quarters_of
quarters_small s q e = go (ltb 0 (digits_in 5 s)) (fraction_of (drop (digits_in 5 s) s)) refl e
  where
    go : (b : Bool) (f : Option ℕ) → fraction_of (drop (digits_in 5 s) s) ≡ f
        → cond b (quarters_with (value_from 0 (take (digits_in 5 s) s)) f) None ≡ Some q → q < 400000
    go true (Some n) is e =
        let sum : value_from 0 (take (digits_in 5 s) s) * 4 + n ≡ q = cc in
        omega (arith, fraction_small (drop (digits_in 5 s) s) n is, five_digits s)
    go true None is e = absurd (let z : ◌≡◌ {A = ℕ} 0 1 = cc in omega arith)
    go false f is e = absurd (let z : ◌≡◌ {A = ℕ} 0 1 = cc in omega arith)

-- The two ends of a goal's reader.
pub as_bits_lem : (s : List ℕ) (r : Option ℕ) → r ≡ quarters_of s → as_bits r ≡ goal_of s
as_bits_lem s r e = ap as_bits e

-- The judge's two ends.
module _ (form : Form) (flag : Bool) (first second : ℕ) (row : Row) (is_row : row ≡ row_of form) where
  pub then_refused : (r : Refusal) → told_of r ≡ judged_by row flag first second
      → record { told = told_of r; taken = [] } ≡ judged_line form flag first second
  then_refused r e =
      let told : told_of r ≡ judged_by (row_of form) flag first second = rw is_row at e in
      let late : eqb (judged_by (row_of form) flag first second).code 0 ≡ false = rw (ap (λ (t : Told). t.code) told) at (refusal_code r) in
      rw (told, late)

  pub then_allowed : (kind : Kind) → kind ≡ kind_of form first second → plain 0 ≡ judged_by row flag first second
      → record { told = plain 0; taken = record { flag = flag; kind = kind } ∷ [] } ≡ judged_line form flag first second
  then_allowed kind made e =
      let told : plain 0 ≡ judged_by (row_of form) flag first second = rw is_row at e in
      rw made
      (ap
      (λ (t : Told). record { told = t; taken = cond (eqb t.code 0) (record { flag = flag; kind = kind_of form first second } ∷ []) [] })
      told)

-- No form has more than two arguments.
few_arguments : (layout : Layout) → arguments_of layout ≤ 2
few_arguments Layout.Bare = omega arith
few_arguments Layout.Byte = omega arith
few_arguments Layout.Half = omega arith
few_arguments Layout.Halves = omega arith
few_arguments Layout.Singles = omega arith

-- A line whose name is known.
module _ (form : Form) (flag : Bool) (body : List ℕ) (row : Row) (count arguments : ℕ)
    (is_row : row ≡ row_of form) (is_count : count ≡ count_of space body) (is_arguments : arguments ≡ arguments_of row.layout) where
  same_test : eqb count arguments ≡ eqb (count_of space body) (arguments_of (row_of form).layout)
  same_test = rw (is_count, is_arguments, is_row)

  pub wrong_count : (count ≡ arguments → ⊥) → refused 32 ≡ known_line form flag body
  unfolding known_line
  wrong_count h = rw (← same_test, ne_eqb count arguments h)

  module _ (right : count ≡ arguments) (behind part behind' part' : List ℕ) (is_behind : behind ≡ behind_of space body) (is_part : part ≡ front_of space behind)
      (is_behind' : behind' ≡ behind_of space behind) (is_part' : part' ≡ front_of space behind') where
    pub right_count : (first second : Option ℕ) → first ≡ first_of row.layout part → second ≡ second_of row.layout part'
        → read_line form flag first second ≡ known_line form flag body
    unfolding known_line
    right_count first second is_first is_second =
        rw (← same_test, eq-eqb count arguments right) (rw (is_first, is_second, is_part', is_part, is_behind', is_behind, is_row))

-- The same, as the code takes the line apart from the front: what stands behind the name and behind the first argument, and the spaces by where these parts end.
front_length : (s part : List ℕ) → part ≡ front_of space s → length part ≡ run_of space s
front_length s part is = ap length is ∙ length-take-le (run_of space s) s (run_within space s)

module _ (form : Form) (flag : Bool) (body : List ℕ) (row : Row) (name : ℕ) (rest one others two : List ℕ) (spaces arguments : ℕ)
    (is_row : row ≡ row_of form) (is_name : name ≡ run_of space body) (is_rest : rest ≡ drop (name + 1) body) (is_one : one ≡ front_of space rest)
    (is_others : others ≡ drop (length one + 1) rest) (is_two : two ≡ front_of space others)
    (is_spaces : spaces ≡ up_to_three (ltb name (length body)) (ltb (length one) (length rest)) (ltb (length two) (length others)))
    (is_arguments : arguments ≡ arguments_of row.layout) where
  rest_behind : rest ≡ behind_of space body
  rest_behind = is_rest ∙ ap (λ k. drop (k + 1) body) is_name

  others_behind : others ≡ behind_of space rest
  others_behind = is_others ∙ ap (λ k. drop (k + 1) rest) (front_length rest one is_one)

  by_spaces : eqb spaces arguments ≡ eqb (count_of space body) arguments
  by_spaces =
      let first : ltb (run_of space body) (length body) ≡ ltb name (length body) = rw is_name in
      let second : ltb (run_of space (behind_of space body)) (length (behind_of space body)) ≡ ltb (length one) (length rest) =
      rw (front_length rest one is_one, rest_behind) in
      let third : ltb (run_of space (behind_of space (behind_of space body))) (length (behind_of space (behind_of space body))) ≡ ltb (length two) (length others) =
      rw (front_length others two is_two, others_behind, rest_behind) in
      rw (is_spaces, is_arguments) (up_to_three_lem space body _ _ _ first second third (arguments_of row.layout) (few_arguments row.layout))

  pub wrong_spaces : (spaces ≡ arguments → ⊥) → refused 32 ≡ known_line form flag body
  wrong_spaces h =
      wrong_count form flag body row (count_of space body) arguments is_row refl is_arguments
      (λ (e : count_of space body ≡ arguments). h (eqb-true spaces arguments (by_spaces ∙ eq-eqb (count_of space body) arguments e)))

  pub right_spaces : spaces ≡ arguments → (first second : Option ℕ) → first ≡ first_of row.layout one → second ≡ second_of row.layout two
      → read_line form flag first second ≡ known_line form flag body
  right_spaces right =
      right_count form flag body row (count_of space body) arguments is_row refl is_arguments
      (eqb-true (count_of space body) arguments (sym by_spaces ∙ eq-eqb spaces arguments right)) rest one others two rest_behind is_one others_behind is_two

-- A line behind its `+`.
pub by_name : (flag : Bool) (body part : List ℕ) (n : Option Form) → part ≡ front_of space body → n ≡ form_named part → named_line n flag body ≡ typed_line flag body
unfolding typed_line
by_name flag body part n is_part is = ap (λ m. named_line m flag body) (is ∙ ap form_named is_part)

-- A line's four ends.
module _ (s : List ℕ) where
  pub empty_line : length s ≡ 0 → record { told = plain 0; taken = [] } ≡ line_by s
  unfolding line_by
  empty_line h = rw (eq-eqb (length s) 0 h)

  module _ (some : (length s ≡ 0 → ⊥)) where
    pub comment_line : get_or s 0 0 ≡ 35 → record { told = plain 0; taken = [] } ≡ line_by s
    unfolding line_by
    comment_line h = rw (ne_eqb (length s) 0 some, eq-eqb (get_or s 0 0) 35 h)

    pub plus_line : (get_or s 0 0 ≡ 35 → ⊥) → get_or s 0 0 ≡ 43 → (a : Answer) → a ≡ typed_line true (take (length s - 1) (drop 1 s)) → a ≡ line_by s
    unfolding line_by
    plus_line h k a e = e ∙ ap (typed_line true) (part_all s 1 1 refl) ∙ rw (ne_eqb (length s) 0 some, ne_eqb (get_or s 0 0) 35 h, eq-eqb (get_or s 0 0) 43 k)

    pub bare_line : (get_or s 0 0 ≡ 35 → ⊥) → (get_or s 0 0 ≡ 43 → ⊥) → (a : Answer) → a ≡ typed_line false s → a ≡ line_by s
    unfolding line_by
    bare_line h k a e = e ∙ rw (ne_eqb (length s) 0 some, ne_eqb (get_or s 0 0) 35 h, ne_eqb (get_or s 0 0) 43 k)
