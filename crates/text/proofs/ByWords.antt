-- A line judged branch by branch, as the code does it, says what the checks on its words say.
use Prim.Native.Nat.{ℕ, suc, ◌+◌}
use mathlib.Core.Path.{◌≡◌, refl, sym, ap, ◌∙◌}
use mathlib.Core.List.{List, [], ◌∷◌}
use mathlib.Core.Bool.{Bool, true, false, cond, not, ◌||◌}
use native.Mathlib.Omega.{arith}
use lib.ListN.{length, get_or, drop}
use lib.Dec.{eqb}
use borrow.Author.Tests.{eq-eqb, ne_eqb, eqb-true, eqb-false}
use Rattle.words.specs.Codes.{◌when◌, first_of as first_due}
use Rattle.wire.specs.declared.table.Form.{Form}
use Rattle.wire.specs.Table.{row_of, arguments_of}
use Rattle.wire.specs.Kind.{parts_with, kind_of}
use Rattle.wire.specs.Judge.{told_for, part_checks}
use Rattle.wire.specs.Read.{Answer}
use Rattle.text.specs.Split.{space, words_of}
use Rattle.text.specs.Number.{is_malformed, value_of}
use Rattle.text.specs.Names.{form_named}
use Rattle.text.specs.Line.{first_of, second_of, first_in, second_in, line_checks, parts_in, form_in, command_in, typed_as, line_of}
use Rattle.text.specs.Steps.{count_of, run_of, front_of, behind_of, refused, read_line, known_line, named_line, typed_line, line_by}
use Rattle.text.proofs.Splitting.{words_next, words_count}
use Rattle.std.specs.Prelude.{Option, Some, None}

-- Where there is no mark, nothing stands behind one.
none_behind : (mark : ℕ) (s : List ℕ) → count_of mark s ≡ 0 → behind_of mark s ≡ []
unfolding count_of run_of
none_behind mark [] none = refl
none_behind mark (b ∷ s) none = go (eqb b mark) none (none_behind mark s)
  where
    go : (t : Bool) → cond t (suc (count_of mark s)) (count_of mark s) ≡ 0 → (count_of mark s ≡ 0 → behind_of mark s ≡ [])
        → drop (cond t 0 (suc (run_of mark s)) + 1) (b ∷ s) ≡ []
    go true none rest = absurd (omega arith)
    go false none rest =
        let next : suc (run_of mark s) + 1 ≡ suc (run_of mark s + 1) = omega arith in
        rw next (rest none)

-- The words of a line, as the code finds them: before the first space, behind it, and behind the second.
first_word : (s : List ℕ) → get_or (words_of s) 0 [] ≡ front_of space s
first_word s = ap (λ ws. get_or ws 0 []) (words_next s)

second_word : (s : List ℕ) → get_or (words_of s) 1 [] ≡ front_of space (behind_of space s)
unfolding run_of
second_word s = ap (λ ws. get_or ws 1 []) (words_next s) ∙ go (eqb (count_of space s) 0) refl
  where
    go : (t : Bool) → eqb (count_of space s) 0 ≡ t → get_or (cond t [] (words_of (behind_of space s))) 0 [] ≡ front_of space (behind_of space s)
    go true is = sym (ap (front_of space) (none_behind space s (eqb-true (count_of space s) 0 is)))
    go false is = first_word (behind_of space s)

third_word : (s : List ℕ) → get_or (words_of s) 2 [] ≡ front_of space (behind_of space (behind_of space s))
unfolding run_of
third_word s = ap (λ ws. get_or ws 2 []) (words_next s) ∙ go (eqb (count_of space s) 0) refl
  where
    go : (t : Bool) → eqb (count_of space s) 0 ≡ t
        → get_or (cond t [] (words_of (behind_of space s))) 1 [] ≡ front_of space (behind_of space (behind_of space s))
    go true is = sym (ap (λ l. front_of space (behind_of space l)) (none_behind space s (eqb-true (count_of space s) 0 is)))
    go false is = second_word (behind_of space s)

-- One word more than spaces: so the count is right by words where it is by spaces.
count_words : (s : List ℕ) (n : ℕ) → eqb (count_of space s) n ≡ eqb (length (words_of s)) (n + 1)
count_words s n = go (eqb (count_of space s) n) refl
  where
    go : (t : Bool) → eqb (count_of space s) n ≡ t → t ≡ eqb (length (words_of s)) (n + 1)
    go true is = sym (eq-eqb (length (words_of s)) (n + 1) (omega (arith, words_count s, eqb-true (count_of space s) n is)))
    go false is = sym (ne_eqb (length (words_of s)) (n + 1) (λ (e : length (words_of s) ≡ n + 1). eqb-false (count_of space s) n is (omega (arith, words_count s))))

-- Codes 32, 31 and 8 to 10, branch by branch and as a list of checks.
module _ (form : Form) (flag : Bool) where
  abbrev answered : Bool → Option ℕ → Option ℕ → Answer
  answered right x y =
      let parts = parts_with form (value_of x) (value_of y) in
      let code = first_due (32 when not right ∷ 31 when (is_malformed x || is_malformed y) ∷ part_checks flag parts) in
      record {
        told = told_for code parts;
        taken = cond (eqb code 0) (record { flag = flag; kind = kind_of form parts.first parts.second } ∷ []) [];
      }

  branches : (right : Bool) (x y : Option ℕ) → cond right (read_line form flag x y) (refused 32) ≡ answered right x y
  branches false x y = refl
  branches true None y = refl
  branches true (Some first) None = refl
  branches true (Some first) (Some second) = refl

  pub known_by : (body : List ℕ)
      → known_line form flag body
      ≡ answered (eqb (length (words_of body)) (arguments_of (row_of form).layout + 1)) (first_in form (words_of body)) (second_in form (words_of body))
  unfolding known_line
  known_by body =
      branches (eqb (count_of space body) (arguments_of (row_of form).layout))
      (first_of (row_of form).layout (front_of space (behind_of space body)))
      (second_of (row_of form).layout (front_of space (behind_of space (behind_of space body))))
      ∙ rw (count_words body (arguments_of (row_of form).layout), ← second_word body, ← third_word body)

-- The whole line.
abbrev answer_for : Option Form → Bool → List (List ℕ) → Answer
answer_for named flag words =
    let code = first_due (line_checks named flag words) in
    record {
      told = told_for code (parts_in (form_in named) words);
      taken = cond (eqb code 0) (command_in (form_in named) flag words ∷ []) [];
    }

named_by : (named : Option Form) (flag : Bool) (body : List ℕ) → named_line named flag body ≡ answer_for named flag (words_of body)
named_by None flag body = refl
named_by (Some form) flag body = known_by form flag body

pub typed_by : (flag : Bool) (body : List ℕ) → typed_line flag body ≡ typed_as flag (words_of body)
unfolding typed_line typed_as
typed_by flag body =
    named_by (form_named (front_of space body)) flag body
    ∙ ap (λ name. answer_for (form_named name) flag (words_of body)) (sym (first_word body))

pub line_by_lem : (s : List ℕ) → line_by s ≡ line_of s
unfolding line_by line_of
line_by_lem s = go (eqb (length s) 0) (eqb (get_or s 0 0) 35) (eqb (get_or s 0 0) 43)
  where
    go : (empty comment flag : Bool)
        → cond empty (refused 0) (cond comment (refused 0) (cond flag (typed_line true (drop 1 s)) (typed_line false s)))
        ≡ cond (empty || comment) (refused 0) (typed_as flag (words_of (cond flag (drop 1 s) s)))
    go true comment flag = refl
    go false true flag = refl
    go false false true = typed_by true (drop 1 s)
    go false false false = typed_by false s
