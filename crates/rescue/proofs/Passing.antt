-- Which commands pass: those of which no row of 1 to 8 is due. And what the reader's answer says of it.
use Prim.Native.Nat.{ℕ, ◌≤◌, ◌<◌}
use mathlib.Core.Path.{◌≡◌, refl, sym, ap, ◌∙◌}
use mathlib.Core.Logic.{◌↔◌}
use mathlib.Core.List.{List, [], ◌∷◌, ◌++◌}
use mathlib.Core.Bool.{Bool, true, false, cond, not, ◌&&◌, false≢true}
use native.Mathlib.Omega.{arith}
use lib.ListN.{length, take, drop}
use lib.Seq.{length-take-le}
use borrow.Author.Tests.{not-true}
use Rattle.words.specs.BigEndian.{word_at}
use Rattle.words.specs.Codes.{Check, ◌when◌, first_of}
use Rattle.words.proofs.Order.{NoneDue}
use Rattle.words.proofs.Tests.{both}
use Rattle.wire.specs.declared.table.Form.{Form}
use Rattle.std.specs.Prelude.{Option, Some, None}
use Rattle.wire.specs.declared.table.FlagRule.{FlagRule}
use Rattle.wire.specs.declared.kinds.Command.{Command}
use Rattle.wire.specs.declared.judging.Refusal.{Refusal}
use Rattle.std.specs.Prelude.{Ok, Err}
use Rattle.wire.specs.Table.{row_of, rule_of}
use Rattle.wire.specs.Judge.{told_of, flag_checks}
use Rattle.wire.specs.Read.{Answer, answer_of, opcode_of, flag_of, length_of, third_word, sum_differs}
use Rattle.wire.specs.Read.{reach_checks, reach_code, decode_checks, read_checks, read_code, read_of, span_of}
use Rattle.wire.proofs.Answers.{reaches}
use Rattle.wire.proofs.Local.{reached, reads_on, read_own, span_own}
use Rattle.walk.proofs.Spans.{span_passed}
use Rattle.rescue.specs.Pieces.{passes, passing}

-- Rows whose codes do not pass.
abbrev hinder : List Check → Bool
hinder [] = true
hinder (c ∷ cs) = not (passes c.code) && hinder cs

-- Where the first code that is due passes, none of such rows in front is due.
none_before : (xs ys : List Check) → hinder xs ≡ true → passes (first_of (xs ++ ys)) ≡ true → NoneDue xs
none_before [] ys bad pass = tt
none_before (x ∷ xs) ys bad pass = go x.due refl pass (none_before xs ys parts.1)
  where
    parts : (not (passes x.code) ≡ true) × (hinder xs ≡ true)
    parts = both (not (passes x.code)) (hinder xs) bad

    go : (due : Bool) → x.due ≡ due → passes (cond due x.code (first_of (xs ++ ys))) ≡ true → (passes (first_of (xs ++ ys)) ≡ true → NoneDue xs)
        → (x.due ≡ false) × NoneDue xs
    go true is own rest = absurd (false≢true (sym (not-true (passes x.code) parts.0) ∙ own))
    go false is own rest = (is, rest own)

-- Where none of some rows is due, those behind them decide; and codes 9 and 10 pass.
none_first : (xs ys : List Check) → NoneDue xs → first_of (xs ++ ys) ≡ first_of ys
none_first [] ys none = refl
none_first (x ∷ xs) ys none = rw none.0 (none_first xs ys none.1)

flags_pass : (rule : FlagRule) (flag : Bool) → passes (first_of (flag_checks rule flag)) ≡ true
flags_pass FlagRule.Either flag = refl
flags_pass FlagRule.Never true = refl
flags_pass FlagRule.Never false = refl
flags_pass FlagRule.Always true = refl
flags_pass FlagRule.Always false = refl

-- "passes checks 1 to 8": a command passes exactly when none of these rows is due. They are the first eight of the rows that reading tries; where the
-- opcode is not in the table, rows 1 to 5 are all there are, and 5 is due.
pub passing_checks : (s : List ℕ) → (passing s ≡ true) ↔ NoneDue (take 8 (read_checks s))
unfolding passing read_code
passing_checks s = go (rule_of (opcode_of s))
  where
    rows : Option (Form × ℕ) → List Check
    rows found =
        reach_checks s ++ (4 when sum_differs s (length_of s) ∷ decode_checks found (flag_of s) (length_of s) (word_at s 4) (third_word s (length_of s)))

    go : (found : Option (Form × ℕ)) → (passes (first_of (rows found)) ≡ true) ↔ NoneDue (take 8 (rows found))
    go (Some (form, words)) =
        let first = take 8 (rows (Some (form, words))) in
        let flags = drop 8 (rows (Some (form, words))) in
        (none_before first flags refl, λ none. ap passes (none_first first flags none) ∙ flags_pass (row_of form).flags (flag_of s))
    go None = (none_before (rows None) [] refl, λ none. absurd (false≢true (sym none.1.1.1.1.0)))

-- So a command that passes is whole: it reaches no further than the bytes do, and has eight of them at least.
pub passing_reaches : (s : List ℕ) → passing s ≡ true → reach_code s ≡ 0
unfolding passing
passing_reaches s is = reached s (λ e. false≢true (rw e at is)) (λ e. false≢true (rw e at is)) (λ e. false≢true (rw e at is))

pub passing_eight : (s : List ℕ) → passing s ≡ true → (8 ≤ span_of s) × (span_of s ≤ length s)
passing_eight s is =
    let whole = passing_reaches s is in
    let r = reaches s whole in
    let long = span_passed s whole in
    (omega arith, omega arith)

-- Nor has it more than 32 words: what reaches further does not pass.
pub none_longer : (s : List ℕ) → 128 < span_of s → false ≡ passing s
none_longer s long = go (passing s) refl
  where
    go : (b : Bool) → passing s ≡ b → false ≡ b
    go false is = refl
    go true is =
        let whole = passing_reaches s is in
        let r = reaches s whole in
        let own = span_passed s whole in
        absurd (omega arith)

-- What a reading answers says whether the command passes.
module _ (s : List ℕ) where
  pub read_code_lem : passes (read_of s).told.code ≡ passing s
  unfolding passing read_of
  read_code_lem = refl

  pub taken_passes : (c : Command) → answer_of (Ok c) ≡ read_of s → true ≡ passing s
  taken_passes c e = ap (λ (a : Answer). passes a.told.code) e ∙ read_code_lem

  pub refused_passes : (r : Refusal) → answer_of (Err r) ≡ read_of s → passes (told_of r).code ≡ passing s
  refused_passes r e = ap (λ (a : Answer). passes a.told.code) e ∙ read_code_lem

-- It passes whatever follows it.
pub passing_on : (s t : List ℕ) → passing s ≡ true → passing (s ++ t) ≡ true
passing_on s t is =
    sym (read_code_lem (s ++ t)) ∙ rw (reads_on s t (reaches s (passing_reaches s is))) (read_code_lem s ∙ is)

-- A command by itself that passes, and takes all its bytes.
pub record Whole (bs : List ℕ) : Type 0 where
  pub passes : passing bs ≡ true
  pub own : span_of bs ≡ length bs

-- A command that passes does so by itself too.
pub alone : (s : List ℕ) → passing s ≡ true → Whole (take (span_of s) s)
unfolding passing
alone s is =
    let whole = passing_reaches s is in
    let span = span_passed s whole in
    record {
      passes = sym (read_code_lem (take (span_of s) s)) ∙ rw (span, read_own s whole) (read_code_lem s ∙ is);
      own = ap (λ n. span_of (take n s)) span ∙ span_own s whole ∙ sym (length-take-le (span_of s) s (passing_eight s is).1);
    }
