-- Laws of the store's soundness: an entry by its form, tests of all entries and of all macros, one after another, and spans that are told up to
-- 601 seconds and 65 entries.
use Prim.Native.Nat.{ℕ, ◌+◌, ◌%◌, ◌≤◌, ◌<◌, min}
use mathlib.Core.Path.{◌≡◌, refl, sym, ap, ◌∙◌}
use mathlib.Core.List.{List, [], ◌∷◌}
use mathlib.Core.Bool.{Bool, true, false, cond, not, ◌&&◌, ◌||◌, true≢false}
use native.Mathlib.Omega.{arith}
use native.Mathlib.Numerals.{add-one}
use lib.ListN.{length, get_or}
use lib.Dec.{leb, ltb, eqb}
use borrow.Author.Tests.{ltb-true, ltb-false, leb-true, leb-false, le-leb, lt-leb, eqb-true}
use Rattle.words.specs.Codes.{Check, ◌when◌, first_of}
use Rattle.wire.specs.declared.table.Form.{Form}
use Rattle.wire.specs.declared.table.Row.{Row}
use Rattle.wire.specs.declared.kinds.Kind.{Kind}
use Rattle.wire.specs.declared.kinds.Command.{Command}
use Rattle.wire.specs.Table.{row_of}
use Rattle.wire.specs.Kind.{kind_of}
use Rattle.wire.specs.Judge.{first_bad, flag_checks, row_checks}
use Rattle.wire.proofs.Ranges.{in_range_judge}
use Rattle.store.specs.declared.Store.{Store}
use Rattle.store.specs.declared.spans.Span.{Span}
use Rattle.store.specs.declared.tally.Tally.{Tally}
use Rattle.store.specs.Roles.{role_of, is_run, number_of}
use Rattle.store.specs.Words.{no_command}
use Rattle.store.specs.Pool.{is_closed, used_in, size_of, start_of, between}
use Rattle.store.specs.WrittenOut.{most_in, written_out}
use Rattle.store.specs.Checks.{row17, row18}
use Rattle.store.specs.SpanSteps.{no_span, leads, length_of, told_span, spans_to, TellsBelow}
use Rattle.store.specs.GroupSteps.{Clear, Due}
use Rattle.store.specs.Sound.{all_below, all_of, entry_holds, macro_holds, pool_holds, running_holds, store_sound}
use Rattle.store.specs.TallySteps.{store_of, span_by, form_holds, macro_by}
use Rattle.store.proofs.Walk.{entries_at}
use Rattle.store.proofs.SpanTable.{told_length, told_most}
use Rattle.store.proofs.Sound.{below_of, closed_of_lem, sound_of, mark_small}

-- Three tests, each told otherwise.
all_three : {a b c x y z : Bool} → a ≡ x → b ≡ y → c ≡ z → (x && y && z) ≡ (a && b && c)
all_three p q r = rw (p, q, r)

passed_true : (b : Bool) → b ≡ (b && true && true)
passed_true true = refl
passed_true false = refl

not-not : (b : Bool) → not (not b) ≡ b
not-not true = refl
not-not false = refl

-- An entry with flag 1 by its form and arguments: they pass 8 to 10, and for a RUN 17 and 18.
module _ (closed : List Bool) (m : ℕ) (first second : ℕ) where
  form_as : (form : Form)
      → let role = role_of (kind_of form first second) in
      (eqb (first_of (row_checks (row_of form) true first second)) 0 && not (row17 true role m) && not (row18 role closed))
      ≡ form_holds closed m form first second
  form_as form = go (eqb (first_bad (row_of form) first second) 0) refl
    where
      kind : Kind
      kind = kind_of form first second

      by_rows : Bool → List Check
      by_rows inside = 8 when not inside ∷ flag_checks (row_of form).flags true

      go : (inside : Bool) → eqb (first_bad (row_of form) first second) 0 ≡ inside
          → (eqb (first_of (by_rows inside)) 0 && not (row17 true (role_of kind) m) && not (row18 (role_of kind) closed))
          ≡ entry_holds closed m (cond inside (record { flag = true; kind = kind }) no_command)
      go true e =
          let judge = in_range_judge form true first second (eqb-true (first_bad (row_of form) first second) 0 e) in
          ap (λ code. eqb code 0 && not (row17 true (role_of kind) m) && not (row18 (role_of kind) closed))
          (sym (judge ∙ ap (λ inside. first_of (by_rows inside)) e))
      go false e = refl

  -- What the code asks of a form's row is asked by the form.
  passed_as : (f : Form) (row : Row) (passed : Bool) → row ≡ row_of f → passed ≡ eqb (first_of (row_checks row true first second)) 0
      → passed ≡ eqb (first_of (row_checks (row_of f) true first second)) 0
  passed_as f row passed is told = told ∙ ap (λ (r : Row). eqb (first_of (row_checks r true first second)) 0) is

  pub form_plain : (form f : Form) (row : Row) (passed : Bool) → form ≡ f → is_run (role_of (kind_of f first second)) ≡ false → row ≡ row_of f
      → passed ≡ eqb (first_of (row_checks row true first second)) 0
      → passed ≡ form_holds closed m form first second
  form_plain form f row passed same other is told =
      let role = role_of (kind_of f first second) in
      let upward = ap (λ run. not (run && leb m (number_of role))) other in
      let unclosed = ap (λ run. not (run && not (get_or closed (number_of role) false))) other in
      rw same (passed_true passed ∙ all_three (sym (passed_as f row passed is told)) upward unclosed ∙ form_as f)

  -- A RUN, whose target is the first argument's low byte.
  module _ (row : Row) (passed : Bool) (is : row ≡ row_of Form.Run) (told : passed ≡ eqb (first_of (row_checks row true first second)) 0) where
    run_passed : {b : Bool} → passed ≡ b → eqb (first_of (row_checks (row_of Form.Run) true first second)) 0 ≡ b
    run_passed e = sym (passed_as Form.Run row passed is told) ∙ e

    pub run_refused : passed ≡ false → false ≡ form_holds closed m Form.Run first second
    run_refused fails = all_three (run_passed fails) refl refl ∙ form_as Form.Run

    run_upward : passed ≡ true → m ≤ first % 256 → false ≡ form_holds closed m Form.Run first second
    run_upward holds above = all_three (run_passed holds) (ap not (le-leb m (first % 256) above)) refl ∙ form_as Form.Run

    run_closed : (shut : Bool) → passed ≡ true → first % 256 < m → shut ≡ get_or closed (first % 256) false
        → shut ≡ form_holds closed m Form.Run first second
    run_closed shut holds below marked =
        let mark = get_or closed (first % 256) false in
        all_three (run_passed holds) (ap not (lt-leb m (first % 256) below)) (not-not mark ∙ sym marked) ∙ form_as Form.Run

    pub run_leads : (led : Bool) → passed ≡ true → led ≡ leads closed m (first % 256) → led ≡ form_holds closed m Form.Run first second
    run_leads led holds is = go (ltb (first % 256) m) refl
      where
        go : (b : Bool) → ltb (first % 256) m ≡ b → led ≡ form_holds closed m Form.Run first second
        go true e = run_closed led holds (ltb-true (first % 256) m e) (is ∙ ap (λ below. below && get_or closed (first % 256) false) e)
        go false e =
            is ∙ ap (λ below. below && get_or closed (first % 256) false) e ∙ run_upward holds (ltb-false (first % 256) m e)

-- A test of all elements, one after another.
pub all_on : (test : Command → Bool) (e : Command) (es rest : List Command) → es ≡ e ∷ rest → test e ≡ true → all_of test es ≡ all_of test rest
unfolding all_of
all_on test e es rest from holds = rw (from, holds)

pub all_fail : (test : Command → Bool) (e : Command) (es rest : List Command) → es ≡ e ∷ rest → test e ≡ false → all_of test es ≡ false
unfolding all_of
all_fail test e es rest from fails = rw (from, fails)

pub all_end : (test : Command → Bool) (es : List Command) → es ≡ [] → all_of test es ≡ true
unfolding all_of
all_end test es none = rw none

-- A test of all numbers below n, one after another.
pub below_start : (test : ℕ → Bool) → all_below 0 test ≡ true
unfolding all_below
below_start test = refl

pub below_on : (test : ℕ → Bool) (n : ℕ) → all_below n test ≡ true → test n ≡ true → all_below (n + 1) test ≡ true
unfolding all_below
below_on test n all here = rw (add-one, all_below, all, here)

below_fail : (test : ℕ → Bool) (n k : ℕ) → k < n → test k ≡ false → all_below n test ≡ false
below_fail test n k h fails = go (all_below n test) refl
  where
    go : (t : Bool) → all_below n test ≡ t → all_below n test ≡ false
    go true e = absurd (true≢false (sym (below_of n test e k h) ∙ fails))
    go false e = e

-- A number that is told up to a cap passes a test against less than the cap as the number itself does.
same_leb : (a b x y : ℕ) → (a ≤ b → x ≤ y) → (x ≤ y → a ≤ b) → leb a b ≡ leb x y
same_leb a b x y there back = go (leb a b) (leb x y) refl refl
  where
    go : (t u : Bool) → leb a b ≡ t → leb x y ≡ u → t ≡ u
    go true true p q = refl
    go true false p q = absurd (omega (arith, there (leb-true a b p), leb-false x y q))
    go false true p q = absurd (omega (arith, back (leb-true x y q), leb-false a b p))
    go false false p q = refl

some_told : (told n : ℕ) → told ≡ min 601 n → leb 1 told ≡ leb 1 n
some_told told n is = same_leb 1 told 1 n (λ h. omega arith) (λ h. omega arith)

short_told : (told n : ℕ) → told ≡ min 601 n → leb told 600 ≡ leb n 600
short_told told n is = same_leb told 600 n 600 (λ h. omega arith) (λ h. omega arith)

few_told : (told n : ℕ) → told ≡ min 65 n → leb told 64 ≡ leb n 64
few_told told n is = same_leb told 64 n 64 (λ h. omega arith) (λ h. omega arith)

-- Macro m by a tally that has the spans: where its entries start and how many they are is as in the store.
pub macro_told : (ws : List ℕ) (t : Tally) (m start size : ℕ) (holds : Bool) → span_by t m ≡ told_span (store_of ws t) m
    → start ≡ start_of t.counts t.closed t.opened m → size ≡ size_of t.counts t.closed t.opened m
    → holds ≡ macro_by t m (between ws start size) → holds ≡ macro_holds (store_of ws t) m
macro_told ws t m start size holds told starts sized judged =
    let s = store_of ws t in
    let l = length (written_out s m) in
    let seconds : length_of (span_by t m) ≡ min 601 l = ap length_of told ∙ told_length s m in
    let most : (span_by t m).most ≡ min 65 (most_in (written_out s m)) = ap (λ (a : Span). a.most) told ∙ told_most s m in
    judged
    ∙ rw (
      entries_at s m start size starts sized,
      some_told (length_of (span_by t m)) l seconds,
      short_told (length_of (span_by t m)) l seconds,
      few_told (span_by t m).most (most_in (written_out s m)) most,
    )

-- Where every macro holds, the running one's seconds are told as they are.
whole_told : (told n : ℕ) → told ≡ min 601 n → n ≤ 600 → told ≡ n
whole_told told n is fits = omega arith

pub running_told : (s : Store) (table : List Span) (holds : Bool) → length s.closed ≡ 8
    → TellsBelow s 8 table
    → all_below 8 (macro_holds s) ≡ true
    → holds ≡ (eqb s.running 255 || (is_closed s s.running && leb 1 s.left && leb s.left (length_of (get_or table s.running no_span))))
    → holds ≡ running_holds s
running_told s table holds marks tells all judged = judged ∙ go (is_closed s s.running) refl
  where
    go : (t : Bool) → is_closed s s.running ≡ t
        → (eqb s.running 255 || (t && leb 1 s.left && leb s.left (length_of (get_or table s.running no_span))))
        ≡ (eqb s.running 255 || (t && leb 1 s.left && leb s.left (length (written_out s s.running))))
    go false shut = refl
    go true shut =
        let m = s.running in
        let number : m < 8 = mark_small s.closed m marks shut in
        let fits = (closed_of_lem s m (rw shut at (below_of 8 (macro_holds s) all m number))).ends in
        let told = ap length_of (tells m number) ∙ told_length s m in
        rw (whole_told (length_of (get_or table m no_span)) (length (written_out s m)) told fits)

-- The whole store by what the code finds: too many entries, a macro that does not hold, or neither.
module _ (s : Store) where
  pub sound_full : (used : ℕ) → used ≡ used_in s → 192 < used → false ≡ store_sound s
  unfolding store_sound
  sound_full used is over = rw (lt-leb (used_in s) 192 (omega arith))

  pub sound_fails : (m : ℕ) → m < 8 → macro_holds s m ≡ false → false ≡ store_sound s
  unfolding store_sound
  sound_fails m small fails = rw (below_fail (macro_holds s) 8 m small fails) (go (pool_holds s))
    where
      go : (b : Bool) → false ≡ (b && false && running_holds s)
      go true = refl
      go false = refl

  pub sound_by_running : (used : ℕ) (running : Bool) → used ≡ used_in s → used ≤ 192 → all_below 8 (macro_holds s) ≡ true → running ≡ running_holds s
      → running ≡ store_sound s
  unfolding store_sound
  sound_by_running used running is fits all told = rw (le-leb (used_in s) 192 (omega arith), all) told

-- So the macro that a sound store runs is one of the eight, its seconds are told whole, and none of them has more than 64 entries.
pub running_due : (s : Store) (table : List Span) → length s.closed ≡ 8 → store_sound s ≡ true → (s.running ≡ 255 → ⊥) → table ≡ spans_to s 8
    → Clear s → Due s s.running table
running_due s table marks sound busy is clear =
    let judged = sound_of s sound in
    let closed = (judged.running busy).closed in
    let number = mark_small s.closed s.running marks closed in
    let fits = judged.closed s.running number closed in
    record { number = number; whole = fits.ends; few = fits.few; told = is; clear = clear }
