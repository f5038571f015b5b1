-- What the last records of a report say: of one record, of a step back from the last, of a report that goes on, and which one is the last that failed.
use Prim.Native.Nat.{ℕ, zero, suc, ◌+◌, ◌*◌, ◌-◌, ◌/◌, ◌≤◌, ◌<◌}
use mathlib.Core.Path.{◌≡◌, refl, sym, ap, ◌∙◌}
use mathlib.Core.Logic.{◌≢◌}
use mathlib.Core.List.{List, ◌++◌}
use mathlib.Core.Bool.{Bool, true, false, cond}
use native.Mathlib.Omega.{arith}
use lib.ListN.{length}
use lib.Dec.{eqb}
use borrow.Author.Tests.{eq-eqb, ne_eqb, eqb-true, eqb-false}
use Rattle.words.specs.BigEndian.{byte_at, word_at}
use Rattle.words.proofs.Laws.{byte_past, byte_on, word_on}
use Rattle.report.specs.Record.{record_length}
use Rattle.report.specs.Latest.{number_in, code_in, last_failed, latest_of}

-- Record n from 1 on stands behind n - 1 others.
behind : (k : ℕ) → suc k - 1 ≡ k
behind k = omega arith

pub number_placed : (report : List ℕ) (n : ℕ) → n ≢ 0 → word_at report ((n - 1) * record_length + 4) ≡ number_in report n
number_placed report zero some = absurd (some refl)
number_placed report (suc k) some = ap (λ j. word_at report (j * record_length + 4)) (behind k)

pub code_placed : (report : List ℕ) (n : ℕ) → n ≢ 0 → byte_at report ((n - 1) * record_length + 1) ≡ code_in report n
code_placed report zero some = absurd (some refl)
code_placed report (suc k) some = ap (λ j. byte_at report (j * record_length + 1)) (behind k)

-- The last of so many records is the last failed one where its code is not 0; otherwise the ones before it have to be asked.
pub failed_here : (report : List ℕ) (n : ℕ) → code_in report n ≢ 0 → last_failed report n ≡ n
failed_here report zero fails = refl
failed_here report (suc k) fails = rw (ne_eqb (code_in report (suc k)) 0 fails)

pub failed_before : (report : List ℕ) (n : ℕ) → n ≢ 0 → code_in report n ≡ 0 → last_failed report n ≡ last_failed report (n - 1)
failed_before report zero some passes = absurd (some refl)
failed_before report (suc k) some passes = rw (eq-eqb (code_in report (suc k)) 0 passes) (ap (last_failed report) (sym (behind k)))

-- It is one of them.
pub failed_within : (report : List ℕ) (n : ℕ) → last_failed report n ≤ n
failed_within report zero = omega arith
failed_within report (suc k) = go (eqb (code_in report (suc k)) 0) (failed_within report k)
  where
    go : (passes : Bool) → last_failed report k ≤ k → cond passes (last_failed report k) (suc k) ≤ suc k
    go true within = omega arith
    go false within = omega arith

-- Records that lie whole in a report say the same where the report goes on.
module _ (report more : List ℕ) where
  number_on : (n : ℕ) → n * record_length ≤ length report → number_in (report ++ more) n ≡ number_in report n
  number_on zero within = refl
  number_on (suc k) within = word_on report more (k * record_length + 4) (omega arith)

  code_on : (n : ℕ) → n * record_length ≤ length report → code_in (report ++ more) n ≡ code_in report n
  code_on zero within = refl
  code_on (suc k) within = byte_on report more (k * record_length + 1) (omega arith)

  failed_on : (n : ℕ) → n * record_length ≤ length report → last_failed (report ++ more) n ≡ last_failed report n
  failed_on zero within = refl
  failed_on (suc k) within = rw (code_on (suc k) within, failed_on k (omega arith))

  pub latest_on : (n : ℕ) → n * record_length ≤ length report → latest_of (report ++ more) n ≡ latest_of report n
  unfolding latest_of
  latest_on n within =
      let failed : last_failed report n * record_length ≤ length report = omega (arith, failed_within report n) in
      rw (failed_on n within, number_on n within, number_on (last_failed report n) failed, code_on (last_failed report n) failed)

-- The last failed record is the one at place k, from 0, where that one failed and none behind it did; and where none failed, it is none.
pub failed_at : (report : List ℕ) (n k : ℕ) → k < n → code_in report (suc k) ≢ 0 → ((j : ℕ) → k < j → j < n → code_in report (suc j) ≡ 0)
    → last_failed report n ≡ suc k
failed_at report zero k within fails later = absurd (omega arith)
failed_at report (suc n) k within fails later = go (eqb k n) refl (failed_at report n k)
  where
    go : (last : Bool) → eqb k n ≡ last
        → (k < n → code_in report (suc k) ≢ 0 → ((j : ℕ) → k < j → j < n → code_in report (suc j) ≡ 0) → last_failed report n ≡ suc k)
        → last_failed report (suc n) ≡ suc k
    go true e more =
        let same : n ≡ k = sym (eqb-true k n e) in
        rw same (failed_here report (suc k) fails)
    go false e more =
        let before : k < n = omega (arith, eqb-false k n e) in
        let passes = later n before (omega arith) in
        rw (eq-eqb (code_in report (suc n)) 0 passes) (more before fails (λ j behind_k in_n. later j behind_k (omega arith)))

pub none_failed : (report : List ℕ) (n : ℕ) → ((k : ℕ) → k < n → code_in report (suc k) ≡ 0) → last_failed report n ≡ 0
none_failed report zero passes = refl
none_failed report (suc n) passes =
    rw (eq-eqb (code_in report (suc n)) 0 (passes n (omega arith))) (none_failed report n (λ k within. passes k (omega arith)))

-- No record behind the end of a report failed.
failed_past : (report : List ℕ) (n more : ℕ) → length report / record_length + 1 ≤ n → last_failed report (more + n) ≡ last_failed report n
failed_past report n zero past =
    let none : zero + n ≡ n = omega arith in
    ap (last_failed report) none
failed_past report n (suc more) past =
    let one : suc more + n ≡ suc (more + n) = omega arith in
    let none : code_in report (suc (more + n)) ≡ 0 = byte_past report ((more + n) * record_length + 1) (omega arith) in
    rw (one, eq-eqb (code_in report (suc (more + n))) 0 none) (failed_past report n more past)

pub asked_enough : (report : List ℕ) (count : ℕ) → length report / record_length < count
    → last_failed report (length report / record_length + 1) ≡ last_failed report count
asked_enough report count fewer =
    let n = length report / record_length + 1 in
    let all : (count - n) + n ≡ count = omega arith in
    sym (failed_past report n (count - n) (omega arith)) ∙ ap (last_failed report) all
