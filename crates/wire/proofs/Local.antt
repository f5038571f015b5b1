-- 01, "Reading one command from bytes tries 1 to 10 and does not look past it": what follows a command does not change how it is read.
use Prim.Native.Nat.{ℕ, zero, suc, ◌*◌, ◌-◌, ◌%◌, ◌≤◌}
use mathlib.Core.Path.{◌≡◌, refl, sym, ap, ◌∙◌}
use mathlib.Core.List.{List, [], ◌∷◌, ◌++◌}
use mathlib.Core.Bool.{Bool, true, false, cond, ◌||◌}
use native.Mathlib.Omega.{arith}
use lib.ListN.{length, take, drop, length-append, take-append-drop}
use lib.Seq.{take_all, length-take-le}
use lib.Dec.{eqb, leb, ltb}
use borrow.Author.Tests.{eq-eqb, eqb-true, eqb-false, le-ltb, ltb-true, ltb-false, leb-true, leb-false}
use Rattle.words.specs.BigEndian.{word_at}
use Rattle.words.specs.Codes.{Check, ◌when◌, first_of}
use Rattle.words.proofs.Laws.{half_on, word_on}
use Rattle.words.proofs.Order.{FirstAt, none_due}
use Rattle.words.proofs.Tests.{neither}
use Rattle.wire.specs.declared.kinds.Command.{Command}
use Rattle.wire.specs.declared.kinds.Parts.{Parts}
use Rattle.wire.specs.Judge.{plain}
use Rattle.wire.specs.Read.{answer_for, length_of, sum_of, third_word, whole_checks, said_parts, said}
use Rattle.wire.specs.Read.{reach_checks, reach_code, read_checks, read_code, read_of, span_of}
use Rattle.wire.specs.Steps.{read_whole}
use Rattle.wire.proofs.Order.{read_order}
use Rattle.wire.proofs.Answers.{refused_by, Reaches, reaches, goes}

-- The sum of words that lie whole in a list is the same where the list goes on.
pub sum_on : (s t : List ℕ) (n : ℕ) → n * 4 ≤ length s → sum_of (s ++ t) n ≡ sum_of s n
unfolding sum_of
sum_on s t zero h = refl
sum_on s t (suc n) h = rw (sum_on s t n (omega arith), word_on s t (n * 4) (omega arith))

third_on : (s t : List ℕ) (n : ℕ) → n * 4 ≤ length s → third_word (s ++ t) n ≡ third_word s n
third_on s t n h = go (ltb n 4) refl
  where
    go : (b : Bool) → ltb n 4 ≡ b → cond b 0 (word_at (s ++ t) 8) ≡ cond b 0 (word_at s 8)
    go true is = refl
    go false is = word_on s t 8 (omega (arith, ltb-false n 4 is))

-- Rows 4 to 10, of a command that lies whole in the list.
whole_on : (s t : List ℕ) (n : ℕ) → 2 ≤ n → n * 4 ≤ length s → read_whole (s ++ t) n ≡ read_whole s n
unfolding read_whole
whole_on s t n two h =
    rw (
      sum_on s t (n - 1) (omega arith),
      word_on s t ((n - 1) * 4) (omega arith),
      half_on s t 0 (omega arith),
      half_on s t 2 (omega arith),
      word_on s t 4 (omega arith),
      third_on s t n h,
    )

-- The length field of a command whose first word lies in the list.
length_on : (s t : List ℕ) → 8 ≤ length s → length_of (s ++ t) ≡ length_of s
length_on s t h = ap (λ half. half % 32768) (half_on s t 2 (omega arith))

-- Where a whole command stands at the front, rows 1 to 3 pass.
pub reaching : (s : List ℕ) → Reaches s → reach_code s ≡ 0
reaching s r =
    none_due (reach_checks s) (
      le-ltb (length s) 8 r.head,
      (
        simp (le-ltb (length_of s) 2 r.least, le-ltb 32 (length_of s) r.most),
        (le-ltb (length s) (length_of s * 4) r.whole, tt),
      ),
    )

-- They do so as well where the list goes on.
pub reaches_on : (s t : List ℕ) → Reaches s → Reaches (s ++ t)
reaches_on s t r =
    let same = length_on s t r.head in
    let more = length-append s t in
    record { head = omega arith; least = rw same r.least; most = rw same r.most; whole = rw same (omega arith) }

-- So a reader of a whole command is done with rows 1 to 3, and a command takes 4L bytes.
pub read_whole_lem : (s : List ℕ) → Reaches s → read_of s ≡ read_whole s (length_of s)
unfolding read_of read_whole
read_whole_lem s r = rw (goes s (reaching s r))

pub span_whole : (s : List ℕ) → Reaches s → span_of s ≡ length_of s * 4
unfolding span_of
span_whole s r = rw (eq-eqb (reach_code s) 0 (reaching s r))

-- A whole command is read alike, whatever follows it.
pub reads_on : (s t : List ℕ) → Reaches s → read_of (s ++ t) ≡ read_of s
reads_on s t r =
    read_whole_lem (s ++ t) (reaches_on s t r) ∙ ap (read_whole (s ++ t)) (length_on s t r.head) ∙ whole_on s t (length_of s) r.least r.whole
    ∙ sym (read_whole_lem s r)

-- And it reaches as far.
pub spans_on : (s t : List ℕ) → Reaches s → span_of (s ++ t) ≡ span_of s
spans_on s t r = span_whole (s ++ t) (reaches_on s t r) ∙ ap (λ n. n * 4) (length_on s t r.head) ∙ sym (span_whole s r)

-- Rows 1 to 3 pass where the code is none of theirs.
pub reached : (s : List ℕ) → (read_code s ≡ 1 → ⊥) → (read_code s ≡ 2 → ⊥) → (read_code s ≡ 3 → ⊥) → reach_code s ≡ 0
unfolding read_code
reached s not_1 not_2 not_3 =
    go (ltb (length s) 8) (ltb (length_of s) 2 || ltb 32 (length_of s)) (ltb (length s) (length_of s * 4)) not_1 not_2 not_3
  where
    rest : List Check
    rest = whole_checks s (length_of s)

    code : Bool → Bool → Bool → List Check → ℕ
    code few out cut behind = first_of (1 when few ∷ 2 when out ∷ 3 when cut ∷ behind)

    go : (few out cut : Bool) → (code few out cut rest ≡ 1 → ⊥) → (code few out cut rest ≡ 2 → ⊥) → (code few out cut rest ≡ 3 → ⊥)
        → code few out cut [] ≡ 0
    go true out cut not_1 not_2 not_3 = absurd (not_1 refl)
    go false true cut not_1 not_2 not_3 = absurd (not_2 refl)
    go false false true not_1 not_2 not_3 = absurd (not_3 refl)
    go false false false not_1 not_2 not_3 = refl

-- A length out of bounds is refused whatever follows it.
second : (few out : Bool) (rest : List Check) (parts : Parts) (c : Command) → few ≡ false → out ≡ true
    → answer_for (first_of (1 when few ∷ 2 when out ∷ rest)) parts c ≡ refused_by (plain 2)
second few out rest parts c long out_of_bounds = rw (long, out_of_bounds)

out_read : (s : List ℕ) → 8 ≤ length s → (ltb (length_of s) 2 || ltb 32 (length_of s)) ≡ true → read_of s ≡ refused_by (plain 2)
unfolding read_of
out_read s long out =
    second (ltb (length s) 8) (ltb (length_of s) 2 || ltb 32 (length_of s)) (3 when ltb (length s) (length_of s * 4) ∷ whole_checks s (length_of s))
    (said_parts s) (said s) (le-ltb (length s) 8 long) out

out_on : (s t : List ℕ) → read_code s ≡ 2 → read_of (s ++ t) ≡ read_of s
out_on s t e =
    let row : FirstAt (read_checks s) 1 = ((read_order s).placed 1 (omega arith)).0 e in
    let long : 8 ≤ length s = ltb-false (length s) 8 row.before.0 in
    out_read (s ++ t) (omega (arith, length-append s t)) (rw (length_on s t long) row.due) ∙ sym (out_read s long row.due)

-- Codes 1 and 3 apart, an answer stands whatever bytes follow.
pub read_on : (s t : List ℕ) → (read_code s ≡ 1 → ⊥) → (read_code s ≡ 3 → ⊥) → read_of (s ++ t) ≡ read_of s
read_on s t not_1 not_3 = go (eqb (read_code s) 2) refl
  where
    go : (b : Bool) → eqb (read_code s) 2 ≡ b → read_of (s ++ t) ≡ read_of s
    go true is = out_on s t (eqb-true (read_code s) 2 is)
    go false is = reads_on s t (reaches s (reached s not_1 (eqb-false (read_code s) 2 is) not_3))

-- So no reading looks at more than 128 bytes, as many as the longest command has: it answers the same of the first 128.
module _ (s : List ℕ) where
  abbrev front : List ℕ
  front = take 128 s

  cut_not : 128 ≤ length s → read_code front ≡ 3 → ⊥
  cut_not long e =
      let row : FirstAt (read_checks front) 2 = ((read_order front).placed 2 (omega arith)).0 e in
      let bounds = neither (ltb (length_of front) 2) (ltb 32 (length_of front)) row.before.1.0 in
      omega (
        arith,
        ltb-false 32 (length_of front) bounds.1,
        ltb-true (length front) (length_of front * 4) row.due,
        length-take-le 128 s long,
      )

  few_not : 128 ≤ length s → read_code front ≡ 1 → ⊥
  few_not long e =
      let row : FirstAt (read_checks front) 0 = ((read_order front).placed 0 (omega arith)).0 e in
      omega (arith, ltb-true (length front) 8 row.due, length-take-le 128 s long)

  pub read_128 : read_of (take 128 s) ≡ read_of s
  read_128 = go (leb 128 (length s)) refl
    where
      go : (b : Bool) → leb 128 (length s) ≡ b → read_of front ≡ read_of s
      go true is =
          let long = leb-true 128 (length s) is in
          sym (read_on front (drop 128 s) (few_not long) (cut_not long)) ∙ ap read_of (take-append-drop 128 s)
      go false is = ap read_of (take_all 128 s (omega (arith, leb-false 128 (length s) is)))

-- A command that codes 1 to 3 pass, and its own 4L bytes.
module _ (s : List ℕ) (passed : reach_code s ≡ 0) where
  abbrev r : Reaches s
  r = reaches s passed

  abbrev own : List ℕ
  own = take (length_of s * 4) s

  abbrev rest : List ℕ
  rest = drop (length_of s * 4) s

  both : own ++ rest ≡ s
  both = take-append-drop (length_of s * 4) s

  length-own : length own ≡ length_of s * 4
  length-own = length-take-le (length_of s * 4) s r.whole

  same_length : length_of own ≡ length_of s
  same_length = sym (length_on own rest (omega (arith, length-own, r.least))) ∙ ap length_of both

  own_reaches : Reaches own
  own_reaches =
      record {
        head = omega (arith, length-own, r.least);
        least = rw same_length r.least;
        most = rw same_length r.most;
        whole = rw same_length (omega (arith, length-own));
      }

  -- It is read alike from those bytes alone.
  pub read_own : read_of (take (length_of s * 4) s) ≡ read_of s
  read_own = sym (reads_on own rest own_reaches) ∙ ap read_of both

  -- And it reaches as far.
  pub span_own : span_of (take (length_of s * 4) s) ≡ span_of s
  span_own = sym (spans_on own rest own_reaches) ∙ ap span_of both
