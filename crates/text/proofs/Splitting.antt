-- A text taken apart: its first line and the lines behind it; a line's first word and the words behind it.
use Prim.Native.Nat.{ℕ, suc, ◌+◌, ◌-◌, ◌≤◌, ◌<◌}
use mathlib.Core.Path.{◌≡◌, refl, sym, ap, ◌∙◌}
use mathlib.Core.List.{List, [], ◌∷◌}
use mathlib.Core.Bool.{Bool, true, false, cond}
use native.Mathlib.Omega.{arith}
use lib.ListN.{length, take, drop, length-drop}
use lib.Seq.{drop-drop, length-take-le}
use lib.Dec.{eqb}
use borrow.Author.Tests.{ne_eqb, eqb-true}
use Rattle.text.specs.Split.{onto, lines_of, words_of}
use Rattle.text.specs.Steps.{run_of, count_of, front_of, behind_of}
use Rattle.text.proofs.Marks.{run_within}
use Rattle.text.proofs.Lines.{part_all}

behind_cons : (b : ℕ) (s : List ℕ) (r : ℕ) → drop (r + 1) s ≡ drop (suc r + 1) (b ∷ s)
behind_cons b s r = ap (λ k. drop k (b ∷ s)) (next r)
  where
    next : (r : ℕ) → suc (r + 1) ≡ suc r + 1
    next r = omega arith

-- A text that is not empty is its first line, and the lines behind that line's end.
pub lines_next : (s : List ℕ) → 0 < length s → lines_of s ≡ front_of 10 s ∷ lines_of (behind_of 10 s)
unfolding lines_of run_of
lines_next [] some = absurd (omega arith)
lines_next (b ∷ s) some = go (eqb b 10) s (λ more. lines_next s more)
  where
    go : (t : Bool) (s : List ℕ) → (0 < length s → lines_of s ≡ front_of 10 s ∷ lines_of (behind_of 10 s))
        → cond t ([] ∷ lines_of s) (onto b (lines_of s))
        ≡ take (cond t 0 (suc (run_of 10 s))) (b ∷ s) ∷ lines_of (drop (cond t 0 (suc (run_of 10 s)) + 1) (b ∷ s))
    go true s rest = refl
    go false [] rest = refl
    go false (x ∷ s) rest =
        ap (onto b) (rest (omega arith))
        ∙ ap (λ l. (b ∷ front_of 10 (x ∷ s)) ∷ lines_of l) (behind_cons b (x ∷ s) (run_of 10 (x ∷ s)))

-- A line is its first word, and the words behind the first space where there is one.
pub words_next : (s : List ℕ) → words_of s ≡ front_of 32 s ∷ cond (eqb (count_of 32 s) 0) [] (words_of (behind_of 32 s))
unfolding words_of run_of count_of
words_next [] = refl
words_next (b ∷ s) = go (eqb b 32) (words_next s)
  where
    go : (t : Bool) → words_of s ≡ front_of 32 s ∷ cond (eqb (count_of 32 s) 0) [] (words_of (behind_of 32 s))
        → cond t ([] ∷ words_of s) (onto b (words_of s))
        ≡ take (cond t 0 (suc (run_of 32 s))) (b ∷ s)
        ∷ cond (eqb (cond t (suc (count_of 32 s)) (count_of 32 s)) 0) [] (words_of (drop (cond t 0 (suc (run_of 32 s)) + 1) (b ∷ s)))
    go true rest = rw (ne_eqb (suc (count_of 32 s)) 0 (λ e. omega arith))
    go false rest =
        ap (onto b) rest
        ∙ ap (λ l. (b ∷ front_of 32 s) ∷ cond (eqb (count_of 32 s) 0) [] (words_of l)) (behind_cons b s (run_of 32 s))

-- As many words as spaces, and one more.
pub words_count : (s : List ℕ) → length (words_of s) ≡ count_of 32 s + 1
unfolding words_of count_of
words_count [] = refl
words_count (b ∷ s) = go (eqb b 32) (words_of s) (words_count s)
  where
    go : (t : Bool) (ws : List (List ℕ)) → length ws ≡ count_of 32 s + 1
        → length (cond t ([] ∷ ws) (onto b ws)) ≡ cond t (suc (count_of 32 s)) (count_of 32 s) + 1
    go true ws e = omega arith
    go false [] e = absurd (omega arith)
    go false (w ∷ ws) e = omega arith

-- A walk by what is left: a text with no byte has no line.
pub no_line : (s : List ℕ) (empty : Bool) → empty ≡ eqb (length s) 0 → empty ≡ true → lines_of s ≡ []
unfolding lines_of
no_line [] empty is e = refl
no_line (b ∷ s) empty is e = absurd (omega (arith, eqb-true (length (b ∷ s)) 0 (sym is ∙ e)))

-- Any other has its first, and those behind it.
pub line_passed : (s line left : List ℕ) → 0 < length s → line ≡ front_of 10 s → left ≡ drop (length line + 1) s → lines_of s ≡ line ∷ lines_of left
line_passed s line left some is on =
    let long : length line ≡ run_of 10 s = ap length is ∙ length-take-le (run_of 10 s) s (run_within 10 s) in
    let behind : left ≡ behind_of 10 s = on ∙ ap (λ k. drop (k + 1) s) long in
    rw (is, behind) (lines_next s some)

-- There are no more lines than bytes.
pub lines_few : (s : List ℕ) → length (lines_of s) ≤ length s
unfolding lines_of
lines_few [] = omega arith
lines_few (b ∷ s) = go (eqb b 10) (lines_of s) (lines_few s)
  where
    go : (t : Bool) (ls : List (List ℕ)) → length ls ≤ length s → length (cond t ([] ∷ ls) (onto b ls)) ≤ suc (length s)
    go true ls few = omega arith
    go false [] few = omega arith
    go false (l ∷ ls) few = omega arith

-- The line at a place of a text, as the code lends it, and the place behind it.
module _ (text : List ℕ) (at : ℕ) (more : at < length text) (line : List ℕ) (is_line : line ≡ front_of 10 (take (length text - at) (drop at text))) where
  pub line_is : line ≡ front_of 10 (drop at text)
  line_is = is_line ∙ ap (front_of 10) (part_all text at at refl)

  line_length : length line ≡ run_of 10 (drop at text)
  line_length = ap length line_is ∙ length-take-le (run_of 10 (drop at text)) (drop at text) (run_within 10 (drop at text))

  pub line_within : at + (length line + 1) ≤ length text + 1
  line_within = omega (arith, line_length, run_within 10 (drop at text), length-drop at text)

  pub lines_at : lines_of (drop at text) ≡ line ∷ lines_of (drop (at + (length line + 1)) text)
  lines_at =
      lines_next (drop at text) (omega (arith, length-drop at text))
      ∙ rw (← line_is, ← line_length, drop-drop)
