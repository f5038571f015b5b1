-- The line with a number, found by a walk over the lines before it.
use Prim.Native.Nat.{ℕ, zero, suc, ◌+◌, ◌-◌, ◌≤◌, ◌<◌}
use mathlib.Core.Path.{◌≡◌, refl, sym, ap, ◌∙◌}
use mathlib.Core.List.{List, [], ◌∷◌}
use mathlib.Core.Bool.{Bool, true, false, ◌&&◌}
use native.Mathlib.Omega.{arith}
use native.Mathlib.Numerals.{add-one}
use lib.ListN.{length, get_or, take, drop, length-drop, drop_of_length-le}
use lib.Seq.{length-take-le}
use lib.Dec.{leb}
use borrow.Author.Tests.{le-leb, lt-leb, lt-ltb}
use Rattle.walk.proofs.Turns.{from_place}
use Rattle.text.specs.Split.{line_feed, lines_of}
use Rattle.text.specs.Shown.{has_line, line_shown, reach_of, line_start}
use Rattle.text.specs.Steps.{run_of, front_of}
use Rattle.text.proofs.Marks.{run_within}
use Rattle.text.proofs.Splitting.{lines_at}

-- What is left of some lines behind the first n: the next is line n, and the others are left behind it.
pub record Next (ls : List (List ℕ)) (n : ℕ) (l : List ℕ) (rest : List (List ℕ)) : Type 0 where
  pub there : n < length ls
  pub own : get_or ls n [] ≡ l
  pub others : drop (suc n) ls ≡ rest
  pub reach : reach_of (take (suc n) ls) ≡ reach_of (take n ls) + (length l + 1)

next : (n : ℕ) (ls : List (List ℕ)) (l : List ℕ) (rest : List (List ℕ)) → drop n ls ≡ l ∷ rest → Next ls n l rest
unfolding reach_of
next zero [] l rest e = absurd (let z : ◌≡◌ {A = ℕ} 0 1 = cc in omega arith)
next zero (x ∷ ls) l rest e =
    let same : x ≡ l = cc in
    let others : ls ≡ rest = cc in
    record { there = omega arith; own = same; others = others; reach = rw same (omega arith) }
next (suc n) [] l rest e = absurd (let z : ◌≡◌ {A = ℕ} 0 1 = cc in omega arith)
next (suc n) (x ∷ ls) l rest e =
    let on = next n ls l rest e in
    record { there = omega (arith, on.there); own = on.own; others = on.others; reach = omega (arith, on.reach) }

-- So many lines were passed, and the next begins here.
pub record Reached (text : List ℕ) (number at passed : ℕ) : Type 0 where
  pub within : at ≤ length text + 1
  pub below : passed < number
  pub few : passed ≤ at
  pub left : lines_of (drop at text) ≡ drop passed (lines_of text)
  pub start : at ≡ reach_of (take passed (lines_of text))

pub reached_none : (text : List ℕ) (number : ℕ) → 0 < number → Reached text number 0 0
unfolding reach_of
reached_none text number some = record { within = omega arith; below = some; few = omega arith; left = refl; start = refl }

-- Where a test fails, no line is shown, and its place is the text's start.
module _ (text : List ℕ) (number : ℕ) where
  none : has_line text number ≡ false → ([] ≡ line_shown text number) × (0 ≡ line_start text number)
  unfolding line_shown line_start
  none no_line = rw no_line (refl, refl)

  pub none_long : 32768 < length text → ([] ≡ line_shown text number) × (0 ≡ line_start text number)
  none_long long = none (rw (lt-leb (length text) 32768 long))

  pub none_zero : number ≡ 0 → ([] ≡ line_shown text number) × (0 ≡ line_start text number)
  none_zero is = none (rw is (both (leb (length text) 32768)))
    where
      both : (b : Bool) → (b && false) ≡ false
      both true = refl
      both false = refl

  module _ (at passed : ℕ) (reached : Reached text number at passed) (short : length text ≤ 32768) where
    -- At the text's end there is no such line.
    pub none_left : length text ≤ at → ([] ≡ line_shown text number) × (0 ≡ line_start text number)
    unfolding lines_of
    none_left end =
        let left : drop passed (lines_of text) ≡ [] = sym reached.left ∙ ap lines_of (drop_of_length-le text end) in
        let few : length (lines_of text) ≤ passed = omega (arith, ap length left, length-drop passed (lines_of text)) in
        none (rw (
          le-leb (length text) 32768 short,
          lt-ltb 0 number (omega (arith, reached.below)),
          lt-leb number (length (lines_of text)) (omega (arith, reached.below)),
        ))

    -- Before it, the next line ends at the next line feed.
    module _ (more : at < length text) (run : ℕ) (is_run : run ≡ run_of line_feed (take (length text - at) (drop at text))) where
      abbrev line : List ℕ
      line = take run (drop at text)

      run_own : run ≡ run_of line_feed (drop at text)
      run_own = is_run ∙ ap (run_of line_feed) (from_place text at)

      pub run_fits : at + run ≤ length text
      run_fits = omega (arith, run_own, run_within line_feed (drop at text), length-drop at text)

      line_long : length line ≡ run
      line_long = length-take-le run (drop at text) (omega (arith, run_fits, length-drop at text))

      is_line : line ≡ front_of line_feed (take (length text - at) (drop at text))
      is_line = ap (λ l. take run l) (sym (from_place text at)) ∙ ap (λ k. take k (take (length text - at) (drop at text))) is_run

      here : Next (lines_of text) passed line (lines_of (drop (at + (length line + 1)) text))
      here = next passed (lines_of text) line _ (sym reached.left ∙ lines_at text at more line is_line)

      pub found : passed + 1 ≡ number → (line ≡ line_shown text number) × (at ≡ line_start text number)
      unfolding line_shown line_start
      found is =
          let back : number - 1 ≡ passed = omega arith in
          rw (
            le-leb (length text) 32768 short,
            lt-ltb 0 number (omega arith),
            le-leb number (length (lines_of text)) (omega (arith, here.there)),
            back,
          )
          (sym here.own, reached.start)

      pub goes_on : (passed + 1 ≡ number → ⊥) → Reached text number (at + run + 1) (passed + 1)
      goes_on other =
          let behind : at + (length line + 1) ≡ at + run + 1 = omega (arith, line_long) in
          record {
            within = omega (arith, run_fits);
            below = omega (arith, reached.below, other);
            few = omega (arith, reached.few);
            left = ap (λ k. lines_of (drop k text)) (sym behind) ∙ sym here.others ∙ ap (λ k. drop k (lines_of text)) (sym (add-one passed));
            start = sym (ap (λ k. reach_of (take k (lines_of text))) (add-one passed) ∙ here.reach ∙ omega (arith, line_long, reached.start));
          }
