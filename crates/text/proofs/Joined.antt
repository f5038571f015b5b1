-- 02, Q-12: two texts joined, where the first ends in a line feed. They have the first one's lines and then the second one's, whose numbers rise by the
-- number of the first one's lines; and they say the first one's list and then the second one's.
use Prim.Native.Nat.{ℕ, suc, ◌+◌, ◌<◌}
use mathlib.Core.Path.{◌≡◌, refl, sym, ap, ◌∙◌}
use mathlib.Core.Logic.{◌↔◌}
use mathlib.Core.List.{List, [], ◌∷◌, ◌++◌, append_assoc, map}
use mathlib.Core.Bool.{Bool, true, false, cond, false≢true}
use native.Mathlib.Omega.{arith}
use lib.ListN.{length}
use lib.Dec.{eqb}
use borrow.Author.Tests.{eqb-true, eqb-false, eq-eqb}
use Rattle.wire.specs.declared.kinds.Command.{Command}
use Rattle.wire.specs.declared.judging.Told.{Told}
use Rattle.wire.specs.Read.{reach_code, read_code}
use Rattle.wire.specs.Write.{list_bytes}
use Rattle.wire.proofs.Local.{reached}
use Rattle.walk.specs.Walk.{rests, all_reach, unbroken}
use Rattle.text.specs.declared.findings.Finding.{Finding}
use Rattle.text.specs.Split.{line_feed, onto, lines_of, ends_line}
use Rattle.text.specs.Line.{line_of}
use Rattle.text.specs.Findings.{finding, nothing, first_found}
use Rattle.text.specs.Assemble.{commands_in, commands_of, numbers_in, line_numbers, bytes_in, line_findings, bad_line}
use Rattle.text.proofs.Found.{found_append}
use Rattle.text.proofs.Gathers.{listed_append}
use Rattle.text.proofs.Assembled.{AllRead, assembled_passes}

-- Their lines: the first text's last line is whole.
some_line : (b : ℕ) (s : List ℕ) → 0 < length (lines_of (b ∷ s))
unfolding lines_of
some_line b s = go (eqb b line_feed) (lines_of s)
  where
    go : (t : Bool) (ls : List (List ℕ)) → 0 < length (cond t ([] ∷ ls) (onto b ls))
    go true ls = omega arith
    go false [] = omega arith
    go false (l ∷ ls) = omega arith

line_in_front : (b : ℕ) (feeds : Bool) (ls ms : List (List ℕ)) → 0 < length ls
    → cond feeds ([] ∷ (ls ++ ms)) (onto b (ls ++ ms)) ≡ cond feeds ([] ∷ ls) (onto b ls) ++ ms
line_in_front b true ls ms some = refl
line_in_front b false [] ms some = absurd (omega arith)
line_in_front b false (l ∷ ls) ms some = refl

pub lines_joined : (s t : List ℕ) → ends_line s ≡ true → lines_of (s ++ t) ≡ lines_of s ++ lines_of t
unfolding lines_of ends_line
lines_joined [] t ends = absurd (false≢true ends)
lines_joined (b ∷ []) t ends = rw ends
lines_joined (b ∷ c ∷ s) t ends =
    ap (λ ls. cond (eqb b line_feed) ([] ∷ ls) (onto b ls)) (lines_joined (c ∷ s) t ends)
    ∙ line_in_front b (eqb b line_feed) (lines_of (c ∷ s)) (lines_of t) (some_line c s)

pub ends_joined : (s t : List ℕ) → ends_line t ≡ true → ends_line (s ++ t) ≡ true
unfolding ends_line
ends_joined [] t ends = ends
ends_joined (b ∷ []) [] ends = absurd (false≢true ends)
ends_joined (b ∷ []) (c ∷ t) ends = ends
ends_joined (b ∷ c ∷ s) t ends = ends_joined (c ∷ s) t ends

-- The commands that they say.
commands_append : (ls ms : List (List ℕ)) → commands_in (ls ++ ms) ≡ commands_in ls ++ commands_in ms
unfolding commands_in
commands_append [] ms = refl
commands_append (l ∷ ls) ms =
    ap (λ cs. (line_of l).taken ++ cs) (commands_append ls ms) ∙ sym (append_assoc (line_of l).taken (commands_in ls) (commands_in ms))

pub bytes_joined : (s t : List ℕ) → ends_line s ≡ true → bytes_in (s ++ t) ≡ bytes_in s ++ bytes_in t
bytes_joined s t ends =
    ap (λ ls. list_bytes (commands_in ls)) (lines_joined s t ends)
    ∙ ap list_bytes (commands_append (lines_of s) (lines_of t))
    ∙ listed_append (commands_of s) (commands_of t)

-- The number of the line behind none, behind one and some more, and one further.
behind_none : (n : ℕ) → n ≡ n + 0
behind_none n = omega arith

behind_one : (n k : ℕ) → suc n + k ≡ n + suc k
behind_one n k = omega arith

one_more : (n k : ℕ) → suc (n + k) ≡ suc n + k
one_more n k = omega arith

-- The numbers of their lines.
abbrev pub raised_by : ℕ → List ℕ → List ℕ
raised_by by numbers = map (λ n. n + by) numbers

pub raised_append : (by : ℕ) (ms ns : List ℕ) → raised_by by (ms ++ ns) ≡ raised_by by ms ++ raised_by by ns
raised_append by [] ns = refl
raised_append by (m ∷ ms) ns = ap (λ l. (m + by) ∷ l) (raised_append by ms ns)

raised_same : (by n : ℕ) (cs : List Command) → map (λ (c : Command). n + by) cs ≡ raised_by by (map (λ (c : Command). n) cs)
raised_same by n [] = refl
raised_same by n (c ∷ cs) = ap (λ l. (n + by) ∷ l) (raised_same by n cs)

numbers_raised : (by n : ℕ) (ls : List (List ℕ)) → numbers_in (n + by) ls ≡ raised_by by (numbers_in n ls)
unfolding numbers_in
numbers_raised by n [] = refl
numbers_raised by n (l ∷ ls) =
    let cs = (line_of l).taken in
    ap (λ k. map (λ (c : Command). n + by) cs ++ numbers_in k ls) (one_more n by)
    ∙ ap (λ k. map (λ (c : Command). n + by) cs ++ k) (numbers_raised by (suc n) ls)
    ∙ ap (λ k. k ++ raised_by by (numbers_in (suc n) ls)) (raised_same by n cs)
    ∙ sym (raised_append by (map (λ (c : Command). n) cs) (numbers_in (suc n) ls))

numbers_append : (n : ℕ) (ls ms : List (List ℕ)) → numbers_in n (ls ++ ms) ≡ numbers_in n ls ++ numbers_in (n + length ls) ms
unfolding numbers_in
numbers_append n [] ms = ap (λ k. numbers_in k ms) (behind_none n)
numbers_append n (l ∷ ls) ms =
    let own = map (λ (c : Command). n) (line_of l).taken in
    ap (λ k. own ++ k) (numbers_append (suc n) ls ms)
    ∙ ap (λ k. own ++ (numbers_in (suc n) ls ++ numbers_in k ms)) (behind_one n (length ls))
    ∙ sym (append_assoc own (numbers_in (suc n) ls) (numbers_in (n + length (l ∷ ls)) ms))

pub numbers_joined : (s t : List ℕ) → ends_line s ≡ true → line_numbers (s ++ t) ≡ line_numbers s ++ raised_by (length (lines_of s)) (line_numbers t)
numbers_joined s t ends =
    ap (numbers_in 1) (lines_joined s t ends)
    ∙ numbers_append 1 (lines_of s) (lines_of t)
    ∙ ap (λ l. line_numbers s ++ l) (numbers_raised (length (lines_of s)) 1 (lines_of t))

-- The first bad line: that of the first text or, where it has none, that of the second, with its number raised.
abbrev pub raised_finding : ℕ → Finding → Finding
raised_finding by f = cond (eqb f.told.code 0) nothing (finding f.told (f.number + by))

findings_append : (n : ℕ) (ls ms : List (List ℕ)) → line_findings n (ls ++ ms) ≡ line_findings n ls ++ line_findings (n + length ls) ms
unfolding line_findings
findings_append n [] ms = ap (λ k. line_findings k ms) (behind_none n)
findings_append n (l ∷ ls) ms =
    ap (λ fs. finding (line_of l).told n ∷ fs) (findings_append (suc n) ls ms)
    ∙ ap (λ k. finding (line_of l).told n ∷ (line_findings (suc n) ls ++ line_findings k ms)) (behind_one n (length ls))

found_raised : (by n : ℕ) (ls : List (List ℕ)) → first_found (line_findings (n + by) ls) ≡ raised_finding by (first_found (line_findings n ls))
unfolding line_findings first_found
found_raised by n [] = refl
found_raised by n (l ∷ ls) = go (line_of l).told (found_raised by (suc n) ls)
  where
    go : (told : Told) → first_found (line_findings (suc n + by) ls) ≡ raised_finding by (first_found (line_findings (suc n) ls))
        → cond (eqb told.code 0) (first_found (line_findings (suc (n + by)) ls)) (finding told (n + by))
        ≡ raised_finding by (cond (eqb told.code 0) (first_found (line_findings (suc n) ls)) (finding told n))
    go told rest = by_test (eqb told.code 0) refl
      where
        by_test : (t : Bool) → eqb told.code 0 ≡ t
            → cond t (first_found (line_findings (suc (n + by)) ls)) (finding told (n + by))
            ≡ raised_finding by (cond t (first_found (line_findings (suc n) ls)) (finding told n))
        by_test true is = ap (λ k. first_found (line_findings k ls)) (one_more n by) ∙ rest
        by_test false is = rw is

pub bad_line_joined : (s t : List ℕ) → ends_line s ≡ true
    → bad_line (s ++ t) ≡ cond (eqb (bad_line s).told.code 0) (raised_finding (length (lines_of s)) (bad_line t)) (bad_line s)
bad_line_joined s t ends =
    ap (λ ls. first_found (line_findings 1 ls)) (lines_joined s t ends)
    ∙ ap first_found (findings_append 1 (lines_of s) (lines_of t))
    ∙ found_append (line_findings 1 (lines_of s)) (line_findings (1 + length (lines_of s)) (lines_of t))
    ∙ ap (λ f. cond (eqb (bad_line s).told.code 0) f (bad_line s)) (found_raised (length (lines_of s)) 1 (lines_of t))

-- So they have no bad line exactly where neither has one.
pub good_joined : (s t : List ℕ) → ends_line s ≡ true
    → ((bad_line (s ++ t)).told.code ≡ 0) ↔ (((bad_line s).told.code ≡ 0) × ((bad_line t).told.code ≡ 0))
good_joined s t ends = rw (bad_line_joined s t ends) (go (eqb (bad_line s).told.code 0) refl)
  where
    second : (by : ℕ) (f : Finding) → ((raised_finding by f).told.code ≡ 0) ↔ (f.told.code ≡ 0)
    second by f = by_test (eqb f.told.code 0) refl
      where
        by_test : (none : Bool) → eqb f.told.code 0 ≡ none
            → ((cond none nothing (finding f.told (f.number + by))).told.code ≡ 0) ↔ (f.told.code ≡ 0)
        by_test true is = (λ e. eqb-true f.told.code 0 is, λ e. refl)
        by_test false is = (λ e. e, λ e. e)

    go : (none : Bool) → eqb (bad_line s).told.code 0 ≡ none
        → ((cond none (raised_finding (length (lines_of s)) (bad_line t)) (bad_line s)).told.code ≡ 0)
        ↔ (((bad_line s).told.code ≡ 0) × ((bad_line t).told.code ≡ 0))
    go true is =
        let later = second (length (lines_of s)) (bad_line t) in (λ e. (eqb-true (bad_line s).told.code 0 is, later.0 e), λ parts. later.1 parts.1)
    go false is = (λ e. absurd (eqb-false (bad_line s).told.code 0 is e), λ parts. parts.0)

-- No code 1, 2 or 3 occurs in the list that a text says: all of its commands were read.
all_reach_lem : (rs : List (List ℕ)) → AllRead rs → all_reach rs ≡ true
all_reach_lem [] all = refl
all_reach_lem (r ∷ rs) all =
    let read : read_code r ≡ 0 = all.0 in
    let passed : reach_code r ≡ 0 = reached r (λ e. omega arith) (λ e. omega arith) (λ e. omega arith) in
    rw (eq-eqb (reach_code r) 0 passed) (all_reach_lem rs all.1)

pub typed_unbroken : (text : List ℕ) → unbroken (bytes_in text) ≡ true
typed_unbroken text = all_reach_lem (rests (bytes_in text)) (assembled_passes text)
