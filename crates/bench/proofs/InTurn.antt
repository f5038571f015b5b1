-- The commands of a run in turn, each given as it finds its list and taken on the bench that the one before it left.
use Prim.Native.Nat.{ℕ, zero, suc, ◌+◌, ◌<◌}
use mathlib.Core.Path.{◌≡◌, refl, sym, ap, ◌∙◌, subst}
use mathlib.Core.List.{List, [], ◌∷◌, ◌++◌, map}
use mathlib.Core.Bool.{Bool, true, false, cond}
use native.Mathlib.Omega.{arith}
use lib.ListN.{length, get_or, length-append}
use lib.Dec.{eqb}
use borrow.Author.Tests.{eqb-true}
use Rattle.wire.specs.declared.kinds.Command.{Command}
use Rattle.walk.specs.Walk.{rests}
use Rattle.text.specs.Split.{lines_of}
use Rattle.text.specs.Line.{line_of}
use Rattle.text.specs.Assemble.{commands_in, commands_of, numbers_in, line_numbers, bytes_in}
use Rattle.text.proofs.Assembled.{rests_counted}
use Rattle.report.specs.declared.Latest.{Latest}
use Rattle.bench.specs.declared.Bench.{Bench}
use Rattle.bench.specs.Carry.{taken}
use Rattle.bench.specs.Run.{numbers_from, own_numbers, run_rests, kit_part, pupil_with, noting, ended_with, run_code, run_of}
use Rattle.bench.specs.Typed.{typed_end, typed_found, typed_of}

-- The bench that some commands leave.
abbrev pub left_by : Bench → List (List ℕ) → Bench
left_by b [] = b
left_by b (r ∷ rs) = left_by (taken b r).bench rs

-- It is the bench that a list leaves, whoever sent it and whatever the numbers of its records, as long as each command has one.
pub list_leaves : (b : Bench) (sender : ℕ) (numbers : List ℕ) (rs : List (List ℕ)) → length numbers ≡ length rs
    → (run_rests b sender numbers rs).bench ≡ left_by b rs
unfolding run_rests
list_leaves b sender [] [] even = refl
list_leaves b sender [] (r ∷ rs) even = absurd (omega arith)
list_leaves b sender (number ∷ numbers) [] even = absurd (omega arith)
list_leaves b sender (number ∷ numbers) (r ∷ rs) even = list_leaves (taken b r).bench sender numbers rs (omega arith)

-- A list's own numbers are one to a command, each one above the number before it.
numbers_even : (number : ℕ) (rs : List (List ℕ)) → length (numbers_from number rs) ≡ length rs
numbers_even number [] = refl
numbers_even number (r ∷ rs) = omega (arith, numbers_even (number + 1) rs)

pub own_even : (s : List ℕ) → length (own_numbers s) ≡ length (rests s)
own_even s = numbers_even 1 (rests s)

numbers_rise : (number : ℕ) (rs : List (List ℕ)) (k : ℕ) → k < length rs → get_or (numbers_from number rs) k 0 ≡ number + k
numbers_rise number [] k there = absurd (omega arith)
numbers_rise number (r ∷ rs) zero there = omega arith
numbers_rise number (r ∷ rs) (suc k) there = omega (arith, numbers_rise (number + 1) rs k (omega arith))

pub own_number : (s : List ℕ) (k : ℕ) → k < length (rests s) → get_or (own_numbers s) k 0 ≡ k + 1
own_number s k there = omega (arith, numbers_rise 1 (rests s) k there)

-- Lines number as many records as they say commands.
same_number : (number : ℕ) (cs : List Command) → length (map (λ (c : Command). number) cs) ≡ length cs
same_number number [] = refl
same_number number (c ∷ cs) = ap suc (same_number number cs)

lines_even : (number : ℕ) (ls : List (List ℕ)) → length (numbers_in number ls) ≡ length (commands_in ls)
unfolding numbers_in commands_in
lines_even number [] = refl
lines_even number (l ∷ ls) =
    let cs = (line_of l).taken in
    length-append (map (λ (c : Command). number) cs) (numbers_in (suc number) ls)
    ∙ omega (arith, same_number number cs, lines_even (suc number) ls, length-append cs (commands_in ls))

pub typed_even : (text : List ℕ) → length (line_numbers text) ≡ length (rests (bytes_in text))
typed_even text = lines_even 1 (lines_of text) ∙ sym (rests_counted (commands_of text))

-- Commands in two goes; so those behind the kit's list, and both lists.
pub left_append : (b : Bench) (xs ys : List (List ℕ)) → left_by (left_by b xs) ys ≡ left_by b (xs ++ ys)
left_append b [] ys = refl
left_append b (x ∷ xs) ys = left_append (taken b x).bench xs ys

pub kit_then : (b : Bench) (kit : List ℕ) (rs : List (List ℕ)) → left_by (kit_part b kit).bench rs ≡ left_by b (rests kit ++ rs)
kit_then b kit rs = ap (λ c. left_by c rs) (list_leaves b 1 (own_numbers kit) (rests kit) (own_even kit)) ∙ left_append b (rests kit) rs

pub both_left : (b : Bench) (kit numbers pupil : List ℕ) → length numbers ≡ length (rests pupil)
    → (pupil_with b kit numbers pupil).bench ≡ left_by b (rests kit ++ rests pupil)
both_left b kit numbers pupil even = list_leaves (kit_part b kit).bench 2 numbers (rests pupil) even ∙ kit_then b kit (rests pupil)

-- So a run that is carried out leaves what its commands leave, and the numbers of the latest run besides; so does the run of a typed list.
pub both_ended : (b : Bench) (kit numbers pupil : List ℕ) → length numbers ≡ length (rests pupil)
    → ended_with b kit numbers pupil ≡ noting (left_by b (rests kit ++ rests pupil)) (ended_with b kit numbers pupil).latest
both_ended b kit numbers pupil even = ap (λ c. noting c (ended_with b kit numbers pupil).latest) (both_left b kit numbers pupil even)

pub run_left : (b : Bench) (kit pupil room : List ℕ) → (run_of b kit pupil room).code ≡ 0
    → (run_of b kit pupil room).bench ≡ noting (left_by b (rests kit ++ rests pupil)) (ended_with b kit (own_numbers pupil) pupil).latest
unfolding run_of
run_left b kit pupil room accepted = rw accepted (both_ended b kit (own_numbers pupil) pupil (own_even pupil))

pub typed_left : (b : Bench) (kit text room : List ℕ) → (typed_of b kit text room).found.told.code ≡ 0
    → (typed_of b kit text room).bench ≡ noting (left_by b (rests kit ++ rests (bytes_in text))) (typed_end b kit text).latest
unfolding typed_of
typed_left b kit text room accepted = rw accepted (both_ended b kit (line_numbers text) (bytes_in text) (typed_even text))

-- A run does one of two things: it leaves the bench, or it is carried out and leaves what its commands leave. What is asked of the bench must not hang
-- on the numbers of the latest run.
module _ (P : Bench → Type 0) (notes : (b : Bench) (latest : Latest) → P b → P (noting b latest)) where
  by_lists : (b : Bench) (kit numbers pupil : List ℕ) → length numbers ≡ length (rests pupil) → (code : ℕ)
      → P b → (code ≡ 0 → P (left_by b (rests kit ++ rests pupil))) → P (cond (eqb code 0) (ended_with b kit numbers pupil) b)
  by_lists b kit numbers pupil even code stays goes = go (eqb code 0) refl
    where
      go : (t : Bool) → eqb code 0 ≡ t → P (cond t (ended_with b kit numbers pupil) b)
      go true e = subst P (sym (both_ended b kit numbers pupil even)) (notes _ (ended_with b kit numbers pupil).latest (goes (eqb-true code 0 e)))
      go false e = stays

  pub by_run : (b : Bench) (kit pupil room : List ℕ)
      → P b → (run_code b kit pupil room ≡ 0 → P (left_by b (rests kit ++ rests pupil))) → P (run_of b kit pupil room).bench
  unfolding run_of
  by_run b kit pupil room = by_lists b kit (own_numbers pupil) pupil (own_even pupil) (run_code b kit pupil room)

  pub by_typed : (b : Bench) (kit text room : List ℕ)
      → P b → ((typed_found b kit text room).told.code ≡ 0 → P (left_by b (rests kit ++ rests (bytes_in text)))) → P (typed_of b kit text room).bench
  unfolding typed_of
  by_typed b kit text room = by_lists b kit (line_numbers text) (bytes_in text) (typed_even text) (typed_found b kit text room).told.code
