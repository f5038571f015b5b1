-- The line shown for the number in a typed command's record is the line that says that command, and says it alone.
use Prim.Native.Nat.{ℕ, zero, suc, ◌+◌, ◌-◌, ◌≤◌, ◌<◌}
use mathlib.Core.Path.{◌≡◌, refl, sym, ap, ◌∙◌, subst}
use mathlib.Core.List.{List, [], ◌∷◌, ◌++◌, map}
use mathlib.Core.Bool.{Bool, true, false, cond}
use native.Mathlib.Omega.{arith}
use lib.ListN.{length, get_or}
use lib.Dec.{eqb}
use borrow.Author.Tests.{le-leb, lt-ltb}
use Rattle.words.specs.Codes.{first_of}
use Rattle.wire.specs.declared.kinds.Command.{Command}
use Rattle.wire.specs.Judge.{plain}
use Rattle.wire.specs.Read.{Answer, said}
use Rattle.wire.specs.Write.{list_bytes}
use Rattle.walk.specs.Walk.{rests}
use Rattle.walk.proofs.Rests.{rests_none}
use Rattle.text.specs.Split.{lines_of, words_of}
use Rattle.text.specs.Names.{form_named}
use Rattle.text.specs.Line.{is_blank, flag_in, body_in, name_in, line_checks, form_in, command_in, typed_as, line_of}
use Rattle.text.specs.Assemble.{commands_in, numbers_in, line_numbers, bytes_in}
use Rattle.text.specs.Shown.{line_shown}
use Rattle.text.proofs.Allowed.{AllAllowed, line_fine}
use Rattle.text.proofs.Assembled.{rests_listed, said_listed}

-- A line says one command at most.
data Few (cs : List Command) : Type 0 where
  none : cs ≡ [] → Few cs
  one : (c : Command) → cs ≡ c ∷ [] → Few cs

typed_few : (flag : Bool) (words : List (List ℕ)) → Few (typed_as flag words).taken
unfolding typed_as
typed_few flag words =
    let named = form_named (name_in words) in
    go (eqb (first_of (line_checks named flag words)) 0) (command_in (form_in named) flag words)
  where
    go : (t : Bool) (c : Command) → Few (cond t (c ∷ []) [])
    go true c = one c refl
    go false c = none refl

line_few : (l : List ℕ) → Few (line_of l).taken
unfolding line_of
line_few l = go (is_blank l) (typed_few (flag_in l) (words_of (body_in l)))
  where
    blank : Answer
    blank = record { told = plain 0; taken = [] }

    go : (t : Bool) → Few (typed_as (flag_in l) (words_of (body_in l))).taken → Few (cond t blank (typed_as (flag_in l) (words_of (body_in l)))).taken
    go true few = none refl
    go false few = few

-- Of lines that are numbered from m on, the one with this number says this command alone.
record Named (m : ℕ) (ls : List (List ℕ)) (number : ℕ) (c : Command) : Type 0 where
  least : m ≤ number
  most : number < m + length ls
  line : (line_of (get_or ls (number - m) [])).taken ≡ c ∷ []

-- The command at a place of the list that lines say.
abbrev command_at : List Command → ℕ → Command
command_at cs k = said (get_or (rests (list_bytes cs)) k [])

abbrev Numbered : ℕ → List (List ℕ) → ℕ → Type 0
Numbered m ls k = k < length (rests (list_bytes (commands_in ls))) → Named m ls (get_or (numbers_in m ls) k 0) (command_at (commands_in ls) k)

module _ (m : ℕ) (l : List ℕ) (ls : List (List ℕ)) (rest : (k : ℕ) → Numbered (suc m) ls k) where
  -- A line further on.
  later : (number : ℕ) (c : Command) → Named (suc m) ls number c → Named m (l ∷ ls) number c
  later number c named =
      let next : number - m ≡ suc (number - suc m) = omega (arith, named.least) in
      record {
        least = omega (arith, named.least);
        most = omega (arith, named.most);
        line = ap (λ j. (line_of (get_or (l ∷ ls) j [])).taken) next ∙ named.line;
      }

  -- Where the first line says these commands.
  abbrev With : List Command → ℕ → Type 0
  With cs k = k < length (rests (list_bytes (cs ++ commands_in ls)))
      → Named m (l ∷ ls) (get_or (map (λ (c : Command). m) cs ++ numbers_in (suc m) ls) k 0) (command_at (cs ++ commands_in ls) k)

  with_one : (c : Command) → (line_of l).taken ≡ c ∷ [] → (k : ℕ) → With (c ∷ []) k
  with_one c is zero there =
      let allowed : AllAllowed (c ∷ []) = subst AllAllowed is (line_fine l).allowed in
      let first : command_at (c ∷ commands_in ls) 0 ≡ c =
      ap (λ rs. said (get_or rs 0 [])) (rests_listed c (commands_in ls)) ∙ said_listed c (commands_in ls) allowed.0.0 allowed.0.1 in
      let own : m - m ≡ 0 = omega arith in
      record {
        least = omega arith;
        most = omega arith;
        line = ap (λ j. (line_of (get_or (l ∷ ls) j [])).taken) own ∙ is ∙ ap (λ d. d ∷ []) (sym first);
      }
  with_one c is (suc k) there =
      let rests_are = rests_listed c (commands_in ls) in
      let number = get_or (numbers_in (suc m) ls) k 0 in
      later number (command_at (c ∷ commands_in ls) (suc k))
      (subst (Named (suc m) ls number) (sym (ap (λ rs. said (get_or rs (suc k) [])) rests_are)) (rest k (omega (arith, ap length rests_are))))

  with_few : (cs : List Command) → Few cs → (line_of l).taken ≡ cs → (k : ℕ) → With cs k
  with_few cs (none e) is k = subst (λ ds. With ds k) (sym e) (λ there. later _ _ (rest k there))
  with_few cs (one c e) is k = subst (λ ds. With ds k) (sym e) (with_one c (is ∙ e) k)

numbered : (m : ℕ) (ls : List (List ℕ)) (k : ℕ) → Numbered m ls k
unfolding numbers_in commands_in list_bytes
numbered m [] k there = absurd (omega (arith, ap length rests_none))
numbered m (l ∷ ls) k there = with_few m l ls (numbered (suc m) ls) (line_of l).taken (line_few l) refl k there

pub line_says : (text : List ℕ) → length text ≤ 32768 → (k : ℕ) → k < length (rests (bytes_in text))
    → (line_of (line_shown text (get_or (line_numbers text) k 0))).taken ≡ said (get_or (rests (bytes_in text)) k []) ∷ []
unfolding line_shown
line_says text short k there =
    let named = numbered 1 (lines_of text) k there in
    let number = get_or (line_numbers text) k 0 in
    rw (
      le-leb (length text) 32768 short,
      lt-ltb 0 number (omega (arith, named.least)),
      le-leb number (length (lines_of text)) (omega (arith, named.most)),
    )
    named.line
