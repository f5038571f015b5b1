-- 02, Q-4: "Lists that pass checks 1 to 10 throughout move there and back (others give their first such code)", with the number of the command that it is of.
use Prim.Native.Nat.{ℕ, zero, suc, ◌+◌, ◌≤◌, ◌<◌}
use mathlib.Core.Path.{◌≡◌, refl, sym, ap, ◌∙◌}
use mathlib.Core.Logic.{◌≢◌}
use mathlib.Core.List.{List, [], ◌∷◌}
use native.Mathlib.Omega.{arith}
use native.Mathlib.Nat.{add-zero}
use lib.ListN.{length, get_or}
use borrow.Author.Tests.{eq-eqb, ne_eqb, lt-ltb, le-ltb}
use Rattle.words.proofs.Front.{Bytes}
use Rattle.wire.specs.declared.kinds.Command.{Command}
use Rattle.wire.specs.Judge.{plain}
use Rattle.wire.specs.Read.{read_code, read_of, said as said_by}
use Rattle.walk.specs.Walk.{rests}
use Rattle.card.specs.List.{stored_bytes, said, bad, onto, next_told, raw_from, raw_says}
use Rattle.card.specs.Answers.{refused_as, to_card}
use Rattle.card.proofs.Bounds.{raw_stored_short}
use Rattle.card.proofs.RoundTrips.{Taken, to_card-done}

-- Each command, as it finds the list, has code 0.
abbrev pub Passes : List (List ℕ) → Type 0
Passes rs = (k : ℕ) → k < length rs → read_code (get_or rs k []) ≡ 0

-- Command k, from 0, is the first that has another code.
pub record FirstBad (rs : List (List ℕ)) (k : ℕ) : Type 0 where
  pub there : k < length rs
  pub code : read_code (get_or rs k []) ≢ 0
  pub before : (j : ℕ) → j < k → read_code (get_or rs j []) ≡ 0

read_passed : (r : List ℕ) → read_code r ≡ 0 → (read_of r).taken ≡ said_by r ∷ []
unfolding read_of
read_passed r e = rw (eq-eqb (read_code r) 0 e)

read_refused : (r : List ℕ) → read_code r ≢ 0 → (read_of r).taken ≡ []
unfolding read_of
read_refused r e = rw (ne_eqb (read_code r) 0 e)

pub record Says (number : ℕ) (rs : List (List ℕ)) : Type 0 where
  pub cs : List Command
  pub is : raw_from number rs ≡ said cs 0

pub all_said : (number : ℕ) (rs : List (List ℕ)) → Passes rs → Says number rs
unfolding raw_from
all_said number [] pass = record { cs = []; is = refl }
all_said number (r ∷ rs) pass =
    let rest = all_said (suc number) rs (λ k h. pass (suc k) (omega arith)) in
    record {
      cs = said_by r ∷ rest.cs;
      is = ap (λ t. next_told (read_of r).told t number (raw_from (suc number) rs)) (read_passed r (pass 0 (omega arith))) ∙ ap (onto (said_by r)) rest.is;
    }

pub first_bad_said : (number : ℕ) (rs : List (List ℕ)) (k : ℕ) → FirstBad rs k → raw_from number rs ≡ bad (number + k) (read_of (get_or rs k [])).told
unfolding raw_from
first_bad_said number [] k b = absurd (omega (arith, b.there))
first_bad_said number (r ∷ rs) zero b =
    ap (λ t. next_told (read_of r).told t number (raw_from (suc number) rs)) (read_refused r b.code)
    ∙ ap (λ n. bad n (read_of r).told) (sym (add-zero number))
first_bad_said number (r ∷ rs) (suc k) b =
    let later : FirstBad rs k = record { there = omega (arith, b.there); code = b.code; before = λ j h. b.before (suc j) (omega arith) } in
    let place : suc number + k ≡ number + suc k = omega arith in
    ap (λ t. next_told (read_of r).told t number (raw_from (suc number) rs)) (read_passed r (b.before 0 (omega arith)))
    ∙ ap (onto (said_by r)) (first_bad_said (suc number) rs k later)
    ∙ ap (λ n. bad n (read_of (get_or rs k [])).told) place

-- A list that passes throughout is stored; ten bytes more than it has are always room enough.
pub passing_stored : (s room : List ℕ) → Bytes s → length s ≤ 4096 → Passes (rests s) → length s + 10 ≤ length room → Taken (to_card s room)
unfolding raw_says
passing_stored s room bytes short pass large =
    let says = all_said 1 (rests s) pass in
    let fits : length (stored_bytes says.cs) ≤ length room = omega (arith, raw_stored_short s says.cs 0 bytes says.is) in
    rw (to_card-done s room says.cs short says.is fits)

-- Any other gives its first code, with parameter, value and limits, and the number of that command; the room is as it was.
pub first_bad_refused : (s room : List ℕ) (k : ℕ) → length s ≤ 4096 → FirstBad (rests s) k
    → to_card s room ≡ refused_as (read_of (get_or (rests s) k [])).told (k + 1) room
unfolding to_card raw_says
first_bad_refused s room k short b =
    let number : 1 + k ≡ k + 1 = omega arith in
    rw (le-ltb 4096 (length s) short, first_bad_said 1 (rests s) k b, number)

-- 20 stands first.
pub too_long_refused : (s room : List ℕ) → 4096 < length s → to_card s room ≡ refused_as (plain 20) 0 room
unfolding to_card
too_long_refused s room long = rw (lt-ltb 4096 (length s) long)
