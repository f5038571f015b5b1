-- A place in a list that a walk has reached: one step on from there, and the end.
use Prim.Native.Nat.{ℕ, ◌+◌, ◌-◌, ◌≤◌, ◌<◌}
use mathlib.Core.Path.{◌≡◌, refl, sym, ap, ◌∙◌}
use mathlib.Core.List.{List, [], ◌∷◌}
use mathlib.Core.Bool.{Bool, true, false}
use native.Mathlib.Omega.{arith}
use lib.ListN.{length, get_or, take, drop, length-drop, drop_of_length-le}
use lib.Seq.{take_all, take-nil}
use lib.Dec.{ltb, eqb}
use borrow.Author.Tests.{ltb-true, ltb-false, eqb-true, eqb-false}
use Rattle.wire.specs.Read.{span_of}
use Rattle.std.specs.Prelude.{Some, None, slice_get}
use Rattle.std.proofs.lemmas.Option.{none-some, slice_get-get_or, get_or_from_slice_get}
use Rattle.walk.specs.Walk.{start_after, rests}
use Rattle.walk.specs.Shown.{bytes_at}
use Rattle.walk.proofs.Spans.{span_within, span_some}
use Rattle.walk.proofs.Rests.{start_within, rest_at, rest_there, rests_none, rests_more}

-- Once the list's end is reached, every further command begins there.
pub past : (s : List ℕ) (j k : ℕ) → length s ≤ start_after s j → j ≤ k → start_after s k ≡ length s
past s j k end later = go (ltb (start_after s k) (length s)) refl
  where
    go : (b : Bool) → ltb (start_after s k) (length s) ≡ b → start_after s k ≡ length s
    go true is =
        let there = (rest_there s k).1 (ltb-true (start_after s k) (length s) is) in absurd (omega (arith, (rest_there s j).0 (omega arith)))
    go false is = omega (arith, ltb-false (start_after s k) (length s) is, start_within s k)

-- At the list's end or past it there are no bytes.
pub nothing_at : (s : List ℕ) (at : ℕ) → length s ≤ at → bytes_at s at ≡ []
nothing_at s at end = rw (drop_of_length-le s {i = at} end, take-nil)

-- The part of a list from a place on is all that is left there.
pub from_place : (s : List ℕ) (at : ℕ) → take (length s - at) (drop at s) ≡ drop at s
from_place s at = take_all (length s - at) (drop at s) (omega (arith, length-drop at s))

-- The command at a place before the list's end, of n bytes: it lies within the list and takes a byte at least.
pub record CommandAt (s : List ℕ) (at n : ℕ) : Type 0 where
  pub own : n ≡ span_of (drop at s)
  pub ends : at + n ≤ length s
  pub moves : 0 < n

pub command_at : (s : List ℕ) (at n : ℕ) → at < length s → n ≡ span_of (take (length s - at) (drop at s)) → CommandAt s at n
command_at s at n more span =
    let own = span ∙ ap span_of (from_place s at) in
    let left = length-drop at s in
    record {
      own = own;
      ends = omega (arith, span_within (drop at s));
      moves = omega (arith, span_some (drop at s) (omega arith));
    }

-- A walk by what is left: a list with no byte has no command.
pub ended : (s : List ℕ) (empty : Bool) → empty ≡ eqb (length s) 0 → empty ≡ true → rests s ≡ []
ended [] empty is e = rests_none
ended (b ∷ bs) empty is e = absurd (omega (arith, eqb-true (length (b ∷ bs)) 0 (sym is ∙ e)))

pub some_left : (s : List ℕ) (empty : Bool) → empty ≡ eqb (length s) 0 → empty ≡ false → 0 < length s
some_left s empty is e = omega (arith, eqb-false (length s) 0 (sym is ∙ e))

-- Any other has its first, of n bytes, which lies within it, and those behind it.
pub span_at : (s : List ℕ) (n : ℕ) → n ≡ span_of s → n ≤ length s
span_at s n span = omega (arith, span_within s)

pub passed : (s : List ℕ) (n : ℕ) → n ≡ span_of s → 0 < length s → rests s ≡ s ∷ rests (take (length s - n) (drop n s))
passed s n span more = rests_more s more ∙ ap (λ l. s ∷ rests l) (sym (from_place s n ∙ ap (λ k. drop k s) span))

-- A walk's answer to `nth`: where command k begins, and the list's end where there is none.
module _ (s : List ℕ) (k : ℕ) where
  pub nth_start : (rest : List ℕ) → slice_get (rests s) k ≡ Some rest → (length rest ≤ length s) × (length s - length rest ≡ start_after s k)
  nth_start rest is =
      let left = sym (get_or_from_slice_get (rests s) k rest [] is) ∙ rest_at s k in
      let within = start_within s k in
      (omega (arith, ap length left, length-drop (start_after s k) s, within), omega (arith, ap length left, length-drop (start_after s k) s, within))

  pub nth_none : slice_get (rests s) k ≡ None → length s ≡ start_after s k
  nth_none is = go (ltb k (length (rests s))) refl
    where
      go : (b : Bool) → ltb k (length (rests s)) ≡ b → length s ≡ start_after s k
      go true e = absurd (none-some (get_or (rests s) k []) (sym is ∙ slice_get-get_or (rests s) k [] (ltb-true k (length (rests s)) e)))
      go false e = at_end (ltb (start_after s k) (length s)) refl
        where
          at_end : (b : Bool) → ltb (start_after s k) (length s) ≡ b → length s ≡ start_after s k
          at_end true h = absurd (omega (arith, (rest_there s k).1 (ltb-true (start_after s k) (length s) h), ltb-false k (length (rests s)) e))
          at_end false h = omega (arith, start_within s k, ltb-false (start_after s k) (length s) h)

-- One turn of a walk: what it hands out is all that was left, and what is left then lies behind its first command.
one_list : (s t : List ℕ) → rests s ≡ rests t → s ≡ t
one_list [] [] e = refl
one_list [] (b ∷ bs) e = absurd (omega (arith, ap length (sym rests_none ∙ e ∙ rests_more (b ∷ bs) (omega arith))))
one_list (a ∷ more) [] e = absurd (omega (arith, ap length (sym (rests_more (a ∷ more) (omega arith)) ∙ e ∙ rests_none)))
one_list (a ∷ more) (b ∷ bs) e =
    ap (λ l. get_or l 0 []) (sym (rests_more (a ∷ more) (omega arith)) ∙ e ∙ rests_more (b ∷ bs) (omega arith))

pub record Turn (s x t : List ℕ) : Type 0 where
  pub whole : x ≡ s
  pub then : t ≡ drop (span_of s) s
  pub some : 0 < length s

pub turn : (s x t : List ℕ) → rests s ≡ x ∷ rests t → Turn s x t
turn [] x t e = absurd (omega (arith, ap length (sym rests_none ∙ e)))
turn (a ∷ more) x t e =
    let s = a ∷ more in
    let both = sym e ∙ rests_more s (omega arith) in
    record {
      whole = ap (λ l. get_or l 0 []) both;
      then = one_list t (drop (span_of s) s) (ap (drop 1) both);
      some = omega arith;
    }
