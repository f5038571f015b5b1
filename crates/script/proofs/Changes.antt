-- The first place of a room that does not have the filling: here, further on, or nowhere.
use Prim.Native.Nat.{ℕ, suc, max, ◌+◌, ◌≤◌, ◌<◌}
use mathlib.Core.Path.{◌≡◌, refl, sym, ap, ◌∙◌}
use mathlib.Core.List.{List}
use mathlib.Core.Bool.{Bool, true, false, not, cond, false≢true}
use native.Mathlib.Omega.{arith}
use native.Mathlib.Numerals.{add-one}
use lib.ListN.{length, get_or, drop, drop_of_length-le}
use lib.Seq.{drop-cons}
use lib.Dec.{leb}
use borrow.Author.Tests.{leb-true, leb-false}
use Rattle.script.specs.Rooms.{filled, first_other}

-- What `!=` says of two values.
differ : (b : Bool) → true ≡ not b → b ≡ false
differ false e = refl
differ true e = absurd (false≢true (sym e))

agree : (b : Bool) → false ≡ not b → b ≡ true
agree true e = refl
agree false e = absurd (false≢true e)

module _ {A : Type 0} (same : A → A → Bool) (fill : A) (room : List A) (i : ℕ) where
  -- The value at this place of the room.
  module _ (x : A) (there : i < length room) (is : x ≡ get_or room i x) where
    filled_step : filled same fill (drop i room) ≡ cond (same x fill) (suc (filled same fill (drop (suc i) room))) 0
    unfolding filled
    filled_step =
        rw (drop-cons room i x there) (ap (λ y. cond (same y fill) (suc (filled same fill (drop (suc i) room))) 0) (sym is))

    pub changed_here : true ≡ not (same x fill) → i ≡ first_other same fill room i
    changed_here other =
        let here : filled same fill (drop i room) ≡ 0 = filled_step ∙ rw (differ (same x fill) other) refl in
        omega (arith, here)

    pub changed_further : false ≡ not (same x fill) → first_other same fill room (i + 1) ≡ first_other same fill room i
    changed_further is_fill =
        let here : filled same fill (drop i room) ≡ suc (filled same fill (drop (suc i) room)) = filled_step ∙ rw (agree (same x fill) is_fill) refl in
        rw add-one (omega (arith, here))

  pub changed_nowhere : length room ≤ i → i ≡ first_other same fill room i
  unfolding filled
  changed_nowhere end = let none : filled same fill (drop i room) ≡ 0 = rw (drop_of_length-le room {i = i} end) refl in omega (arith, none)

-- A loop that found none from a place on has reached the room's end, or began behind it.
pub changed_end : {A : Type 0} (same : A → A → Bool) (fill : A) (room : List A) (from i : ℕ) → length room ≤ i → (from ≤ length room → i ≤ length room)
    → first_other same fill room i ≡ first_other same fill room from → max from (length room) ≡ first_other same fill room from
changed_end same fill room from i past end is = go (leb from (length room)) refl
  where
    go : (b : Bool) → leb from (length room) ≡ b → max from (length room) ≡ first_other same fill room from
    go true e =
        let within : from ≤ length room = leb-true _ _ e in
        let at : max from (length room) ≡ i = omega (arith, within, past, end within) in
        at ∙ changed_nowhere same fill room i past ∙ is
    go false e =
        let behind : length room < from = leb-false _ _ e in
        let at : max from (length room) ≡ from = omega (arith, behind) in
        at ∙ changed_nowhere same fill room from (omega (arith, behind))
