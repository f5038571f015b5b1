-- 02, Q-14, "Looked up through an index built here for that list, each command shows the same bytes as the walk does": the same bytes and the same place as
-- `shown`, for the kit's list and for the pupil's, for every number, those without a record included.
use Prim.Native.Nat.{ℕ, ◌-◌, ◌≤◌}
use mathlib.Core.Path.{◌≡◌, refl, sym, ap, subst, ◌∙◌}
use mathlib.Core.List.{List, []}
use mathlib.Core.Bool.{Bool, true, false, cond, ◌||◌}
use native.Mathlib.Omega.{arith}
use lib.ListN.{length, get_or}
use lib.Dec.{eqb, ltb}
use borrow.Author.Tests.{ltb-true, ltb-false, le-ltb, eqb-false}
use denote.Ref.{Bor}
use Rattle.walk.specs.Walk.{start_after, rests}
use Rattle.walk.specs.Shown.{start_of, bytes_at, command_of, shown_of, offset_to, offset_of, Placed}
use Rattle.walk.proofs.Rests.{rest_there, start_within}
use Rattle.walk.proofs.Turns.{nothing_at}
use Rattle.walk.proofs.Unique.{one_place}
use Rattle.walk.proofs.Unique as shown
use Rattle.index.specs.Index.{built}
use Rattle.index.specs.Found.{place_by, found_of, found_at}
use Rattle.index.proofs.Built.{built_holds}
use Rattle.index.proofs.Unique as found

-- A list that is not too long: by its index every number has the place that the walk finds.
module _ (s : List ℕ) (short : length s ≤ 4096) (number : ℕ) where
  -- Past the last command the walk stands at the list's end.
  past_last : length (rests s) ≤ number - 1 → length s ≡ start_after s (number - 1)
  past_last past = go (ltb (start_after s (number - 1)) (length s)) refl
    where
      go : (b : Bool) → ltb (start_after s (number - 1)) (length s) ≡ b → length s ≡ start_after s (number - 1)
      go true is = absurd (omega (arith, (rest_there s (number - 1)).1 (ltb-true (start_after s (number - 1)) (length s) is)))
      go false is = omega (arith, ltb-false (start_after s (number - 1)) (length s) is, start_within s (number - 1))

  by_index : (number ≡ 0 → ⊥) → (b : Bool) → ltb (length (built s)) number ≡ b
      → cond b (length s) (get_or (built s) (number - 1) 0) ≡ start_after s (number - 1)
  by_index some true is = past_last (omega (arith, (built_holds s).count, ltb-true (length (built s)) number is))
  by_index some false is = (built_holds s).starts (number - 1) (omega (arith, (built_holds s).count, ltb-false (length (built s)) number is))

  by_number : (b : Bool) → eqb number 0 ≡ b
      → cond (b || ltb (length (built s)) number) (length s) (get_or (built s) (number - 1) 0) ≡ cond b (length s) (start_after s (number - 1))
  by_number true is = refl
  by_number false is = by_index (eqb-false number 0 is) (ltb (length (built s)) number) refl

  same_place : place_by s (built s) number ≡ start_of s number
  same_place = rw (le-ltb 4096 (length s) short) (by_number (eqb number 0) refl)

-- So what is found is what the walk shows, bytes and place; in a list that is too long it is nothing.
found_is : (s : List ℕ) (number : ℕ) (long : Bool) → ltb 4096 (length s) ≡ long
    → (found_of s (built s) number ≡ cond long [] (command_of s number))
    × (found_at s (built s) number ≡ offset_to (cond long [] (command_of s number)) (start_of s number))
found_is s number true is =
    let none : found_of s (built s) number ≡ [] = rw is (nothing_at s (length s) (omega arith)) in
    (none, ap (λ l. offset_to l (place_by s (built s) number)) none)
found_is s number false is =
    let at = same_place s (ltb-false 4096 (length s) is) number in
    (ap (bytes_at s) at, ap (λ p. offset_to (bytes_at s p) p) at)

or-false : (b : Bool) → (b || false) ≡ b
or-false true = refl
or-false false = refl

-- The pupil's list, beside a kit's list that is not too long.
module _ (kit pupil : List ℕ) (number : ℕ) (kit_short : length kit ≤ 4096) where
  pupil_alike : (found_of pupil (built pupil) number ≡ shown_of kit pupil 2 number) × (found_at pupil (built pupil) number ≡ offset_of kit pupil 2 number)
  unfolding shown_of offset_of
  pupil_alike = rw (le-ltb 4096 (length kit) kit_short) (found_is pupil number (ltb 4096 (length pupil)) refl)

-- The kit's list, beside a pupil's list that is not too long.
module _ (kit pupil : List ℕ) (number : ℕ) (pupil_short : length pupil ≤ 4096) where
  kit_alike : (found_of kit (built kit) number ≡ shown_of kit pupil 1 number) × (found_at kit (built kit) number ≡ offset_of kit pupil 1 number)
  unfolding shown_of offset_of
  kit_alike = rw (le-ltb 4096 (length pupil) pupil_short, or-false (ltb 4096 (length kit))) (found_is kit number (ltb 4096 (length kit)) refl)

-- A part that is found and a part of the same list that was promised with these bytes at this place are one part.
same_part : (list : Bor (List ℕ)) (number : ℕ) (bytes : List ℕ) (offset : ℕ) (a b : Bor (List ℕ))
    → (found_of list.now (built list.now) number ≡ bytes) × (found_at list.now (built list.now) number ≡ offset)
    → found.Promise list (built list.now) number a → (b.now ≡ bytes) × Placed list b offset → (a.now ≡ b.now) × (a.ref_ptr ≡ b.ref_ptr)
same_part list number bytes offset a b alike p q =
    (p.0 ∙ alike.0 ∙ sym q.0, one_place list a b offset (subst (Placed list a) alike.1 p.1) q.1)

-- What `look_up` answers through the index of a sender's list, and what `shown` answers for that sender's number, have the same bytes and the same place.
pub jump_pupil : (kit pupil : Bor (List ℕ)) (number : ℕ) → length kit.now ≤ 4096 → (a b : Bor (List ℕ))
    → found.Promise pupil (built pupil.now) number a → shown.Promise kit pupil 2 number b → (a.now ≡ b.now) × (a.ref_ptr ≡ b.ref_ptr)
jump_pupil kit pupil number kit_short a b p q =
    same_part pupil number (shown_of kit.now pupil.now 2 number) (offset_of kit.now pupil.now 2 number) a b
    (pupil_alike kit.now pupil.now number kit_short) p q

pub jump_kit : (kit pupil : Bor (List ℕ)) (number : ℕ) → length pupil.now ≤ 4096 → (a b : Bor (List ℕ))
    → found.Promise kit (built kit.now) number a → shown.Promise kit pupil 1 number b → (a.now ≡ b.now) × (a.ref_ptr ≡ b.ref_ptr)
jump_kit kit pupil number pupil_short a b p q =
    same_part kit number (shown_of kit.now pupil.now 1 number) (offset_of kit.now pupil.now 1 number) a b
    (kit_alike kit.now pupil.now number pupil_short) p q
