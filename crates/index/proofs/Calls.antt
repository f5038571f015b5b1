-- `build` as a caller meets it: when it is taken, what a refusal leaves, what stands in the room, and that an index which is kept up as its list grows
-- stays the index of its list.
use Prim.Native.Nat.{ℕ, ◌≤◌}
use mathlib.Core.Path.{◌≡◌, refl, ap, ◌∙◌}
use mathlib.Core.Logic.{◌↔◌, ◌≢◌}
use mathlib.Core.List.{List, [], ◌∷◌, ◌++◌}
use mathlib.Core.Bool.{Bool, true, false}
use native.Mathlib.Omega.{arith}
use lib.ListN.{length, take, drop, length-append}
use lib.Seq.{take_at}
use lib.Dec.{ltb}
use borrow.Author.Tests.{ltb-false, le-ltb, ne_eqb}
use Rattle.words.specs.Codes.{◌when◌, first_of}
use Rattle.words.proofs.Tests.{neither}
use Rattle.walk.specs.Walk.{rests}
use Rattle.index.specs.Index.{index_of, built}
use Rattle.index.specs.Answers.{unfit, too_small, build_code, built_as, room_after}
use Rattle.index.proofs.Built.{built_holds, built_few, built_fits}
use Rattle.index.proofs.Extended.{extended_built}
use Rattle.index.proofs.Order.{build_order}

module _ (s old room : List ℕ) where
  -- Demand 1: a refusal leaves every place of the room as it was.
  pub refused_leaves : build_code s old room ≢ 0 → room_after s old room ≡ room
  unfolding room_after
  refused_leaves refused = rw (ne_eqb (build_code s old room) 0 refused)

  -- An accepted call leaves the index at the front of the room, in as many places as it says, and the rest as it was.
  module _ (taken : build_code s old room ≡ 0) where
    pub taken_count : (built_as s old room).count ≡ length (index_of s old)
    unfolding built_as
    taken_count = rw taken

    pub taken_front : take (built_as s old room).count (room_after s old room) ≡ index_of s old
    unfolding room_after
    taken_front = rw (taken_count, taken) (take_at (index_of s old) (drop (length (index_of s old)) room) (length (index_of s old)) refl)

-- Built anew, an index is had exactly when the list is not too long and the room has a place for each of its commands; 512 places are always enough.
pub anew_taken : (s room : List ℕ) → (build_code s [] room ≡ 0) ↔ ((length s ≤ 4096) × (length (rests s) ≤ length room))
unfolding build_code
anew_taken s room = (down, up)
  where
    down : build_code s [] room ≡ 0 → (length s ≤ 4096) × (length (rests s) ≤ length room)
    down taken =
        let none = (build_order s [] room).accepted.0 taken in
        let fits = (neither (ltb 512 (length (built s))) (ltb (length room) (length (built s))) none.1.1.0).1 in
        (ltb-false 4096 (length s) none.0, omega (arith, (built_holds s).count, ltb-false (length room) (length (built s)) fits))

    up : (length s ≤ 4096) × (length (rests s) ≤ length room) → build_code s [] room ≡ 0
    up enough =
        rw (
          le-ltb 4096 (length s) enough.0,
          le-ltb 512 (length (built s)) (built_few s enough.0),
          le-ltb (length room) (length (built s)) (omega (arith, (built_holds s).count, enough.1)),
        )

pub anew_512 : (s room : List ℕ) → length s ≤ 4096 → 512 ≤ length room → build_code s [] room ≡ 0
anew_512 s room short long = (anew_taken s room).1 (short, omega (arith, (built_holds s).count, built_few s short))

-- Extending the index of s to that of s ++ t answers what building anew answers, and leaves the same room, for every s and t.
module _ (s t room : List ℕ) where
  same_code : build_code (s ++ t) (built s) room ≡ build_code (s ++ t) [] room
  unfolding build_code
  same_code = go (ltb 4096 (length (s ++ t))) refl
    where
      code : Bool → Bool → List ℕ → ℕ
      code long bad index = first_of (20 when long ∷ 54 when bad ∷ 24 when too_small index room ∷ [])

      go : (b : Bool) → ltb 4096 (length (s ++ t)) ≡ b
          → code b (unfit (length (s ++ t)) (built s)) (index_of (s ++ t) (built s)) ≡ code b (unfit (length (s ++ t)) []) (built (s ++ t))
      go true is = refl
      go false is =
          let short = ltb-false 4096 (length (s ++ t)) is in
          let long = length-append s t in
          rw (built_fits s (length (s ++ t)) (omega arith) (omega arith), extended_built s t)

  pub extended_answer : built_as (s ++ t) (built s) room ≡ built_as (s ++ t) [] room
  unfolding built_as
  extended_answer = rw (same_code, extended_built s t)

  pub extended_room : room_after (s ++ t) (built s) room ≡ room_after (s ++ t) [] room
  unfolding room_after
  extended_room = rw (same_code, extended_built s t)

-- So an index is kept: built anew it is the index of its list, and extended from one that is, it is that of the grown list.
pub kept_anew : (s room : List ℕ) → build_code s [] room ≡ 0 → take (built_as s [] room).count (room_after s [] room) ≡ built s
kept_anew s room taken = taken_front s [] room taken

pub kept_grown : (s t old room : List ℕ) → old ≡ built s → build_code (s ++ t) old room ≡ 0
    → take (built_as (s ++ t) old room).count (room_after (s ++ t) old room) ≡ built (s ++ t)
kept_grown s t old room own taken = taken_front (s ++ t) old room taken ∙ ap (index_of (s ++ t)) own ∙ extended_built s t
