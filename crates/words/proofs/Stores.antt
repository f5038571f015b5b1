-- Bytes stored in a room from a place on: what a writer at a place leaves and where it ends, and bytes laid down one after another.
use Prim.Native.Nat.{ℕ, suc, ◌+◌, ◌-◌, ◌≤◌, ◌<◌}
use mathlib.Core.Path.{◌≡◌, refl, sym, ap, ◌∙◌}
use mathlib.Core.List.{List, [], ◌∷◌, ◌++◌, append_assoc}
use mathlib.Core.Bool.{Bool, true, false, cond}
use native.Mathlib.Omega.{arith}
use lib.ListN.{length, set, take, drop, length-append, length-drop, take-append-drop}
use lib.Seq.{sets, length-sets, sets-eq, set_comm, take_at, length-take-le, drop-drop}
use borrow.Author.Tests.{le-leb, lt-leb, leb-true, leb-false}
use borrow.Rule.Slice.PartMut.{put_mid}
use Rattle.words.specs.BigEndian.{has_room, written}
use Rattle.words.specs.Text.{fits_at, stored_at, place_after}
use Rattle.words.proofs.Laws.{with_room, without_room, part_written, sets-append}

-- A writer at a place that has room stores the bytes and ends behind them. One without leaves the room as it was and ends where it should have begun.
module _ (bytes : List ℕ) (at : ℕ) (room : List ℕ) where
  pub place_fits : at + length bytes ≤ length room → place_after bytes at room ≡ at + length bytes
  place_fits fits = simp (le-leb _ _ fits)

  pub stored_fits : at + length bytes ≤ length room → stored_at bytes at room ≡ sets room at bytes
  stored_fits fits = simp (le-leb _ _ fits)

  pub no_store : length room < at + length bytes → (at ≡ place_after bytes at room) × (room ≡ stored_at bytes at room)
  no_store short = (simp (lt-leb _ _ short), simp (lt-leb _ _ short))

-- A writer at the front of the part that begins at a place is a writer at that place.
module _ (at : ℕ) (bytes room : List ℕ) (within : at ≤ length room) where
  pub room_behind : has_room bytes (drop at room) ≡ fits_at bytes at room
  room_behind = go (fits_at bytes at room) refl
    where
      go : (b : Bool) → fits_at bytes at room ≡ b → has_room bytes (drop at room) ≡ b
      go true fits = le-leb (length bytes) (length (drop at room)) (omega (arith, leb-true (at + length bytes) (length room) fits, length-drop at room))
      go false short = lt-leb (length bytes) (length (drop at room)) (omega (arith, leb-false (at + length bytes) (length room) short, length-drop at room))

  pub part_stored : (part : List ℕ) → part ≡ written bytes (take (length room - at) (drop at room))
      → put_mid at (length room - at) room part ≡ stored_at bytes at room
  part_stored part put = part_written at bytes room part within put ∙ go (fits_at bytes at room) refl
    where
      go : (b : Bool) → fits_at bytes at room ≡ b → take at room ++ written bytes (drop at room) ≡ cond b (sets room at bytes) room
      go true fits =
          let all : at + length bytes ≤ length room = leb-true _ _ fits in
          rw (with_room bytes (drop at room) (omega (arith, length-drop at room)), drop-drop, sets-eq bytes room at all)
          (sym (append_assoc (take at room) bytes (drop (at + length bytes) room)))
      go false short =
          let less : length room < at + length bytes = leb-false _ _ short in
          rw (without_room bytes (drop at room) (omega (arith, length-drop at room))) (take-append-drop at room)

-- The front of a room to which some bytes came.
pub front_more : (room : List ℕ) (at : ℕ) (xs : List ℕ) → at + length xs ≤ length room → take (at + length xs) (sets room at xs) ≡ take at room ++ xs
front_more room at xs fits =
    ap (take (at + length xs)) (sets-eq xs room at fits)
    ∙ take_at (take at room ++ xs) (drop (at + length xs) room) (at + length xs)
    (length-append (take at room) xs ∙ omega (arith, length-take-le at room (omega arith)))

-- A byte behind others may be stored before them.
pub set_before : (room : List ℕ) (p : ℕ) (xs : List ℕ) (q x : ℕ) → p + length xs ≤ q → sets (set room q x) p xs ≡ set (sets room p xs) q x
set_before room p [] q x behind = refl
set_before room p (y ∷ xs) q x behind =
    ap (λ l. sets l (suc p) xs) (set_comm room q p x y (λ same. omega arith)) ∙ set_before (set room p y) (suc p) xs q x (omega arith)

-- These bytes are laid down in a room from a place on, and `at` is the place behind them.
pub record Laid (room₀ : List ℕ) (from : ℕ) (bytes room : List ℕ) (at : ℕ) : Type 0 where
  pub place : at ≡ from + length bytes
  pub stored : room ≡ sets room₀ from bytes

-- What a writer that has room lays down.
pub laid_first : (bytes : List ℕ) (from : ℕ) (room₀ room : List ℕ) (at : ℕ) → from + length bytes ≤ length room₀
    → at ≡ place_after bytes from room₀ → room ≡ stored_at bytes from room₀ → Laid room₀ from bytes room at
laid_first bytes from room₀ room at fits next put =
    record { place = next ∙ place_fits bytes from room₀ fits; stored = put ∙ stored_fits bytes from room₀ fits }

-- The room keeps its length; more bytes have room and are laid down behind.
module _ {room₀ : List ℕ} {from : ℕ} {bytes room : List ℕ} {at : ℕ} (laid : Laid room₀ from bytes room at) where
  pub laid_length : length room ≡ length room₀
  laid_length = ap length laid.stored ∙ length-sets room₀ from bytes

  pub laid_fits : (more : List ℕ) → from + length bytes + length more ≤ length room₀ → at + length more ≤ length room
  laid_fits more fits = omega (arith, laid.place, laid_length)

  pub laid_more : (more room' : List ℕ) (at' : ℕ) → at' ≡ at + length more → room' ≡ sets room at more → Laid room₀ from (bytes ++ more) room' at'
  laid_more more room' at' next put =
      record {
        place = next ∙ omega (arith, laid.place, length-append bytes more);
        stored = put ∙ rw (laid.place, laid.stored) (sets-append room₀ from bytes more);
      }

  pub laid_next : (more room' : List ℕ) (at' : ℕ) → from + length bytes + length more ≤ length room₀
      → at' ≡ place_after more at room → room' ≡ stored_at more at room → Laid room₀ from (bytes ++ more) room' at'
  laid_next more room' at' fits next put =
      let here = laid_fits more fits in
      laid_more more room' at' (next ∙ place_fits more at room here) (put ∙ stored_fits more at room here)
