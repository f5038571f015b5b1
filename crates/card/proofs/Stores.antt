-- Stores from a place of a room on.
use Prim.Native.Nat.{ℕ, ◌+◌, ◌-◌, ◌≤◌}
use mathlib.Core.Path.{◌≡◌, refl, sym, ap, ◌∙◌}
use mathlib.Core.List.{List, [], ◌++◌, append_assoc}
use native.Mathlib.Omega.{arith}
use native.Mathlib.Nat.{add-zero}
use lib.ListN.{length, take, drop, length-append, length-drop}
use Rattle.words.specs.Text.{stored_at}
use borrow.Author.Tests.{le-leb}
use lib.Seq.{sets, sets-eq, length-sets, drop-drop}
use borrow.Rule.Slice.PartMut.{put_mid}
use Rattle.words.specs.BigEndian.{written}
use Rattle.words.proofs.Laws.{with_room, part_written, sets-append}

-- What a writer does to the part of a room that begins at a place is a store from there on.
pub part_sets : (p : ℕ) (bytes room part : List ℕ) → p + length bytes ≤ length room → part ≡ written bytes (take (length room - p) (drop p room))
    → put_mid p (length room - p) room part ≡ sets room p bytes
part_sets p bytes room part fits put =
    part_written p bytes room part (omega arith) put
    ∙ ap (λ l. take p room ++ l) (with_room bytes (drop p room) (omega (arith, length-drop p room)))
    ∙ rw drop-drop (sym (append_assoc (take p room) bytes (drop (p + length bytes) room)))
    ∙ sym (sets-eq bytes room p fits)

-- Bytes that were put from a place on, and the place behind them.
abbrev pub PutAs : List ℕ → ℕ → List ℕ → ℕ → List ℕ → Type 0
PutAs room at xs end after = (end ≡ at + length xs) × (after ≡ sets room at xs)

pub put_none : (room : List ℕ) (at : ℕ) → PutAs room at [] at room
put_none room at = (sym (add-zero at), refl)

pub put_both : (room mid after : List ℕ) (at one two : ℕ) (xs ys : List ℕ) → PutAs room at xs one mid → PutAs mid one ys two after
    → PutAs room at (xs ++ ys) two after
put_both room mid after at one two xs ys p q =
    (omega (arith, p.0, q.0, length-append xs ys), q.1 ∙ rw (p.1, p.0) (sets-append room at xs ys))

pub put_length : (room after : List ℕ) (at end : ℕ) (xs : List ℕ) → PutAs room at xs end after → length after ≡ length room
put_length room after at end xs p = ap length p.1 ∙ length-sets room at xs

-- The same bytes by another name.
pub put_as : (room after : List ℕ) (at end : ℕ) (xs ys : List ℕ) → ys ≡ xs → PutAs room at xs end after → PutAs room at ys end after
put_as room after at end xs ys e p = rw e p

-- Where two things fit one behind the other, the first fits, and when it is put, the second.
pub fits_front : (room : List ℕ) (at : ℕ) (xs ys : List ℕ) → at + length (xs ++ ys) ≤ length room → at + length xs ≤ length room
fits_front room at xs ys fits = omega (arith, length-append xs ys)

pub fits_rest : (room mid : List ℕ) (at one : ℕ) (xs ys : List ℕ) → PutAs room at xs one mid → at + length (xs ++ ys) ≤ length room
    → one + length ys ≤ length mid
fits_rest room mid at one xs ys p fits = omega (arith, length-append xs ys, p.0, put_length room mid at one xs p)

-- What `put_at` of `words` leaves where the bytes fit.
pub put_fits : (room after : List ℕ) (at : ℕ) (bytes : List ℕ) → at + length bytes ≤ length room → after ≡ stored_at bytes at room
    → PutAs room at bytes (at + length bytes) after
put_fits room after at bytes fits put = (refl, put ∙ rw (le-leb (at + length bytes) (length room) fits))
