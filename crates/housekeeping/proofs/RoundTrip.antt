-- The housekeeping frame can be written as well as read, and comes back equal; and no other bytes read as the same numbers.
use Prim.Native.Nat.{ℕ, ◌+◌, ◌≤◌}
use mathlib.Core.Path.{◌≡◌, refl, sym, ap, ap₂, ◌∙◌}
use mathlib.Core.List.{List, [], ◌∷◌, ◌++◌}
use mathlib.Core.Bool.{false, not}
use native.Mathlib.Omega.{arith}
use lib.ListN.{length, get_or}
use lib.Seq.{take_all}
use lib.Dec.{eqb}
use borrow.Author.Tests.{eqb-true, ltb-false, not-false}
use Rattle.words.specs.BigEndian.{byte_at, word_at, word_bytes}
use Rattle.words.proofs.Order.{NoneDue}
use Rattle.words.proofs.Front.{Bytes, half_back, word_back, bytes_back, front_bytes, front_bytes_lem}
use Rattle.housekeeping.specs.declared.Housekeeping.{Housekeeping}
use Rattle.housekeeping.specs.declared.Item.{Item}
use Rattle.housekeeping.specs.Frame.{item_bytes, frame_bytes, frame_at}
use Rattle.housekeeping.specs.Answers.{Answer, read_checks, read_code, read_of}
use Rattle.housekeeping.proofs.Order.{read_order}
use Rattle.housekeeping.proofs.Answers.{taken_as, taken}

-- A frame has 18 bytes, they say its numbers, and reading them gives these.
pub frame_length : (h : Housekeeping) → length (frame_bytes h) ≡ 18
frame_length h = refl

frame_back : (h : Housekeeping) → frame_at (frame_bytes h) ≡ h
frame_back h = simp (half_back, word_back)

pub read_written : (h : Housekeeping) → read_of (frame_bytes h) ≡ taken_as h
read_written h = sym (taken (frame_bytes h) h refl (omega arith) (sym (frame_back h)))

-- What is known of bytes that were read with code 0.
record Accepted (s : List ℕ) : Type 0 where
  size : length s ≡ 18
  tag0 : byte_at s 0 ≡ 18
  size0 : byte_at s 1 ≡ 4
  tag1 : byte_at s 6 ≡ 19
  size1 : byte_at s 7 ≡ 4
  tag2 : byte_at s 12 ≡ 20
  size2 : byte_at s 13 ≡ 1
  tag3 : byte_at s 15 ≡ 21
  size3 : byte_at s 16 ≡ 1

accepted : (s : List ℕ) → read_code s ≡ 0 → Accepted s
accepted s e =
    let none : NoneDue (read_checks s) = (read_order s).accepted.0 e in
    let same : (i v : ℕ) → not (eqb (byte_at s i) v) ≡ false → byte_at s i ≡ v = λ i v h. eqb-true (byte_at s i) v (not-false (eqb (byte_at s i) v) h) in
    let at_failed = none.1.1.1 in
    let at_code = at_failed.1.1.1 in
    let at_free = at_code.1.1.1 in
    let long : 18 ≤ length s = ltb-false (length s) 18 at_free.0 in
    let short : length s ≤ 18 = ltb-false 18 (length s) at_free.1.1.1.0 in
    record {
      size = omega arith;
      tag0 = same 0 18 none.1.0;
      size0 = same 1 4 none.1.1.0;
      tag1 = same 6 19 at_failed.1.0;
      size1 = same 7 4 at_failed.1.1.0;
      tag2 = same 12 20 at_code.1.0;
      size2 = same 13 1 at_code.1.1.0;
      tag3 = same 15 21 at_free.1.0;
      size3 = same 16 1 at_free.1.1.0;
    }

-- Writing the numbers that were read gives the bytes again.
abbrev four_at : List ℕ → ℕ → List ℕ
four_at s i = byte_at s i ∷ byte_at s (i + 1) ∷ byte_at s (i + 2) ∷ byte_at s (i + 2 + 1) ∷ []

word_again : (s : List ℕ) → Bytes s → (i : ℕ) → word_bytes (word_at s i) ≡ four_at s i
word_again s b i = bytes_back (byte_at s i) (byte_at s (i + 1)) (byte_at s (i + 2)) (byte_at s (i + 2 + 1)) (b i) (b (i + 1)) (b (i + 2)) (b (i + 2 + 1))

-- The frame around the bytes of its two words.
abbrev around : List ℕ → List ℕ → List ℕ → List ℕ
around s received failed =
    item_bytes Item.Received received ++ item_bytes Item.Failed failed ++ item_bytes Item.Code (byte_at s 14 ∷ []) ++ item_bytes Item.Free (byte_at s 17 ∷ [])

pub written_read : (s : List ℕ) → Bytes s → read_code s ≡ 0 → frame_bytes (frame_at s) ≡ s
written_read s b e =
    let known = accepted s e in
    let heads : around s (four_at s 2) (four_at s 8) ≡ front_bytes s 18 =
    rw (known.tag0, known.size0, known.tag1, known.size1, known.tag2, known.size2, known.tag3, known.size3) in
    ap₂ (around s) (word_again s b 2) (word_again s b 8)
    ∙ heads ∙ front_bytes_lem s 18 (omega (arith, known.size)) ∙ take_all 18 s (omega (arith, known.size))

-- So no other bytes read as these numbers.
pub no_other : (s : List ℕ) → Bytes s → (h : Housekeeping) → read_of s ≡ taken_as h → s ≡ frame_bytes h
unfolding read_of
no_other s b h read =
    let code : read_code s ≡ 0 = ap (λ (a : Answer). a.code) read in
    let shown : read_of s ≡ taken_as (frame_at s) = rw code in
    let numbers : frame_at s ≡ h = ap (λ (a : Answer). get_or a.taken 0 h) (sym shown ∙ read) in
    sym (written_read s b code) ∙ ap frame_bytes numbers
