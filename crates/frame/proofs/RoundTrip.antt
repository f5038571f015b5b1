-- Frames can be written as well as read, and come back equal.
use Prim.Native.Nat.{ℕ, zero, suc, ◌+◌, ◌/◌, ◌%◌, ◌<◌, ◌≤◌, ◌^◌}
use mathlib.Core.Path.{◌≡◌, refl, sym, ap, ap₂, ◌∙◌}
use mathlib.Core.List.{List, [], ◌∷◌, ◌++◌}
use mathlib.Core.Bool.{Bool, true, false, ◌&&◌}
use native.Mathlib.Omega.{arith}
use lib.ListN.{length, get_or}
use lib.Seq.{take_all}
use lib.Count.{ones, ones-le}
use lib.Dec.{eqb}
use borrow.Author.Tests.{eq-eqb, eqb-true, eqb-false, not-false}
use Rattle.words.specs.BigEndian.{byte_at, half_at, word_at, half_bytes, word_bytes}
use Rattle.words.proofs.Tests.{both}
use Rattle.words.proofs.Order.{due_none}
use Rattle.words.proofs.Front.{Bytes, half_back, word_back, bytes_back, front_bytes, front_bytes_lem}
use Rattle.frame.specs.declared.Frame.{Frame}
use Rattle.frame.specs.Rules.{frame_rule}
use Rattle.frame.specs.Bytes.{bit, modes_of, frame_bytes, frame_at, spare_bits_zero, count_holds}
use Rattle.frame.specs.Answers.{read_checks, read_code, read_of}
use Rattle.frame.proofs.Laws.{Held, ruled}
use Rattle.frame.proofs.Modes.{bit_le, modes_le}
use Rattle.frame.proofs.Answers.{taken_as, taken}

-- Byte 24 gives back each flag and the algorithm, and its spare bits are zero.
bit_back : (on : Bool) → eqb (bit on) 1 ≡ on
bit_back false = refl
bit_back true = refl

module _ (power auto looping : Bool) (algorithm : ℕ) (in_range : algorithm ≤ 2) where
  abbrev modes : ℕ
  modes = modes_of power auto looping algorithm

  power_back : eqb (modes % 2) 1 ≡ power
  power_back =
      let low : modes % 2 ≡ bit power = omega (arith, bit_le power, bit_le auto, bit_le looping) in
      rw low (bit_back power)

  auto_back : eqb (modes / 2 % 2) 1 ≡ auto
  auto_back =
      let low : modes / 2 % 2 ≡ bit auto = omega (arith, bit_le power, bit_le auto, bit_le looping) in
      rw low (bit_back auto)

  looping_back : eqb (modes / 4 % 2) 1 ≡ looping
  looping_back =
      let low : modes / 4 % 2 ≡ bit looping = omega (arith, bit_le power, bit_le auto, bit_le looping) in
      rw low (bit_back looping)

  algorithm_back : modes / 16 % 4 ≡ algorithm
  algorithm_back = omega (arith, bit_le power, bit_le auto, bit_le looping)

  spare_back : (eqb (modes / 8 % 2) 0 && eqb (modes / 64) 0) ≡ true
  spare_back =
      let third : modes / 8 % 2 ≡ 0 = omega (arith, bit_le power, bit_le auto, bit_le looping) in
      let top : modes / 64 ≡ 0 = omega (arith, bit_le power, bit_le auto, bit_le looping) in
      rw (third, top)

-- The fields that a frame's bytes say are the frame's.
frame_back : (f : Frame) → f.algorithm ≤ 2 → frame_at (frame_bytes f) ≡ f
frame_back f h =
    let p = f.power in
    let a = f.auto in
    let t = f.looping in
    let g = f.algorithm in
    simp (
      half_back,
      word_back,
      power_back p a t g h,
      auto_back p a t g h,
      looping_back p a t g h,
      algorithm_back p a t g h,
    )

-- Where the macro that runs and its seconds left stand: byte 26, and bytes 28 and 29.
pub running_byte : (f : Frame) → byte_at (frame_bytes f) 26 ≡ f.running
running_byte f = refl

pub left_bytes : (f : Frame) → half_at (frame_bytes f) 28 ≡ f.left
left_bytes f = half_back f.left

-- A frame has 32 bytes, and reading them gives the frame. (For this its fields need not be below their widths; that they are makes them bytes,
-- below.)
pub frame_length : (f : Frame) → length (frame_bytes f) ≡ 32
frame_length f = refl

pub read_written : (f : Frame) → frame_rule f ≡ true → read_of (frame_bytes f) ≡ taken_as f
read_written f e =
    let h = (ruled f e).algorithm in
    let spare : spare_bits_zero (frame_bytes f) ≡ true = spare_back f.power f.auto f.looping f.algorithm h in
    let count : count_holds (frame_bytes f) ≡ true = eq-eqb (ones f.closed) (ones f.closed) refl in
    sym (taken (frame_bytes f) f (frame_length f) spare count (sym (frame_back f h)) e)

-- The bytes of a frame that a program can hold are bytes.
abbrev AllBelow : List ℕ → Type 0
AllBelow [] = Unit
AllBelow (v ∷ s) = (v < 2 ^ 8) × AllBelow s

all_bytes : (s : List ℕ) → AllBelow s → Bytes s
all_bytes [] all i = omega arith
all_bytes (v ∷ s) all zero = all.0
all_bytes (v ∷ s) all (suc i) = all_bytes s all.1 i

pub written_bytes : (f : Frame) → Held f → frame_rule f ≡ true → Bytes (frame_bytes f)
written_bytes f h e =
    let modes = modes_le f.power f.auto f.looping f.algorithm (ruled f e).algorithm in
    let count = ones-le 8 f.closed h.closed in
    all_bytes (frame_bytes f) (omega arith)

-- What is known of bytes that were read with code 0.
record Accepted (s : List ℕ) : Type 0 where
  size : length s ≡ 32
  spare3 : get_or s 24 0 / 8 % 2 ≡ 0
  spare67 : get_or s 24 0 / 64 ≡ 0
  count : get_or s 31 0 ≡ ones (get_or s 30 0)
  rule : frame_rule (frame_at s) ≡ true

accepted : (s : List ℕ) → read_code s ≡ 0 → Accepted s
unfolding read_code
accepted s e =
    let checks = due_none (read_checks s) refl e in
    let rules = spare_bits_zero s && count_holds s && frame_rule (frame_at s) in
    let fields = both (spare_bits_zero s && count_holds s) (frame_rule (frame_at s)) (not-false rules checks.1.0) in
    let bytes = both (spare_bits_zero s) (count_holds s) fields.0 in
    let spare = both (eqb (byte_at s 24 / 8 % 2) 0) (eqb (byte_at s 24 / 64) 0) bytes.0 in
    record {
      size = eqb-true (length s) 32 (not-false (eqb (length s) 32) checks.0);
      spare3 = eqb-true (byte_at s 24 / 8 % 2) 0 spare.0;
      spare67 = eqb-true (byte_at s 24 / 64) 0 spare.1;
      count = eqb-true (byte_at s 31) (ones (byte_at s 30)) bytes.1;
      rule = fields.1;
    }

-- The frame that was read obeys the rules, and a program can hold it.
pub read_obeys : (s : List ℕ) → read_code s ≡ 0 → frame_rule (frame_at s) ≡ true
read_obeys s e = (accepted s e).rule

pub read_held : (s : List ℕ) → Bytes s → Held (frame_at s)
read_held s b =
    let half : (i : ℕ) → half_at s i < 2 ^ 16 = λ i. omega (arith, b i, b (i + 1)) in
    let word : (i : ℕ) → word_at s i < 2 ^ 32 = λ i. omega (arith, half i, half (i + 2)) in
    record {
      image = record { time = half 0; interval = half 2; count = half 8 };
      track = record { time = half 4; interval = half 6; count = half 10 };
      x = half 12;
      y = half 14;
      xgoal = word 16;
      ygoal = word 20;
      algorithm = omega (arith, b 24);
      flushes = b 25;
      running = b 26;
      opened = b 27;
      left = half 28;
      closed = b 30;
    }

-- A bit out of a byte is that bit.
bit_of_eqb : (v : ℕ) → v < 2 → bit (eqb v 1) ≡ v
bit_of_eqb v h = go (eqb v 1) refl
  where
    go : (t : Bool) → eqb v 1 ≡ t → bit t ≡ v
    go true e = sym (eqb-true v 1 e)
    go false e = omega (arith, eqb-false v 1 e)

-- Byte 24 from the flags and the algorithm that it says.
modes_again : (v : ℕ) → v / 8 % 2 ≡ 0 → v / 64 ≡ 0 → modes_of (eqb (v % 2) 1) (eqb (v / 2 % 2) 1) (eqb (v / 4 % 2) 1) (v / 16 % 4) ≡ v
modes_again v third top =
    let by4 : v / 4 ≡ v / 2 / 2 = omega arith in
    let by8 : v / 8 ≡ v / 4 / 2 = omega arith in
    let by16 : v / 16 ≡ v / 8 / 2 = omega arith in
    let by64 : v / 64 ≡ v / 16 / 4 = omega arith in
    rw (bit_of_eqb (v % 2) (omega arith), bit_of_eqb (v / 2 % 2) (omega arith), bit_of_eqb (v / 4 % 2) (omega arith)) (omega arith)

-- Numbers that were read of some bytes are those bytes.
half_again : (s : List ℕ) → Bytes s → (i : ℕ) → half_bytes (half_at s i) ≡ byte_at s i ∷ byte_at s (i + 1) ∷ []
half_again s b i =
    let low = b (i + 1) in
    let high : half_at s i / 256 ≡ byte_at s i = omega arith in
    let rest : half_at s i % 256 ≡ byte_at s (i + 1) = omega arith in
    rw (high, rest)

word_again : (s : List ℕ) → Bytes s → (i : ℕ)
    → word_bytes (word_at s i) ≡ byte_at s i ∷ byte_at s (i + 1) ∷ byte_at s (i + 2) ∷ byte_at s (i + 2 + 1) ∷ []
word_again s b i = bytes_back (byte_at s i) (byte_at s (i + 1)) (byte_at s (i + 2)) (byte_at s (i + 2 + 1)) (b i) (b (i + 1)) (b (i + 2)) (b (i + 2 + 1))

-- Writing the frame that was read gives the bytes again: they are the first 32 of them, part by part.
pub written_read : (s : List ℕ) → Bytes s → read_code s ≡ 0 → frame_bytes (frame_at s) ≡ s
written_read s b e =
    let known = accepted s e in
    let modes = modes_again (byte_at s 24) known.spare3 known.spare67 in
    let half = half_again s b in
    let all : frame_bytes (frame_at s) ≡ front_bytes s 32 =
    ap₂ ◌++◌ (half 0)
    (ap₂ ◌++◌ (half 2)
    (ap₂ ◌++◌ (half 4)
    (ap₂ ◌++◌ (half 6)
    (ap₂ ◌++◌ (half 8)
    (ap₂ ◌++◌ (half 10)
    (ap₂ ◌++◌ (half 12)
    (ap₂ ◌++◌ (half 14)
    (ap₂ ◌++◌ (word_again s b 16)
    (ap₂ ◌++◌ (word_again s b 20)
    (ap₂ (λ v l. v ∷ byte_at s 25 ∷ byte_at s 26 ∷ byte_at s 27 ∷ l) modes
    (ap₂ ◌++◌ (half 28) (ap (λ v. byte_at s 30 ∷ v ∷ []) (sym known.count))))))))))))) in
    all ∙ front_bytes_lem s 32 (omega (arith, known.size)) ∙ take_all 32 s (omega (arith, known.size))
