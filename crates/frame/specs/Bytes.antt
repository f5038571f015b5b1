-- 01, "Status frame, 32 bytes": where each field stands.
use Rattle.std.specs.Prelude.{ℕ, ◌+◌, ◌*◌, ◌/◌, ◌%◌, List, [], ◌∷◌, ◌++◌, Bool, true, false, ◌&&◌, eqb}
use Rattle.std.specs.Int.Count.{ones}
use Rattle.words.specs.BigEndian.{byte_at, half_at, word_at, half_bytes, word_bytes}
use Rattle.frame.specs.declared.Frame.{Frame}
use Rattle.frame.specs.declared.Pace.{Pace}

-- A bit as a number.
abbrev pub bit : Bool → ℕ
bit false = 0
bit true = 1

-- Byte 24: bit 0 power, bit 1 auto flush, bit 2 loop, bits 4-5 algorithm, rest 0.
abbrev pub modes_of : Bool → Bool → Bool → ℕ → ℕ
modes_of power auto looping algorithm = bit power + bit auto * 2 + bit looping * 4 + algorithm * 16

-- The 32 bytes of a frame, in their order.
abbrev pub frame_bytes : Frame → List ℕ
frame_bytes f =
    half_bytes f.image.time
    ++ half_bytes f.image.interval
    ++ half_bytes f.track.time
    ++ half_bytes f.track.interval
    ++ half_bytes f.image.count
    ++ half_bytes f.track.count
    ++ half_bytes f.x
    ++ half_bytes f.y
    ++ word_bytes f.xgoal
    ++ word_bytes f.ygoal
    ++ (modes_of f.power f.auto f.looping f.algorithm ∷ f.flushes ∷ f.running ∷ f.opened ∷ [])
    ++ half_bytes f.left
    ++ (f.closed ∷ ones f.closed ∷ [])

-- A series: its time, the interval behind it, and its count elsewhere.
abbrev pub pace_at : List ℕ → ℕ → ℕ → Pace
pace_at s time count = record { time = half_at s time; interval = half_at s (time + 2); count = half_at s count }

-- The fields that 32 bytes say.
abbrev pub frame_at : List ℕ → Frame
frame_at s =
    record {
      image = pace_at s 0 8;
      track = pace_at s 4 10;
      x = half_at s 12;
      y = half_at s 14;
      xgoal = word_at s 16;
      ygoal = word_at s 20;
      power = eqb (byte_at s 24 % 2) 1;
      auto = eqb (byte_at s 24 / 2 % 2) 1;
      looping = eqb (byte_at s 24 / 4 % 2) 1;
      algorithm = byte_at s 24 / 16 % 4;
      flushes = byte_at s 25;
      running = byte_at s 26;
      opened = byte_at s 27;
      left = half_at s 28;
      closed = byte_at s 30;
    }

-- "the bits given as 0 zero": bits 3, 6 and 7 of byte 24.
abbrev pub spare_bits_zero : List ℕ → Bool
spare_bits_zero s = eqb (byte_at s 24 / 8 % 2) 0 && eqb (byte_at s 24 / 64) 0

-- "byte 31 true": how many bits of byte 30 are ones.
abbrev pub count_holds : List ℕ → Bool
count_holds s = eqb (byte_at s 31) (ones (byte_at s 30))
