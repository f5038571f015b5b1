-- The camera's fields: what an executed command sets, which one asks for pictures in the dark, and what one second does. Macro commands leave the
-- camera as it is.
use Rattle.std.specs.Prelude.{ℕ, ◌+◌, ◌%◌, Bool, false, not, ◌&&◌, ◌==◌, nat_lt, to_bits}
use Rattle.std.specs.Float.{binary32}
use Rattle.wire.specs.declared.kinds.Kind.{Kind}
use Rattle.camera.specs.declared.Series.{Series}
use Rattle.camera.specs.declared.Camera.{Camera}
use Rattle.camera.specs.Series.{fresh_series, started_of, second_of}

-- A mode of 1 is on.
abbrev pub is_on : ℕ → Bool
is_on mode = mode == 1

abbrev pub camera_with : Series → Series → ℕ → ℕ → ℕ → ℕ → Bool → Bool → Bool → ℕ → ℕ → Camera
camera_with image track x y xgoal ygoal power auto looping algorithm flushes =
    record {
      image = image;
      track = track;
      x = x;
      y = y;
      xgoal = xgoal;
      ygoal = ygoal;
      power = power;
      auto = auto;
      looping = looping;
      algorithm = algorithm;
      flushes = flushes;
    }

abbrev pub fresh_camera : Camera
fresh_camera = camera_with fresh_series fresh_series 0 0 0 0 false false false 0 0

abbrev pub with_series : Camera → Series → Series → Camera
with_series c image track =
    camera_with image track c.x c.y c.xgoal c.ygoal c.power c.auto c.looping c.algorithm c.flushes

abbrev pub with_region : Camera → ℕ → ℕ → Camera
with_region c x y =
    camera_with c.image c.track x y c.xgoal c.ygoal c.power c.auto c.looping c.algorithm c.flushes

abbrev pub with_goal : Camera → ℕ → ℕ → Camera
with_goal c xgoal ygoal =
    camera_with c.image c.track c.x c.y xgoal ygoal c.power c.auto c.looping c.algorithm c.flushes

abbrev pub with_modes : Camera → Bool → Bool → Bool → ℕ → Camera
with_modes c power auto looping algorithm =
    camera_with c.image c.track c.x c.y c.xgoal c.ygoal power auto looping algorithm c.flushes

abbrev pub with_flushes : Camera → ℕ → Camera
with_flushes c flushes =
    camera_with c.image c.track c.x c.y c.xgoal c.ygoal c.power c.auto c.looping c.algorithm flushes

-- "Mode, region and goal commands set their fields. FLUSH adds 1 to an 8-bit count that wraps. IMAGE sets time T, interval I and "next" to 1 ..;
-- TRACK does the same for its own series."
abbrev pub executed_of : Camera → Kind → Camera
executed_of c (Kind.ImgPwr mode) = with_modes c (is_on mode) c.auto c.looping c.algorithm
executed_of c (Kind.ImgRegion x y) = with_region c x y
executed_of c (Kind.ImgTrack time interval) = with_series c c.image (started_of c.track time interval)
executed_of c (Kind.TrkAlg mode) = with_modes c c.power c.auto c.looping mode
executed_of c (Kind.TrkLoop mode) = with_modes c c.power c.auto (is_on mode) c.algorithm
executed_of c (Kind.ImgImage time interval) = with_series c (started_of c.image time interval) c.track
executed_of c (Kind.TrkGoal x y) = with_goal c (to_bits binary32 x) (to_bits binary32 y)
executed_of c Kind.TlmFlush = with_flushes c ((c.flushes + 1) % 256)
executed_of c (Kind.FlushAuto mode) = with_modes c c.power (is_on mode) c.looping c.algorithm
executed_of c (Kind.Open number) = c
executed_of c Kind.Close = c
executed_of c (Kind.Run number) = c
executed_of c (Kind.Wait seconds) = c
executed_of c Kind.Stop = c
executed_of c Kind.Clear = c

-- 02, Q-3: "An IMAGE or TRACK with a time above 0" asks for pictures; with a time of 0 it asks for none.
abbrev pub asks_picture : Kind → Bool
asks_picture (Kind.ImgPwr mode) = false
asks_picture (Kind.ImgRegion x y) = false
asks_picture (Kind.ImgTrack time interval) = nat_lt 0 time
asks_picture (Kind.TrkAlg mode) = false
asks_picture (Kind.TrkLoop mode) = false
asks_picture (Kind.ImgImage time interval) = nat_lt 0 time
asks_picture (Kind.TrkGoal x y) = false
asks_picture Kind.TlmFlush = false
asks_picture (Kind.FlushAuto mode) = false
asks_picture (Kind.Open number) = false
asks_picture Kind.Close = false
asks_picture (Kind.Run number) = false
asks_picture (Kind.Wait seconds) = false
asks_picture Kind.Stop = false
asks_picture Kind.Clear = false

-- ".. is refused while power is off": such a one is dark.
abbrev pub dark : Bool → Kind → Bool
dark power kind = asks_picture kind && not power

-- The first of the two things that a second does: each series takes its step.
abbrev pub camera_second : Camera → Camera
camera_second c = with_series c (second_of c.image) (second_of c.track)
