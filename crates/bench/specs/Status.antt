-- The fields that the status frame has of a bench, and when a bench is sound.
use Rattle.std.specs.Prelude.{ℕ, List, [], ◌∷◌, Bool, cond, not, ◌&&◌, Result, Ok, Err}
use Rattle.words.specs.Codes.{Check, ◌when◌, first_of}
use Rattle.frame.specs.declared.Frame.{Frame}
use Rattle.frame.specs.declared.Pace.{Pace}
use Rattle.frame.specs.Rules.{frame_rule}
use Rattle.camera.specs.declared.Series.{Series}
use Rattle.camera.specs.Series.{next_holds}
use Rattle.camera.specs.Camera.{fresh_camera}
use Rattle.store.specs.declared.Unsound.{Unsound}
use Rattle.store.specs.Pool.{free_in, marks_of}
use Rattle.store.specs.Effects.{fresh_store}
use Rattle.store.specs.Sound.{store_sound}
use Rattle.report.specs.Latest.{no_latest}
use Rattle.housekeeping.specs.declared.Housekeeping.{Housekeeping}
use Rattle.bench.specs.declared.Bench.{Bench}

-- "Fresh: all numbers zero, both intervals 1, no macro open, closed or running."
abbrev pub fresh_bench : Bench
fresh_bench = record { camera = fresh_camera; store = fresh_store; latest = no_latest }

abbrev pub pace_of : Series → Pace
pace_of s = record { time = s.time; interval = s.interval; count = s.count }

-- 01, "Status frame": what each field is of a bench.
abbrev pub status_of : Bench → Frame
status_of b =
    record {
      image = pace_of b.camera.image;
      track = pace_of b.camera.track;
      x = b.camera.x;
      y = b.camera.y;
      xgoal = b.camera.xgoal;
      ygoal = b.camera.ygoal;
      power = b.camera.power;
      auto = b.camera.auto;
      looping = b.camera.looping;
      algorithm = b.camera.algorithm;
      flushes = b.camera.flushes;
      running = b.store.running;
      opened = b.store.opened;
      left = b.store.left;
      closed = marks_of b.store.closed;
    }

-- "A bench state is sound when its fields obey the status frame's rules; next is from 1 to the interval wherever a time is above 0; .."
-- (the clauses on macros are the store's).
abbrev pub rules_hold : Bench → Bool
rules_hold b = frame_rule (status_of b) && next_holds b.camera.image && next_holds b.camera.track

unfoldable pub bench_sound : Bench → Bool
bench_sound b = rules_hold b && store_sound b.store

-- "then 27, the bench state handed in is not sound"
abbrev pub sound_check : Bench → Check
sound_check b = 27 when not (bench_sound b)

-- What asking for the status says: a code, and the frame where it is 0.
pub record StatusTold : Type 0 where
  pub code : ℕ
  pub shown : List Frame

abbrev pub told_status : Result Frame Unsound → StatusTold
told_status (Ok f) = record { code = 0; shown = f ∷ [] }
told_status (Err unsound) = record { code = 27; shown = [] }

unfoldable pub status_at : Bench → StatusTold
status_at b =
    record { code = first_of (sound_check b ∷ []); shown = cond (bench_sound b) (status_of b ∷ []) [] }

-- What asking for the free entries says (02, Q-9): a code, and how many are free, 0 where the code is not 0.
pub record FreeTold : Type 0 where
  pub code : ℕ
  pub free : ℕ

abbrev pub told_free : Result ℕ Unsound → FreeTold
told_free (Ok n) = record { code = 0; free = n }
told_free (Err unsound) = record { code = 27; free = 0 }

unfoldable pub free_at : Bench → FreeTold
free_at b = record { code = first_of (sound_check b ∷ []); free = cond (bench_sound b) (free_in b.store) 0 }

-- 02, Q-11: the numbers of the latest run, and "free slots .., 192 less those in use".
abbrev pub housekeeping_of : Bench → Housekeeping
housekeeping_of b =
    record { received = b.latest.received; failed = b.latest.failed; code = b.latest.code; free = free_in b.store }

-- What asking for the housekeeping says: a code, and the numbers where it is 0.
pub record HousekeepingTold : Type 0 where
  pub code : ℕ
  pub shown : List Housekeeping

abbrev pub told_housekeeping : Result Housekeeping Unsound → HousekeepingTold
told_housekeeping (Ok h) = record { code = 0; shown = h ∷ [] }
told_housekeeping (Err unsound) = record { code = 27; shown = [] }

unfoldable pub housekeeping_at : Bench → HousekeepingTold
housekeeping_at b =
    record { code = first_of (sound_check b ∷ []); shown = cond (bench_sound b) (housekeeping_of b ∷ []) [] }
