-- One second of a bench.
use Rattle.std.specs.Prelude.{ℕ, ◌-◌, List, [], ◌∷◌, ◌++◌, cond, length, take, replicate, Result, Ok, Err}
use Rattle.words.specs.Codes.{first_of}
use Rattle.wire.specs.declared.kinds.Kind.{Kind}
use Rattle.wire.specs.declared.judging.Told.{Told}
use Rattle.wire.specs.Judge.{plain}
use Rattle.camera.specs.declared.Camera.{Camera}
use Rattle.camera.specs.Camera.{executed_of, camera_second, dark}
use Rattle.store.specs.declared.Unsound.{Unsound}
use Rattle.store.specs.Effects.{kinds_in, next_group, after_second}
use Rattle.bench.specs.declared.Bench.{Bench}
use Rattle.bench.specs.declared.Passed.{Passed}
use Rattle.bench.specs.Status.{bench_sound, sound_check}

-- What a second answers: the code, the bench afterwards, the kinds that were handed over, in order, and the code of each of them.
pub record SecondTold : Type 0 where
  pub told : Told
  pub bench : Bench
  pub handed : List Kind
  pub codes : List ℕ

-- A second of a bench that is not sound: the bench is the one that was handed in, and nothing is handed over.
abbrev pub stayed_at : Bench → SecondTold
stayed_at b = record { told = plain 27; bench = b; handed = []; codes = [] }

abbrev pub passed_of : Bench → Result Passed Unsound → SecondTold
passed_of b (Ok r) =
    record {
      told = plain 0;
      bench = r.bench;
      handed = kinds_in r.group;
      codes = take r.group.count r.codes;
    }
passed_of b (Err unsound) = stayed_at b

-- The codes stand in 64 places, one to an entry of the group; the places behind them hold zeros.
abbrev pub codes_shown : List ℕ → List ℕ
codes_shown codes = codes ++ replicate (64 - length codes) 0

-- 02, Q-3: "When a running macro hands such a one over with power off it has no effect, the second's answer shows it with code 26". The power is that
-- of the camera which the entry finds.
abbrev pub handed_to : Camera → Kind → Camera
handed_to camera k = cond (dark camera.power k) camera (executed_of camera k)

abbrev pub handed_code : Camera → Kind → ℕ
handed_code camera k = cond (dark camera.power k) 26 0

-- What is handed over is executed, "each before it takes the next" (02, Q-2); so each finds the camera that those before it left.
abbrev pub executed_all : Camera → List Kind → Camera
executed_all camera [] = camera
executed_all camera (k ∷ ks) = executed_all (handed_to camera k) ks

abbrev pub handed_codes : Camera → List Kind → List ℕ
handed_codes camera [] = []
handed_codes camera (k ∷ ks) = handed_code camera k ∷ handed_codes (handed_to camera k) ks

-- "First each series ..; second, if a macro runs, the next" group "of its written-out list is handed over and executed".
abbrev pub bench_after : Bench → Bench
bench_after b =
    record { camera = executed_all (camera_second b.camera) (next_group b.store); store = after_second b.store; latest = b.latest }

unfoldable pub second_at : Bench → SecondTold
second_at b =
    record {
      told = plain (first_of (sound_check b ∷ []));
      bench = cond (bench_sound b) (bench_after b) b;
      handed = cond (bench_sound b) (next_group b.store) [];
      codes = cond (bench_sound b) (handed_codes (camera_second b.camera) (next_group b.store)) [];
    }
