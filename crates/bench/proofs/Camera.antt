-- The camera's part of a sound bench: the status frame's rules on its fields, and `next` of each series. Every allowed command and every second keep it.
use Prim.Native.Nat.{ℕ, ◌+◌, ◌%◌, ◌≤◌}
use mathlib.Core.Path.{◌≡◌, refl}
use mathlib.Core.List.{List, [], ◌∷◌}
use mathlib.Core.Bool.{Bool, true, false, cond, ◌&&◌}
use native.Mathlib.Omega.{arith}
use lib.Dec.{leb, eqb}
use borrow.Author.Tests.{leb-true, eqb-true, not-false}
use Rattle.words.proofs.Tests.{both}
use Rattle.words.proofs.Order.{due_none}
use Rattle.wire.specs.declared.table.Form.{Form}
use Rattle.wire.specs.declared.kinds.Kind.{Kind}
use Rattle.wire.specs.declared.kinds.Command.{Command}
use Rattle.wire.specs.Table.{row_of}
use Rattle.wire.specs.Judge.{first_bad, bad_in, arg_checks, judge_code}
use Rattle.wire.specs.Kind.{parts_of}
use Rattle.frame.proofs.Laws.{region_within, mode_within}
use Rattle.camera.specs.declared.Camera.{Camera}
use Rattle.camera.specs.Camera.{is_on, camera_with, fresh_camera, executed_of, camera_second, dark}
use Rattle.camera.proofs.Images.{GoodSeries, started_good, series_second}
use Rattle.store.proofs.Handed.{All, Plain}
use Rattle.bench.specs.Second.{handed_to, executed_all}

pub record GoodCamera (c : Camera) : Type 0 where
  pub image : GoodSeries c.image
  pub track : GoodSeries c.track
  pub x : c.x ≤ 1023
  pub y : c.y ≤ 1023
  pub goal : first_bad (row_of Form.TrkGoal) c.xgoal c.ygoal ≡ 0
  pub algorithm : c.algorithm ≤ 2

pub fresh_camera_lem : GoodCamera fresh_camera
fresh_camera_lem =
    record {
      image = record { interval = omega arith; next = refl };
      track = record { interval = omega arith; next = refl };
      x = omega arith;
      y = omega arith;
      goal = refl;
      algorithm = omega arith;
    }

-- One second of both series.
pub camera_second_lem : (c : Camera) → GoodCamera c → GoodCamera (camera_second c)
camera_second_lem c good =
    record {
      image = series_second c.image good.image;
      track = series_second c.track good.track;
      x = good.x;
      y = good.y;
      goal = good.goal;
      algorithm = good.algorithm;
    }

-- An allowed command has no argument out of range.
pub allowed_range : (c : Command) → judge_code c ≡ 0 → bad_in (parts_of c.kind) ≡ 0
unfolding judge_code
allowed_range c h =
    let bad = bad_in (parts_of c.kind) in
    eqb-true bad 0 (not-false (eqb bad 0) (due_none (arg_checks c) refl h).0)

both_in : (a b : Bool) → ◌≡◌ {A = ℕ} (cond a (cond b 0 2) 1) 0 → (a ≡ true) × (b ≡ true)
both_in true true e = (refl, refl)
both_in true false e = absurd (omega arith)
both_in false b e = absurd (omega arith)

-- The time that IMAGE or TRACK may set is at most 65535, and the interval at least 1.
pub series_range : (time interval : ℕ) → first_bad (row_of Form.ImgImage) time interval ≡ 0 → (time ≤ 65535) × (1 ≤ interval)
series_range time interval h =
    let range = both_in (leb 0 time && leb time 65535) (leb 1 interval && leb interval 65535) h in
    (leb-true time 65535 (both (leb 0 time) (leb time 65535) range.0).1, leb-true 1 interval (both (leb 1 interval) (leb interval 65535) range.1).0)

-- No rule speaks of the three flags and of the flush count.
modes_good : (c : Camera) → GoodCamera c → (power auto looping : Bool) (flushes : ℕ)
    → GoodCamera (camera_with c.image c.track c.x c.y c.xgoal c.ygoal power auto looping c.algorithm flushes)
modes_good c good power auto looping flushes =
    record { image = good.image; track = good.track; x = good.x; y = good.y; goal = good.goal; algorithm = good.algorithm }

-- What an allowed command sets is within the frame's rules.
pub executed_good : (c : Camera) → GoodCamera c → (flag : Bool) (kind : Kind) → judge_code (record { flag = flag; kind = kind }) ≡ 0
    → GoodCamera (executed_of c kind)
executed_good c good flag kind h = go kind (allowed_range (record { flag = flag; kind = kind }) h)
  where
    go : (kind : Kind) → bad_in (parts_of kind) ≡ 0 → GoodCamera (executed_of c kind)
    go (Kind.ImgPwr mode) e = modes_good c good (is_on mode) c.auto c.looping c.flushes
    go (Kind.ImgRegion x y) e =
        record {
          image = good.image;
          track = good.track;
          x = (region_within x y e).0;
          y = (region_within x y e).1;
          goal = good.goal;
          algorithm = good.algorithm;
        }
    go (Kind.ImgTrack time interval) e =
        record {
          image = good.image;
          track = started_good c.track time interval (series_range time interval e).1;
          x = good.x;
          y = good.y;
          goal = good.goal;
          algorithm = good.algorithm;
        }
    go (Kind.TrkAlg mode) e =
        record { image = good.image; track = good.track; x = good.x; y = good.y; goal = good.goal; algorithm = mode_within mode e }
    go (Kind.TrkLoop mode) e = modes_good c good c.power c.auto (is_on mode) c.flushes
    go (Kind.ImgImage time interval) e =
        record {
          image = started_good c.image time interval (series_range time interval e).1;
          track = good.track;
          x = good.x;
          y = good.y;
          goal = good.goal;
          algorithm = good.algorithm;
        }
    go (Kind.TrkGoal x y) e =
        record { image = good.image; track = good.track; x = good.x; y = good.y; goal = e; algorithm = good.algorithm }
    go Kind.TlmFlush e = modes_good c good c.power c.auto c.looping ((c.flushes + 1) % 256)
    go (Kind.FlushAuto mode) e = modes_good c good c.power (is_on mode) c.looping c.flushes
    go (Kind.Open number) e = good
    go Kind.Close e = good
    go (Kind.Run number) e = good
    go (Kind.Wait seconds) e = good
    go Kind.Stop e = good
    go Kind.Clear e = good

-- So is what a second hands over; in the dark nothing is set.
handed_one : (c : Camera) → GoodCamera c → (kind : Kind) → Plain kind → GoodCamera (handed_to c kind)
handed_one c good kind plain = go (dark c.power kind)
  where
    go : (none : Bool) → GoodCamera (cond none c (executed_of c kind))
    go true = good
    go false = executed_good c good true kind plain.allowed

pub handed_good : (c : Camera) → GoodCamera c → (ks : List Kind) → All Plain ks → GoodCamera (executed_all c ks)
handed_good c good [] h = good
handed_good c good (k ∷ ks) h = handed_good (handed_to c k) (handed_one c good k h.0) ks h.1
