-- The camera has two series of images, and what is said of one is said of the other: which command starts it, where the camera keeps it, and where the
-- status frame shows its count. So the laws about a series on the bench take a sort, and are proved once (02, Q-8: "The same for tracking").
use Prim.Native.Nat.{ℕ, ◌≤◌, ◌<◌}
use mathlib.Core.Path.{◌≡◌, refl, ap, ◌∙◌}
use mathlib.Core.Logic.{◌≢◌, ◌⊎◌, inl, inr}
use native.Mathlib.Omega.{arith}
use Rattle.words.specs.BigEndian.{half_at}
use Rattle.words.proofs.Front.{half_back}
use Rattle.wire.specs.declared.kinds.Kind.{Kind}
use Rattle.wire.specs.Kind.{parts_of}
use Rattle.wire.specs.Judge.{bad_in}
use Rattle.frame.specs.Bytes.{frame_bytes}
use Rattle.camera.specs.declared.Series.{Series}
use Rattle.camera.specs.declared.Camera.{Camera}
use Rattle.camera.specs.Series.{started_of, second_of}
use Rattle.camera.specs.Camera.{executed_of, camera_second}
use Rattle.bench.specs.declared.Bench.{Bench}
use Rattle.bench.specs.Status.{fresh_bench, status_of}
use Rattle.bench.proofs.Camera.{series_range}

pub record Sort : Type 0 where
  -- The command that starts such a series, with its time and interval.
  pub asking : ℕ → ℕ → Kind
  pub series : Camera → Series
  -- The first of the two bytes in which the status frame shows the count.
  pub place : ℕ

abbrev pub images : Sort
images = record { asking = Kind.ImgImage; series = λ (c : Camera). c.image; place = 8 }

abbrev pub tracking : Sort
tracking = record { asking = Kind.ImgTrack; series = λ (c : Camera). c.track; place = 10 }

-- The count as the status frame shows it.
abbrev pub shown_count : Sort → Bench → ℕ
shown_count w b = half_at (frame_bytes (status_of b)) w.place

-- A kind that starts such a series, and one that does not.
pub record Asks (w : Sort) (k : Kind) : Type 0 where
  pub time : ℕ
  pub interval : ℕ
  pub is : k ≡ w.asking time interval

abbrev pub Other : Sort → Kind → Type 0
Other w k = (time interval : ℕ) → k ≢ w.asking time interval

abbrev Leaves : Sort → Kind → Type 0
Leaves w k = (c : Camera) → w.series (executed_of c k) ≡ w.series c

-- What holds of each sort.
pub record Lawful (w : Sort) : Type 0 where
  pub starts : (c : Camera) (time interval : ℕ) → w.series (executed_of c (w.asking time interval)) ≡ started_of (w.series c) time interval
  pub or_leaves : (k : Kind) → Asks w k ⊎ Leaves w k
  pub steps : (c : Camera) → w.series (camera_second c) ≡ second_of (w.series c)
  pub shows : (b : Bench) → shown_count w b ≡ (w.series b.camera).count
  pub fresh : (w.series fresh_bench.camera).count < 65536
  pub ranges : (time interval : ℕ) → bad_in (parts_of (w.asking time interval)) ≡ 0 → (time ≤ 65535) × (1 ≤ interval)

abbrev Both : Kind → Type 0
Both k = (Asks images k ⊎ Leaves images k) × (Asks tracking k ⊎ Leaves tracking k)

neither : (k : Kind) → Leaves images k → Leaves tracking k → Both k
neither k image track = (inr image, inr track)

asks_or_leaves : (k : Kind) → Both k
asks_or_leaves (Kind.ImgPwr mode) = neither (Kind.ImgPwr mode) (λ c. refl) (λ c. refl)
asks_or_leaves (Kind.ImgRegion x y) = neither (Kind.ImgRegion x y) (λ c. refl) (λ c. refl)
asks_or_leaves (Kind.ImgTrack time interval) = (inr (λ c. refl), inl (record { time = time; interval = interval; is = refl }))
asks_or_leaves (Kind.TrkAlg mode) = neither (Kind.TrkAlg mode) (λ c. refl) (λ c. refl)
asks_or_leaves (Kind.TrkLoop mode) = neither (Kind.TrkLoop mode) (λ c. refl) (λ c. refl)
asks_or_leaves (Kind.ImgImage time interval) = (inl (record { time = time; interval = interval; is = refl }), inr (λ c. refl))
asks_or_leaves (Kind.TrkGoal x y) = neither (Kind.TrkGoal x y) (λ c. refl) (λ c. refl)
asks_or_leaves Kind.TlmFlush = neither Kind.TlmFlush (λ c. refl) (λ c. refl)
asks_or_leaves (Kind.FlushAuto mode) = neither (Kind.FlushAuto mode) (λ c. refl) (λ c. refl)
asks_or_leaves (Kind.Open number) = neither (Kind.Open number) (λ c. refl) (λ c. refl)
asks_or_leaves Kind.Close = neither Kind.Close (λ c. refl) (λ c. refl)
asks_or_leaves (Kind.Run number) = neither (Kind.Run number) (λ c. refl) (λ c. refl)
asks_or_leaves (Kind.Wait seconds) = neither (Kind.Wait seconds) (λ c. refl) (λ c. refl)
asks_or_leaves Kind.Stop = neither Kind.Stop (λ c. refl) (λ c. refl)
asks_or_leaves Kind.Clear = neither Kind.Clear (λ c. refl) (λ c. refl)

pub images_lawful : Lawful images
images_lawful =
    record {
      starts = λ c time interval. refl;
      or_leaves = λ k. (asks_or_leaves k).0;
      steps = λ c. refl;
      shows = λ b. half_back b.camera.image.count;
      fresh = omega arith;
      ranges = series_range;
    }

pub tracking_lawful : Lawful tracking
tracking_lawful =
    record {
      starts = λ c time interval. refl;
      or_leaves = λ k. (asks_or_leaves k).1;
      steps = λ c. refl;
      shows = λ b. half_back b.camera.track.count;
      fresh = omega arith;
      ranges = series_range;
    }

module _ (w : Sort) (law : Lawful w) where
  -- A kind that does not start it leaves it, and every kind leaves its count.
  pub leaves : (c : Camera) (k : Kind) → Other w k → w.series (executed_of c k) ≡ w.series c
  leaves c k other = go (law.or_leaves k)
    where
      go : Asks w k ⊎ Leaves w k → w.series (executed_of c k) ≡ w.series c
      go (inl a) = absurd (other a.time a.interval a.is)
      go (inr h) = h c

  pub leaves_count : (c : Camera) (k : Kind) → (w.series (executed_of c k)).count ≡ (w.series c).count
  leaves_count c k = go (law.or_leaves k)
    where
      go : Asks w k ⊎ Leaves w k → (w.series (executed_of c k)).count ≡ (w.series c).count
      go (inl a) =
          ap (λ j. (w.series (executed_of c j)).count) a.is
          ∙ ap (λ (s : Series). s.count) (law.starts c a.time a.interval)
      go (inr h) = ap (λ (s : Series). s.count) (h c)
