-- 01, "Slips that look right", the one of a second: an image that a macro's entry asks for is not counted in that second but one second later.
-- (That a time of 65535 does not count down is `for_ever` of camera, proofs/Images.)
use Prim.Native.Nat.{ℕ, ◌+◌, ◌%◌, ◌<◌}
use mathlib.Core.Path.{◌≡◌, refl, ap, ◌∙◌}
use mathlib.Core.List.{List, [], ◌∷◌, ◌++◌}
use mathlib.Core.Bool.{Bool, true, false, cond}
use Rattle.wire.specs.declared.kinds.Kind.{Kind}
use Rattle.camera.specs.declared.Series.{Series}
use Rattle.camera.specs.declared.Camera.{Camera}
use Rattle.camera.specs.Camera.{executed_of, camera_second, dark}
use Rattle.camera.proofs.Images.{counting}
use Rattle.bench.specs.declared.Bench.{Bench}
use Rattle.bench.specs.Status.{bench_sound}
use Rattle.bench.specs.Second.{handed_to, executed_all, second_at}
use Rattle.bench.proofs.Dark.{lit_handed, on_lit}
use Rattle.bench.proofs.Sorts as sorts

-- What a second hands over counts no image: executing a kind leaves both counts.
pub record SameCounts (a b : Camera) : Type 0 where
  pub images : a.image.count ≡ b.image.count
  pub tracked : a.track.count ≡ b.track.count

executing : (c : Camera) (k : Kind) → SameCounts (executed_of c k) c
executing c k =
    record {
      images = sorts.leaves_count sorts.images sorts.images_lawful c k;
      tracked = sorts.leaves_count sorts.tracking sorts.tracking_lawful c k;
    }

handing : (c : Camera) (k : Kind) → SameCounts (handed_to c k) c
handing c k = go (dark c.power k)
  where
    go : (none : Bool) → SameCounts (cond none c (executed_of c k)) c
    go true = record { images = refl; tracked = refl }
    go false = executing c k

executing_all : (c : Camera) (ks : List Kind) → SameCounts (executed_all c ks) c
executing_all c [] = record { images = refl; tracked = refl }
executing_all c (k ∷ ks) =
    let rest = executing_all (handed_to c k) ks in
    let first = handing c k in
    record { images = rest.images ∙ first.images; tracked = rest.tracked ∙ first.tracked }

-- "First each series ..; second .. is handed over and executed": the camera after a second is the series' step, and then the group's commands one
-- after another.
pub in_order : (b : Bench) → bench_sound b ≡ true → (second_at b).bench.camera ≡ executed_all (camera_second b.camera) (second_at b).handed
unfolding second_at
in_order b sound = rw sound

-- "Counting an image in the second whose macro entry asked for it": the counts after a second are those of the series that it began with ..
pub counts_first : (b : Bench) → bench_sound b ≡ true → SameCounts (second_at b).bench.camera (camera_second b.camera)
counts_first b sound = rw (in_order b sound) (executing_all (camera_second b.camera) (second_at b).handed)

-- .. and an image that was asked for with the power on, by the last command of the group, is counted one second later.
executed_last : (c : Camera) (ks : List Kind) (k : Kind) → executed_all c (ks ++ (k ∷ [])) ≡ handed_to (executed_all c ks) k
executed_last c [] k = refl
executed_last c (x ∷ ks) k = executed_last (handed_to c x) ks k

pub one_later : (b : Bench) (ks : List Kind) (time interval : ℕ) → bench_sound b ≡ true → bench_sound (second_at b).bench ≡ true
    → (second_at b).handed ≡ ks ++ (Kind.ImgImage time interval ∷ []) → (executed_all (camera_second b.camera) ks).power ≡ true → 0 < time
    → (second_at (second_at b).bench).bench.camera.image.count ≡ ((second_at b).bench.camera.image.count + 1) % 65536
one_later b ks time interval sound next handed on h =
    let before : Camera = executed_all (camera_second b.camera) ks in
    let image : Kind = Kind.ImgImage time interval in
    let started : (second_at b).bench.camera ≡ executed_of before image =
    in_order b sound
    ∙ ap (executed_all (camera_second b.camera)) handed
    ∙ executed_last (camera_second b.camera) ks image
    ∙ lit_handed before image (on_lit before.power image on)
    in
    (counts_first (second_at b).bench next).images
    ∙ rw started (ap (λ (s : Series). s.count) (counting time interval before.image.count h))
