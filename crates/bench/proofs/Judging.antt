-- From the single tests of a bench to its soundness, and from the steps of a second to the whole.
use Prim.Native.Nat.{ℕ}
use mathlib.Core.Path.{◌≡◌, refl, sym, ap, ◌∙◌}
use mathlib.Core.List.{List, [], ◌∷◌}
use mathlib.Core.Bool.{Bool, true, false, ◌&&◌}
use Rattle.std.specs.Prelude.{is_ok, Result, Ok, Err}
use lib.ListN.{length, take}
use lib.Seq.{take_at}
use Rattle.wire.specs.declared.kinds.Kind.{Kind}
use Rattle.wire.specs.Judge.{plain}
use Rattle.frame.specs.declared.Frame.{Frame}
use Rattle.frame.specs.Rules.{frame_rule}
use Rattle.camera.specs.declared.Camera.{Camera}
use Rattle.camera.specs.Series.{next_holds}
use Rattle.camera.specs.Camera.{camera_second}
use Rattle.store.specs.declared.Store.{Store}
use Rattle.store.specs.declared.Step.{Step}
use Rattle.store.specs.declared.Unsound.{Unsound}
use Rattle.store.specs.declared.tally.Survey.{Survey}
use Rattle.store.specs.Pool.{idle}
use Rattle.store.specs.Effects.{store_with, group_of, kinds_in, next_group, after_second}
use Rattle.store.specs.Sound.{store_sound}
use Rattle.store.specs.TallySteps.{tally_of, free_by, survey_of}
use Rattle.store.specs.SecondSteps.{step_with, stepped_of}
use Rattle.bench.specs.declared.Bench.{Bench}
use Rattle.bench.specs.declared.Works.{Works}
use Rattle.bench.specs.Status.{status_of, rules_hold, bench_sound, status_at, free_at}
use Rattle.bench.specs.declared.Executed.{Executed}
use Rattle.bench.specs.Second.{stayed_at, codes_shown, handed_codes, second_at}
use Rattle.bench.specs.Steps.{works_of, bench_of, executed_with}
use Rattle.bench.proofs.Executing.{one_code}

-- What is at work of a bench is, on the bench's own pool, that bench; so what is told of it is told of the bench.
pub own_bench : (b : Bench) (works : Works) → works ≡ works_of b → bench_of works b.store.pool ≡ b
own_bench b works is = ap (λ (w : Works). bench_of w b.store.pool) is

module _ (b : Bench) {works : Works} (own : works ≡ works_of b) where
  pub own_rules : {rules : Bool} → rules ≡ rules_hold (bench_of works b.store.pool) → rules_hold b ≡ rules
  own_rules hold = sym (hold ∙ ap rules_hold (own_bench b works own))

  pub own_step : {r : Result Step Unsound} → r ≡ stepped_of (bench_of works b.store.pool).store → r ≡ stepped_of b.store
  own_step stepped = stepped ∙ ap (λ (c : Bench). stepped_of c.store) (own_bench b works own)

module _ (b : Bench) where
  -- The rules outside the store do not hold where one of their tests fails; where those before it pass, the last decides.
  pub no_frame : frame_rule (status_of b) ≡ false → false ≡ rules_hold b
  no_frame e = rw e

  pub no_image : frame_rule (status_of b) ≡ true → next_holds b.camera.image ≡ false → false ≡ rules_hold b
  no_image frame e = rw (frame, e)

  pub by_track : frame_rule (status_of b) ≡ true → next_holds b.camera.image ≡ true → next_holds b.camera.track ≡ rules_hold b
  by_track frame image = rw (frame, image)

  -- A bench whose rules do not hold is not sound; where they do, the store decides.
  pub no_rules : rules_hold b ≡ false → bench_sound b ≡ false
  unfolding bench_sound
  no_rules e = rw e

  pub by_store : rules_hold b ≡ true → bench_sound b ≡ store_sound b.store
  unfolding bench_sound
  by_store e = rw e

-- What a survey tells of the bench that is at work, with the rules outside the store.
module _ (b : Bench) (works : Works) (own : works ≡ works_of b) (survey : Survey) (is : survey ≡ survey_of (bench_of works b.store.pool).store)
    (rules : Bool) (hold : rules ≡ rules_hold (bench_of works b.store.pool)) where
  found : survey ≡ survey_of b.store
  found = is ∙ ap (λ (c : Bench). survey_of c.store) (own_bench b works own)

  pub tally_found : survey.tally ≡ tally_of b.store
  tally_found = ap (λ (s : Survey). s.tally) found

  pub judged_sound : (survey.sound && rules) ≡ bench_sound b
  unfolding bench_sound
  judged_sound = rw (hold ∙ ap rules_hold (own_bench b works own), ap (λ (s : Survey). s.sound) found) (and_turn (store_sound b.store) (rules_hold b))
    where
      and_turn : (s t : Bool) → (s && t) ≡ (t && s)
      and_turn true true = refl
      and_turn true false = refl
      and_turn false true = refl
      and_turn false false = refl

-- The status of a sound bench is known; any other bench gets 27. So are the free entries, by its tally.
module _ (b : Bench) where
  pub known : (f : Frame) → true ≡ bench_sound b → f ≡ status_of b → record { code = 0; shown = f ∷ [] } ≡ status_at b
  unfolding status_at
  known f sound e = rw (sym sound, e)

  pub unknown : false ≡ bench_sound b → record { code = 27; shown = [] } ≡ status_at b
  unfolding status_at
  unknown unsound = rw (sym unsound)

  pub free_known : {n : ℕ} → true ≡ bench_sound b → n ≡ free_by (tally_of b.store) → record { code = 0; free = n } ≡ free_at b
  unfolding free_at
  free_known sound e = rw (e, sym sound)

  pub free_unknown : false ≡ bench_sound b → record { code = 27; free = 0 } ≡ free_at b
  unfolding free_at
  free_unknown unsound = rw (sym unsound)

-- A second of a bench that is not sound.
pub no_second : (b : Bench) → bench_sound b ≡ false → stayed_at b ≡ second_at b
unfolding second_at
no_second b unsound = rw unsound

-- A second of a store tells whether the store is sound.
step_sound : (s : Store) → is_ok (stepped_of s) ≡ store_sound s
unfolding stepped_of
step_sound s = go (store_sound s) refl
  where
    go : (sound : Bool) → store_sound s ≡ sound → is_ok (stepped_of s) ≡ store_sound s
    go true is = rw is
    go false is = rw is

-- It changes two numbers, so the store afterwards is the old one with those.
counted_on : (s : Store)
    → store_with s.pool s.counts s.closed s.opened (after_second s).running (after_second s).left ≡ after_second s
counted_on s = go (idle s) refl
  where
    go : (none : Bool) → idle s ≡ none
        → store_with s.pool s.counts s.closed s.opened (after_second s).running (after_second s).left ≡ after_second s
    go true is = rw is
    go false is = rw is

-- The codes in their places say as many codes as there are entries.
codes_told : (c : Camera) (ks : List Kind) → take (length ks) (codes_shown (handed_codes c ks)) ≡ handed_codes c ks
codes_told c ks = take_at (handed_codes c ks) _ (length ks) (one_code c ks)

-- A second of a bench whose rules hold: 27 where its store is not sound; else the series, then what the store hands over. A sound store's group says
-- the kinds that it was made of.
module _ (b : Bench) (rules : rules_hold b ≡ true) where
  pub no_step : (unsound : Unsound) → Err unsound ≡ stepped_of b.store → stayed_at b ≡ second_at b
  no_step unsound stepped = no_second b (by_store b rules ∙ sym (ap is_ok stepped ∙ step_sound b.store))

  module _ (step : Step) (stepped : Ok step ≡ stepped_of b.store)
      (says : bench_sound b ≡ true → kinds_in (group_of (next_group b.store)) ≡ next_group b.store) where
    sound : bench_sound b ≡ true
    sound = by_store b rules ∙ sym (ap is_ok stepped ∙ step_sound b.store)

    told : step ≡ step_with (after_second b.store).running (after_second b.store).left (group_of (next_group b.store))
    unfolding stepped_of
    told =
        let whole : Ok step ≡ Ok (step_with (after_second b.store).running (after_second b.store).left (group_of (next_group b.store))) =
        rw (sym (by_store b rules) ∙ sound) at stepped in
        cc

    pub group_passed : step.group ≡ group_of (second_at b).handed
    unfolding second_at
    group_passed = ap (λ (r : Step). r.group) told ∙ rw sound

    handed_is : kinds_in step.group ≡ next_group b.store
    handed_is = ap (λ (r : Step). kinds_in r.group) told ∙ says sound

    module _ (done : Executed) (executed : done ≡ executed_with (camera_second b.camera) (kinds_in step.group)) where
      by_group : done ≡ executed_with (camera_second b.camera) (next_group b.store)
      by_group = executed ∙ ap (executed_with (camera_second b.camera)) handed_is

      pub codes_passed : done.codes ≡ codes_shown (second_at b).codes
      unfolding second_at
      codes_passed = ap (λ (d : Executed). d.codes) by_group ∙ rw sound

      pub second_passed :
          record {
            told = plain 0;
            bench = record {
              camera = done.camera;
              store = store_with b.store.pool b.store.counts b.store.closed b.store.opened step.running step.left;
              latest = b.latest;
            };
            handed = kinds_in step.group;
            codes = take step.group.count done.codes;
          } ≡ second_at b
      unfolding second_at
      second_passed =
          let s = b.store in
          let running : step.running ≡ (after_second s).running = ap (λ (r : Step). r.running) told in
          let left : step.left ≡ (after_second s).left = ap (λ (r : Step). r.left) told in
          let count : step.group.count ≡ length (next_group s) = ap (λ (r : Step). r.group.count) told in
          rw (by_group, handed_is, count, codes_told (camera_second b.camera) (next_group s), running, left, counted_on s, sound)
