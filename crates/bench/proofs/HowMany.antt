-- 02, Q-8, for a pupil and a moderator to read: how many pictures will I get? Once IMAGE or TRACK has taken effect, and until another one of its sort does,
-- k seconds add the pictures that a pupil works out on paper (`pictures_of`, camera, specs/Pictures) to the count in the status frame, whatever else happens.
-- What takes effect in an event is `in_effect` (specs/Events); the one fact about a series is `pictures` (camera, proofs/Images), and what an event does to the
-- camera is in InEffect.
use Prim.Native.Nat.{ℕ, zero, suc, ◌+◌, ◌%◌, ◌≤◌, ◌<◌}
use mathlib.Core.Path.{◌≡◌, refl, sym, ap, ap₂, ◌∙◌, subst}
use mathlib.Core.Logic.{◌≢◌}
use mathlib.Core.List.{List, [], ◌∷◌, ◌++◌}
use mathlib.Core.Bool.{true}
use native.Mathlib.Omega.{arith}
use lib.ListN.{length, get_or, take, drop}
use Rattle.wire.specs.declared.kinds.Kind.{Kind}
use Rattle.wire.specs.Judge.{judge_code}
use Rattle.wire.specs.Read.{said}
use Rattle.walk.specs.Walk.{rests}
use Rattle.text.specs.Assemble.{bytes_in}
use Rattle.camera.specs.declared.Series.{Series}
use Rattle.camera.specs.declared.Camera.{Camera}
use Rattle.camera.specs.Series.{series_with, started_of}
use Rattle.camera.specs.Camera.{executed_of}
use Rattle.camera.specs.Pictures.{pictures_of, series_at}
use Rattle.camera.proofs.Images.{series_after, after_first, count_held, pictures}
use Rattle.frame.specs.Rules.{frame_rule}
use Rattle.store.specs.Words.{inserted}
use Rattle.store.specs.Words.{commands_in as entries_in}
use Rattle.store.specs.Pool.{size_of, start_of, between, entries_of, kept}
use Rattle.store.specs.WrittenOut.{expand, flat_below, flat, seconds, most_in, written_out}
use Rattle.store.specs.Effects.{applied_of}
use Rattle.store.specs.Sound.{all_below, all_of, store_sound}
use Rattle.store.proofs.Handed.{All}
use Rattle.bench.specs.declared.Bench.{Bench}
use Rattle.bench.specs.Status.{fresh_bench, status_of, bench_sound, status_at}
use Rattle.bench.specs.Carry.{carry_code, carry_out, taken, carry_out_bytes}
use Rattle.bench.specs.Second.{second_at}
use Rattle.bench.specs.Run.{run_of}
use Rattle.bench.specs.Typed.{typed_of}
use Rattle.bench.specs.Events.{Event, command, bytes, second, run, typed, after_one, after, Reached, seconds_in}
use Rattle.bench.specs.Events.{executed_as, executed_in_turn, handed_with_zero, in_effect}
use Rattle.bench.proofs.InTurn.{left_by}
use Rattle.bench.proofs.Sound.{GoodBench, fresh_sound, event_keeps, after_keeps, reached_sound, status_answers}
use Rattle.bench.proofs.Dark.{executing, codes_even}
use Rattle.bench.proofs.InEffect.{each_of, each_append, stepped, camera_after, Allowed, all_allowed, allowed_there, in_turn, handed_split}
use Rattle.bench.proofs.Sorts.{Sort, images, tracking, shown_count, Other, Lawful, images_lawful, tracking_lawful, leaves, leaves_count}

-- # What is claimed

-- "Once IMAGE with T and I has taken effect": it does in this event, by itself, in a list or handed over by a running macro, and none of its sort does
-- behind it in the same event.
pub record TakesEffect (w : Sort) (time interval : ℕ) (b : Bench) (e : Event) : Type 0 where
  pub before : List Kind
  pub behind : List Kind
  pub stands : in_effect b e ≡ before ++ (w.asking time interval ∷ behind)
  pub last : All (Other w) behind

-- "until another does": in none of these events one of its sort takes effect. All else may happen: commands accepted or refused, whole runs, seconds in
-- which a macro hands over whatever it may, the power going off.
abbrev pub NoOther : Sort → Bench → List Event → Type 0
NoOther w b [] = Unit
NoOther w b (e ∷ es) = All (Other w) (in_effect b e) × NoOther w (after_one b e) es

-- "k seconds add the smaller of k and T (k alone where T is 65535), divided by I and rounded up, to the count, modulo 65536." The bench is the one that the
-- event left: if IMAGE was handed over in a second, that second does not count.
pub record Counts (w : Sort) (time interval : ℕ) (start : Bench) : Type 0 where
  pub status : (es : List Event) → status_at (after start es) ≡ record { code = 0; shown = status_of (after start es) ∷ [] }
  pub count : (es : List Event) → NoOther w start es
      → shown_count w (after start es) ≡ (shown_count w start + pictures_of time interval (seconds_in es)) % 65536
  pub series : (es : List Event) → NoOther w start es
      → w.series (after start es).camera ≡ series_at (w.series start.camera) time interval (seconds_in es)

abbrev pub HowMany : Sort → Type 0
HowMany w = (b : Bench) → Reached b → (e : Event) (time interval : ℕ) → TakesEffect w time interval b e → Counts w time interval (after_one b e)

-- # When it takes effect

-- Executed at once, decoded or from bytes.
pub at_once : (w : Sort) (time interval : ℕ) (b : Bench) → (carry_out b (executing (w.asking time interval))).told.code ≡ 0
    → TakesEffect w time interval b (command (executing (w.asking time interval)))
unfolding carry_out
at_once w time interval b accepted =
    record { before = []; behind = []; stands = ap (λ n. executed_as n (executing (w.asking time interval))) accepted; last = tt }

pub at_once_bytes : (w : Sort) (time interval : ℕ) (b : Bench) (s : List ℕ) → said s ≡ executing (w.asking time interval)
    → (carry_out_bytes b s).told.code ≡ 0 → TakesEffect w time interval b (bytes s)
unfolding carry_out_bytes
at_once_bytes w time interval b s says accepted = record { before = []; behind = []; stands = ap₂ executed_as accepted says; last = tt }

-- In the list of a run, raw or typed: behind the commands `before` and in front of `behind`.
module _ (w : Sort) (time interval : ℕ) (b : Bench) (before : List (List ℕ)) (s : List ℕ) (behind : List (List ℕ))
    (says : said s ≡ executing (w.asking time interval)) (accepted : (taken (left_by b before) s).told.code ≡ 0)
    (last : All (Other w) (executed_in_turn (taken (left_by b before) s).bench behind)) where
  listed : (rs : List (List ℕ)) → rs ≡ before ++ (s ∷ behind) → (e : Event) → in_effect b e ≡ executed_in_turn b rs → TakesEffect w time interval b e
  listed rs stands e is =
      record {
        before = executed_in_turn b before;
        behind = executed_in_turn (taken (left_by b before) s).bench behind;
        stands = is ∙ ap (executed_in_turn b) stands ∙ in_turn b before s behind (w.asking time interval) says accepted;
        last = last;
      }

  pub in_a_run : (kit pupil room : List ℕ) → (run_of b kit pupil room).code ≡ 0 → rests kit ++ rests pupil ≡ before ++ (s ∷ behind)
      → TakesEffect w time interval b (run kit pupil room)
  unfolding run_of
  in_a_run kit pupil room carried stands = listed (rests kit ++ rests pupil) stands (run kit pupil room) (rw carried)

  pub in_a_typed_run : (kit text room : List ℕ) → (typed_of b kit text room).found.told.code ≡ 0
      → rests kit ++ rests (bytes_in text) ≡ before ++ (s ∷ behind) → TakesEffect w time interval b (typed kit text room)
  unfolding typed_of
  in_a_typed_run kit text room carried stands = listed (rests kit ++ rests (bytes_in text)) stands (typed kit text room) (rw carried)

-- Handed over by a running macro: the entry at place i of a second, with code 0.
pub by_a_macro : (w : Sort) (time interval : ℕ) (b : Bench) → GoodBench b → (i : ℕ) → i < length (second_at b).handed
    → (none : Kind) → get_or (second_at b).handed i none ≡ w.asking time interval → get_or (second_at b).codes i 0 ≡ 0
    → All (Other w) (handed_with_zero (drop (suc i) (second_at b).handed) (drop (suc i) (second_at b).codes)) → TakesEffect w time interval b second
by_a_macro w time interval b good i there none is accepted last =
    let ks = (second_at b).handed in
    let codes = (second_at b).codes in
    let before = handed_with_zero (take i ks) (take i codes) in
    let behind = handed_with_zero (drop (suc i) ks) (drop (suc i) codes) in
    record {
      before = before;
      behind = behind;
      stands =
          handed_split ks codes i none there (omega (arith, codes_even b good)) accepted
          ∙ ap (λ k. before ++ (k ∷ behind)) is;
      last = last;
    }

-- # A series over events

module _ (w : Sort) (law : Lawful w) where
  abbrev series_of : Bench → Series
  series_of b = w.series b.camera

  each_leaves : (c : Camera) (ks : List Kind) → All (Other w) ks → w.series (each_of c ks) ≡ w.series c
  each_leaves c [] h = refl
  each_leaves c (k ∷ ks) h = each_leaves (executed_of c k) ks h.1 ∙ leaves w law c k h.0

  each_leaves_count : (c : Camera) (ks : List Kind) → (w.series (each_of c ks)).count ≡ (w.series c).count
  each_leaves_count c [] = refl
  each_leaves_count c (k ∷ ks) = each_leaves_count (executed_of c k) ks ∙ leaves_count w law c k

  -- A second is one of the series' seconds, and nothing else is.
  steps_once : (b : Bench) (e : Event) (es : List Event)
      → series_after (seconds_in es) (w.series (stepped b e)) ≡ series_after (seconds_in (e ∷ es)) (series_of b)
  steps_once b (command c) es = refl
  steps_once b (bytes s) es = refl
  steps_once b second es = ap (series_after (seconds_in es)) (law.steps b.camera) ∙ after_first (seconds_in es) (series_of b)
  steps_once b (run kit pupil room) es = refl
  steps_once b (typed kit text room) es = refl

  -- So over events without another of its sort.
  along : (b : Bench) → GoodBench b → (es : List Event) → NoOther w b es → series_of (after b es) ≡ series_after (seconds_in es) (series_of b)
  unfolding series_after
  along b good [] none = refl
  along b good (e ∷ es) none =
      along (after_one b e) (event_keeps b good e) es none.1
      ∙ ap (λ c. series_after (seconds_in es) (w.series c)) (camera_after b good e)
      ∙ ap (series_after (seconds_in es)) (each_leaves (stepped b e) (in_effect b e) none.0)
      ∙ steps_once b e es

  -- The count that an event leaves is that of the series which it began with, after the series' step if it is a second.
  event_count : (b : Bench) → GoodBench b → (e : Event) → (series_of (after_one b e)).count ≡ (w.series (stepped b e)).count
  event_count b good e =
      ap (λ c. (w.series c).count) (camera_after b good e) ∙ each_leaves_count (stepped b e) (in_effect b e)

  -- So no picture is taken but in a second.
  pub only_seconds : (b : Bench) → GoodBench b → (e : Event) → e ≢ second → shown_count w (after_one b e) ≡ shown_count w b
  only_seconds b good e other = law.shows (after_one b e) ∙ event_count b good e ∙ same e other ∙ sym (law.shows b)
    where
      same : (e : Event) → e ≢ second → (w.series (stepped b e)).count ≡ (series_of b).count
      same (command c) h = refl
      same (bytes s) h = refl
      same second h = absurd (h refl)
      same (run kit pupil room) h = refl
      same (typed kit text room) h = refl

  -- And every reached bench has counts of 16 bits.
  stepped_held : (b : Bench) (e : Event) → (series_of b).count < 65536 → (w.series (stepped b e)).count < 65536
  stepped_held b (command c) h = h
  stepped_held b (bytes s) h = h
  stepped_held b second h = rw (law.steps b.camera) (count_held (series_of b) h)
  stepped_held b (run kit pupil room) h = h
  stepped_held b (typed kit text room) h = h

  event_held : (b : Bench) → GoodBench b → (e : Event) → (series_of b).count < 65536 → (series_of (after_one b e)).count < 65536
  event_held b good e h = rw (event_count b good e) (stepped_held b e h)

  after_held : (b : Bench) → GoodBench b → (es : List Event) → (series_of b).count < 65536 → (series_of (after b es)).count < 65536
  after_held b good [] h = h
  after_held b good (e ∷ es) h = after_held (after_one b e) (event_keeps b good e) es (event_held b good e h)

  reached_held : (b : Bench) → Reached b → (series_of b).count < 65536
  reached_held b r = subst (λ n. (series_of n).count < 65536) r.reached (after_held fresh_bench fresh_sound r.events law.fresh)

  -- The series as the event ends in which its command took effect.
  module _ (b : Bench) (good : GoodBench b) (e : Event) (time interval : ℕ) (takes : TakesEffect w time interval b e) where
    abbrev start : Bench
    start = after_one b e

    started : series_of start ≡ started_of (series_of start) time interval
    started = is ∙ ap (series_with time interval 1) (sym (ap (λ (s : Series). s.count) is))
      where
        found : Camera
        found = each_of (stepped b e) takes.before

        is : series_of start ≡ started_of (w.series found) time interval
        is =
            ap w.series (camera_after b good e ∙ ap (each_of (stepped b e)) takes.stands)
            ∙ ap w.series (each_append (stepped b e) takes.before (w.asking time interval ∷ takes.behind))
            ∙ each_leaves (executed_of found (w.asking time interval)) takes.behind takes.last
            ∙ law.starts found time interval

    in_range : (time ≤ 65535) × (1 ≤ interval)
    in_range =
        law.ranges time interval
        (allowed_there takes.before (w.asking time interval) takes.behind (subst (All Allowed) takes.stands (all_allowed b good e)))

    module _ (held : (series_of start).count < 65536) (es : List Event) (none : NoOther w start es) where
      counted : series_of (after start es) ≡ series_at (series_of start) time interval (seconds_in es)
      counted =
          along start (event_keeps b good e) es none
          ∙ ap (series_after (seconds_in es)) started
          ∙ pictures (series_of start) time interval in_range.0 in_range.1 held (seconds_in es)

      shown : shown_count w (after start es) ≡ (shown_count w start + pictures_of time interval (seconds_in es)) % 65536
      shown =
          law.shows (after start es)
          ∙ ap (λ (s : Series). s.count) counted
          ∙ ap (λ n. (n + pictures_of time interval (seconds_in es)) % 65536) (sym (law.shows start))

  -- So on every sound bench whose count has 16 bits, as every program's has; and on every reached one.
  pub on_sound : (b : Bench) → GoodBench b → (series_of b).count < 65536 → (e : Event) (time interval : ℕ) → TakesEffect w time interval b e
      → Counts w time interval (after_one b e)
  on_sound b good small e time interval takes =
      let held = event_held b good e small in
      record {
        status = λ es. status_answers (after (after_one b e) es) (after_keeps (after_one b e) (event_keeps b good e) es);
        count = shown b good e time interval takes held;
        series = counted b good e time interval takes held;
      }

  how_many : HowMany w
  how_many b r = on_sound b (reached_sound b r) (reached_held b r)

-- # The two claims

pub images_counted : HowMany images
images_counted = how_many images images_lawful

pub tracking_counted : HowMany tracking
tracking_counted = how_many tracking tracking_lawful

-- # The sheet's case, and one that wraps

-- "image, 5 s, every 2 s. Images come in seconds 1, 3 and 5.", wherever and whenever it is asked for.
pub sheet : (b : Bench) → Reached b → (e : Event) → TakesEffect images 5 2 b e
    → let start = after_one b e in
    (es : List Event) → NoOther images start es → (k : ℕ) → seconds_in es ≡ k → k ≤ 6
    → shown_count images (after start es) ≡ (shown_count images start + get_or (0 ∷ 1 ∷ 1 ∷ 2 ∷ 2 ∷ 3 ∷ 3 ∷ []) k 0) % 65536
sheet b r e takes es none k passed few =
    (images_counted b r e 5 2 takes).count es none
    ∙ ap (λ n. (shown_count images (after_one b e) + n) % 65536) (ap (pictures_of 5 2) passed ∙ worked_out k few)
  where
    worked_out : (k : ℕ) → k ≤ 6 → pictures_of 5 2 k ≡ get_or (0 ∷ 1 ∷ 1 ∷ 2 ∷ 2 ∷ 3 ∷ 3 ∷ []) k 0
    worked_out zero few = refl
    worked_out (suc zero) few = refl
    worked_out (suc (suc zero)) few = refl
    worked_out (suc (suc (suc zero))) few = refl
    worked_out (suc (suc (suc (suc zero)))) few = refl
    worked_out (suc (suc (suc (suc (suc zero))))) few = refl
    worked_out (suc (suc (suc (suc (suc (suc zero)))))) few = refl
    worked_out (suc (suc (suc (suc (suc (suc (suc k))))))) few = absurd (omega arith)

-- For ever, every second, 70,000 seconds: a count that was 0 has wrapped once.
pub wraps : (b : Bench) → Reached b → (e : Event) → TakesEffect images 65535 1 b e
    → let start = after_one b e in
    shown_count images start ≡ 0 → (es : List Event) → NoOther images start es → seconds_in es ≡ 70000 → shown_count images (after start es) ≡ 4464
wraps b r e takes first es none passed =
    (images_counted b r e 65535 1 takes).count es none
    ∙ ap₂ (λ c k. (c + pictures_of 65535 1 k) % 65536) first passed

-- Such benches and events there are: on a fresh bench power on and then IMAGE, or a macro that asks for it and was started.
abbrev lit : List Event
lit = command (executing (Kind.ImgPwr 1)) ∷ []

abbrev running : List Event
running =
    lit
    ++ (command (executing (Kind.Open 0))
    ∷ command (record { flag = true; kind = Kind.ImgImage 5 2 })
    ∷ command (executing Kind.Close)
    ∷ command (executing (Kind.Run 0))
    ∷ [])

pub sheet_asked : TakesEffect images 5 2 (after fresh_bench lit) (command (executing (Kind.ImgImage 5 2)))
unfolding judge_code frame_rule size_of start_of between entries_of applied_of all_below all_of store_sound bench_sound carry_code carry_out
sheet_asked = record { before = []; behind = []; stands = refl; last = tt }

pub sheet_handed_over : TakesEffect images 5 2 (after fresh_bench running) second
unfolding judge_code frame_rule inserted size_of start_of between entries_in entries_of kept expand flat_below flat seconds most_in written_out applied_of
    all_below all_of store_sound bench_sound carry_out second_at
sheet_handed_over = record { before = []; behind = []; stands = refl; last = tt }
