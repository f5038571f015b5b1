-- 01: "A state reached from a fresh one is always sound." A fresh bench is; every command, from bytes or decoded, every second and every run
-- keep it so.
use Prim.Native.Nat.{ℕ, ◌≤◌, ◌<◌}
use mathlib.Core.Path.{◌≡◌, refl, sym, ◌∙◌, subst}
use mathlib.Core.Logic.{◌⊎◌, inl, inr}
use mathlib.Core.List.{List, [], ◌∷◌, ◌++◌}
use mathlib.Core.Bool.{Bool, true, false, cond, ◌&&◌}
use native.Mathlib.Omega.{arith}
use lib.ListN.{length, drop}
use lib.Dec.{eqb}
use borrow.Author.Tests.{eqb-true, eqb-false, le-leb}
use Rattle.words.specs.Codes.{first_of}
use Rattle.words.proofs.Tests.{both}
use Rattle.wire.specs.declared.kinds.Command.{Command}
use Rattle.wire.specs.Judge.{judge_code}
use Rattle.wire.specs.Read.{read_code, said_parts, said}
use Rattle.wire.specs.Kind.{parts_of}
use Rattle.wire.specs.declared.kinds.Parts.{Parts}
use Rattle.wire.proofs.RoundTrip.{read_allowed}
use Rattle.frame.specs.Rules.{frame_rule}
use Rattle.frame.specs.Bytes.{frame_bytes}
use Rattle.frame.specs.Answers.{write_code, room_after}
use Rattle.frame.proofs.Laws.{Ruled, ruled, obeyed}
use Rattle.camera.specs.Series.{next_holds}
use Rattle.camera.specs.Camera.{camera_second}
use Rattle.walk.specs.Walk.{rests}
use Rattle.text.specs.Assemble.{bytes_in}
use Rattle.store.specs.Checks.{permit_code}
use Rattle.store.specs.Effects.{next_group}
use Rattle.store.specs.Sound.{store_sound}
use Rattle.store.proofs.Sound.{Shaped, Marks, Good, good_of, of_sound, fresh_good, applied_keeps, second_keeps}
use Rattle.store.proofs.Handed.{handed_plainly}
use Rattle.store.proofs.ClosedMarks.{marked_is}
use Rattle.report.specs.declared.Latest.{Latest}
use Rattle.bench.specs.declared.Bench.{Bench}
use Rattle.bench.specs.Status.{fresh_bench, status_of, bench_sound, status_at}
use Rattle.bench.specs.Carry.{row26, outcome_for, effect_of, command_checks, carry_code, carry_out, bytes_checks, taken, carry_bytes_code, carry_out_bytes}
use Rattle.bench.specs.Second.{bench_after, second_at}
use Rattle.bench.specs.Run.{noting}
use Rattle.bench.specs.Events.{Event, command, bytes, second, run, typed, after_one, after, Reached}
use Rattle.bench.proofs.Outcomes.{behind_code, behind_code_lem, judge_then, read_then, carry_code_lem, carry_bytes_code_lem}
use Rattle.bench.proofs.InTurn.{left_by, by_run, by_typed}
use Rattle.bench.proofs.Camera.{GoodCamera, fresh_camera_lem, camera_second_lem, executed_good, handed_good}

-- A sound bench: it passes the test of 27, and its store has 576 words, eight counts and eight marks, as every store of a program has by its type.
pub record GoodBench (b : Bench) : Type 0 where
  pub sound : bench_sound b ≡ true
  pub shaped : Shaped b.store

-- The same as plain facts, for the camera and for the store.
pub record Facts (b : Bench) : Type 0 where
  pub camera : GoodCamera b.camera
  pub store : Good b.store

-- A number that is below 8, or is 255 for none.
small_of : (n : ℕ) → (n < 8) ⊎ (n ≡ 255) → (n ≡ 255 → ⊥) → n < 8
small_of n (inl h) some = h
small_of n (inr h) some = absurd (some h)

of_small : (n : ℕ) → ((n ≡ 255 → ⊥) → n < 8) → (n < 8) ⊎ (n ≡ 255)
of_small n h = go (eqb n 255) refl
  where
    go : (t : Bool) → eqb n 255 ≡ t → (n < 8) ⊎ (n ≡ 255)
    go true e = inr (eqb-true n 255 e)
    go false e = inl (h (eqb-false n 255 e))

-- The frame's rules on a bench's own fields say what the store's numbers must be.
marks_of : (b : Bench) → Shaped b.store → Ruled (status_of b) → Marks b.store
marks_of b shape r =
    let s = b.store in
    record {
      opened = small_of s.opened r.opened;
      running = small_of s.running r.running;
      unclosed = sym (marked_is s shape s.opened) ∙ r.opened_unmarked;
      idle = r.idle_ended;
      done = r.ended_idle;
      most = r.left;
    }

-- From the test to the facts,
pub facts_of : (b : Bench) → GoodBench b → Facts b
unfolding bench_sound
facts_of b good =
    let image = next_holds b.camera.image in
    let track = next_holds b.camera.track in
    let to_store = both (frame_rule (status_of b) && image && track) (store_sound b.store) good.sound in
    let to_track = both (frame_rule (status_of b) && image) track to_store.0 in
    let to_image = both (frame_rule (status_of b)) image to_track.0 in
    let r = ruled (status_of b) to_image.0 in
    record {
      camera =
          record {
            image = record { interval = r.image_interval; next = to_image.1 };
            track = record { interval = r.track_interval; next = to_track.1 };
            x = r.x;
            y = r.y;
            goal = r.goal;
            algorithm = r.algorithm;
          };
      store = good_of b.store good.shaped to_store.1 (marks_of b good.shaped r);
    }

-- and back: the fields obey the frame's rules.
rules_of : (b : Bench) → Facts b → Ruled (status_of b)
rules_of b h =
    let s = b.store in
    let good = h.store in
    record {
      image_interval = h.camera.image.interval;
      track_interval = h.camera.track.interval;
      x = h.camera.x;
      y = h.camera.y;
      goal = h.camera.goal;
      algorithm = h.camera.algorithm;
      running = of_small s.running good.marks.running;
      opened = of_small s.opened good.marks.opened;
      idle_ended = good.marks.idle;
      ended_idle = good.marks.done;
      left = good.marks.most;
      running_marked = λ small. marked_is s good.shaped s.running ∙ (good.sound.running (λ none. omega arith)).closed;
      opened_unmarked = marked_is s good.shaped s.opened ∙ good.marks.unclosed;
    }

pub of_facts : (b : Bench) → Facts b → GoodBench b
unfolding bench_sound
of_facts b h =
    let rules : frame_rule (status_of b) ≡ true = obeyed (status_of b) (rules_of b h) in
    record { sound = rw (rules, h.camera.image.next, h.camera.track.next) (of_sound b.store h.store.sound); shaped = h.store.shaped }

pub good_store : (b : Bench) → GoodBench b → Good b.store
good_store b good = (facts_of b good).store

-- "Fresh: all numbers zero, both intervals 1, no macro open, closed or running": sound.
pub fresh_sound : GoodBench fresh_bench
fresh_sound = of_facts fresh_bench (record { camera = fresh_camera_lem; store = fresh_good })

-- A command that is accepted passed rows 8 to 10 and the store's rows. (That it passed 26 besides, no law here asks.)
pub record Accepted (b : Bench) (c : Command) : Type 0 where
  pub judge : judge_code c ≡ 0
  pub permit : permit_code b.store c ≡ 0

no_row : (first rest : ℕ) → cond (eqb first 0) rest first ≡ 0 → (first ≡ 0) × (rest ≡ 0)
no_row first rest h = go (eqb first 0) refl
  where
    go : (t : Bool) → eqb first 0 ≡ t → (first ≡ 0) × (rest ≡ 0)
    go true e = (eqb-true first 0 e, rw e at h)
    go false e = absurd (eqb-false first 0 e (rw e at h))

behind_26 : (due : Bool) (rest : ℕ) → cond due 26 rest ≡ 0 → rest ≡ 0
behind_26 true rest h = absurd (omega arith)
behind_26 false rest h = h

-- From the code of each part, 0.
accepted_of : (b : Bench) (c : Command) → judge_code c ≡ 0 → behind_code b c ≡ 0 → Accepted b c
accepted_of b c judge zero =
    let permit = behind_26 (row26 b.camera.power c.flag c.kind) (permit_code b.store c) (sym (behind_code_lem b c) ∙ zero) in
    record { judge = judge; permit = permit }

pub judge_accepted : (b : Bench) (c : Command) → first_of (command_checks b c) ≡ 0 → Accepted b c
judge_accepted b c zero =
    let parts = no_row (judge_code c) (behind_code b c) (sym (judge_then b c) ∙ zero) in
    accepted_of b c parts.0 parts.1

pub read_accepted : (b : Bench) (s : List ℕ) → first_of (bytes_checks b s) ≡ 0 → Accepted b (said s)
read_accepted b s zero =
    let parts = no_row (read_code s) (behind_code b (said s)) (sym (read_then b s) ∙ zero) in
    accepted_of b (said s) (read_allowed s parts.0) parts.1

-- The same of carrying out on a sound bench.
pub command_accepted : (b : Bench) → GoodBench b → (c : Command) → carry_code b c ≡ 0 → Accepted b c
command_accepted b good c zero = judge_accepted b c (judge_then b c ∙ sym (carry_code_lem b c good.sound) ∙ zero)

pub bytes_accepted : (b : Bench) → GoodBench b → (s : List ℕ) → carry_bytes_code b s ≡ 0 → Accepted b (said s)
bytes_accepted b good s zero = read_accepted b s (sym (carry_bytes_code_lem b s good.sound) ∙ zero)

-- It keeps a bench sound.
camera_after : (b : Bench) → GoodCamera b.camera → (c : Command) → judge_code c ≡ 0 → (flag : Bool) → c.flag ≡ flag
    → GoodCamera (effect_of b c).camera
camera_after b good c judge true e = rw e good
camera_after b good c judge false e = rw e (executed_good b.camera good c.flag c.kind judge)

pub effect_keeps : (b : Bench) → GoodBench b → (c : Command) → Accepted b c → GoodBench (effect_of b c)
effect_keeps b good c passed =
    let h = facts_of b good in
    of_facts (effect_of b c)
    (record {
      camera = camera_after b h.camera c passed.judge c.flag refl;
      store = applied_keeps b.store h.store c passed.judge passed.permit;
    })

-- A command does one of two things: it leaves the bench, or its code is 0, it is accepted and takes effect.
pub record Takes (b : Bench) (code : ℕ) (c : Command) : Type 0 where
  pub zero : code ≡ 0
  pub passed : Accepted b c

by_code : (P : Bench → Type 0) (parts : Parts) (b : Bench) (c : Command) (code : ℕ) → (code ≡ 0 → Accepted b c)
    → P b → (Takes b code c → P (effect_of b c)) → P (outcome_for code parts b c).bench
by_code P parts b c code passes stays takes = go (eqb code 0) refl
  where
    go : (t : Bool) → eqb code 0 ≡ t → P (outcome_for code parts b c).bench
    go true e =
        let zero = eqb-true code 0 e in
        rw e (takes (record { zero = zero; passed = passes zero }))
    go false e = rw e stays

pub by_command : (P : Bench → Type 0) (b : Bench) → GoodBench b → (c : Command)
    → P b → (Takes b (carry_code b c) c → P (effect_of b c)) → P (carry_out b c).bench
unfolding carry_out
by_command P b good c = by_code P (parts_of c.kind) b c (carry_code b c) (command_accepted b good c)

pub by_bytes : (P : Bench → Type 0) (b : Bench) → GoodBench b → (s : List ℕ)
    → P b → (Takes b (carry_bytes_code b s) (said s) → P (effect_of b (said s))) → P (carry_out_bytes b s).bench
unfolding carry_out_bytes
by_bytes P b good s = by_code P (said_parts s) b (said s) (carry_bytes_code b s) (bytes_accepted b good s)

-- The same of a command as a run takes it.
pub by_taken : (P : Bench → Type 0) (b : Bench) (s : List ℕ)
    → P b → (Takes b (taken b s).told.code (said s) → P (effect_of b (said s))) → P (taken b s).bench
unfolding taken
by_taken P b s = by_code P (said_parts s) b (said s) (first_of (bytes_checks b s)) (read_accepted b s)

-- So every command that a run takes keeps a bench sound, and several in turn do.
pub taken_good : (b : Bench) → GoodBench b → (s : List ℕ) → GoodBench (taken b s).bench
taken_good b good s = by_taken GoodBench b s good (λ t. effect_keeps b good (said s) t.passed)

pub left_good : (b : Bench) → GoodBench b → (rs : List (List ℕ)) → GoodBench (left_by b rs)
left_good b good [] = good
left_good b good (r ∷ rs) = left_good (taken b r).bench (taken_good b good r) rs

-- A second of a sound bench: what is handed over is plain and in range, so the camera may execute it.
pub second_is : (b : Bench) → GoodBench b → (second_at b).bench ≡ bench_after b
unfolding second_at
second_is b good = rw good.sound

pub second_sound : (b : Bench) → GoodBench b → GoodBench (bench_after b)
second_sound b good =
    let h = facts_of b good in
    let plain = handed_plainly b.store h.store in
    of_facts (bench_after b)
    (record {
      camera = handed_good (camera_second b.camera) (camera_second_lem b.camera h.camera) (next_group b.store) plain;
      store = second_keeps b.store h.store;
    })

-- Soundness does not look at the numbers of the latest run.
pub noting_good : (b : Bench) (latest : Latest) → GoodBench b → GoodBench (noting b latest)
unfolding bench_sound
noting_good b latest good = record { sound = good.sound; shaped = good.shaped }

-- So one event keeps a bench sound, and several do.
pub event_keeps : (b : Bench) → GoodBench b → (e : Event) → GoodBench (after_one b e)
event_keeps b good (command c) = by_command GoodBench b good c good (λ t. effect_keeps b good c t.passed)
event_keeps b good (bytes s) = by_bytes GoodBench b good s good (λ t. effect_keeps b good (said s) t.passed)
event_keeps b good second = subst GoodBench (sym (second_is b good)) (second_sound b good)
event_keeps b good (run kit pupil room) = by_run GoodBench noting_good b kit pupil room good (λ zero. left_good b good (rests kit ++ rests pupil))
event_keeps b good (typed kit text room) = by_typed GoodBench noting_good b kit text room good (λ zero. left_good b good (rests kit ++ rests (bytes_in text)))

pub after_keeps : (b : Bench) → GoodBench b → (es : List Event) → GoodBench (after b es)
after_keeps b good [] = good
after_keeps b good (e ∷ es) = after_keeps (after_one b e) (event_keeps b good e) es

-- "A state reached from a fresh one is always sound."
pub reached_sound : (b : Bench) → Reached b → GoodBench b
reached_sound b r = subst GoodBench r.reached (after_keeps fresh_bench fresh_sound r.events)

-- A sound bench tells its second and its status.
pub second_answers : (b : Bench) → GoodBench b → (second_at b).told.code ≡ 0
unfolding second_at
second_answers b good = rw good.sound

pub status_answers : (b : Bench) → GoodBench b → status_at b ≡ record { code = 0; shown = status_of b ∷ [] }
unfolding status_at
status_answers b good = rw good.sound

-- The status obeys the frame's rules, so the writer takes it.
pub status_rules : (b : Bench) → GoodBench b → frame_rule (status_of b) ≡ true
status_rules b good = obeyed (status_of b) (rules_of b (facts_of b good))

pub status_written : (b : Bench) → GoodBench b → (room : List ℕ) → 32 ≤ length room
    → (write_code (status_of b) room ≡ 0) × (room_after (status_of b) room ≡ frame_bytes (status_of b) ++ drop 32 room)
unfolding write_code room_after
status_written b good room fits =
    let rules = status_rules b good in
    let room_for = le-leb 32 (length room) fits in
    (rw (rules, room_for), rw (rules, room_for))
