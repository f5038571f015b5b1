-- A running macro over any events: it goes on second by second until its list has ended, whatever commands arrive, unless a STOP is accepted.
use Prim.Native.Nat.{ℕ, suc, ◌+◌, ◌-◌, ◌≤◌, ◌<◌}
use mathlib.Core.Path.{◌≡◌, refl, sym, ap, ◌∙◌, subst}
use mathlib.Core.List.{List, [], ◌∷◌, ◌++◌}
use mathlib.Core.Bool.{Bool, true, false, cond}
use native.Mathlib.Omega.{arith}
use lib.ListN.{length, get_or}
use lib.Dec.{ltb}
use borrow.Author.Tests.{ltb-true, ltb-false, le-ltb, le-leb, eq-eqb}
use Rattle.words.proofs.Tests.{neither}
use Rattle.wire.specs.declared.kinds.Kind.{Kind}
use Rattle.wire.specs.declared.kinds.Command.{Command}
use Rattle.std.specs.Prelude.{Ok}
use Rattle.wire.specs.Judge.{plain, judge_code}
use Rattle.wire.specs.Read.{answer_of, read_of, said_parts, said}
use Rattle.wire.specs.Kind.{parts_of}
use Rattle.walk.specs.Walk.{rests}
use Rattle.text.specs.Assemble.{bytes_in}
use Rattle.store.specs.declared.roles.Role.{Role}
use Rattle.store.specs.declared.Store.{Store}
use Rattle.store.specs.Roles.{is_run, is_stop}
use Rattle.store.specs.Pool.{is_closed}
use Rattle.store.specs.WrittenOut.{written_out}
use Rattle.store.specs.Checks.{permit_code}
use Rattle.store.specs.Effects.{next_group, after_second}
use Rattle.store.proofs.Sound.{closed_small}
use Rattle.store.proofs.Running.{RunOf, run_starts, run_stays, RunSecond, run_second, applied_idle, second_idle}
use Rattle.report.specs.declared.Latest.{Latest}
use Rattle.bench.specs.declared.Bench.{Bench}
use Rattle.bench.specs.Carry.{Outcome, outcome_for, effect_of, carry_code, carry_out, taken, carry_bytes_code, carry_out_bytes}
use Rattle.bench.specs.Second.{second_at}
use Rattle.bench.specs.Run.{noting}
use Rattle.bench.specs.Events.{Event, command, bytes, second, run, typed, after_one, after, seconds_in}
use Rattle.bench.specs.Events.{executes, takes, takes_any, accepts, accepts_any}
use Rattle.bench.proofs.Outcomes.{behind_code, behind_code_lem, carry_code_lem, read_then, carry_bytes_code_lem, sound_bytes}
use Rattle.bench.proofs.Back.{command_read}
use Rattle.bench.proofs.InTurn.{left_by, left_append, by_run, by_typed}
use Rattle.bench.proofs.Sound.{GoodBench, good_store, Accepted, effect_keeps, Takes, by_command, by_bytes, by_taken, taken_good, left_good}
use Rattle.bench.proofs.Sound.{second_is, event_keeps, after_keeps}

-- Macro m runs on bench b with the list w, of which k seconds are over.
abbrev Runs : ℕ → List (List Kind) → ℕ → Bench → Type 0
Runs m w k b = RunOf m w k b.store

-- What an accepted command keeps unless it executes a role of some kind, every event but a second keeps in which no such command is accepted.
module _ (test : Role → Bool) (P : Bench → Type 0)
    (effect : (b : Bench) → GoodBench b → P b → (c : Command) → Accepted b c → executes test c ≡ false → P (effect_of b c)) where
  taking : (b : Bench) → GoodBench b → P b → (code : ℕ) (c : Command) → takes test code c ≡ false → Takes b code c → P (effect_of b c)
  taking b good holds code c none t = effect b good holds c t.passed (rw t.zero at none)

  command_keeps : (b : Bench) → GoodBench b → P b → (c : Command) → accepts test b (command c) ≡ false → P (after_one b (command c))
  command_keeps b good holds c none = by_command P b good c holds (taking b good holds (carry_code b c) c none)

  bytes_keep : (b : Bench) → GoodBench b → P b → (s : List ℕ) → accepts test b (bytes s) ≡ false → P (after_one b (bytes s))
  bytes_keep b good holds s none = by_bytes P b good s holds (taking b good holds (carry_bytes_code b s) (said s) none)

  -- The commands of a run in turn, and the run, where what is kept does not hang on the numbers of the latest run.
  turns_keep : (b : Bench) → GoodBench b → P b → (rs : List (List ℕ)) → takes_any test b rs ≡ false → P (left_by b rs)
  turns_keep b good holds [] none = holds
  turns_keep b good holds (r ∷ rs) none =
      let parts = neither (takes test (taken b r).told.code (said r)) (takes_any test (taken b r).bench rs) none in
      let next = by_taken P b r holds (taking b good holds (taken b r).told.code (said r) parts.0) in
      turns_keep (taken b r).bench (taken_good b good r) next rs parts.1

  module _ (notes : (b : Bench) (latest : Latest) → P b → P (noting b latest)) where
    run_keeps : (b : Bench) → GoodBench b → P b → (kit pupil room : List ℕ) → accepts test b (run kit pupil room) ≡ false
        → P (after_one b (run kit pupil room))
    run_keeps b good holds kit pupil room none =
        by_run P notes b kit pupil room holds (λ zero. turns_keep b good holds (rests kit ++ rests pupil) (rw zero at none))

    typed_keeps : (b : Bench) → GoodBench b → P b → (kit text room : List ℕ) → accepts test b (typed kit text room) ≡ false
        → P (after_one b (typed kit text room))
    typed_keeps b good holds kit text room none =
        by_typed P notes b kit text room holds (λ zero. turns_keep b good holds (rests kit ++ rests (bytes_in text)) (rw zero at none))

-- An accepted command that is no STOP leaves a running macro as it was, and a second takes it one group on.
module _ (m : ℕ) (w : List (List Kind)) (k : ℕ) where
  effect_stays : (b : Bench) → GoodBench b → Runs m w k b → (c : Command) → Accepted b c → executes is_stop c ≡ false → Runs m w k (effect_of b c)
  effect_stays b good runs c passed other = run_stays b.store (good_store b good) m w k runs c passed.judge passed.permit other

  second_goes : (b : Bench) → GoodBench b → Runs m w k b → suc k < length w → Runs m w (suc k) (after_one b second)
  second_goes b good runs more =
      let next = (run_second b.store (good_store b good) m w k runs).goes_on more in
      subst (Runs m w (suc k)) (sym (second_is b good)) next

-- So over any events with no STOP accepted, while seconds of the list are left.
pub runs_on : (m : ℕ) (w : List (List Kind)) (k : ℕ) (b : Bench) → GoodBench b → Runs m w k b → (es : List Event) → accepts_any is_stop b es ≡ false
    → (n : ℕ) → k + seconds_in es ≡ n → n < length w → Runs m w n (after b es)
runs_on m w k b good runs [] none n e less = let same : k ≡ n = omega arith in subst (λ j. Runs m w j b) same runs
runs_on m w k b good runs (command c ∷ es) none n e less =
    let parts = neither (accepts is_stop b (command c)) (accepts_any is_stop (after_one b (command c)) es) none in
    let next = command_keeps is_stop (Runs m w k) (effect_stays m w k) b good runs c parts.0 in
    runs_on m w k (after_one b (command c)) (event_keeps b good (command c)) next es parts.1 n e less
runs_on m w k b good runs (bytes s ∷ es) none n e less =
    let parts = neither (accepts is_stop b (bytes s)) (accepts_any is_stop (after_one b (bytes s)) es) none in
    let next = bytes_keep is_stop (Runs m w k) (effect_stays m w k) b good runs s parts.0 in
    runs_on m w k (after_one b (bytes s)) (event_keeps b good (bytes s)) next es parts.1 n e less
runs_on m w k b good runs (second ∷ es) none n e less =
    runs_on m w (suc k) (after_one b second) (event_keeps b good second) (second_goes m w k b good runs (omega arith)) es none n (omega arith) less
runs_on m w k b good runs (run kit pupil room ∷ es) none n e less =
    let whole = run kit pupil room in
    let parts = neither (accepts is_stop b whole) (accepts_any is_stop (after_one b whole) es) none in
    let next = run_keeps is_stop (Runs m w k) (effect_stays m w k) (λ b latest runs. runs) b good runs kit pupil room parts.0 in
    runs_on m w k (after_one b whole) (event_keeps b good whole) next es parts.1 n e less
runs_on m w k b good runs (typed kit text room ∷ es) none n e less =
    let whole = typed kit text room in
    let parts = neither (accepts is_stop b whole) (accepts_any is_stop (after_one b whole) es) none in
    let next = typed_keeps is_stop (Runs m w k) (effect_stays m w k) (λ b latest runs. runs) b good runs kit text room parts.0 in
    runs_on m w k (after_one b whole) (event_keeps b good whole) next es parts.1 n e less

-- An idle bench stays idle under every command that is accepted and is no RUN, and in every second.
abbrev Idle : Bench → Type 0
Idle b = b.store.running ≡ 255

effect_idle : (b : Bench) → GoodBench b → Idle b → (c : Command) → Accepted b c → executes is_run c ≡ false → Idle (effect_of b c)
effect_idle b good free c passed other = applied_idle b.store (good_store b good) c passed.judge passed.permit other free

event_idle : (b : Bench) → GoodBench b → Idle b → (e : Event) → accepts is_run b e ≡ false → Idle (after_one b e)
event_idle b good free (command c) none = command_keeps is_run Idle effect_idle b good free c none
event_idle b good free (bytes s) none = bytes_keep is_run Idle effect_idle b good free s none
event_idle b good free second none =
    ap (λ (b : Bench). b.store.running) (second_is b good) ∙ ap (λ (s : Store). s.running) (second_idle b.store free).1 ∙ free
event_idle b good free (run kit pupil room) none = run_keeps is_run Idle effect_idle (λ b latest free. free) b good free kit pupil room none
event_idle b good free (typed kit text room) none = typed_keeps is_run Idle effect_idle (λ b latest free. free) b good free kit text room none

pub stays_idle : (b : Bench) → GoodBench b → Idle b → (es : List Event) → accepts_any is_run b es ≡ false → Idle (after b es)
stays_idle b good free [] none = free
stays_idle b good free (e ∷ es) none =
    let parts = neither (accepts is_run b e) (accepts_any is_run (after_one b e) es) none in
    stays_idle (after_one b e) (event_keeps b good e) (event_idle b good free e parts.0) es parts.1

-- What a second of a sound bench hands over: nothing where it is idle.
pub handed_is : (b : Bench) → GoodBench b → (second_at b).handed ≡ next_group b.store
unfolding second_at
handed_is b good = rw good.sound

pub idle_hands : (b : Bench) → GoodBench b → Idle b → (second_at b).handed ≡ []
idle_hands b good free = handed_is b good ∙ (second_idle b.store free).0

-- Events one after the other.
pub after-append : (b : Bench) (xs ys : List Event) → after b (xs ++ ys) ≡ after (after b xs) ys
after-append b [] ys = refl
after-append b (x ∷ xs) ys = after-append (after_one b x) xs ys

-- RUN m, to be executed, of a closed macro on an idle bench: it is accepted, decoded or from bytes that say it, and the run begins.
abbrev pub run_command : ℕ → Command
run_command m = record { flag = false; kind = Kind.Run m }

module _ (b : Bench) (good : GoodBench b) (free : Idle b) (m : ℕ) (closed : is_closed b.store m ≡ true) where
  pub run_judged : judge_code (run_command m) ≡ 0
  unfolding judge_code
  run_judged =
      let small : m < 8 = closed_small b.store good.shaped m closed in
      simp (le-leb 0 m (omega arith), le-leb m 7 (omega arith))

  pub run_permitted : permit_code b.store (run_command m) ≡ 0
  unfolding permit_code
  run_permitted = simp (closed, eq-eqb b.store.running 255 free)

  run_behind : behind_code b (run_command m) ≡ 0
  run_behind = behind_code_lem b (run_command m) ∙ run_permitted

  pub run_begins : Runs m (written_out b.store m) 0 (effect_of b (run_command m))
  run_begins = run_starts b.store (good_store b good) (run_command m) run_judged run_permitted refl

  -- What carrying it out answers: code 0, and the bench with the run begun.
  abbrev begun : Outcome
  begun = record { told = plain 0; bench = effect_of b (run_command m) }

  pub run_accepted : carry_out b (run_command m) ≡ begun
  unfolding carry_out
  run_accepted =
      let code : carry_code b (run_command m) ≡ 0 = rw (carry_code_lem b (run_command m) good.sound, run_judged) run_behind in
      ap (λ n. outcome_for n (parts_of (Kind.Run m)) b (run_command m)) code

  pub run_accepted_bytes : (s : List ℕ) → read_of s ≡ answer_of (Ok (run_command m)) → carry_out_bytes b s ≡ begun
  unfolding carry_out_bytes
  run_accepted_bytes s read =
      let says = command_read s (run_command m) read in
      let code : carry_bytes_code b s ≡ 0 = rw (carry_bytes_code_lem b s good.sound, read_then b s, says.0, says.1) run_behind in
      ap (λ n. outcome_for n (said_parts s) b (said s)) code ∙ ap (λ (c : Command). outcome_for 0 (said_parts s) b c) says.1

  pub begun_sound : GoodBench (effect_of b (run_command m))
  begun_sound = effect_keeps b good (run_command m) (record { judge = run_judged; permit = run_permitted })

-- The same where RUN m stands among the commands of a run: after those that stand before it, and with no STOP accepted behind it.
module _ (b : Bench) (good : GoodBench b) (before : List (List ℕ)) (s : List ℕ) (behind : List (List ℕ)) where
  abbrev there : Bench
  there = left_by b before

  pub run_begins_within : (free : Idle there) (m : ℕ) (closed : is_closed there.store m ≡ true) → read_of s ≡ answer_of (Ok (run_command m))
      → takes_any is_stop (taken there s).bench behind ≡ false
      → (rs : List (List ℕ)) → rs ≡ before ++ (s ∷ behind) → (left : Bench) (latest : Latest) → left ≡ noting (left_by b rs) latest
      → Runs m (written_out there.store m) 0 left
  run_begins_within free m closed read none rs stands left latest is =
      let w = written_out there.store m in
      let sound = left_good b good before in
      let start = (taken there s).bench in
      let starts = sound_bytes there s sound.sound ∙ run_accepted_bytes there sound free m closed s read in
      let first : Runs m w 0 start = rw starts (run_begins there sound free m closed) in
      let last = turns_keep is_stop (Runs m w 0) (effect_stays m w 0) start (taken_good there sound s) first behind none in
      let all : left_by b rs ≡ left_by start behind = ap (left_by b) stands ∙ sym (left_append b before (s ∷ behind)) in
      subst (Runs m w 0) (sym (is ∙ ap (λ c. noting c latest) all)) last

-- A macro that was started, and events up to second k with no STOP accepted: what that second hands over, and what it leaves.
module _ (m : ℕ) (w : List (List Kind)) (start : Bench) (good : GoodBench start) (runs : Runs m w 0 start)
    (es : List Event) (k : ℕ) (seconds : seconds_in es + 1 ≡ k) (none : accepts_any is_stop start es ≡ false) (within : k ≤ length w) where
  abbrev now : Bench
  now = after start es

  now_good : GoodBench now
  now_good = after_keeps start good es

  pub now_runs : Runs m w (k - 1) now
  now_runs = runs_on m w 0 start good runs es none (k - 1) (omega arith) (omega arith)

  pub now_hands : (second_at now).handed ≡ get_or w (k - 1) []
  now_hands = handed_is now now_good ∙ (run_second now.store (good_store now now_good) m w (k - 1) now_runs).handed

  -- The bench as second k ends.
  abbrev next : Bench
  next = after start (es ++ (second ∷ []))

  pub next_good : GoodBench next
  next_good = after_keeps start good (es ++ (second ∷ []))

  next_is : next.store ≡ after_second now.store
  next_is = ap (λ (b : Bench). b.store) (after-append start es (second ∷ []) ∙ second_is now now_good)

  pub next_says : (next.store.running ≡ cond (ltb k (length w)) m 255) × (next.store.left ≡ length w - k)
  next_says = go (ltb k (length w)) refl
    where
      step : RunSecond m w (k - 1) now.store
      step = run_second now.store (good_store now now_good) m w (k - 1) now_runs

      go : (t : Bool) → ltb k (length w) ≡ t → (next.store.running ≡ cond t m 255) × (next.store.left ≡ length w - k)
      go true e =
          let less : k < length w = ltb-true k (length w) e in
          let on = step.goes_on (omega arith) in
          let over : suc (k - 1) ≡ k = omega arith in
          (ap (λ (s : Store). s.running) next_is ∙ on.running, ap (λ (s : Store). s.left) next_is ∙ on.left ∙ ap (λ n. length w - n) over)
      go false e =
          let least : length w ≤ k = ltb-false k (length w) e in
          let free : next.store.running ≡ 255 = ap (λ (s : Store). s.running) next_is ∙ step.ends (omega arith) in
          (free, (good_store next next_good).marks.idle free ∙ omega arith)

  pub next_idle : k ≡ length w → next.store.running ≡ 255
  next_idle last = rw (le-ltb k (length w) (omega arith)) at next_says.0
