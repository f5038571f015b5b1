-- Steps of the implementation; no public promise of the product needs them.
-- A bench at work on a lent pool; what becomes of a command, from the power and the tally of the macros alone; what a survey finds; what executing a
-- group leaves; and a run whose lists were judged, from wherever its commands come.
use Rattle.std.specs.Prelude.{ℕ, ◌≡◌, ◌≤◌, List, [], ◌∷◌, ◌++◌, Bool, true, cond, length, ltb, eqb, Option, Some, None, Result, Ok, Err}
use Rattle.words.specs.BigEndian.{written}
use Rattle.words.specs.Codes.{Check, ◌when◌, first_of}
use Rattle.wire.specs.declared.judging.Refusal.{Refusal}
use Rattle.wire.specs.declared.kinds.Kind.{Kind}
use Rattle.wire.specs.declared.kinds.Command.{Command}
use Rattle.wire.specs.Kind.{parts_of}
use Rattle.wire.specs.Judge.{plain, arg_checks}
use Rattle.wire.specs.Read.{Answer, answer_of, answer_for, read_of, read_checks, said_parts, said}
use Rattle.camera.specs.declared.Camera.{Camera}
use Rattle.store.specs.declared.tally.Tally.{Tally}
use Rattle.store.specs.declared.tally.Survey.{Survey}
use Rattle.store.specs.TallySteps.{tally_of, bare_of, store_of, tally_checks, tally_after, pool_after, Tallied}
use Rattle.walk.specs.Walk.{rests}
use Rattle.report.specs.declared.Latest.{Latest}
use Rattle.report.specs.Record.{report_room}
use Rattle.bench.specs.declared.Bench.{Bench}
use Rattle.bench.specs.declared.Works.{Works}
use Rattle.bench.specs.declared.Executed.{Executed}
use Rattle.bench.specs.declared.Rejection.{Rejection}
use Rattle.bench.specs.Status.{bench_sound, sound_check}
use Rattle.bench.specs.Carry.{Outcome, verdict_of, camera_after, dark_check}
use Rattle.bench.specs.Run.{Listed, run_rests, kit_part, ended_as, RunTold}
use Rattle.bench.specs.Second.{codes_shown, executed_all, handed_codes}

-- A bench at work, its pool lent beside it: what of a bench is at work, before the lengths of its macros are worked out; the bench that works and pool
-- are; and what is at work after an accepted command, and as a run ends.
abbrev pub works_of : Bench → Works
works_of b = record { camera = b.camera; tally = bare_of b.store; latest = b.latest }

abbrev pub bench_of : Works → List ℕ → Bench
bench_of w pool = record { camera = w.camera; store = store_of pool w.tally; latest = w.latest }

abbrev pub works_after : Works → Command → Works
works_after w c = record { camera = camera_after w.camera c; tally = tally_after w.tally c; latest = w.latest }

abbrev pub works_noting : Works → Latest → Works
works_noting w latest = record { camera = w.camera; tally = w.tally; latest = latest }

-- What a run is handed and hands on: a whole pool, on which a sound bench is at work, by a tally that is true of its macros.
pub record AtWork (w : Works) (pool : List ℕ) : Type 0 where
  pub whole : length pool ≡ 576
  pub sound : bench_sound (bench_of w pool) ≡ true
  pub tallied : Tallied (store_of pool w.tally) w.tally

-- What a decision says: what is told, and the command where the code is 0.
abbrev pub decision_of : Result Command Rejection → Answer
decision_of (Ok c) = record { told = plain 0; taken = c ∷ [] }
decision_of (Err rejection) = record { told = verdict_of rejection; taken = [] }

-- Row 26 and the store's, on a command that was read or judged.
abbrev pub behind_checks : Bool → Tally → Command → List Check
behind_checks power t c = dark_check power c ∷ tally_checks t c

-- They ask for no number, so that nothing is told of one.
abbrev pub permitted_with : ℕ → Command → Answer
permitted_with code c = record { told = plain code; taken = cond (eqb code 0) (c ∷ []) [] }

unfoldable pub permitted_by : Bool → Tally → Command → Answer
permitted_by power t c = permitted_with (first_of (behind_checks power t c)) c

-- Rows 8 to 10 before those, on a decoded command.
unfoldable pub decided_by : Bool → Tally → Command → Answer
decided_by power t c = answer_for (first_of (arg_checks c ++ behind_checks power t c)) (parts_of c.kind) c

-- Rows 1 to 10 before those, on bytes.
unfoldable pub decided_in : Bool → Tally → List ℕ → Answer
decided_in power t s = answer_for (first_of (read_checks s ++ behind_checks power t (said s))) (said_parts s) (said s)

-- A bench after a command took effect by the tally of its macros.
abbrev pub effect_by : Bench → Tally → Command → Bench
effect_by b t c = bench_of (works_after (record { camera = b.camera; tally = t; latest = b.latest }) c) (pool_after b.store.pool t c)

-- What was decided, carried out: the bench and the tally after the command, if one was taken.
abbrev pub bench_by : Bench → Tally → List Command → Bench
bench_by b t [] = b
bench_by b t (c ∷ cs) = effect_by b t c

abbrev pub tally_by : Tally → List Command → Tally
tally_by t [] = t
tally_by t (c ∷ cs) = tally_after t c

abbrev pub carried_by : Bench → Tally → Answer → Outcome
carried_by b t decided = record { told = decided.told; bench = bench_by b t decided.taken }

-- What a survey of a bench finds: whether it is sound, and the tally of its macros.
abbrev pub surveyed : Bench → Survey
surveyed b = record { sound = bench_sound b; tally = tally_of b.store }

-- What executing a group leaves: the camera, and the codes in their places.
abbrev pub executed_with : Camera → List Kind → Executed
executed_with camera ks = record { camera = executed_all camera ks; codes = codes_shown (handed_codes camera ks) }

-- A source of commands gives the next one: the commands that were left, each as it finds its list, and the numbers of their records, begin with it; what
-- it was read as is what the reader says of it.
pub record GivesOne (commands : List (List ℕ)) (numbers : List ℕ) (number : ℕ) (read : Result Command Refusal) (later : List (List ℕ))
    (later_numbers : List ℕ) : Type 0 where
  pub rest : List ℕ
  pub commands_are : commands ≡ rest ∷ later
  pub numbers_are : numbers ≡ number ∷ later_numbers
  pub reads : answer_of read ≡ read_of rest

-- The command that a line says, if it says one.
abbrev pub said_by : Option Command → List Command
said_by None = []
said_by (Some c) = c ∷ []

-- It gives none where none is left.
abbrev pub Gives : List (List ℕ) → List ℕ → Option (ℕ × Result Command Refusal) → List (List ℕ) → List ℕ → Type 0
Gives commands numbers None later later_numbers = commands ≡ []
Gives commands numbers (Some next) later later_numbers = GivesOne commands numbers next.0 next.1 later later_numbers

-- So many commands as a list can have, each with a number.
abbrev pub Even : List ℕ → List (List ℕ) → Type 0
Even numbers commands = (length numbers ≡ length commands) × (length commands ≤ 512)

-- A run whose lists were judged: 21, then 27; then the kit's list and the pupil's commands with these numbers, behind it.
abbrev pub judged_code : Bench → List ℕ → ℕ
judged_code b room = first_of (21 when ltb (length room) report_room ∷ sound_check b ∷ [])

abbrev pub pupil_by : Bench → List ℕ → List ℕ → List (List ℕ) → Listed
pupil_by b kit numbers rs = run_rests (kit_part b kit).bench 2 numbers rs

abbrev pub ended_by : Bench → List ℕ → List ℕ → List (List ℕ) → Bench
ended_by b kit numbers rs = ended_as (pupil_by b kit numbers rs) (length rs)

abbrev pub report_by : Bench → List ℕ → List ℕ → List (List ℕ) → List ℕ
report_by b kit numbers rs = (kit_part b kit).records ++ (pupil_by b kit numbers rs).records

abbrev pub judged_for : ℕ → Bench → List ℕ → List ℕ → List (List ℕ) → RunTold
judged_for code b kit numbers rs =
    record {
      code = code;
      bench = cond (eqb code 0) (ended_by b kit numbers rs) b;
      kit = cond (eqb code 0) (length (rests kit)) 0;
      pupil = cond (eqb code 0) (length rs) 0;
    }

abbrev pub judged_run : Bench → List ℕ → List ℕ → List (List ℕ) → List ℕ → RunTold
judged_run b kit numbers rs room = judged_for (judged_code b room) b kit numbers rs

abbrev pub judged_room : Bench → List ℕ → List ℕ → List (List ℕ) → List ℕ → List ℕ
judged_room b kit numbers rs room = cond (eqb (judged_code b room) 0) (written (report_by b kit numbers rs) room) room
