-- Carrying out one command: the codes in their order, 26 among them (02, Q-3), the effect of an accepted command, and that a refused one changes no
-- part of the state.
use Rattle.std.specs.Prelude.{ℕ, List, ◌∷◌, ◌++◌, Bool, cond, not, ◌&&◌, eqb, Result, Ok, Err}
use Rattle.words.specs.Codes.{Check, ◌when◌, first_of}
use Rattle.wire.specs.declared.kinds.Kind.{Kind}
use Rattle.wire.specs.declared.kinds.Command.{Command}
use Rattle.wire.specs.declared.kinds.Parts.{Parts}
use Rattle.wire.specs.declared.judging.Told.{Told}
use Rattle.wire.specs.Kind.{parts_of}
use Rattle.wire.specs.Judge.{plain, told_of, told_for, arg_checks}
use Rattle.wire.specs.Read.{said_parts, said, read_checks}
use Rattle.camera.specs.declared.Camera.{Camera}
use Rattle.camera.specs.Camera.{executed_of, dark}
use Rattle.store.specs.Checks.{code_of, store_checks}
use Rattle.store.specs.Effects.{applied_of}
use Rattle.bench.specs.declared.Bench.{Bench}
use Rattle.bench.specs.declared.Rejection.{Rejection}
use Rattle.bench.specs.Status.{sound_check}

-- 01's number of each rejection, and what was wrong with the number.
abbrev pub verdict_of : Rejection → Told
verdict_of Rejection.Unsound = plain 27
verdict_of (Rejection.Misread refusal) = told_of refusal
verdict_of Rejection.Dark = plain 26
verdict_of (Rejection.Denied denial) = plain (code_of denial)

-- What carrying out answers: what is told, and the bench afterwards, on a refusal the one that was handed in.
pub record Outcome : Type 0 where
  pub told : Told
  pub bench : Bench

abbrev pub outcome_of : Bench → Result Bench Rejection → Outcome
outcome_of b (Ok after) = record { told = plain 0; bench = after }
outcome_of b (Err rejection) = record { told = verdict_of rejection; bench = b }

-- "A flag-1 command is only stored .. A flag-0 command executes at once, also while a macro is open or running."
abbrev pub camera_after : Camera → Command → Camera
camera_after camera c = cond c.flag camera (executed_of camera c.kind)

abbrev pub effect_of : Bench → Command → Bench
effect_of b c = record { camera = camera_after b.camera c; store = applied_of b.store c; latest = b.latest }

-- "A refused command changes no part of the state." What is told of the numbers is told of these parts: the command's own, or its fields on the wire.
abbrev pub outcome_for : ℕ → Parts → Bench → Command → Outcome
outcome_for code parts b c = record { told = told_for code parts; bench = cond (eqb code 0) (effect_of b c) b }

-- 02, Q-3: "26, executed commands only".
abbrev pub row26 : Bool → Bool → Kind → Bool
row26 power flag kind = not flag && dark power kind

abbrev pub dark_check : Bool → Command → Check
dark_check power c = 26 when row26 power c.flag c.kind

-- What is asked of the state: 26, "after 10 and before 11", then the store's rows.
abbrev pub state_checks : Bench → Command → List Check
state_checks b c = dark_check b.camera.power c ∷ store_checks b.store c

-- Rows 8 to 10, 26, 11 to 19 and 25, on a decoded command.
abbrev pub command_checks : Bench → Command → List Check
command_checks b c = arg_checks c ++ state_checks b c

-- "Carrying one out tries 27, then .. 8 to 19 if it is already decoded."
abbrev pub carry_checks : Bench → Command → List Check
carry_checks b c = sound_check b ∷ command_checks b c

unfoldable pub carry_code : Bench → Command → ℕ
carry_code b c = first_of (carry_checks b c)

unfoldable pub carry_out : Bench → Command → Outcome
unfolding carry_code
carry_out b c = outcome_for (carry_code b c) (parts_of c.kind) b c

-- Rows 1 to 10, 26, 11 to 19 and 25, on bytes.
abbrev pub bytes_checks : Bench → List ℕ → List Check
bytes_checks b s = read_checks s ++ state_checks b (said s)

-- The same rows on a bench that is known to be sound: what a run does with each command.
unfoldable pub taken : Bench → List ℕ → Outcome
taken b s = outcome_for (first_of (bytes_checks b s)) (said_parts s) b (said s)

-- "Carrying one out tries 27, then 1 to 19 from bytes": the first command alone.
abbrev pub carry_bytes_checks : Bench → List ℕ → List Check
carry_bytes_checks b s = sound_check b ∷ bytes_checks b s

unfoldable pub carry_bytes_code : Bench → List ℕ → ℕ
carry_bytes_code b s = first_of (carry_bytes_checks b s)

unfoldable pub carry_out_bytes : Bench → List ℕ → Outcome
unfolding carry_bytes_code
carry_out_bytes b s = outcome_for (carry_bytes_code b s) (said_parts s) b (said s)
