-- 01, "Two lists, one report": the kit's list, then the pupil's, a record to each command.
use Rattle.std.specs.Prelude.{ℕ, ◌+◌, ◌<◌, List, [], ◌∷◌, ◌++◌, cond, length, ltb, eqb, Result, Ok, Err}
use Rattle.std.proofs.Common.{arith}
use Rattle.words.specs.BigEndian.{written}
use Rattle.words.specs.Codes.{Check, ◌when◌, first_of}
use Rattle.wire.specs.declared.judging.Told.{Told}
use Rattle.walk.specs.Walk.{rests}
use Rattle.walk.specs.Shown.{too_long}
use Rattle.report.specs.declared.Latest.{Latest}
use Rattle.report.specs.Record.{record_bytes, report_room}
use Rattle.report.specs.Latest.{latest_of}
use Rattle.bench.specs.declared.Bench.{Bench}
use Rattle.bench.specs.declared.lists.Ran.{Ran}
use Rattle.bench.specs.declared.lists.RunRefusal.{RunRefusal}
use Rattle.bench.specs.Status.{sound_check}
use Rattle.bench.specs.Carry.{taken}

-- What the commands of one list leave: the bench, and their records one after another.
pub record Listed : Type 0 where
  pub bench : Bench
  pub records : List ℕ

-- "its number in its own list, .. from 1": the numbers of so many commands, from a first one on; so those of a raw list.
abbrev pub numbers_from : ℕ → List (List ℕ) → List ℕ
numbers_from number [] = []
numbers_from number (r ∷ rs) = number ∷ numbers_from (number + 1) rs

abbrev pub own_numbers : List ℕ → List ℕ
own_numbers s = numbers_from 1 (rests s)

-- The record of what was told of a command.
abbrev pub record_of : ℕ → Told → ℕ → List ℕ
record_of sender told number = record_bytes sender told.code told.stray.par number told.stray.value

-- "Each command, accepted or not, gets" a record: the commands as each finds the list, and beside them the numbers of their records.
unfoldable pub run_rests : Bench → ℕ → List ℕ → List (List ℕ) → Listed
run_rests b sender [] rs = record { bench = b; records = [] }
run_rests b sender (number ∷ numbers) [] = record { bench = b; records = [] }
run_rests b sender (number ∷ numbers) (r ∷ rs) =
    let now = taken b r in
    let later = run_rests now.bench sender numbers rs in
    record { bench = later.bench; records = record_of sender now.told number ++ later.records }

-- One sender's list from its start, with these numbers, or with its own.
abbrev pub run_list : Bench → ℕ → List ℕ → List ℕ → Listed
run_list b sender numbers s = run_rests b sender numbers (rests s)

abbrev pub own_list : Bench → ℕ → List ℕ → Listed
own_list b sender s = run_list b sender (own_numbers s) s

-- "The run executes the kit's list from its start, then the pupil's from its own start, even if the kit's ended early."
abbrev pub kit_part : Bench → List ℕ → Listed
kit_part b kit = own_list b 1 kit

-- The pupil's records carry these numbers; in the run of two raw lists they are the list's own.
abbrev pub pupil_with : Bench → List ℕ → List ℕ → List ℕ → Listed
pupil_with b kit numbers pupil = run_list (kit_part b kit).bench 2 numbers pupil

abbrev pub pupil_part : Bench → List ℕ → List ℕ → Listed
pupil_part b kit pupil = pupil_with b kit (own_numbers pupil) pupil

-- 02, Q-11: "The first three are of the pupil's list, set as a run that was not refused ends, 0 where there was none.": they are what the pupil's
-- own records say.
abbrev pub noting : Bench → Latest → Bench
noting b latest = record { camera = b.camera; store = b.store; latest = latest }

-- The bench as a list of so many commands ends a run; so the pupil's list.
abbrev pub ended_as : Listed → ℕ → Bench
ended_as part count = noting part.bench (latest_of part.records count)

abbrev pub ended_with : Bench → List ℕ → List ℕ → List ℕ → Bench
ended_with b kit numbers pupil = ended_as (pupil_with b kit numbers pupil) (length (rests pupil))

-- "Whole runs: 20, either list longer than 4,096 bytes; then 21, report room below" what 02's Q-6 says; "then 27".
abbrev pub run_checks : Bench → List ℕ → List ℕ → List ℕ → List Check
run_checks b kit pupil room = 20 when too_long kit pupil ∷ 21 when ltb (length room) report_room ∷ sound_check b ∷ []

unfoldable pub run_code : Bench → List ℕ → List ℕ → List ℕ → ℕ
run_code b kit pupil room = first_of (run_checks b kit pupil room)

-- 01's number of each refusal.
abbrev pub begun_code : RunRefusal → ℕ
begun_code RunRefusal.ListTooLong = 20
begun_code RunRefusal.RoomTooSmall = 21
begun_code RunRefusal.Unsound = 27

-- No refusal of a run has code 0.
pub begun_some : (refusal : RunRefusal) → 0 < begun_code refusal
begun_some RunRefusal.ListTooLong = omega arith
begun_some RunRefusal.RoomTooSmall = omega arith
begun_some RunRefusal.Unsound = omega arith

-- What a run answers: the code, the bench afterwards, and the number of records for each sender; on a refusal the bench that was handed in, and counts
-- of zero.
pub record RunTold : Type 0 where
  pub code : ℕ
  pub bench : Bench
  pub kit : ℕ
  pub pupil : ℕ

abbrev pub ran_of : Bench → Result Ran RunRefusal → RunTold
ran_of b (Ok r) = record { code = 0; bench = r.bench; kit = r.kit; pupil = r.pupil }
ran_of b (Err refusal) = record { code = begun_code refusal; bench = b; kit = 0; pupil = 0 }

abbrev pub run_for : ℕ → Bench → List ℕ → List ℕ → RunTold
run_for code b kit pupil =
    record {
      code = code;
      bench = cond (eqb code 0) (ended_with b kit (own_numbers pupil) pupil) b;
      kit = cond (eqb code 0) (length (rests kit)) 0;
      pupil = cond (eqb code 0) (length (rests pupil)) 0;
    }

unfoldable pub run_of : Bench → List ℕ → List ℕ → List ℕ → RunTold
unfolding run_code
run_of b kit pupil room = run_for (run_code b kit pupil room) b kit pupil

-- The records of both lists, one after another.
abbrev pub report_with : Bench → List ℕ → List ℕ → List ℕ → List ℕ
report_with b kit numbers pupil = (kit_part b kit).records ++ (pupil_with b kit numbers pupil).records

abbrev pub report_of : Bench → List ℕ → List ℕ → List ℕ
report_of b kit pupil = report_with b kit (own_numbers pupil) pupil

-- The room afterwards: "Bytes after the last record stay"; all of it is as it was on a refusal.
unfoldable pub room_after : Bench → List ℕ → List ℕ → List ℕ → List ℕ
unfolding run_code
room_after b kit pupil room = cond (eqb (run_code b kit pupil room) 0) (written (report_of b kit pupil) room) room
