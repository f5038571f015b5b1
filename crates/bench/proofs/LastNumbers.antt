-- 02, Q-11, for a moderator to read: the numbers of the latest run are those of the pupil's records, said of the report's own bytes; a refused run, a
-- command and a second leave them; and they stand in the housekeeping frame. Places k count from 0.
use Prim.Native.Nat.{ℕ, suc, ◌+◌, ◌*◌, ◌<◌}
use mathlib.Core.Path.{◌≡◌, refl, sym, ap, ◌∙◌}
use mathlib.Core.Logic.{◌≢◌}
use mathlib.Core.List.{List, [], ◌∷◌}
use mathlib.Core.Bool.{Bool, true, false, cond}
use native.Mathlib.Omega.{arith}
use lib.ListN.{length, drop}
use lib.Seq.{get_or-take, get_or-drop}
use lib.Dec.{eqb}
use Rattle.words.specs.BigEndian.{byte_at, word_at}
use Rattle.wire.specs.declared.kinds.Command.{Command}
use Rattle.wire.specs.declared.kinds.Parts.{Parts}
use Rattle.wire.specs.Kind.{parts_of}
use Rattle.wire.specs.Read.{said_parts, said}
use Rattle.report.specs.declared.Latest.{Latest}
use Rattle.report.specs.Record.{record_length}
use Rattle.report.specs.Latest.{no_latest, number_in, code_in, latest_of}
use Rattle.report.proofs.LastRecords.{failed_at, none_failed}
use Rattle.walk.specs.Walk.{rests}
use Rattle.text.specs.Assemble.{line_numbers, bytes_in}
use Rattle.housekeeping.specs.Frame.{frame_bytes}
use Rattle.store.specs.Pool.{free_in}
use Rattle.bench.specs.declared.Bench.{Bench}
use Rattle.bench.specs.Status.{bench_sound, housekeeping_of, housekeeping_at}
use Rattle.bench.specs.Carry.{effect_of, outcome_for, carry_code, carry_out, carry_bytes_code, carry_out_bytes}
use Rattle.bench.specs.Second.{bench_after, second_at}
use Rattle.bench.specs.Run.{own_numbers, kit_part, pupil_with, run_of, room_after}
use Rattle.bench.specs.Typed.{typed_of, typed_room}
use Rattle.bench.proofs.InTurn.{typed_even}
use Rattle.bench.proofs.Sound.{GoodBench}
use Rattle.bench.proofs.Report.{record_at, numbered_record}
use Rattle.bench.proofs.Report as raw
use Rattle.bench.proofs.TypedReport as typed

-- What the numbers of the latest run say of a report: `pupil` records of the pupil's, behind `kit` of the kit's.
pub record LastOf (report : List ℕ) (kit pupil : ℕ) (latest : Latest) : Type 0 where
  -- "last received number": that of the pupil's last record.
  pub received : (k : ℕ) → suc k ≡ pupil → latest.received ≡ word_at (record_at report (kit + k)) 4
  -- "last failed number .., its code": number and code of the pupil's last record whose code byte is not 0.
  pub failed : (k : ℕ) → k < pupil → byte_at (record_at report (kit + k)) 1 ≢ 0
      → ((j : ℕ) → k < j → j < pupil → byte_at (record_at report (kit + j)) 1 ≡ 0)
      → (latest.failed ≡ word_at (record_at report (kit + k)) 4) × (latest.code ≡ byte_at (record_at report (kit + k)) 1)
  -- "0 where there was none."
  pub passed : ((k : ℕ) → k < pupil → byte_at (record_at report (kit + k)) 1 ≡ 0) → (latest.failed ≡ 0) × (latest.code ≡ 0)
  pub none : pupil ≡ 0 → latest ≡ no_latest

-- A byte, and the number, of the record at a place are the report's.
byte_there : (report : List ℕ) (k i : ℕ) → i < record_length → byte_at (record_at report k) i ≡ byte_at report (k * record_length + i)
byte_there report k i within =
    get_or-take record_length (drop (record_length * k) report) i 0 within
    ∙ get_or-drop (record_length * k) report i 0 ∙ ap (byte_at report) place
  where
    place : record_length * k + i ≡ k * record_length + i
    place = omega arith

code_there : (report : List ℕ) (k : ℕ) → byte_at (record_at report k) 1 ≡ code_in report (suc k)
code_there report k = byte_there report k 1 (omega arith)

number_there : (report : List ℕ) (k : ℕ) → word_at (record_at report k) 4 ≡ number_in report (suc k)
number_there report k =
    let at : (i j : ℕ) → i < record_length → k * record_length + i ≡ j → byte_at (record_at report k) i ≡ byte_at report j =
    λ i j within place. byte_there report k i within ∙ ap (byte_at report) place in
    let start = k * record_length + 4 in
    rw (
      at 4 start (omega arith) refl,
      at 5 (start + 1) (omega arith) (omega arith),
      at 6 (start + 2) (omega arith) (omega arith),
      at 7 (start + 2 + 1) (omega arith) (omega arith),
    )

-- From the pupil's own records to the report, where each of them stands behind the kit's.
module _ (records report : List ℕ) (kit pupil : ℕ) (stands : (k : ℕ) → k < pupil → record_at report (kit + k) ≡ record_at records k) where
  number_is : (k : ℕ) → k < pupil → number_in records (suc k) ≡ word_at (record_at report (kit + k)) 4
  number_is k within = sym (ap (λ l. word_at l 4) (stands k within) ∙ number_there records k)

  code_is : (k : ℕ) → k < pupil → code_in records (suc k) ≡ byte_at (record_at report (kit + k)) 1
  code_is k within = sym (ap (λ l. byte_at l 1) (stands k within) ∙ code_there records k)

  last_of : LastOf report kit pupil (latest_of records pupil)
  unfolding latest_of
  last_of =
      record {
        received = λ k e. ap (number_in records) (sym e) ∙ number_is k (omega arith);
        failed = λ k within fails later.
            let is = failed_at records pupil k within (λ zero. fails (sym (code_is k within) ∙ zero)) (λ j behind in_List. code_is j in_List ∙ later j behind in_List)
            in
            (ap (number_in records) is ∙ number_is k within, ap (code_in records) is ∙ code_is k within);
        passed = λ passes.
            let is = none_failed records pupil (λ k within. code_is k within ∙ passes k within) in
            (ap (number_in records) is, ap (code_in records) is);
        none = ap (latest_of records);
      }

-- After a run that was not refused, of two raw lists or of a typed one: the report is the room's own bytes, and the kit's records have no part in it.
pub run_notes : (b : Bench) (kit pupil room : List ℕ) → (run_of b kit pupil room).code ≡ 0
    → LastOf (room_after b kit pupil room) (length (rests kit)) (length (rests pupil)) (run_of b kit pupil room).bench.latest
run_notes b kit pupil room accepted =
    rw (raw.bench_after b kit pupil room accepted)
    (last_of (pupil_with b kit (own_numbers pupil) pupil).records (room_after b kit pupil room) (length (rests kit)) (length (rests pupil))
    (λ k there.
    raw.pupil_record b kit pupil room accepted k there
    ∙ sym (raw.list_record (kit_part b kit).bench 2 pupil k there)))

pub typed_notes : (b : Bench) (kit text room : List ℕ) → (typed_of b kit text room).found.told.code ≡ 0
    → LastOf (typed_room b kit text room) (length (rests kit)) (length (rests (bytes_in text))) (typed_of b kit text room).bench.latest
typed_notes b kit text room accepted =
    rw (typed.bench_after b kit text room accepted)
    (last_of (pupil_with b kit (line_numbers text) (bytes_in text)).records (typed_room b kit text room) (length (rests kit)) (length (rests (bytes_in text)))
    (λ k there.
    typed.pupil_record b kit text room accepted k there
    ∙ sym (numbered_record (kit_part b kit).bench 2 (line_numbers text) (rests (bytes_in text)) (typed_even text) k there)))

-- A refused run leaves them, for it leaves the whole bench; so does every command, accepted or not, and every second.
pub run_leaves : (b : Bench) (kit pupil room : List ℕ) → (run_of b kit pupil room).code ≢ 0 → (run_of b kit pupil room).bench.latest ≡ b.latest
run_leaves b kit pupil room refused = ap (λ (n : Bench). n.latest) (raw.refused_leaves b kit pupil room refused).bench

pub typed_leaves : (b : Bench) (kit text room : List ℕ) → (typed_of b kit text room).found.told.code ≢ 0
    → (typed_of b kit text room).bench.latest ≡ b.latest
typed_leaves b kit text room refused = ap (λ (n : Bench). n.latest) (typed.refused_leaves b kit text room refused).bench

outcome_leaves : (code : ℕ) (parts : Parts) (b : Bench) (c : Command) → (outcome_for code parts b c).bench.latest ≡ b.latest
outcome_leaves code parts b c = go (eqb code 0)
  where
    go : (accepted : Bool) → (cond accepted (effect_of b c) b).latest ≡ b.latest
    go true = refl
    go false = refl

pub command_leaves : (b : Bench) (c : Command) → (carry_out b c).bench.latest ≡ b.latest
unfolding carry_out
command_leaves b c = outcome_leaves (carry_code b c) (parts_of c.kind) b c

pub bytes_leave : (b : Bench) (s : List ℕ) → (carry_out_bytes b s).bench.latest ≡ b.latest
unfolding carry_out_bytes
bytes_leave b s = outcome_leaves (carry_bytes_code b s) (said_parts s) b (said s)

pub second_leaves : (b : Bench) → (second_at b).bench.latest ≡ b.latest
unfolding second_at
second_leaves b = go (bench_sound b)
  where
    go : (sound : Bool) → (cond sound (bench_after b) b).latest ≡ b.latest
    go true = refl
    go false = refl

-- On the wire: a sound bench tells its housekeeping, and the frame's bytes 2 to 5, 8 to 11, 14 and 17 are these numbers and the free entries.
pub record Sends (b : Bench) : Type 0 where
  pub told : housekeeping_at b ≡ record { code = 0; shown = housekeeping_of b ∷ [] }
  pub received : word_at (frame_bytes (housekeeping_of b)) 2 ≡ b.latest.received
  pub failed : word_at (frame_bytes (housekeeping_of b)) 8 ≡ b.latest.failed
  pub code : byte_at (frame_bytes (housekeeping_of b)) 14 ≡ b.latest.code
  pub free : byte_at (frame_bytes (housekeeping_of b)) 17 ≡ free_in b.store

pub sends : (b : Bench) → GoodBench b → Sends b
unfolding housekeeping_at
sends b good = record { told = rw good.sound; received = omega arith; failed = omega arith; code = refl; free = refl }
