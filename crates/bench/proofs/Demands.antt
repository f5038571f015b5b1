-- The three demands, word for word, and under every clause of them the theorems that carry it. The theorems speak of the meanings that the promises
-- in src/ name: what `carry_out` and `carry_out_bytes` answer are the definitions of these names, what `second` answers is `second_at`, `status`
-- `status_at`, `free` `free_at`, `housekeeping` `housekeeping_at`, `run` `run_of` with the room `room_after`, and `run_typed` `typed_of` with the
-- room `typed_room` (specs/Carry, Second, Status, Run, Typed). What can happen to a bench is a list of events: commands, seconds, runs and runs of
-- typed lists (specs/Events). Read the statements here; what they rest on is proved in Rows, Dark, Back, Sound, FreeEntries, MacroRun, Report,
-- TypedReport, LastNumbers and LineShown, and in the crates below. How many pictures come, whether a list may be run in parts, and what is left of a
-- damaged one, which no demand asks, is in HowMany, TwoEvenings and RescuedRun. What is no part of a bench has its share of demands 1 and 2 in its
-- own crate: an index beside a list in `index`, Calls and Order; lists on a memory card in `card`, RoundTrips, Passes and Order; damaged lists in
-- `rescue`, Calls and Order; the gas valve in `valve`, Calls, RoundTrip and Order. Four seats that share a bench have theirs in `seats`, Calls and
-- Codes; and in Shared there demand 3, from the theorem below.
use Prim.Native.Nat.{ℕ, ◌+◌, ◌*◌, ◌-◌, ◌≤◌, ◌<◌}
use mathlib.Core.Path.{◌≡◌, refl, sym, ◌∙◌}
use mathlib.Core.Logic.{◌↔◌, ◌≢◌}
use mathlib.Core.List.{List, [], ◌∷◌, ◌++◌, map}
use mathlib.Core.Bool.{Bool, true, false, cond, not}
use native.Mathlib.Omega.{arith}
use lib.ListN.{length, get_or, take, drop}
use lib.Dec.{ltb}
use borrow.Author.Tests.{ne_eqb}
use Rattle.words.specs.BigEndian.{byte_at, half_at, word_at, has_room, written}
use Rattle.words.specs.Codes.{◌when◌}
use Rattle.words.proofs.Order.{NoneDue, Order, InOrder}
use Rattle.words.proofs.Front.{Bytes}
use Rattle.wire.specs.declared.kinds.Kind.{Kind}
use Rattle.wire.specs.declared.kinds.Command.{Command}
use Rattle.std.specs.Prelude.{Ok}
use Rattle.wire.specs.Judge.{no_stray, plain, judge_code}
use Rattle.wire.specs.Read.{length_of, answer_of, read_checks, read_of, said_parts, said}
use Rattle.wire.specs.Write as writing
use Rattle.wire.specs.Kind.{parts_of}
use Rattle.wire.proofs.Order.{read_order, write_order}
use Rattle.wire.proofs.RoundTrip.{Held}
use Rattle.wire.proofs.Calls as commands
use Rattle.wire.proofs.Parameters.{SomeOut, Parameter}
use Rattle.frame.specs.declared.Frame.{Frame}
use Rattle.frame.specs.Bytes.{frame_bytes}
use Rattle.frame.specs.Answers as frames
use Rattle.frame.proofs.Order as frame_order
use Rattle.frame.proofs.Answers.{taken_as}
use Rattle.frame.proofs.RoundTrip.{running_byte, left_bytes, read_written}
use Rattle.frame.proofs.Calls as frame_calls
use Rattle.housekeeping.specs.declared.Housekeeping.{Housekeeping}
use Rattle.housekeeping.specs.Frame as housekeeping_frame
use Rattle.housekeeping.specs.Answers as housekeeping
use Rattle.housekeeping.proofs.Order as housekeeping_order
use Rattle.housekeeping.proofs.Answers as housekeeping_answers
use Rattle.housekeeping.proofs.RoundTrip.{no_other}
use Rattle.housekeeping.proofs.Calls as housekeeping_calls
use Rattle.report.specs.Record.{record_bytes, put_code}
use Rattle.report.proofs.Calls as records
use Rattle.walk.specs.Walk.{rests}
use Rattle.walk.specs.Shown.{list_of, shown_of}
use Rattle.text.specs.Split.{lines_of}
use Rattle.text.specs.Names.{form_named}
use Rattle.text.specs.Line.{name_in, line_checks, typed_as, line_of}
use Rattle.text.specs.Findings.{nothing, outcome}
use Rattle.text.specs.Assemble as typing
use Rattle.text.specs.Assemble.{line_numbers, bytes_in, line_findings, bad_line}
use Rattle.text.specs.Lister as lister
use Rattle.text.specs.Shown.{line_shown}
use Rattle.text.proofs.LineOrder.{line_order}
use Rattle.text.proofs.FirstFinding.{FindsFirst, first_found_lem}
use Rattle.text.proofs.Parameters.{parts_of_line, parts_of_command, assembled_parameter, listed_parameter}
use Rattle.text.proofs.Calls as texts
use Rattle.text.proofs.Calls.{text_in, list_in}
use Rattle.store.specs.declared.roles.Role.{Role}
use Rattle.store.specs.Roles.{is_run, is_stop}
use Rattle.store.specs.Pool.{is_closed, free_in}
use Rattle.store.specs.WrittenOut.{written_out}
use Rattle.store.specs.Checks.{store_checks}
use Rattle.store.proofs.Running.{RunOf, closed_lasts}
use Rattle.bench.specs.declared.Bench.{Bench}
use Rattle.bench.specs.Status.{fresh_bench, status_of, bench_sound, sound_check, status_at, free_at, housekeeping_at}
use Rattle.bench.specs.Carry.{Outcome, row26, effect_of, command_checks, carry_code, carry_out}
use Rattle.bench.specs.Carry.{bytes_checks, taken, carry_bytes_code, carry_out_bytes}
use Rattle.bench.specs.Second.{second_at}
use Rattle.bench.specs.Run.{noting, run_checks, run_of, room_after}
use Rattle.bench.specs.Typed.{typed_findings, typed_of, typed_room}
use Rattle.bench.specs.Events.{Event, bytes, second, run, typed, after_one, after, Reached, seconds_in, takes_any, accepts, accepts_any}
use Rattle.bench.proofs.Rows as rows
use Rattle.bench.proofs.Dark as dark
use Rattle.bench.proofs.Back.{command_again, frame_again}
use Rattle.bench.proofs.InTurn.{left_by, run_left, typed_left}
use Rattle.bench.proofs.Sound.{GoodBench, good_store, left_good, fresh_sound, event_keeps, after_keeps, reached_sound}
use Rattle.bench.proofs.Sound.{second_answers, status_answers, status_rules, status_written}
use Rattle.bench.proofs.FreeEntries.{free_answers}
use Rattle.bench.proofs.MacroRun.{run_command, run_begins, run_accepted, run_accepted_bytes, begun_sound, run_begins_within}
use Rattle.bench.proofs.MacroRun.{stays_idle, idle_hands, now_runs, now_hands, next_says, next_idle}
use Rattle.bench.proofs.Outcomes.{OfState, passed_told, sound_bytes}
use Rattle.bench.proofs.Report.{Carries, RecordedIn, rest_at, record_at, events_of, Untouched, record_carries, record_recorded, kit_record, pupil_record}
use Rattle.bench.proofs.Report.{kit_verdict, pupil_verdict, run_leaves, run-accepts, run_reaches, refused_leaves, shown_judged}
use Rattle.bench.proofs.TypedReport as reports
use Rattle.bench.proofs.LastNumbers.{LastOf, Sends}
use Rattle.bench.proofs.LastNumbers as latest
use Rattle.bench.proofs.LineShown.{line_says}

-- # Demand 1
--
-- "No list, frame or state makes the code misbehave or run on. Every entry point judges its own input; a refused command leaves the bench as it was,
-- and a refused call writes nothing into lent memory."

-- "No list, frame or state makes the code misbehave or run on."
-- The prover itself gives this: every function of src/ has been proved to end and to be free of faults on every input of its type, for none of the
-- public ones has a `requires`.

-- "Every entry point judges its own input;"
-- A call that may refuse tries a list of checks on its own input, and `Order` (words, proofs/Order) says that its code is that of the first check that
-- is due, and 0 exactly when none is. Where codes stand out of order or more than once, in a line of a text
-- and in a housekeeping frame, a row is named by its place (`InOrder`, there too). Assembling, listing and a typed run
-- have findings, which name a line or a command; `FindsFirst` (text, proofs/FirstFinding) says that the answer is what the first finds that finds
-- something, and likewise which line of a text is the bad one. Carrying out tries 27 first, and then the rows of demand 2. Every other call has an answer
-- to every input.
pub record Judges : Type 0 where
  pub read_command : (s : List ℕ) → Order (read_checks s) (read_of s).told.code
  pub write_command : (c : Command) (room : List ℕ) → Order (writing.write_checks c room) (writing.wrote_at c room).told.code
  pub read_frame : (s : List ℕ) → Order (frames.read_checks s) (frames.read_of s).code
  pub write_frame : (f : Frame) (room : List ℕ) → Order (frames.write_checks f room) (frames.write_code f room)
  pub read_housekeeping : (s : List ℕ) → InOrder (housekeeping.read_checks s) (housekeeping.read_of s).code
  pub write_housekeeping : (h : Housekeeping) (room : List ℕ) → Order (housekeeping.write_checks h room) (housekeeping.write_code h room)
  pub put_record : (record_bytes' room : List ℕ) → Order (24 when not (has_room record_bytes' room) ∷ []) (put_code record_bytes' room)
  pub second : (b : Bench) → Order (sound_check b ∷ []) (second_at b).told.code
  pub status : (b : Bench) → Order (sound_check b ∷ []) (status_at b).code
  pub free : (b : Bench) → Order (sound_check b ∷ []) (free_at b).code
  pub housekeeping : (b : Bench) → Order (sound_check b ∷ []) (housekeeping_at b).code
  pub run : (b : Bench) (kit pupil room : List ℕ) → Order (run_checks b kit pupil room) (run_of b kit pupil room).code
  pub run_typed : (b : Bench) (kit text room : List ℕ) → FindsFirst (typed_findings b kit text room) (typed_of b kit text room).found
  pub line : (flag : Bool) (words : List (List ℕ)) → InOrder (line_checks (form_named (name_in words)) flag words) (typed_as flag words).told.code
  pub bad_line_lem : (text : List ℕ) → FindsFirst (line_findings 1 (lines_of text)) (bad_line text)
  pub assemble : (text room : List ℕ) → FindsFirst (typing.assemble_findings text room) (typing.assembled_as text room).found
  pub list_text : (raw room : List ℕ) → FindsFirst (lister.list_findings raw room) (lister.listed_as raw room).found
  pub carry_out_lem : (b : Bench) → bench_sound b ≡ false → (c : Command) → (carry_out b c).told.code ≡ 27
  pub carry_out_bytes_lem : (b : Bench) → bench_sound b ≡ false → (s : List ℕ) → (carry_out_bytes b s).told.code ≡ 27

pub demand_1_judges : Judges
unfolding read_of writing.wrote_at frames.read_of housekeeping.read_of typing.assembled_as lister.listed_as
demand_1_judges =
    record {
      read_command = read_order;
      write_command = write_order;
      read_frame = frame_order.read_order;
      write_frame = frame_order.write_order;
      read_housekeeping = housekeeping_order.read_order;
      write_housekeeping = housekeeping_order.write_order;
      put_record = rows.put_order;
      second = rows.second_order;
      status = rows.status_order;
      free = rows.free_order;
      housekeeping = rows.housekeeping_order;
      run = rows.run_order;
      run_typed = rows.typed_order;
      line = line_order;
      bad_line_lem = rows.lines_order;
      assemble = λ text room. first_found_lem (typing.assemble_findings text room);
      list_text = λ raw room. first_found_lem (lister.list_findings raw room);
      carry_out_lem = rows.command_unsound;
      carry_out_bytes_lem = rows.bytes_unsound;
    }

-- "a refused command leaves the bench as it was,"
-- On any bench, sound or not, a code other than 0 leaves the bench equal.
pub demand_1_command : (b : Bench) (c : Command) → (carry_out b c).told.code ≢ 0 → (carry_out b c).bench ≡ b
unfolding carry_out
demand_1_command b c refused = rw (ne_eqb (carry_code b c) 0 refused)

pub demand_1_bytes : (b : Bench) (s : List ℕ) → (carry_out_bytes b s).told.code ≢ 0 → (carry_out_bytes b s).bench ≡ b
unfolding carry_out_bytes
demand_1_bytes b s refused = rw (ne_eqb (carry_bytes_code b s) 0 refused)

-- A second that is refused (27 is its one refusal) hands over nothing besides.
pub demand_1_second : (b : Bench) → (second_at b).told.code ≢ 0
    → ((second_at b).bench ≡ b) × ((second_at b).handed ≡ []) × ((second_at b).codes ≡ [])
demand_1_second b refused = rows.second_refused b refused

-- A run that is refused leaves the bench and its room, with counts of zero.
pub demand_1_run : (b : Bench) (kit pupil room : List ℕ) → (run_of b kit pupil room).code ≢ 0 → Untouched b kit pupil room
demand_1_run b kit pupil room refused = refused_leaves b kit pupil room refused

pub demand_1_typed : (b : Bench) (kit text room : List ℕ) → (typed_of b kit text room).found.told.code ≢ 0 → reports.Untouched b kit text room
demand_1_typed b kit text room refused = reports.refused_leaves b kit text room refused

-- "and a refused call writes nothing into lent memory."
-- Beside the runs: `write_command`, `write_frame`, `write_housekeeping`, and `put_record`, whose room is `written` with the record's bytes, as the rooms of the writers of
-- words and of text are with theirs.
pub demand_1_write_command : (c : Command) (room : List ℕ) → (writing.wrote_at c room).told.code ≢ 0 → writing.room_after c room ≡ room
unfolding writing.wrote_at
demand_1_write_command c room refused = commands.refused_leaves c room refused

pub demand_1_write_frame : (f : Frame) (room : List ℕ) → frames.write_code f room ≢ 0 → frames.room_after f room ≡ room
demand_1_write_frame f room refused = frame_calls.refused_leaves f room refused

pub demand_1_write_housekeeping : (h : Housekeeping) (room : List ℕ) → housekeeping.write_code h room ≢ 0
    → written (housekeeping_frame.frame_bytes h) room ≡ room
demand_1_write_housekeeping h room refused = housekeeping_calls.refused_leaves h room refused

pub demand_1_put_record : (sender code par number value : ℕ) (room : List ℕ) → put_code (record_bytes sender code par number value) room ≢ 0
    → written (record_bytes sender code par number value) room ≡ room
demand_1_put_record sender code par number value room refused = records.refused_leaves sender code par number value room refused

pub demand_1_assemble : (text room : List ℕ) → (typing.assembled_as text room).found.told.code ≢ 0 → typing.room_after text room ≡ room
demand_1_assemble text room refused = texts.refused_assembling text room refused

pub demand_1_list_text : (raw room : List ℕ) → (lister.listed_as raw room).found.told.code ≢ 0 → lister.listed_room raw room ≡ room
demand_1_list_text raw room refused = texts.refused_listing raw room refused

-- # Demand 2
--
-- "A command is taken exactly when the CRISP guide's tables and our rules allow it. Otherwise it gets the one code that stands first in the order of
-- checks, with the sender's own line number. Commands and status frames can be written as well as read, and come back equal."

-- "A command is taken exactly when the CRISP guide's tables and our rules allow it."
-- `command_checks` are rows 8 to 19 in their order, 26 behind 10 and 25 behind 15, and `bytes_checks` rows 1 to 19 likewise; the guide's tables are in
-- wire, specs/Table. On a sound bench a command is accepted and takes its effect exactly when no row holds. (Every bench that can be reached is
-- sound: see the end of this file.)
pub demand_2_taken : (b : Bench) → bench_sound b ≡ true → (c : Command)
    → (carry_out b c ≡ record { told = plain 0; bench = effect_of b c }) ↔ NoneDue (command_checks b c)
demand_2_taken b sound c = rows.command_taken b sound c

pub demand_2_taken_bytes : (b : Bench) → bench_sound b ≡ true → (s : List ℕ)
    → (carry_out_bytes b s ≡ record { told = plain 0; bench = effect_of b (said s) }) ↔ NoneDue (bytes_checks b s)
demand_2_taken_bytes b sound s = rows.bytes_taken b sound s

-- "Otherwise it gets the one code that stands first in the order of checks,"
-- On a sound bench the code is n exactly when row n holds and no row tried before it does; on any other bench it is 27 (`demand_1_judges`).
pub demand_2_command : (b : Bench) → bench_sound b ≡ true → (c : Command) → Order (command_checks b c) (carry_out b c).told.code
demand_2_command b sound c = rows.command_order b sound c

pub demand_2_bytes : (b : Bench) → bench_sound b ≡ true → (s : List ℕ) → Order (bytes_checks b s) (carry_out_bytes b s).told.code
demand_2_bytes b sound s = rows.bytes_order b sound s

-- So 26 (02, Q-3) is given exactly where a command that passes 8 to 10 is to be executed and asks for a picture with the power off (`Refused26`); and
-- where its row holds, none of the rows behind it does.
pub demand_2_dark : (b : Bench) → bench_sound b ≡ true → (c : Command) → ((carry_out b c).told.code ≡ 26) ↔ dark.Refused26 b c
demand_2_dark b sound c = dark.dark_exactly b sound c

pub demand_2_dark_alone : (b : Bench) (c : Command) → row26 b.camera.power c.flag c.kind ≡ true → NoneDue (store_checks b.store c)
demand_2_dark_alone b c due = dark.dark_alone b c due

-- And 8 exactly where an argument is out of range; from bytes, where none of rows 1 to 7 is due besides.
pub demand_2_range : (b : Bench) → bench_sound b ≡ true → (c : Command) → ((carry_out b c).told.code ≡ 8) ↔ SomeOut (parts_of c.kind)
demand_2_range b sound c = rows.command_eight b sound c

pub demand_2_range_bytes : (b : Bench) → bench_sound b ≡ true → (s : List ℕ)
    → ((carry_out_bytes b s).told.code ≡ 8) ↔ (NoneDue (take 7 (read_checks s)) × SomeOut (said_parts s))
demand_2_range_bytes b sound s = rows.bytes_eight b sound s

-- What is told of the number beside it (02, Q-6) is `Parameter` (wire, proofs/Parameters): the parameter is 1 or 2 exactly with code 8, 2 only where
-- the first argument is in range; the value is the argument that it names, from bytes bit for bit, it lies outside the limits told, and those are the
-- table's; with every other code all four are 0.
pub demand_2_parameter : (b : Bench) (c : Command) → Parameter (parts_of c.kind) (carry_out b c).told
demand_2_parameter b c = rows.command_parameter b c

pub demand_2_parameter_bytes : (b : Bench) (s : List ℕ) → Parameter (said_parts s) (carry_out_bytes b s).told
demand_2_parameter_bytes b s = rows.bytes_parameter b s

-- The same where a line of a text is refused, in a typed run, in assembling and, of a command, in listing: what is told is told of the line or command
-- that the answer names, a line's numbers as they were typed.
pub demand_2_parameter_line : (b : Bench) (kit text room : List ℕ)
    → let found = (typed_of b kit text room).found in
    Parameter (parts_of_line text found.number) found.told
demand_2_parameter_line b kit text room = reports.typed_parameter b kit text room

pub demand_2_parameter_assemble : (text room : List ℕ)
    → let found = (typing.assembled_as text room).found in
    Parameter (parts_of_line text found.number) found.told
demand_2_parameter_assemble text room = assembled_parameter text room

pub demand_2_parameter_list_text : (raw room : List ℕ)
    → let found = (lister.listed_as raw room).found in
    Parameter (parts_of_command raw found.number) found.told
demand_2_parameter_list_text raw room = listed_parameter raw room

-- "with the sender's own line number."
-- In the room after a run that was carried out, record k + 1 of a sender carries that sender, the verdict on the command at place k of that sender's
-- own list, as carrying it out gives it in the state that the commands before it left, and the number k + 1.
pub demand_2_kit : (b : Bench) → GoodBench b → (kit pupil room : List ℕ) → (run_of b kit pupil room).code ≡ 0 → (k : ℕ) → k < length (rests kit)
    → Carries (record_at (room_after b kit pupil room) k) 1 (carry_out_bytes (after b (map bytes (take k (rests kit)))) (rest_at kit k)).told (k + 1)
demand_2_kit b good kit pupil room accepted k there =
    rw (kit_record b kit pupil room accepted k there, kit_verdict b good kit pupil k)
    (record_carries 1 (carry_out_bytes (after b (map bytes (take k (rests kit)))) (rest_at kit k)).told (k + 1))

pub demand_2_pupil : (b : Bench) → GoodBench b → (kit pupil room : List ℕ) → (run_of b kit pupil room).code ≡ 0 → (k : ℕ) → k < length (rests pupil)
    → Carries (record_at (room_after b kit pupil room) (length (rests kit) + k)) 2
    (carry_out_bytes (after b (map bytes (rests kit ++ take k (rests pupil)))) (rest_at pupil k)).told (k + 1)
demand_2_pupil b good kit pupil room accepted k there =
    rw (pupil_record b kit pupil room accepted k there, pupil_verdict b good kit pupil k)
    (record_carries 2 (carry_out_bytes (after b (map bytes (rests kit ++ take k (rests pupil)))) (rest_at pupil k)).told (k + 1))

-- In the room after the run of a typed list the kit's records are as after any run. Record k + 1 of the pupil carries the verdict on command k + 1 of
-- the list that the text says, and the number of its line, whatever the kit's list holds.
pub demand_2_typed_kit : (b : Bench) → GoodBench b → (kit text room : List ℕ) → (typed_of b kit text room).found.told.code ≡ 0
    → (k : ℕ) → k < length (rests kit)
    → Carries (record_at (typed_room b kit text room) k) 1 (carry_out_bytes (after b (map bytes (take k (rests kit)))) (rest_at kit k)).told (k + 1)
demand_2_typed_kit b good kit text room accepted k there =
    rw (reports.kit_record b kit text room accepted k there, kit_verdict b good kit (bytes_in text) k)
    (record_carries 1 (carry_out_bytes (after b (map bytes (take k (rests kit)))) (rest_at kit k)).told (k + 1))

pub demand_2_typed_pupil : (b : Bench) → GoodBench b → (kit text room : List ℕ) → (typed_of b kit text room).found.told.code ≡ 0
    → (k : ℕ) → k < length (rests (bytes_in text))
    → Carries (record_at (typed_room b kit text room) (length (rests kit) + k)) 2
    (carry_out_bytes (after b (map bytes (rests kit ++ take k (rests (bytes_in text))))) (rest_at (bytes_in text) k)).told (get_or (line_numbers text) k 0)
demand_2_typed_pupil b good kit text room accepted k there =
    rw (reports.pupil_record b kit text room accepted k there, pupil_verdict b good kit (bytes_in text) k)
    (record_carries 2 (carry_out_bytes (after b (map bytes (rests kit ++ take k (rests (bytes_in text))))) (rest_at (bytes_in text) k)).told
    (get_or (line_numbers text) k 0))

-- The line shown for that number says that command, and no other.
pub demand_2_typed_line : (b : Bench) (kit text room : List ℕ) → (typed_of b kit text room).found.told.code ≡ 0
    → (k : ℕ) → k < length (rests (bytes_in text))
    → (line_of (line_shown text (word_at (record_at (typed_room b kit text room) (length (rests kit) + k)) 4))).taken ≡ said (rest_at (bytes_in text) k) ∷ []
demand_2_typed_line b kit text room accepted k there =
    rw ((reports.same_run b kit text room accepted).pupil_numbers k there)
    (line_says text (reports.passed b kit text room accepted).text_short k there)

-- So the run of a typed list leaves the bench, but for the numbers of the latest run, the counts, the kit's records and the pupil's verdicts of the run of
-- the list that the text says.
pub demand_2_typed_run : (b : Bench) (kit text room : List ℕ) → (typed_of b kit text room).found.told.code ≡ 0 → reports.SameRun b kit text room
demand_2_typed_run b kit text room accepted = reports.same_run b kit text room accepted

-- So whose last command failed can be asked of the bench, too (02, Q-11). As a run ends that was not refused, the numbers of the latest run are those of
-- the pupil's records, in the report's own bytes: the last record's number, and number and code of the last whose code byte is not 0 (`LastOf`,
-- LastNumbers). The kit's list has no part in them, and a refused run, a command and a second leave them.
pub demand_2_latest : (b : Bench) (kit pupil room : List ℕ) → (run_of b kit pupil room).code ≡ 0
    → LastOf (room_after b kit pupil room) (length (rests kit)) (length (rests pupil)) (run_of b kit pupil room).bench.latest
demand_2_latest b kit pupil room accepted = latest.run_notes b kit pupil room accepted

pub demand_2_latest_typed : (b : Bench) (kit text room : List ℕ) → (typed_of b kit text room).found.told.code ≡ 0
    → LastOf (typed_room b kit text room) (length (rests kit)) (length (rests (bytes_in text))) (typed_of b kit text room).bench.latest
demand_2_latest_typed b kit text room accepted = latest.typed_notes b kit text room accepted

pub record LatestStays (b : Bench) : Type 0 where
  pub command : (c : Command) → (carry_out b c).bench.latest ≡ b.latest
  pub bytes : (s : List ℕ) → (carry_out_bytes b s).bench.latest ≡ b.latest
  pub second : (second_at b).bench.latest ≡ b.latest
  pub run : (kit pupil room : List ℕ) → (run_of b kit pupil room).code ≢ 0 → (run_of b kit pupil room).bench.latest ≡ b.latest
  pub run_typed : (kit text room : List ℕ) → (typed_of b kit text room).found.told.code ≢ 0 → (typed_of b kit text room).bench.latest ≡ b.latest

pub demand_2_latest_stays : (b : Bench) → LatestStays b
demand_2_latest_stays b =
    record {
      command = latest.command_leaves b;
      bytes = latest.bytes_leave b;
      second = latest.second_leaves b;
      run = latest.run_leaves b;
      run_typed = latest.typed_leaves b;
    }

-- So the parameter in byte 2 of every record, and the value in its last four bytes, say of that command what they should beside the code in byte 1.

pub demand_2_parameter_kit : (b : Bench) → GoodBench b → (kit pupil room : List ℕ) → (run_of b kit pupil room).code ≡ 0
    → (k : ℕ) → k < length (rests kit) → RecordedIn (record_at (room_after b kit pupil room) k) (rest_at kit k)
demand_2_parameter_kit b good kit pupil room accepted k there =
    let state = after b (map bytes (take k (rests kit))) in
    record_recorded (record_at (room_after b kit pupil room) k) (rest_at kit k) 1
    (carry_out_bytes state (rest_at kit k)).told (k + 1)
    (demand_2_kit b good kit pupil room accepted k there)
    (rows.bytes_parameter state (rest_at kit k))

pub demand_2_parameter_pupil : (b : Bench) → GoodBench b → (kit pupil room : List ℕ) → (run_of b kit pupil room).code ≡ 0
    → (k : ℕ) → k < length (rests pupil) → RecordedIn (record_at (room_after b kit pupil room) (length (rests kit) + k)) (rest_at pupil k)
demand_2_parameter_pupil b good kit pupil room accepted k there =
    let state = after b (map bytes (rests kit ++ take k (rests pupil))) in
    record_recorded (record_at (room_after b kit pupil room) (length (rests kit) + k)) (rest_at pupil k) 2
    (carry_out_bytes state (rest_at pupil k)).told (k + 1)
    (demand_2_pupil b good kit pupil room accepted k there)
    (rows.bytes_parameter state (rest_at pupil k))

pub demand_2_parameter_typed_kit : (b : Bench) → GoodBench b → (kit text room : List ℕ) → (typed_of b kit text room).found.told.code ≡ 0
    → (k : ℕ) → k < length (rests kit) → RecordedIn (record_at (typed_room b kit text room) k) (rest_at kit k)
demand_2_parameter_typed_kit b good kit text room accepted k there =
    let state = after b (map bytes (take k (rests kit))) in
    record_recorded (record_at (typed_room b kit text room) k) (rest_at kit k) 1
    (carry_out_bytes state (rest_at kit k)).told (k + 1)
    (demand_2_typed_kit b good kit text room accepted k there)
    (rows.bytes_parameter state (rest_at kit k))

-- A typed command passed rows 1 to 10 as its text was judged: its record has 0, a code from 11 to 19, 25 or 26, and neither parameter nor value.
pub demand_2_typed_codes : (b : Bench) (kit text room : List ℕ) → (typed_of b kit text room).found.told.code ≡ 0
    → (k : ℕ) → k < length (rests (bytes_in text))
    → let bytes = record_at (typed_room b kit text room) (length (rests kit) + k) in
    OfState (byte_at bytes 1) × ((byte_at bytes 2 ≡ 0) × (word_at bytes 8 ≡ 0))
demand_2_typed_codes b kit text room accepted k there =
    reports.typed_codes b kit text room accepted k there

-- So of any decoded command that passes 8 to 10.
pub demand_2_passed_codes : (b : Bench) → bench_sound b ≡ true → (c : Command) → judge_code c ≡ 0
    → OfState (carry_out b c).told.code × ((carry_out b c).told.stray ≡ no_stray)
demand_2_passed_codes b sound c passes = passed_told b c sound passes

-- The bytes shown for a sender and number are the very bytes that the record judged: alone they get the same verdict and leave the same bench.
pub shown_are_judged : (kit pupil : List ℕ) → length kit ≤ 4096 → length pupil ≤ 4096 → (b : Bench) → bench_sound b ≡ true → (sender k : ℕ)
    → carry_out_bytes b (shown_of kit pupil sender (k + 1)) ≡ carry_out_bytes b (rest_at (list_of kit pupil sender) k)
shown_are_judged kit pupil kit_short pupil_short b sound sender k =
    sym (sound_bytes b (shown_of kit pupil sender (k + 1)) sound)
    ∙ shown_judged kit pupil kit_short pupil_short b sender k
    ∙ sound_bytes b (rest_at (list_of kit pupil sender) k) sound

-- "Commands and status frames can be written as well as read, and come back equal."
-- A command that was written is read back from the room, whatever stands behind it. (`Held`, `Bytes`: numbers within their widths, as every
-- program's are.)
pub demand_2_command_back : (c : Command) → Held c → (room : List ℕ) → (writing.wrote_at c room).told.code ≡ 0
    → read_of (writing.room_after c room) ≡ answer_of (Ok c)
unfolding writing.wrote_at
demand_2_command_back c held room done = commands.write_then_read c held room done

-- A command that was read is written as the 4L bytes that it was read from, into any room that has so many, and the rest of the room stays.
pub demand_2_command_again : (s : List ℕ) → Bytes s → (c : Command) → read_of s ≡ answer_of (Ok c)
    → (room : List ℕ) → length_of s * 4 ≤ length room
    → (writing.wrote_at c room ≡ record { told = plain 0; bytes = length_of s * 4 })
    × (writing.room_after c room ≡ take (length_of s * 4) s ++ drop (length_of s * 4) room)
demand_2_command_again s are c read room enough = command_again s are c read room enough

-- The same of frames: written, the first 32 bytes of the room read as the frame; read, it is written as the same 32 bytes.
pub demand_2_frame_back : (f : Frame) (room : List ℕ) → frames.write_code f room ≡ 0 → frames.read_of (take 32 (frames.room_after f room)) ≡ taken_as f
demand_2_frame_back f room done = frame_calls.write_then_read f room done

pub demand_2_frame_again : (s : List ℕ) → Bytes s → (f : Frame) → frames.read_of s ≡ taken_as f → (room : List ℕ) → 32 ≤ length room
    → (frames.write_code f room ≡ 0) × (frames.room_after f room ≡ s ++ drop 32 room)
demand_2_frame_again s are f read room enough = frame_again s are f read room enough

-- The same of housekeeping frames (02, Q-11), whose numbers may have any value; and no other bytes read as these numbers.
pub demand_2_housekeeping_back : (h : Housekeeping) (room : List ℕ) → housekeeping.write_code h room ≡ 0
    → housekeeping.read_of (take 18 (written (housekeeping_frame.frame_bytes h) room)) ≡ housekeeping_answers.taken_as h
demand_2_housekeeping_back h room done = housekeeping_calls.write_then_read h room done

pub demand_2_housekeeping_again : (s : List ℕ) → Bytes s → (h : Housekeeping) → housekeeping.read_of s ≡ housekeeping_answers.taken_as h
    → (room : List ℕ) → 18 ≤ length room
    → (housekeeping.write_code h room ≡ 0) × (written (housekeeping_frame.frame_bytes h) room ≡ s ++ drop 18 room)
demand_2_housekeeping_again s are h read room enough = housekeeping_calls.read_then_write s are h read room enough

pub demand_2_housekeeping_alone : (s : List ℕ) → Bytes s → (h : Housekeeping) → housekeeping.read_of s ≡ housekeeping_answers.taken_as h
    → s ≡ housekeeping_frame.frame_bytes h
demand_2_housekeeping_alone s are h read = no_other s are h read

-- The same of whole lists in text: a raw list that was listed is assembled to the same bytes; a text that was assembled is listed, into a room of twice
-- those bytes, and that text assembles to them again. (`text_in`, `list_in`: what stands at the front of the room afterwards.)
pub demand_2_list_back : (raw room room' : List ℕ) → Bytes raw → (lister.listed_as raw room).found.told.code ≡ 0 → length raw ≤ length room'
    → (typing.assembled_as (text_in raw room) room' ≡ outcome nothing (length raw)) × (typing.room_after (text_in raw room) room' ≡ raw ++ drop (length raw) room')
demand_2_list_back raw room room' are done enough = texts.listed_assembled raw room room' are done enough

pub demand_2_text_back : (text room room₁ room₂ : List ℕ) → (typing.assembled_as text room).found.told.code ≡ 0
    → 2 * length (list_in text room) ≤ length room₁ → length (list_in text room) ≤ length room₂
    → (let raw = list_in text room in
    ((lister.listed_as raw room₁).found ≡ nothing)
    × (typing.assembled_as (text_in raw room₁) room₂ ≡ outcome nothing (length raw))
    × (typing.room_after (text_in raw room₁) room₂ ≡ raw ++ drop (length raw) room₂))
demand_2_text_back text room room₁ room₂ done roomy enough = texts.assembled_again text room room₁ room₂ done roomy enough

-- # Demand 3
--
-- "Start a closed macro on an idle bench in any state reached from a fresh one, however deeply it starts others. Unless a stop command is accepted
-- meanwhile, second k hands over entry k of its written-out list, whichever other commands arrive between the seconds. It is busy until that list has
-- ended, then idle until a macro is started again. The length is between 1 and 600 seconds, and the seconds left in the status frame, taken as
-- second k ends, are that length less k, for k up to it."
-- Since request Q-2 an entry of the written-out list is a group of commands: "demand 3 then reads: second k hands over group k, in order". What a group
-- is, and that the length is the sum of the waits, is said in store, proofs/WrittenOut.

-- What a bench says, and the bytes of the status frame that it shows: macro m runs, or none where m is 255, and n seconds are left.
pub record Says (b : Bench) (m n : ℕ) : Type 0 where
  pub running : b.store.running ≡ m
  pub left : b.store.left ≡ n
  pub status : status_at b ≡ record { code = 0; shown = status_of b ∷ [] }
  pub byte26 : byte_at (frame_bytes (status_of b)) 26 ≡ m
  pub bytes28_29 : half_at (frame_bytes (status_of b)) 28 ≡ n

-- What the next second hands over: these kinds, in order.
pub record Hands (b : Bench) (ks : List Kind) : Type 0 where
  pub code : (second_at b).told.code ≡ 0
  pub handed : (second_at b).handed ≡ ks

-- An idle bench: no macro runs, no second is left, and the next second hands over nothing.
pub record Idle (b : Bench) : Type 0 where
  pub says : Says b 255 0
  pub hands : Hands b []

-- The events between a start and second k, with no STOP accepted among them. Every other command may be there, accepted or refused, and every run.
pub record UpTo (k : ℕ) (start : Bench) (es : List Event) : Type 0 where
  pub seconds : seconds_in es + 1 ≡ k
  pub no_stop : accepts_any is_stop start es ≡ false

-- Group k of a written-out list, counted from 1.
abbrev pub group : List (List Kind) → ℕ → List Kind
group w k = get_or w (k - 1) []

-- What is demanded of a run of macro m, whose written-out list was w as it started.
pub record Demand3 (m : ℕ) (w : List (List Kind)) (start : Bench) : Type 0 where
  -- "Unless a stop command is accepted meanwhile, second k hands over" group k, in order, "of its written-out list, whichever other commands arrive
  -- between the seconds."
  pub hands : (k : ℕ) (es : List Event) → UpTo k start es → k ≤ length w → Hands (after start es) (group w k)
  -- "It is busy until that list has ended,": up to second k it runs, and the seconds from k on are left.
  pub busy : (k : ℕ) (es : List Event) → UpTo k start es → k ≤ length w → Says (after start es) m (length w - (k - 1))
  -- "then idle until a macro is started again.": whatever events follow the last second, STOPs too, as long as no RUN is accepted.
  pub idle : (es : List Event) → UpTo (length w) start es → let last = after start (es ++ (second ∷ [])) in
      (later : List Event) → accepts_any is_run last later ≡ false → Idle (after last later)
  -- "The length is between 1 and 600 seconds,"
  pub least : 1 ≤ length w
  pub most : length w ≤ 600
  -- "and the seconds left in the status frame, taken as second k ends, are that length less k, for k up to it.": m runs, or none once the list has
  -- ended.
  pub ends : (k : ℕ) (es : List Event) → UpTo k start es → k ≤ length w
      → Says (after start (es ++ (second ∷ []))) (cond (ltb k (length w)) m 255) (length w - k)

-- "Start a closed macro on an idle bench in any state reached from a fresh one, however deeply it starts others."
-- The bench is any that is reached, idle, with macro m closed, whatever m's entries start. Then RUN m is accepted, as a decoded command
-- (`run_command m`: flag 0, RUN m) and from any bytes that read as it, and the bench that comes back runs m's written-out list as demanded.
pub record Started (m : ℕ) (w : List (List Kind)) (outcome : Outcome) : Type 0 where
  pub accepted : outcome.told.code ≡ 0
  pub run : Demand3 m w outcome.bench

-- The proof: on a sound bench the frame's bytes are the store's numbers; an idle one hands over nothing; and MacroRun has what each second does.
says : (b : Bench) → GoodBench b → (m n : ℕ) → b.store.running ≡ m → b.store.left ≡ n → Says b m n
says b good m n running left =
    record {
      running = running;
      left = left;
      status = status_answers b good;
      byte26 = running_byte (status_of b) ∙ running;
      bytes28_29 = left_bytes (status_of b) ∙ left;
    }

idles : (b : Bench) → GoodBench b → b.store.running ≡ 255 → Idle b
idles b good free =
    record {
      says = says b good 255 0 free ((good_store b good).marks.idle free);
      hands = record { code = second_answers b good; handed = idle_hands b good free };
    }

runs : (m : ℕ) (w : List (List Kind)) (start : Bench) → GoodBench start → RunOf m w 0 start.store → length w ≤ 600 → Demand3 m w start
runs m w start good going short =
    record {
      least = going.going;
      most = short;
      hands = λ k es up within.
          record {
            code = second_answers (after start es) (after_keeps start good es);
            handed = now_hands m w start good going es k up.seconds up.no_stop within;
          };
      busy = λ k es up within.
          let now = now_runs m w start good going es k up.seconds up.no_stop within in
          says (after start es) (after_keeps start good es) m (length w - (k - 1)) now.running now.left;
      ends = λ k es up within.
          let next = next_says m w start good going es k up.seconds up.no_stop within in
          let later = es ++ (second ∷ []) in
          says (after start later) (after_keeps start good later) (cond (ltb k (length w)) m 255) (length w - k) next.0 next.1;
      idle = λ es up later none.
          let last = after start (es ++ (second ∷ [])) in
          let sound = after_keeps start good (es ++ (second ∷ [])) in
          let free = next_idle m w start good going es (length w) up.seconds up.no_stop (omega arith) refl in
          idles (after last later) (after_keeps last sound later) (stays_idle last sound free later none);
    }

started : (b : Bench) → Reached b → b.store.running ≡ 255 → (m : ℕ) → is_closed b.store m ≡ true
    → Started m (written_out b.store m) (record { told = plain 0; bench = effect_of b (run_command m) })
started b r free m closed =
    let good = reached_sound b r in
    let lasts = closed_lasts b.store (good_store b good) m closed in
    let start = effect_of b (run_command m) in
    let going = run_begins b good free m closed in
    record { accepted = refl; run = runs m (written_out b.store m) start (begun_sound b good free m closed) going lasts.most }

-- The claims.
pub demand_3_command : (b : Bench) → Reached b → b.store.running ≡ 255 → (m : ℕ) → is_closed b.store m ≡ true
    → Started m (written_out b.store m) (carry_out b (run_command m))
demand_3_command b r free m closed = rw (run_accepted b (reached_sound b r) free m closed) (started b r free m closed)

pub demand_3_bytes : (b : Bench) → Reached b → b.store.running ≡ 255 → (m : ℕ) → is_closed b.store m ≡ true
    → (s : List ℕ) → read_of s ≡ answer_of (Ok (run_command m)) → Started m (written_out b.store m) (carry_out_bytes b s)
demand_3_bytes b r free m closed s read = rw (run_accepted_bytes b (reached_sound b r) free m closed s read) (started b r free m closed)

-- A RUN m that stands in a list of a run, raw or typed, behind the commands `before` and in front of `behind`, starts m just so: what is demanded
-- holds from the run's end on, if no STOP is accepted behind it in the run itself.
pub demand_3_run : (b : Bench) → Reached b → (kit pupil room : List ℕ) → (run_of b kit pupil room).code ≡ 0
    → (before : List (List ℕ)) (s : List ℕ) (behind : List (List ℕ)) → rests kit ++ rests pupil ≡ before ++ (s ∷ behind)
    → let there = left_by b before in there.store.running ≡ 255 → (m : ℕ) → is_closed there.store m ≡ true
    → read_of s ≡ answer_of (Ok (run_command m)) → takes_any is_stop (taken there s).bench behind ≡ false
    → Demand3 m (written_out there.store m) (run_of b kit pupil room).bench
demand_3_run b r kit pupil room carried before s behind stands free m closed read none =
    let good = reached_sound b r in
    let there = left_by b before in
    let lasts = closed_lasts there.store (good_store there (left_good b good before)) m closed in
    let left = (run_of b kit pupil room).bench in
    let all = rests kit ++ rests pupil in
    let going = run_begins_within b good before s behind free m closed read none all stands left _ (run_left b kit pupil room carried) in
    runs m (written_out there.store m) left (event_keeps b good (run kit pupil room)) going lasts.most

pub demand_3_typed : (b : Bench) → Reached b → (kit text room : List ℕ) → (typed_of b kit text room).found.told.code ≡ 0
    → (before : List (List ℕ)) (s : List ℕ) (behind : List (List ℕ)) → rests kit ++ rests (bytes_in text) ≡ before ++ (s ∷ behind)
    → let there = left_by b before in there.store.running ≡ 255 → (m : ℕ) → is_closed there.store m ≡ true
    → read_of s ≡ answer_of (Ok (run_command m)) → takes_any is_stop (taken there s).bench behind ≡ false
    → Demand3 m (written_out there.store m) (typed_of b kit text room).bench
demand_3_typed b r kit text room carried before s behind stands free m closed read none =
    let good = reached_sound b r in
    let there = left_by b before in
    let lasts = closed_lasts there.store (good_store there (left_good b good before)) m closed in
    let left = (typed_of b kit text room).bench in
    let all = rests kit ++ rests (bytes_in text) in
    let going = run_begins_within b good before s behind free m closed read none all stands left _ (typed_left b kit text room carried) in
    runs m (written_out there.store m) left (event_keeps b good (typed kit text room)) going lasts.most

-- "demand 3 still speaks of what is handed over" (02, Q-3): what is said above of kinds is so whatever their codes are. In every second each entry has
-- one code, and `Entry` (Dark) says what it does: the entry at place i, counted from 0, is answered and takes effect as the same command is and does
-- when it is executed on the bench that the entries before it left (`found_by`); with code 26 it leaves that bench as it was, and 26 is shown exactly
-- when the power is off at that moment and it is an IMAGE or TRACK with a time above 0.
pub demand_3_codes : (b : Bench) → GoodBench b → length (second_at b).codes ≡ length (second_at b).handed
demand_3_codes b good = dark.codes_even b good

pub demand_3_entry : (b : Bench) → GoodBench b → (i : ℕ) → i < length (second_at b).handed → (none : Kind)
    → dark.Entry b i (get_or (second_at b).handed i none) (get_or (second_at b).codes i 0)
demand_3_entry b good i there none = dark.entry b good i there none

pub demand_3_last_entry : (b : Bench) → GoodBench b → dark.found_by b (length (second_at b).handed) ≡ (second_at b).bench
demand_3_last_entry b good = dark.found_last b good

-- And of any idle bench that is sound: it stays idle until a RUN is accepted, whatever else happens.
pub demand_3_idle : (b : Bench) → GoodBench b → b.store.running ≡ 255 → (es : List Event) → accepts_any is_run b es ≡ false → Idle (after b es)
demand_3_idle b good free es none = idles (after b es) (after_keeps b good es) (stays_idle b good free es none)

-- # What the demands speak of: reached states, and runs

-- "A state reached from a fresh one is always sound.": a fresh bench is, each event (a command, decoded or from bytes, a second, a run, raw or typed)
-- keeps it, and so every reached bench is. (`GoodBench b`: the test of 27 passes, and the arrays of the store have their lengths, as every
-- program's have.)
pub fresh_is_sound : GoodBench fresh_bench
fresh_is_sound = fresh_sound

pub events_keep_soundness : (b : Bench) → GoodBench b → (e : Event) → GoodBench (after_one b e)
events_keep_soundness b good e = event_keeps b good e

pub reached_is_sound : (b : Bench) → Reached b → GoodBench b
reached_is_sound b r = reached_sound b r

-- On a sound bench no call answers 27, the status is a frame that the writer takes and the reader gives back, and the housekeeping frame's bytes are the
-- numbers of the latest run and the free entries (`Sends`, LastNumbers).
pub record Answers (b : Bench) : Type 0 where
  pub command : (c : Command) → (carry_out b c).told.code ≢ 27
  pub bytes : (s : List ℕ) → (carry_out_bytes b s).told.code ≢ 27
  pub second : (second_at b).told.code ≡ 0
  pub run : (kit pupil room : List ℕ) → (run_of b kit pupil room).code ≢ 27
  pub run_typed : (kit text room : List ℕ) → (typed_of b kit text room).found.told.code ≢ 27
  pub status : status_at b ≡ record { code = 0; shown = status_of b ∷ [] }
  pub free : free_at b ≡ record { code = 0; free = free_in b.store }
  pub housekeeping : Sends b
  pub status_written : (room : List ℕ) → 32 ≤ length room
      → (frames.write_code (status_of b) room ≡ 0) × (frames.room_after (status_of b) room ≡ frame_bytes (status_of b) ++ drop 32 room)
  pub status_read : frames.read_of (frame_bytes (status_of b)) ≡ taken_as (status_of b)

pub sound_answers : (b : Bench) → GoodBench b → Answers b
sound_answers b good =
    record {
      command = λ c e. omega (arith, rows.command_most b good.sound c);
      bytes = λ s e. omega (arith, rows.bytes_most b good.sound s);
      second = second_answers b good;
      run = rows.run_not_27 b good.sound;
      run_typed = rows.typed_not_27 b good.sound;
      status = status_answers b good;
      free = free_answers b good;
      housekeeping = latest.sends b good;
      status_written = status_written b good;
      status_read = read_written (status_of b) (status_rules b good);
    }

-- A run is an event of its own, and no more than its commands, one after another, each an event from bytes (none where the run is refused): it leaves
-- what they leave, but for the numbers of the latest run, and a RUN or a STOP is accepted in it exactly when it is accepted among them.
pub run_is_its_commands : (b : Bench) → GoodBench b → (kit pupil room : List ℕ)
    → (let left = (run_of b kit pupil room).bench in left ≡ noting (after b (events_of b kit pupil room)) left.latest)
    × ((test : Role → Bool) → accepts test b (run kit pupil room) ≡ accepts_any test b (events_of b kit pupil room))
run_is_its_commands b good kit pupil room = (run_leaves b good kit pupil room, run-accepts b good kit pupil room)

pub typed_is_its_commands : (b : Bench) → GoodBench b → (kit text room : List ℕ)
    → (let left = (typed_of b kit text room).bench in left ≡ noting (after b (reports.typed_events b kit text room)) left.latest)
    × ((test : Role → Bool) → accepts test b (typed kit text room) ≡ accepts_any test b (reports.typed_events b kit text room))
typed_is_its_commands b good kit text room = (reports.typed_leaves b good kit text room, reports.typed-accepts b good kit text room)

-- What it leaves is reached where it began in a reached state.
pub run_stays_reached : (b : Bench) → Reached b → (kit pupil room : List ℕ) → Reached (run_of b kit pupil room).bench
run_stays_reached b r kit pupil room = run_reaches b r kit pupil room

pub typed_stays_reached : (b : Bench) → Reached b → (kit text room : List ℕ) → Reached (typed_of b kit text room).bench
typed_stays_reached b r kit text room = reports.typed_reaches b r kit text room
