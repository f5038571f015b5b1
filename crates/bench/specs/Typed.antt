-- 02, Q-1: the run of the kit's raw list and then of a list that the pupil typed. It is the run of two lists but for the numbers of the pupil's
-- records, which are the text's own, and for what is found wrong with a text.
use Rattle.std.specs.Prelude.{ℕ, List, [], ◌∷◌, cond, ◌||◌, length, ltb, eqb, Result, Ok, Err}
use Rattle.words.specs.BigEndian.{written}
use Rattle.words.specs.Codes.{◌when◌}
use Rattle.wire.specs.Judge.{plain}
use Rattle.walk.specs.Walk.{rests}
use Rattle.report.specs.Record.{report_room}
use Rattle.text.specs.declared.findings.Finding.{Finding}
use Rattle.text.specs.declared.findings.Refusal.{Refusal as TextRefusal}
use Rattle.text.specs.Findings.{finding, nothing, whole, first_found, told_fault}
use Rattle.text.specs.Assemble.{line_numbers, bytes_in, bad_line}
use Rattle.bench.specs.declared.Bench.{Bench}
use Rattle.bench.specs.declared.lists.Ran.{Ran}
use Rattle.bench.specs.declared.lists.RunRefusal.{RunRefusal}
use Rattle.bench.specs.declared.lists.typed.TypedRefusal.{TypedRefusal}
use Rattle.bench.specs.Status.{sound_check}
use Rattle.bench.specs.Run.{Listed, run_list, ended_with, report_with}

-- "20 first, for text above 32,768 bytes or a raw list above 4,096", the first bad line, 20 where the typed list would be above 4,096 bytes, then
-- 01's 21 and 27.
abbrev pub typed_findings : Bench → List ℕ → List ℕ → List ℕ → List Finding
typed_findings b kit text room =
    whole (20 when (ltb 32768 (length text) || ltb 4096 (length kit)))
    ∷ bad_line text
    ∷ whole (20 when ltb 4096 (length (bytes_in text)))
    ∷ whole (21 when ltb (length room) report_room)
    ∷ whole (sound_check b)
    ∷ []

unfoldable pub typed_found : Bench → List ℕ → List ℕ → List ℕ → Finding
typed_found b kit text room = first_found (typed_findings b kit text room)

-- "A typed list's records carry the text's line number.": a typed list from its start,
abbrev pub typed_list : Bench → List ℕ → Listed
typed_list b text = run_list b 2 (line_numbers text) (bytes_in text)

-- behind the kit's list: the bench as that run ends, and the records of both.
abbrev pub typed_end : Bench → List ℕ → List ℕ → Bench
typed_end b kit text = ended_with b kit (line_numbers text) (bytes_in text)

abbrev pub typed_report : Bench → List ℕ → List ℕ → List ℕ
typed_report b kit text = report_with b kit (line_numbers text) (bytes_in text)

-- The refusal of a typed run, from that of its text and from that of a run.
abbrev pub of_text : TextRefusal → TypedRefusal
of_text TextRefusal.TooLong = TypedRefusal.TooLong
of_text (TextRefusal.BadLine number fault) = TypedRefusal.BadLine number fault

abbrev pub of_run : RunRefusal → TypedRefusal
of_run RunRefusal.ListTooLong = TypedRefusal.TooLong
of_run RunRefusal.RoomTooSmall = TypedRefusal.RoomTooSmall
of_run RunRefusal.Unsound = TypedRefusal.Unsound

-- What is told of each refusal, and its line; and of an answer.
abbrev pub begun_finding : TypedRefusal → Finding
begun_finding TypedRefusal.TooLong = finding (plain 20) 0
begun_finding (TypedRefusal.BadLine number fault) = finding (told_fault fault) number
begun_finding TypedRefusal.RoomTooSmall = finding (plain 21) 0
begun_finding TypedRefusal.Unsound = finding (plain 27) 0

abbrev pub ran_finding : Result Ran TypedRefusal → Finding
ran_finding (Ok r) = nothing
ran_finding (Err refusal) = begun_finding refusal

-- What such a run answers: what was found, the bench afterwards, and the number of records for each sender; on a refusal the bench that was handed in,
-- and counts of zero.
pub record TypedTold : Type 0 where
  pub found : Finding
  pub bench : Bench
  pub kit : ℕ
  pub pupil : ℕ

abbrev pub typed_ran_of : Bench → Result Ran TypedRefusal → TypedTold
typed_ran_of b (Ok r) = record { found = nothing; bench = r.bench; kit = r.kit; pupil = r.pupil }
typed_ran_of b (Err refusal) = record { found = begun_finding refusal; bench = b; kit = 0; pupil = 0 }

abbrev pub typed_for : Finding → Bench → List ℕ → List ℕ → TypedTold
typed_for found b kit text =
    record {
      found = found;
      bench = cond (eqb found.told.code 0) (typed_end b kit text) b;
      kit = cond (eqb found.told.code 0) (length (rests kit)) 0;
      pupil = cond (eqb found.told.code 0) (length (rests (bytes_in text))) 0;
    }

unfoldable pub typed_of : Bench → List ℕ → List ℕ → List ℕ → TypedTold
unfolding typed_found
typed_of b kit text room = typed_for (typed_found b kit text room) b kit text

-- The room afterwards, as after a run of two raw lists.
unfoldable pub typed_room : Bench → List ℕ → List ℕ → List ℕ → List ℕ
unfolding typed_found
typed_room b kit text room = cond (eqb (typed_found b kit text room).told.code 0) (written (typed_report b kit text) room) room
