-- What the list program prints, of the meanings: a refusal exactly where the pupil's list is too long, and else for each record of each sender the
-- line of that sender, of the record's own number and of the verdict on that command; and 01's transcript, whole, as 02's Q-6 has it.
use Prim.Native.Nat.{ℕ, ◌+◌, ◌*◌, ◌≤◌, ◌<◌}
use mathlib.Core.Path.{◌≡◌, refl, sym, ap, ◌∙◌}
use mathlib.Core.List.{List, [], ◌∷◌, ◌++◌}
use mathlib.Core.Bool.{Bool, true, false, cond}
use native.Mathlib.Omega.{arith}
use lib.ListN.{length, take, drop, length-drop, replicate, length-replicate}
use lib.Seq.{take_at, take-append-le, drop-append-le, drop-append-add}
use lib.Dec.{ltb}
use borrow.Author.Tests.{lt-ltb}
use Rattle.std.specs.Prelude.{Result, Ok, Err}
use Rattle.words.specs.BigEndian.{bytes_of}
use Rattle.words.specs.Codes.{answer_code}
use Rattle.words.specs.Text.{ascii, decimal_in}
use Rattle.words.proofs.Laws.{with_room}
use Rattle.wire.specs.Read.{sum_of, read_of, span_of}
use Rattle.wire.specs.Judge.{judge_code}
use Rattle.wire.specs.Write.{command_bytes}
use Rattle.walk.specs.Walk.{rests}
use Rattle.report.specs.Record.{record_length, report_room}
use Rattle.bench.specs.declared.Bench.{Bench}
use Rattle.bench.specs.declared.lists.Ran.{Ran}
use Rattle.bench.specs.declared.lists.RunRefusal.{RunRefusal}
use Rattle.bench.specs.Carry.{taken}
use Rattle.bench.specs.Run.{ran_of, begun_code, begun_some, run_of, run_rests, kit_part, pupil_part, report_of, room_after}
use Rattle.bench.specs.Status.{fresh_bench}
use Rattle.bench.proofs.Sound.{fresh_sound}
use Rattle.bench.proofs.Report.{verdict_at}
use Rattle.bench.proofs.Report as report
use Rattle.listing.specs.Kit.{kit_bytes}
use Rattle.listing.specs.Text.{line_of, line_at, lines_to, report_text}
use Rattle.listing.specs.Refusal.{refusal_line}
use Rattle.listing.proofs.RecordLine.{line_for, record_line}
use Rattle.list.specs.Printed.{refusal, printed}

-- On a fresh bench, with the kit's list and the room that a report needs, a run is refused, with 20, exactly where the pupil's list is above 4,096
-- bytes.
pub refused_20 : (pupil room : List ℕ) → length room ≡ report_room → (run_of fresh_bench kit_bytes pupil room).code ≡ cond (ltb 4096 (length pupil)) 20 0
unfolding run_of kit_bytes command_bytes bytes_of sum_of
refused_20 pupil room long = rw (long, fresh_sound.sound)

-- So what is printed is a refusal's line or the report's text, by the code of that run.
module _ (b : Bench) (kit pupil room : List ℕ) (fresh : b ≡ fresh_bench) (own : kit ≡ kit_bytes) (long : length room ≡ report_room) where
  code : (run_of b kit pupil room).code ≡ cond (ltb 4096 (length pupil)) 20 0
  code =
      ap (λ c. (run_of c kit pupil room).code) fresh
      ∙ ap (λ k. (run_of fresh_bench k pupil room).code) own
      ∙ refused_20 pupil room long

  text : report_text (report_of b kit pupil) ≡ report_text (report_of fresh_bench kit_bytes pupil)
  text = ap (λ c. report_text (report_of c kit pupil)) fresh ∙ ap (λ k. report_text (report_of fresh_bench k pupil)) own

  pub prints_refusal : ((run_of b kit pupil room).code ≡ 0 → ⊥) → refusal (run_of b kit pupil room).code ≡ printed pupil
  unfolding printed
  prints_refusal refused = go (ltb 4096 (length pupil)) code
    where
      go : (above : Bool) → (run_of b kit pupil room).code ≡ cond above 20 0
          → refusal (run_of b kit pupil room).code ≡ cond above (refusal 20) (report_text (report_of fresh_bench kit_bytes pupil))
      go true is = ap refusal is
      go false is = absurd (refused is)

  pub prints_report : (run_of b kit pupil room).code ≡ 0 → report_text (report_of b kit pupil) ≡ printed pupil
  unfolding printed
  prints_report accepted = go (ltb 4096 (length pupil)) code
    where
      go : (above : Bool) → (run_of b kit pupil room).code ≡ cond above 20 0
          → report_text (report_of b kit pupil) ≡ cond above (refusal 20) (report_text (report_of fresh_bench kit_bytes pupil))
      go true is = absurd (omega (arith, is, accepted))
      go false is = text

-- The room that the program lends for the records.
abbrev pub records_room : List ℕ
records_room = replicate report_room 0

pub records_room_long : length records_room ≡ report_room
records_room_long = length-replicate {A = ℕ} report_room 0

-- The code that is told of an answer is the one that it has.
pub coded : (b : Bench) (answer : Result Ran RunRefusal) → answer_code begun_code answer ≡ (ran_of b answer).code
coded b (Ok r) = refl
coded b (Err refusal) = refl

-- No refusal has code 0.
pub refused_some : (b : Bench) (kit pupil room : List ℕ) (refusal : RunRefusal) → ran_of b (Err refusal) ≡ run_of b kit pupil room
    → (run_of b kit pupil room).code ≡ 0 → ⊥
refused_some b kit pupil room refusal told none = omega (arith, begun_some refusal, ap (λ t. t.code) told, none)

-- The records of a run that was carried out are as many bytes at the front of its room as its two counts say.
module _ (b : Bench) (kit pupil room : List ℕ) (r : Ran) (told : ran_of b (Ok r) ≡ run_of b kit pupil room) where
  pub accepted : (run_of b kit pupil room).code ≡ 0
  accepted = sym (ap (λ t. t.code) told)

  pub records_long : length (report_of b kit pupil) ≡ (r.kit + r.pupil) * record_length
  records_long =
      omega (
        arith,
        report.report_long b kit pupil,
        ap (λ t. t.kit) told ∙ report.kit_count b kit pupil room accepted,
        ap (λ t. t.pupil) told ∙ report.pupil_count b kit pupil room accepted,
      )

  pub records_fit : length (report_of b kit pupil) ≤ report_room
  records_fit =
      let passed = report.passed b kit pupil room accepted in
      report.report_fits b kit pupil passed.kit_short passed.pupil_short

  pub records_front : (left : List ℕ) → left ≡ room_after b kit pupil room → take ((r.kit + r.pupil) * record_length) left ≡ report_of b kit pupil
  unfolding room_after run_of
  records_front left is =
      let enough = (report.passed b kit pupil room accepted).enough in
      let stays = drop (length (report_of b kit pupil)) room in
      ap (take ((r.kit + r.pupil) * record_length)) is
      ∙ rw (accepted, with_room (report_of b kit pupil) room (omega (arith, enough, records_fit)))
      (take_at (report_of b kit pupil) stays ((r.kit + r.pupil) * record_length) records_long)

-- So the lines under the header are the kit's and then the pupil's, each with its own sender's numbers from 1 on and the verdict on that command.
module _ (b : Bench) (kit pupil : List ℕ) where
  abbrev first : List ℕ
  first = (kit_part b kit).records

  abbrev second : List ℕ
  second = (pupil_part b kit pupil).records

  pub kit_line : (k : ℕ) → k < length (rests kit) → line_at (report_of b kit pupil) k ≡ line_for 1 (k + 1) (verdict_at b kit k)
  kit_line k there =
      let fits : record_length * k + record_length ≤ length first = omega (arith, report.list_long b 1 kit) in
      let front = ap (take record_length) (drop-append-le (record_length * k) first second (omega arith)) in
      let whole = take-append-le record_length (drop (record_length * k) first) second (omega (arith, length-drop (record_length * k) first)) in
      record_line (report_of b kit pupil) k 1 (k + 1) (verdict_at b kit k) (front ∙ whole ∙ report.list_record b 1 kit k there)

  pub pupil_line : (k : ℕ) → k < length (rests pupil)
      → line_at (report_of b kit pupil) (length (rests kit) + k) ≡ line_for 2 (k + 1) (verdict_at (kit_part b kit).bench pupil k)
  pupil_line k there =
      let place : record_length * (length (rests kit) + k) ≡ length first + record_length * k = omega (arith, report.list_long b 1 kit) in
      let behind = ap (λ n. take record_length (drop n (first ++ second))) place ∙ ap (take record_length) (drop-append-add first second (record_length * k)) in
      record_line (report_of b kit pupil) (length (rests kit) + k) 2 (k + 1) (verdict_at (kit_part b kit).bench pupil k)
      (behind ∙ report.list_record (kit_part b kit).bench 2 pupil k there)

-- 01's transcript with the fifth column of 02's Q-6: what is printed for its example, whole.
abbrev example : List ℕ
example = bytes_of (0x01170003 ∷ 0x02000100 ∷ 0x03170103 ∷ 0x01500003 ∷ 0x00050000 ∷ 0x01550003 ∷ 0x015a0002 ∷ [])

pub transcript : printed example ≡ ascii "from no code par val\nkit 1 0 0 0\nkit 2 0 0 0\nkit 3 0 0 0\nkit 4 0 0 0\npupil 1 0 0 0\npupil 2 8 2 0\npupil 3 1 0 0\n"
unfolding printed kit_bytes command_bytes bytes_of sum_of read_of judge_code rests span_of run_rests taken report_text lines_to line_of decimal_in
transcript = refl

-- "Input above 4,096 bytes prints only `refused 20`."
pub too_long : (pupil : List ℕ) → 4096 < length pupil → printed pupil ≡ ascii "refused 20\n"
unfolding printed refusal_line decimal_in
too_long pupil above = simp (lt-ltb _ _ above)
