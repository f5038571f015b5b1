-- 02, Q-1, for a moderator to read: what the run of a typed list leaves. It is the run of the list that the text says, but for the numbers of the
-- pupil's records: record k + 1 of the pupil carries the number of the line that says command k + 1. Places k count from 0.
use Prim.Native.Nat.{ℕ, zero, suc, ◌+◌, ◌*◌, ◌≤◌, ◌<◌}
use mathlib.Core.Path.{◌≡◌, refl, sym, ap, ◌∙◌}
use mathlib.Core.Logic.{◌≢◌}
use mathlib.Core.List.{List, [], ◌∷◌, ◌++◌}
use mathlib.Core.Bool.{Bool, true, cond, not, ◌||◌}
use native.Mathlib.Omega.{arith}
use lib.ListN.{length, get_or, take, drop}
use lib.Dec.{eqb, ltb}
use borrow.Author.Tests.{ltb-false, le-ltb, ne_eqb, not-false}
use Rattle.words.specs.BigEndian.{byte_at, word_at, written}
use Rattle.words.specs.Codes.{first_of}
use Rattle.words.proofs.Tests.{neither}
use Rattle.wire.specs.declared.judging.Stray.{Stray}
use Rattle.wire.specs.declared.judging.Told.{Told}
use Rattle.wire.specs.Judge.{no_stray, told_for}
use Rattle.wire.specs.Read.{said_parts, said, read_code}
use Rattle.wire.proofs.Parameters.{Parameter}
use Rattle.report.specs.Record.{record_length, report_room}
use Rattle.walk.specs.Walk.{rests}
use Rattle.text.specs.Assemble.{line_numbers, bytes_in, bad_line}
use Rattle.text.proofs.Found.{found_silent, whole_silent}
use Rattle.text.proofs.Parameters.{parts_of_line, whole_told, first_told, bad_line_parameter}
use Rattle.text.proofs.Assembled.{AllRead, assembled_passes}
use Rattle.store.specs.declared.roles.Role.{Role}
use Rattle.bench.specs.declared.Bench.{Bench}
use Rattle.bench.specs.Status.{fresh_bench, bench_sound}
use Rattle.bench.specs.Carry.{bytes_checks, taken}
use Rattle.bench.specs.Events.{Event, typed, after, Reached, accepts, accepts_any}
use Rattle.bench.specs.Run.{record_of, kit_part, noting, run_of, room_after}
use Rattle.bench.specs.Typed.{typed_findings, typed_found, typed_end, typed_report, typed_of, typed_room}
use Rattle.bench.proofs.Outcomes.{behind_code, behind_told, OfState, behind_state, read_then}
use Rattle.bench.proofs.InTurn.{typed_even, run_left, typed_left}
use Rattle.bench.proofs.Sound.{GoodBench}
use Rattle.bench.proofs.MacroRun.{after-append}
use Rattle.bench.proofs.Report.{rest_at, bench_at, verdict_at, record_at, record_carries, both_fit, kit_placed, pupil_placed, rest_placed, commands_of}
use Rattle.bench.proofs.Report.{lists_leave, lists_accept}
use Rattle.bench.proofs.Report as raw

-- What a typed run with code 0 has passed.
pub record Passed (b : Bench) (kit text room : List ℕ) : Type 0 where
  pub text_short : length text ≤ 32768
  pub kit_short : length kit ≤ 4096
  pub good : (bad_line text).told.code ≡ 0
  pub list_short : length (bytes_in text) ≤ 4096
  pub enough : report_room ≤ length room
  pub sound : bench_sound b ≡ true

pub passed : (b : Bench) (kit text room : List ℕ) → (typed_of b kit text room).found.told.code ≡ 0 → Passed b kit text room
unfolding typed_of typed_found
passed b kit text room accepted =
    let silent = found_silent (typed_findings b kit text room) accepted in
    let due = ltb 32768 (length text) || ltb 4096 (length kit) in
    let short = neither (ltb 32768 (length text)) (ltb 4096 (length kit)) (whole_silent 20 due (λ e. omega arith) silent.0) in
    record {
      text_short = ltb-false 32768 (length text) short.0;
      kit_short = ltb-false 4096 (length kit) short.1;
      good = silent.1.0;
      list_short = ltb-false 4096 (length (bytes_in text)) (whole_silent 20 (ltb 4096 (length (bytes_in text))) (λ e. omega arith) silent.1.1.0);
      enough = ltb-false (length room) report_room (whole_silent 21 (ltb (length room) report_room) (λ e. omega arith) silent.1.1.1.0);
      sound = not-false (bench_sound b) (whole_silent 27 _ (λ e. omega arith) silent.1.1.1.1.0);
    }

-- What a typed run tells of a number is told of the line that it names, on the numbers as they were typed there.
pub typed_parameter : (b : Bench) (kit text room : List ℕ)
    → let found = (typed_of b kit text room).found in
    Parameter (parts_of_line text found.number) found.told
unfolding typed_of typed_found
typed_parameter b kit text room =
    let at = parts_of_line text in
    let long = whole_told at 20 (ltb 32768 (length text) || ltb 4096 (length kit)) refl in
    let list_long = whole_told at 20 (ltb 4096 (length (bytes_in text))) refl in
    let no_room = whole_told at 21 (ltb (length room) report_room) refl in
    let unsound = whole_told at 27 (not (bench_sound b)) refl in
    first_told at (typed_findings b kit text room) (long, (bad_line_parameter text, (list_long, (no_room, (unsound, tt)))))

-- Nothing is found of the run of the list that the text says, either.
raw_passes : (b : Bench) (kit text room : List ℕ) → Passed b kit text room → (run_of b kit (bytes_in text) room).code ≡ 0
unfolding run_of
raw_passes b kit text room p =
    rw (
      le-ltb 4096 (length kit) p.kit_short,
      le-ltb 4096 (length (bytes_in text)) p.list_short,
      le-ltb (length room) report_room p.enough,
      p.sound,
    )

-- A run that is carried out.
module _ (b : Bench) (kit text room : List ℕ) (accepted : (typed_of b kit text room).found.told.code ≡ 0) where
  pub kit_count : (typed_of b kit text room).kit ≡ length (rests kit)
  unfolding typed_of
  kit_count = rw accepted

  pub pupil_count : (typed_of b kit text room).pupil ≡ length (rests (bytes_in text))
  unfolding typed_of
  pupil_count = rw accepted

  pub bench_after : (typed_of b kit text room).bench ≡ typed_end b kit text
  unfolding typed_of
  bench_after = rw accepted

  pub room_is : typed_room b kit text room ≡ written (typed_report b kit text) room
  unfolding typed_room typed_of
  room_is = rw accepted

  pub fits : length (typed_report b kit text) ≤ length room
  fits =
      let p = passed b kit text room accepted in
      omega (arith, p, both_fit b kit (line_numbers text) (bytes_in text) (typed_even text) p.kit_short p.list_short)

  -- The kit's record number k + 1 stands at place k of the room, with its number in the kit's own list.
  pub kit_record : (k : ℕ) → k < length (rests kit) → record_at (typed_room b kit text room) k ≡ record_of 1 (verdict_at b kit k) (k + 1)
  kit_record k there =
      ap (λ l. record_at l k) room_is ∙ kit_placed b kit (line_numbers text) (bytes_in text) (typed_even text) room fits k there

  -- The pupil's stands k places behind the kit's records, with the number of its line, whatever the kit's list holds.
  pub pupil_record : (k : ℕ) → k < length (rests (bytes_in text))
      → record_at (typed_room b kit text room) (length (rests kit) + k)
      ≡ record_of 2 (verdict_at (kit_part b kit).bench (bytes_in text) k) (get_or (line_numbers text) k 0)
  pupil_record k there =
      ap (λ l. record_at l (length (rests kit) + k)) room_is
      ∙ pupil_placed b kit (line_numbers text) (bytes_in text) (typed_even text) room fits k there

  -- "Bytes after the last record stay."
  pub rest_stays : let end = record_length * (length (rests kit) + length (rests (bytes_in text))) in drop end (typed_room b kit text room) ≡ drop end room
  rest_stays =
      ap (drop (record_length * (length (rests kit) + length (rests (bytes_in text))))) room_is
      ∙ rest_placed b kit (line_numbers text) (bytes_in text) (typed_even text) room fits

-- The run of the list that a text says, beside the run of the text.
pub record SameRun (b : Bench) (kit text room : List ℕ) : Type 0 where
  pub code : (run_of b kit (bytes_in text) room).code ≡ 0
  -- The bench is the same but for the numbers of the latest run, which are lines here and places in the list there.
  pub bench : let left = (typed_of b kit text room).bench in left ≡ noting (run_of b kit (bytes_in text) room).bench left.latest
  pub kit_count : (typed_of b kit text room).kit ≡ (run_of b kit (bytes_in text) room).kit
  pub pupil_count : (typed_of b kit text room).pupil ≡ (run_of b kit (bytes_in text) room).pupil
  -- The kit's records are the same, byte for byte,
  pub kit_records : (k : ℕ) → k < length (rests kit)
      → record_at (typed_room b kit text room) k ≡ record_at (room_after b kit (bytes_in text) room) k
  -- and so are sender, code, parameter, spare byte and value of the pupil's;
  pub pupil_verdicts : (k : ℕ) → k < length (rests (bytes_in text)) → let at = length (rests kit) + k in
      (take 4 (record_at (typed_room b kit text room) at) ≡ take 4 (record_at (room_after b kit (bytes_in text) room) at))
      × (drop 8 (record_at (typed_room b kit text room) at) ≡ drop 8 (record_at (room_after b kit (bytes_in text) room) at))
  -- the number is that of the line.
  pub pupil_numbers : (k : ℕ) → k < length (rests (bytes_in text))
      → word_at (record_at (typed_room b kit text room) (length (rests kit) + k)) 4 ≡ get_or (line_numbers text) k 0
  pub rest : let end = record_length * (length (rests kit) + length (rests (bytes_in text))) in
      drop end (typed_room b kit text room) ≡ drop end (room_after b kit (bytes_in text) room)

number_back : (sender : ℕ) (told : Told) (number : ℕ) → word_at (record_of sender told number) 4 ≡ number
number_back sender told number = omega arith

pub same_run : (b : Bench) (kit text room : List ℕ) → (typed_of b kit text room).found.told.code ≡ 0 → SameRun b kit text room
same_run b kit text room accepted =
    let pupil = bytes_in text in
    let code = raw_passes b kit text room (passed b kit text room accepted) in
    record {
      code = code;
      bench = bench_is b kit text room accepted code;
      kit_count = kit_count b kit text room accepted ∙ sym (raw.kit_count b kit pupil room code);
      pupil_count = pupil_count b kit text room accepted ∙ sym (raw.pupil_count b kit pupil room code);
      kit_records = λ k there. kit_record b kit text room accepted k there ∙ sym (raw.kit_record b kit pupil room code k there);
      pupil_verdicts = λ k there. (
        ap (take 4) (pupil_record b kit text room accepted k there) ∙ sym (ap (take 4) (raw.pupil_record b kit pupil room code k there)),
        ap (drop 8) (pupil_record b kit text room accepted k there) ∙ sym (ap (drop 8) (raw.pupil_record b kit pupil room code k there)),
      );
      pupil_numbers = λ k there.
          ap (λ l. word_at l 4) (pupil_record b kit text room accepted k there)
          ∙ number_back 2 (verdict_at (kit_part b kit).bench pupil k) (get_or (line_numbers text) k 0);
      rest = rest_stays b kit text room accepted ∙ sym (raw.rest_stays b kit pupil room code);
    }
  where
    bench_is : (b : Bench) (kit text room : List ℕ) → (typed_of b kit text room).found.told.code ≡ 0 → (run_of b kit (bytes_in text) room).code ≡ 0
        → let left = (typed_of b kit text room).bench in left ≡ noting (run_of b kit (bytes_in text) room).bench left.latest
    bench_is b kit text room accepted code =
        let here : Bench → Bench = λ c. noting c (typed_of b kit text room).bench.latest in
        ap here (typed_left b kit text room accepted) ∙ sym (ap here (run_left b kit (bytes_in text) room code))

-- Rows 1 to 10 passed when the text was judged: a typed command gets 0 or a code that asks for the state, and nothing is told of a number.
read_told : (b : Bench) (s : List ℕ) → read_code s ≡ 0 → OfState (taken b s).told.code × ((taken b s).told.stray ≡ no_stray)
unfolding taken behind_code
read_told b s read =
    let code : first_of (bytes_checks b s) ≡ behind_code b (said s) = rw (read_then b s, read) in (
      rw code (behind_state b (said s)),
      ap (λ n. (told_for n (said_parts s)).stray) code ∙ ap (λ (t : Told). t.stray) (behind_told (said_parts s) b (said s)),
    )

read_at : (rs : List (List ℕ)) → AllRead rs → (k : ℕ) → k < length rs → read_code (get_or rs k []) ≡ 0
read_at [] all k there = absurd (omega arith)
read_at (r ∷ rs) all zero there = all.0
read_at (r ∷ rs) all (suc k) there = read_at rs all.1 k (omega arith)

typed_told : (b : Bench) (text : List ℕ) (k : ℕ) → k < length (rests (bytes_in text))
    → OfState (taken b (rest_at (bytes_in text) k)).told.code × ((taken b (rest_at (bytes_in text) k)).told.stray ≡ no_stray)
typed_told b text k there = read_told b (rest_at (bytes_in text) k) (read_at (rests (bytes_in text)) (assembled_passes text) k there)

pub typed_codes : (b : Bench) (kit text room : List ℕ) → (typed_of b kit text room).found.told.code ≡ 0
    → (k : ℕ) → k < length (rests (bytes_in text))
    → let bytes = record_at (typed_room b kit text room) (length (rests kit) + k) in
    OfState (byte_at bytes 1) × ((byte_at bytes 2 ≡ 0) × (word_at bytes 8 ≡ 0))
typed_codes b kit text room accepted k there =
    let verdict = verdict_at (kit_part b kit).bench (bytes_in text) k in
    let carries = record_carries 2 verdict (get_or (line_numbers text) k 0) in
    let told = typed_told (bench_at (kit_part b kit).bench (bytes_in text) k) text k there in
    rw (pupil_record b kit text room accepted k there)
    (told.0, (ap (λ (stray : Stray). stray.par) told.1, carries.value ∙ ap (λ (stray : Stray). stray.value) told.1))

-- A typed run told command by command, each an event of its own from its bytes; none where the run is refused.
abbrev pub typed_events : Bench → List ℕ → List ℕ → List ℕ → List Event
typed_events b kit text room = cond (eqb (typed_of b kit text room).found.told.code 0) (commands_of kit (bytes_in text)) []

module _ (b : Bench) (good : GoodBench b) (kit text room : List ℕ) where
  pub typed_leaves : let left = (typed_of b kit text room).bench in left ≡ noting (after b (typed_events b kit text room)) left.latest
  unfolding typed_of
  typed_leaves = lists_leave b good kit (bytes_in text) (line_numbers text) (typed_even text) (eqb (typed_found b kit text room).told.code 0)

  pub typed-accepts : (test : Role → Bool) → accepts test b (typed kit text room) ≡ accepts_any test b (typed_events b kit text room)
  unfolding typed_of
  typed-accepts test = lists_accept b good kit (bytes_in text) test (eqb (typed_found b kit text room).told.code 0)

-- From a state that can be reached such a run leads to one that can be reached.
pub typed_reaches : (b : Bench) → Reached b → (kit text room : List ℕ) → Reached (typed_of b kit text room).bench
typed_reaches b r kit text room =
    record {
      events = r.events ++ (typed kit text room ∷ []);
      reached = after-append fresh_bench r.events (typed kit text room ∷ []) ∙ ap (λ c. (typed_of c kit text room).bench) r.reached;
    }

-- A refused typed run leaves the bench and every byte of the room as they were, with counts of zero.
pub record Untouched (b : Bench) (kit text room : List ℕ) : Type 0 where
  pub bench : (typed_of b kit text room).bench ≡ b
  pub kit_count : (typed_of b kit text room).kit ≡ 0
  pub pupil_count : (typed_of b kit text room).pupil ≡ 0
  pub bytes : typed_room b kit text room ≡ room

pub refused_leaves : (b : Bench) (kit text room : List ℕ) → (typed_of b kit text room).found.told.code ≢ 0 → Untouched b kit text room
unfolding typed_of typed_room
refused_leaves b kit text room refused =
    let not_0 = ne_eqb (typed_found b kit text room).told.code 0 refused in
    record { bench = rw not_0; kit_count = rw not_0; pupil_count = rw not_0; bytes = rw not_0 }
