-- 01, "Two lists, one report", for a moderator to read: where each record stands and what it carries, that a run is its commands carried out one
-- after another, that a refused run leaves everything, and that the bytes shown for a record are those it judged. Places k count from 0, numbers are
-- k + 1.
use Prim.Native.Nat.{ℕ, zero, suc, ◌+◌, ◌*◌, ◌≤◌, ◌<◌}
use mathlib.Core.Path.{◌≡◌, refl, sym, ap, ◌∙◌}
use mathlib.Core.List.{List, [], ◌∷◌, ◌++◌, append_assoc, map}
use mathlib.Core.Bool.{Bool, true, false, cond, ◌&&◌, ◌||◌}
use native.Mathlib.Omega.{arith}
use lib.ListN.{length, get_or, take, drop, length-append}
use lib.Seq.{drop-drop, drop-append-add, drop_at}
use lib.Dec.{eqb, ltb}
use borrow.Author.Tests.{ltb-false, ne_eqb, not-false}
use Rattle.words.specs.BigEndian.{word_at, byte_at, written}
use Rattle.words.proofs.Tests.{neither}
use Rattle.words.proofs.Laws.{with_room}
use Rattle.words.proofs.Order.{due_none}
use Rattle.wire.specs.declared.judging.Told.{Told}
use Rattle.wire.specs.Read.{said_parts, said}
use Rattle.wire.proofs.Parameters.{Parameter, Recorded, recorded}
use Rattle.walk.specs.Walk.{rests}
use Rattle.walk.specs.Shown.{list_of, shown_of}
use Rattle.walk.proofs.Rests.{records_1024}
use Rattle.walk.proofs.Shows as shows
use Rattle.report.specs.Record.{record_length, report_room}
use Rattle.store.specs.declared.roles.Role.{Role}
use Rattle.bench.specs.declared.Bench.{Bench}
use Rattle.bench.specs.Status.{fresh_bench, bench_sound}
use Rattle.bench.specs.Carry.{Outcome, taken, carry_out_bytes}
use Rattle.bench.specs.Events.{Event, bytes, run, after, Reached, takes, takes_any, accepts, accepts_any}
use Rattle.bench.specs.Run.{own_numbers, record_of, run_rests, own_list, kit_part, pupil_with, noting, ended_with, report_with, report_of}
use Rattle.bench.specs.Run.{run_checks, run_code, run_of, room_after}
use Rattle.bench.proofs.Outcomes.{sound_bytes}
use Rattle.bench.proofs.InTurn.{left_by, own_even, own_number, kit_then, both_left}
use Rattle.bench.proofs.Sound.{GoodBench, taken_good, left_good}
use Rattle.bench.proofs.Listing.{records_long, record_within}
use Rattle.bench.proofs.MacroRun.{after-append}
use Rattle.bench.proofs.Own.{taken_own}

-- What command number k + 1 of a list meets: the list from where that command begins, and the bench that the first k commands left.
abbrev pub rest_at : List ℕ → ℕ → List ℕ
rest_at s k = get_or (rests s) k []

abbrev pub bench_at : Bench → List ℕ → ℕ → Bench
bench_at b s k = left_by b (take k (rests s))

-- The verdict on it: a code and, with 8, what was wrong with the number.
abbrev pub verdict_at : Bench → List ℕ → ℕ → Told
verdict_at b s k = (taken (bench_at b s k) (rest_at s k)).told

-- The record at a place, from 0, of a report.
abbrev pub record_at : List ℕ → ℕ → List ℕ
record_at report k = take record_length (drop (record_length * k) report)

-- A list's records are 12 bytes to each command.
pub list_long : (b : Bench) (sender : ℕ) (s : List ℕ) → length (own_list b sender s).records ≡ record_length * length (rests s)
list_long b sender s = records_long b sender (own_numbers s) (rests s) (own_even s)

-- The record at a place of a list's records, whatever its numbers: that sender, the verdict on the command there, and the number there.
pub numbered_record : (b : Bench) (sender : ℕ) (numbers : List ℕ) (rs : List (List ℕ)) → length numbers ≡ length rs → (k : ℕ) → k < length rs
    → record_at (run_rests b sender numbers rs).records k ≡ record_of sender (taken (left_by b (take k rs)) (get_or rs k [])).told (get_or numbers k 0)
unfolding run_rests
numbered_record b sender [] [] even k there = absurd (omega arith)
numbered_record b sender [] (r ∷ rs) even k there = absurd (omega arith)
numbered_record b sender (number ∷ numbers) [] even k there = absurd (omega arith)
numbered_record b sender (number ∷ numbers) (r ∷ rs) even zero there = refl
numbered_record b sender (number ∷ numbers) (r ∷ rs) even (suc k) there =
    let l = (run_rests b sender (number ∷ numbers) (r ∷ rs)).records in
    ap (λ n. take record_length (drop n l)) next
    ∙ ap (take record_length) (sym (drop-drop (record_length * k) record_length l))
    ∙ numbered_record (taken b r).bench sender numbers rs (omega arith) k (omega arith)
  where
    next : record_length * suc k ≡ record_length + record_length * k
    next = omega arith

-- Record number k + 1 of a sender's list, the one at place k: that sender, the verdict on the list's command number k + 1, and the number k + 1.
pub list_record : (b : Bench) (sender : ℕ) (s : List ℕ) (k : ℕ) → k < length (rests s)
    → record_at (own_list b sender s).records k ≡ record_of sender (verdict_at b s k) (k + 1)
list_record b sender s k there =
    numbered_record b sender (own_numbers s) (rests s) (own_even s) k there ∙ ap (record_of sender (verdict_at b s k)) (own_number s k there)

-- The records of both lists, with any numbers of the pupil's.
module _ (b : Bench) (kit numbers pupil : List ℕ) (even : length numbers ≡ length (rests pupil)) where
  abbrev first : List ℕ
  first = (kit_part b kit).records

  abbrev second : List ℕ
  second = (pupil_with b kit numbers pupil).records

  second_long : length second ≡ record_length * length (rests pupil)
  second_long = records_long (kit_part b kit).bench 2 numbers (rests pupil) even

  -- They take 12 bytes to each command, at most 12,288 where no list is longer than 4,096.
  pub both_long : length (report_with b kit numbers pupil) ≡ record_length * (length (rests kit) + length (rests pupil))
  both_long = length-append first second ∙ omega (arith, list_long b 1 kit, second_long)

  pub both_fit : length kit ≤ 4096 → length pupil ≤ 4096 → length (report_with b kit numbers pupil) ≤ report_room
  both_fit kit_short pupil_short = omega (arith, both_long, records_1024 kit pupil kit_short pupil_short)

  module _ (room : List ℕ) (fits : length (report_with b kit numbers pupil) ≤ length room) where
    abbrev left : List ℕ
    left = written (report_with b kit numbers pupil) room

    abbrev stays : List ℕ
    stays = drop (length (report_with b kit numbers pupil)) room

    filled : left ≡ report_with b kit numbers pupil ++ stays
    filled = with_room (report_with b kit numbers pupil) room fits

    -- In a room the kit's record k stands at place k, with its number in the kit's own list,
    pub kit_placed : (k : ℕ) → k < length (rests kit) → record_at left k ≡ record_of 1 (verdict_at b kit k) (k + 1)
    kit_placed k there =
        ap (λ l. record_at l k) (filled ∙ append_assoc first second stays)
        ∙ record_within first (second ++ stays) (record_length * k) (omega (arith, list_long b 1 kit))
        ∙ list_record b 1 kit k there

    -- the pupil's stands k places behind the kit's records, with the number that it was given,
    pub pupil_placed : (k : ℕ) → k < length (rests pupil)
        → record_at left (length (rests kit) + k) ≡ record_of 2 (verdict_at (kit_part b kit).bench pupil k) (get_or numbers k 0)
    pupil_placed k there =
        ap (λ l. record_at l (length (rests kit) + k)) (filled ∙ append_assoc first second stays)
        ∙ ap (λ n. take record_length (drop n (first ++ (second ++ stays)))) place
        ∙ ap (take record_length) (drop-append-add first (second ++ stays) (record_length * k))
        ∙ record_within second stays (record_length * k) (omega (arith, second_long))
        ∙ numbered_record (kit_part b kit).bench 2 numbers (rests pupil) even k there
      where
        place : record_length * (length (rests kit) + k) ≡ length first + record_length * k
        place = omega (arith, list_long b 1 kit)

    -- and what lies behind them stays.
    pub rest_placed : let end = record_length * (length (rests kit) + length (rests pupil)) in drop end left ≡ drop end room
    rest_placed =
        let end = record_length * (length (rests kit) + length (rests pupil)) in
        ap (drop end) filled
        ∙ drop_at (report_with b kit numbers pupil) stays end both_long
        ∙ ap (λ n. drop n room) both_long

-- So of the records of two raw lists.
pub report_long : (b : Bench) (kit pupil : List ℕ) → length (report_of b kit pupil) ≡ record_length * (length (rests kit) + length (rests pupil))
report_long b kit pupil = both_long b kit (own_numbers pupil) pupil (own_even pupil)

pub report_fits : (b : Bench) (kit pupil : List ℕ) → length kit ≤ 4096 → length pupil ≤ 4096 → length (report_of b kit pupil) ≤ report_room
report_fits b kit pupil kit_short pupil_short = both_fit b kit (own_numbers pupil) pupil (own_even pupil) kit_short pupil_short

-- The 12 bytes of such a record: the sender, the code, the parameter, 0, the number in 32 bits, and the value in 32 bits.
pub record Carries (bytes : List ℕ) (from : ℕ) (verdict : Told) (n : ℕ) : Type 0 where
  pub long : length bytes ≡ record_length
  pub sender : byte_at bytes 0 ≡ from
  pub code : byte_at bytes 1 ≡ verdict.code
  pub par : byte_at bytes 2 ≡ verdict.stray.par
  pub spare : byte_at bytes 3 ≡ 0
  pub number : word_at bytes 4 ≡ n
  pub value : word_at bytes 8 ≡ verdict.stray.value

pub record_carries : (sender : ℕ) (verdict : Told) (number : ℕ) → Carries (record_of sender verdict number) sender verdict number
record_carries sender verdict number =
    record { long = refl; sender = refl; code = refl; par = refl; spare = refl; number = omega arith; value = omega arith }

-- What such a record says of a number of its command.
abbrev pub RecordedIn : List ℕ → List ℕ → Type 0
RecordedIn report s = Recorded (said_parts s) (byte_at report 1) (byte_at report 2) (word_at report 8)

pub record_recorded : (report s : List ℕ) (from : ℕ) (verdict : Told) (n : ℕ) → Carries report from verdict n → Parameter (said_parts s) verdict
    → RecordedIn report s
record_recorded report s from verdict n carries says = rw (carries.code, carries.par, carries.value) (recorded (said_parts s) verdict says)

-- What a run with code 0 has passed: 20, 21 and 27 are not due.
pub record Passed (b : Bench) (kit pupil room : List ℕ) : Type 0 where
  pub kit_short : length kit ≤ 4096
  pub pupil_short : length pupil ≤ 4096
  pub enough : report_room ≤ length room
  pub sound : bench_sound b ≡ true

pub passed : (b : Bench) (kit pupil room : List ℕ) → (run_of b kit pupil room).code ≡ 0 → Passed b kit pupil room
unfolding run_of run_code
passed b kit pupil room accepted =
    let none = due_none (run_checks b kit pupil room) refl accepted in
    let short = neither (ltb 4096 (length kit)) (ltb 4096 (length pupil)) none.0 in
    record {
      kit_short = ltb-false 4096 (length kit) short.0;
      pupil_short = ltb-false 4096 (length pupil) short.1;
      enough = ltb-false (length room) report_room none.1.0;
      sound = not-false (bench_sound b) none.1.1.0;
    }

-- A run that is carried out.
module _ (b : Bench) (kit pupil room : List ℕ) (accepted : (run_of b kit pupil room).code ≡ 0) where
  -- "The answer gives the number of records for each sender."
  pub kit_count : (run_of b kit pupil room).kit ≡ length (rests kit)
  unfolding run_of
  kit_count = rw accepted

  pub pupil_count : (run_of b kit pupil room).pupil ≡ length (rests pupil)
  unfolding run_of
  pupil_count = rw accepted

  -- The bench is the one that the pupil's list leaves, begun on the one that the kit's list left, with the numbers of this run.
  pub bench_after : (run_of b kit pupil room).bench ≡ ended_with b kit (own_numbers pupil) pupil
  unfolding run_of
  bench_after = rw accepted

  pub room_is : room_after b kit pupil room ≡ written (report_of b kit pupil) room
  unfolding room_after run_of
  room_is = rw accepted

  pub fits : length (report_of b kit pupil) ≤ length room
  fits =
      let p = passed b kit pupil room accepted in
      omega (arith, p, report_fits b kit pupil p.kit_short p.pupil_short)

  -- The kit's record number k + 1 stands at place k of the room: sender 1, the verdict on the kit's command, its number in the kit's list.
  pub kit_record : (k : ℕ) → k < length (rests kit) → record_at (room_after b kit pupil room) k ≡ record_of 1 (verdict_at b kit k) (k + 1)
  kit_record k there = ap (λ l. record_at l k) room_is ∙ kit_placed b kit (own_numbers pupil) pupil (own_even pupil) room fits k there

  -- The pupil's record number k + 1 stands k places behind the kit's records: sender 2, the verdict on the pupil's command, its number in the
  -- pupil's own list.
  pub pupil_record : (k : ℕ) → k < length (rests pupil)
      → record_at (room_after b kit pupil room) (length (rests kit) + k) ≡ record_of 2 (verdict_at (kit_part b kit).bench pupil k) (k + 1)
  pupil_record k there =
      ap (λ l. record_at l (length (rests kit) + k)) room_is
      ∙ pupil_placed b kit (own_numbers pupil) pupil (own_even pupil) room fits k there
      ∙ ap (record_of 2 (verdict_at (kit_part b kit).bench pupil k)) (own_number pupil k there)

  -- "Bytes after the last record stay."
  pub rest_stays : let end = record_length * (length (rests kit) + length (rests pupil)) in drop end (room_after b kit pupil room) ≡ drop end room
  rest_stays =
      ap (drop (record_length * (length (rests kit) + length (rests pupil)))) room_is
      ∙ rest_placed b kit (own_numbers pupil) pupil (own_even pupil) room fits

-- A run told command by command: the kit's and then the pupil's, each an event of its own from its bytes; none where the run is refused.
abbrev pub commands_of : List ℕ → List ℕ → List Event
commands_of kit pupil = map bytes (rests kit ++ rests pupil)

abbrev pub events_of : Bench → List ℕ → List ℕ → List ℕ → List Event
events_of b kit pupil room = cond (eqb (run_of b kit pupil room).code 0) (commands_of kit pupil) []

-- On a sound bench commands in turn are what carrying them out one after another is.
left_after : (b : Bench) → GoodBench b → (rs : List (List ℕ)) → left_by b rs ≡ after b (map bytes rs)
left_after b good [] = refl
left_after b good (r ∷ rs) =
    left_after (taken b r).bench (taken_good b good r) rs ∙ ap (λ (o : Outcome). after o.bench (map bytes rs)) (sound_bytes b r good.sound)

takes_after : (test : Role → Bool) (b : Bench) → GoodBench b → (rs : List (List ℕ)) → takes_any test b rs ≡ accepts_any test b (map bytes rs)
unfolding carry_out_bytes
takes_after test b good [] = refl
takes_after test b good (r ∷ rs) =
    ap (λ later. takes test (taken b r).told.code (said r) || later) (takes_after test (taken b r).bench (taken_good b good r) rs)
    ∙ ap (λ (o : Outcome). takes test o.told.code (said r) || accepts_any test o.bench (map bytes rs)) (sound_bytes b r good.sound)

module _ (b : Bench) (good : GoodBench b) (kit pupil : List ℕ) where
  told_after : (rs : List (List ℕ)) (r : List ℕ) → (taken (left_by b rs) r).told ≡ (carry_out_bytes (after b (map bytes rs)) r).told
  told_after rs r =
      ap (λ (o : Outcome). o.told) (sound_bytes (left_by b rs) r (left_good b good rs).sound)
      ∙ ap (λ c. (carry_out_bytes c r).told) (left_after b good rs)

  -- Each command's verdict is that of carrying it out in the state that the commands before it left.
  pub kit_verdict : (k : ℕ) → verdict_at b kit k ≡ (carry_out_bytes (after b (map bytes (take k (rests kit)))) (rest_at kit k)).told
  kit_verdict k = told_after (take k (rests kit)) (rest_at kit k)

  pub pupil_verdict : (k : ℕ)
      → verdict_at (kit_part b kit).bench pupil k ≡ (carry_out_bytes (after b (map bytes (rests kit ++ take k (rests pupil)))) (rest_at pupil k)).told
  pupil_verdict k =
      ap (λ c. (taken c (rest_at pupil k)).told) (kit_then b kit (take k (rests pupil)))
      ∙ told_after (rests kit ++ take k (rests pupil)) (rest_at pupil k)

  -- Two lists leave exactly the state of carrying out their commands one after another, but for the numbers of the latest run, and accept what those
  -- accept, carried out or not, and whatever the numbers of the pupil's records.
  pub lists_leave : (numbers : List ℕ) → length numbers ≡ length (rests pupil) → (carried : Bool)
      → let left = cond carried (ended_with b kit numbers pupil) b in
      left ≡ noting (after b (cond carried (commands_of kit pupil) [])) left.latest
  lists_leave numbers even true =
      ap (λ c. noting c (ended_with b kit numbers pupil).latest) (both_left b kit numbers pupil even ∙ left_after b good (rests kit ++ rests pupil))
  lists_leave numbers even false = refl

  pub lists_accept : (test : Role → Bool) (carried : Bool)
      → (carried && takes_any test b (rests kit ++ rests pupil)) ≡ accepts_any test b (cond carried (commands_of kit pupil) [])
  lists_accept test true = takes_after test b good (rests kit ++ rests pupil)
  lists_accept test false = refl

  -- So a run is no more than its commands, refused or not: it leaves what they leave, but for the numbers of the latest run, and accepts what they
  -- accept.
  pub run_leaves : (room : List ℕ) → let left = (run_of b kit pupil room).bench in left ≡ noting (after b (events_of b kit pupil room)) left.latest
  unfolding run_of
  run_leaves room = lists_leave (own_numbers pupil) (own_even pupil) (eqb (run_code b kit pupil room) 0)

  pub run-accepts : (room : List ℕ) (test : Role → Bool) → accepts test b (run kit pupil room) ≡ accepts_any test b (events_of b kit pupil room)
  unfolding run_of
  run-accepts room test = lists_accept test (eqb (run_code b kit pupil room) 0)

-- From a state that can be reached a run leads to one that can be reached.
pub run_reaches : (b : Bench) → Reached b → (kit pupil room : List ℕ) → Reached (run_of b kit pupil room).bench
run_reaches b r kit pupil room =
    record {
      events = r.events ++ (run kit pupil room ∷ []);
      reached = after-append fresh_bench r.events (run kit pupil room ∷ []) ∙ ap (λ c. (run_of c kit pupil room).bench) r.reached;
    }

-- A refused run leaves the bench and every byte of the room as they were, with counts of zero.
pub record Untouched (b : Bench) (kit pupil room : List ℕ) : Type 0 where
  pub bench : (run_of b kit pupil room).bench ≡ b
  pub kit_count : (run_of b kit pupil room).kit ≡ 0
  pub pupil_count : (run_of b kit pupil room).pupil ≡ 0
  pub bytes : room_after b kit pupil room ≡ room

pub refused_leaves : (b : Bench) (kit pupil room : List ℕ) → ((run_of b kit pupil room).code ≡ 0 → ⊥) → Untouched b kit pupil room
unfolding run_of room_after
refused_leaves b kit pupil room refused =
    let not_0 = ne_eqb (run_code b kit pupil room) 0 refused in
    record { bench = rw not_0; kit_count = rw not_0; pupil_count = rw not_0; bytes = rw not_0 }

-- The bytes shown for a sender and number k + 1 are the very bytes that record k + 1 of that sender judged.
module _ (kit pupil : List ℕ) (kit_short : length kit ≤ 4096) (pupil_short : length pupil ≤ 4096) where
  -- They are the command that the list, from where that command begins, begins with.
  pub shown_first : (sender k : ℕ) → shown_of kit pupil sender (k + 1) ≡ shows.first (rest_at (list_of kit pupil sender) k)
  shown_first sender k = shows.shows kit pupil kit_short pupil_short sender k

  -- Alone they are judged as in the list, on any bench: the verdict is theirs and hangs on no other byte.
  pub shown_judged : (b : Bench) (sender k : ℕ) → taken b (shown_of kit pupil sender (k + 1)) ≡ taken b (rest_at (list_of kit pupil sender) k)
  shown_judged b sender k = ap (taken b) (shown_first sender k) ∙ taken_own b (rest_at (list_of kit pupil sender) k)

  -- So the verdict in a record is the one on the bytes shown for it.
  pub kit_shown : (b : Bench) (k : ℕ) → verdict_at b kit k ≡ (taken (bench_at b kit k) (shown_of kit pupil 1 (k + 1))).told
  kit_shown b k = ap (λ (o : Outcome). o.told) (sym (shown_judged (bench_at b kit k) 1 k))

  pub pupil_shown : (b : Bench) (k : ℕ) → verdict_at b pupil k ≡ (taken (bench_at b pupil k) (shown_of kit pupil 2 (k + 1))).told
  pupil_shown b k = ap (λ (o : Outcome). o.told) (sym (shown_judged (bench_at b pupil k) 2 k))
