-- What the program prints, of the meanings: a refusal exactly where something is wrong with the text, and else the lines of the kit's records and
-- of the pupil's, whose numbers are lines of the text.
use Prim.Native.Nat.{ℕ, ◌+◌, ◌*◌, ◌≤◌, ◌<◌}
use mathlib.Core.Path.{◌≡◌, refl, sym, ap, ◌∙◌}
use mathlib.Core.List.{List, [], ◌∷◌, append-nil}
use mathlib.Core.Bool.{Bool, true, false, not, ◌||◌, true≢false}
use native.Mathlib.Omega.{arith}
use lib.ListN.{length, get_or, take, drop, replicate, length-replicate}
use lib.Seq.{take_at, drop-length}
use lib.Dec.{eqb, ltb}
use borrow.Author.Tests.{eq-eqb, ne_eqb}
use Rattle.std.specs.Prelude.{Result, Ok, Err}
use Rattle.words.specs.BigEndian.{bytes_of, written}
use Rattle.words.specs.Codes.{◌when◌}
use Rattle.words.proofs.Laws.{with_room}
use Rattle.wire.specs.Read.{sum_of}
use Rattle.wire.specs.Write.{command_bytes, list_bytes}
use Rattle.walk.specs.Walk.{rests}
use Rattle.report.specs.Record.{record_length, report_room}
use Rattle.text.specs.declared.findings.Finding.{Finding}
use Rattle.text.specs.Findings.{whole, first_found}
use Rattle.text.specs.Assemble.{line_numbers, bytes_in, bad_line, text_findings}
use Rattle.bench.specs.declared.Bench.{Bench}
use Rattle.bench.specs.declared.lists.Ran.{Ran}
use Rattle.bench.specs.declared.lists.typed.TypedRefusal.{TypedRefusal}
use Rattle.bench.specs.Status.{fresh_bench, sound_check}
use Rattle.bench.specs.Run.{kit_part}
use Rattle.bench.specs.Typed.{typed_found, typed_report, begun_finding, ran_finding, typed_ran_of, typed_of, typed_room}
use Rattle.bench.proofs.Sound.{fresh_sound}
use Rattle.bench.proofs.InTurn.{typed_even}
use Rattle.bench.proofs.Report.{verdict_at, record_at, both_long, both_fit, kit_placed, pupil_placed}
use Rattle.bench.proofs.TypedReport.{passed, kit_count, pupil_count}
use Rattle.text.proofs.Found.{fault_code}
use Rattle.listing.specs.declared.refusals.Numbered.{Numbered}
use Rattle.listing.specs.Kit.{kit_bytes}
use Rattle.listing.specs.Text.{line_at, report_text}
use Rattle.listing.specs.Refusal.{refusal_line}
use Rattle.listing.proofs.RecordLine.{line_for, record_line}
use Rattle.listing.proofs.Outputs.{found_before}
use Rattle.typed.specs.Printed.{found, printed}

-- Of a run on a fresh bench with the kit's list and the room that a report needs nothing is found but what is wrong with the text.
kit_short : ltb 4096 (length kit_bytes) ≡ false
unfolding kit_bytes list_bytes command_bytes bytes_of sum_of
kit_short = refl

or-false : (b : Bool) → (b || false) ≡ b
or-false true = refl
or-false false = refl

fresh_found : (typed room : List ℕ) → length room ≡ report_room → typed_found fresh_bench kit_bytes typed room ≡ found typed
unfolding typed_found
fresh_found typed room long =
    ap (λ first. first_found (whole (20 when first) ∷ bad_line typed ∷ whole (20 when ltb 4096 (length (bytes_in typed))) ∷ more))
    (ap (λ kit. ltb 32768 (length typed) || kit) kit_short ∙ or-false (ltb 32768 (length typed)))
    ∙ found_before (text_findings typed) more (λ none. (room_fine, (sound, tt)))
  where
    more : List Finding
    more = whole (21 when ltb (length room) report_room) ∷ whole (sound_check fresh_bench) ∷ []

    room_fine : (whole (21 when ltb (length room) report_room)).told.code ≡ 0
    room_fine = ap (λ n. (whole (21 when ltb n report_room)).told.code) long

    sound : (whole (sound_check fresh_bench)).told.code ≡ 0
    sound = ap (λ b. (whole (27 when not b)).told.code) fresh_sound.sound

-- So what is printed is a refusal's line or the report's text, by what is found of that run.
module _ (b : Bench) (kit typed room : List ℕ) (fresh : b ≡ fresh_bench) (own : kit ≡ kit_bytes) (long : length room ≡ report_room) where
  pub same_found : typed_found b kit typed room ≡ found typed
  same_found =
      ap (λ c. typed_found c kit typed room) fresh ∙ ap (λ k. typed_found fresh_bench k typed room) own ∙ fresh_found typed room long

  text : report_text (typed_report b kit typed) ≡ report_text (typed_report fresh_bench kit_bytes typed)
  text = ap (λ c. report_text (typed_report c kit typed)) fresh ∙ ap (λ k. report_text (typed_report fresh_bench k typed)) own

  pub prints_refusal : ((typed_found b kit typed room).told.code ≡ 0 → ⊥) → refusal_line Numbered.Lines (typed_found b kit typed room) ≡ printed typed
  unfolding printed
  prints_refusal refused =
      let some = ne_eqb (found typed).told.code 0 (λ none. refused (ap (λ f. f.told.code) same_found ∙ none)) in
      rw some (ap (refusal_line Numbered.Lines) same_found)

  pub prints_report : (typed_found b kit typed room).told.code ≡ 0 → report_text (typed_report b kit typed) ≡ printed typed
  unfolding printed
  prints_report accepted = rw (eq-eqb (found typed).told.code 0 (sym (ap (λ f. f.told.code) same_found) ∙ accepted)) text

-- The room that the program lends for the records.
abbrev pub records_room : List ℕ
records_room = replicate report_room 0

pub records_room_long : length records_room ≡ report_room
records_room_long = length-replicate {A = ℕ} report_room 0

-- What is told of an answer is the finding that it has.
pub found_in : (b : Bench) (answer : Result Ran TypedRefusal) → ran_finding answer ≡ (typed_ran_of b answer).found
found_in b (Ok r) = refl
found_in b (Err refusal) = refl

-- No refusal has code 0.
some_code : (refusal : TypedRefusal) → (begun_finding refusal).told.code ≡ 0 → ⊥
some_code TypedRefusal.TooLong none = omega (arith, none)
some_code (TypedRefusal.BadLine number fault) none = true≢false (sym (ap (λ n. eqb n 0) none) ∙ fault_code fault)
some_code TypedRefusal.RoomTooSmall none = omega (arith, none)
some_code TypedRefusal.Unsound none = omega (arith, none)

pub refused_some : (b : Bench) (kit typed room : List ℕ) (refusal : TypedRefusal) → typed_ran_of b (Err refusal) ≡ typed_of b kit typed room
    → (typed_found b kit typed room).told.code ≡ 0 → ⊥
unfolding typed_of
refused_some b kit typed room refusal told none = some_code refusal (ap (λ t. t.found.told.code) told ∙ none)

-- The records of a run that was carried out are as many bytes at the front of its room as its two counts say.
module _ (b : Bench) (kit typed room : List ℕ) (r : Ran) (told : typed_ran_of b (Ok r) ≡ typed_of b kit typed room) where
  accepted : (typed_of b kit typed room).found.told.code ≡ 0
  accepted = sym (ap (λ t. t.found.told.code) told)

  pub none_found : (typed_found b kit typed room).told.code ≡ 0
  unfolding typed_of
  none_found = accepted

  pub records_long : length (typed_report b kit typed) ≡ (r.kit + r.pupil) * record_length
  records_long =
      omega (
        arith,
        both_long b kit (line_numbers typed) (bytes_in typed) (typed_even typed),
        ap (λ t. t.kit) told ∙ kit_count b kit typed room accepted,
        ap (λ t. t.pupil) told ∙ pupil_count b kit typed room accepted,
      )

  pub records_fit : length (typed_report b kit typed) ≤ report_room
  records_fit =
      let p = passed b kit typed room accepted in
      both_fit b kit (line_numbers typed) (bytes_in typed) (typed_even typed) p.kit_short p.list_short

  pub records_front : (left : List ℕ) → left ≡ typed_room b kit typed room → take ((r.kit + r.pupil) * record_length) left ≡ typed_report b kit typed
  unfolding typed_room typed_of
  records_front left is =
      let enough = (passed b kit typed room accepted).enough in
      let stays = drop (length (typed_report b kit typed)) room in
      ap (take ((r.kit + r.pupil) * record_length)) is
      ∙ rw (accepted, with_room (typed_report b kit typed) room (omega (arith, enough, records_fit)))
      (take_at (typed_report b kit typed) stays ((r.kit + r.pupil) * record_length) records_long)

-- Under the header stand the kit's lines and then the pupil's: each has the verdict on its command, the kit's its number in the kit's own list, and
-- the pupil's the number of the line that says it.
module _ (b : Bench) (kit typed : List ℕ) where
  abbrev records : List ℕ
  records = typed_report b kit typed

  whole_room : written records records ≡ records
  whole_room = with_room records records (omega arith) ∙ rw (drop-length records) (append-nil records)

  pub kit_line : (k : ℕ) → k < length (rests kit) → line_at records k ≡ line_for 1 (k + 1) (verdict_at b kit k)
  kit_line k there =
      let placed = kit_placed b kit (line_numbers typed) (bytes_in typed) (typed_even typed) records (omega arith) k there in
      record_line records k 1 (k + 1) (verdict_at b kit k) (ap (λ l. record_at l k) (sym whole_room) ∙ placed)

  pub pupil_line : (k : ℕ) → k < length (rests (bytes_in typed))
      → line_at records (length (rests kit) + k)
      ≡ line_for 2 (get_or (line_numbers typed) k 0) (verdict_at (kit_part b kit).bench (bytes_in typed) k)
  pupil_line k there =
      let at = length (rests kit) + k in
      let placed = pupil_placed b kit (line_numbers typed) (bytes_in typed) (typed_even typed) records (omega arith) k there in
      record_line records at 2 (get_or (line_numbers typed) k 0) (verdict_at (kit_part b kit).bench (bytes_in typed) k)
      (ap (λ l. record_at l at) (sym whole_room) ∙ placed)
