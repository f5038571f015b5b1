-- 02, Q-12, for clubs to read: a long list may be split over two meetings, or three. `evening` (specs/Evenings) is the run of a pupil's list with the
-- kit's list empty, `typed_evening` the same of a typed list, and `Joins` says when one evening is two of them joined: the camera and the store are the
-- same, the counts add up, and the joined run's records, byte for byte as they stand in the lent rooms, are the first one's and then the second one's
-- with their numbers raised. No second passes between the evenings. "Q-11's numbers of the latest run are not compared"; that a bench has no other field,
-- and that these never show but in its housekeeping, is in SameLater.
use Prim.Native.Nat.{ℕ, ◌+◌, ◌≤◌, ◌<◌}
use mathlib.Core.Path.{◌≡◌, refl, sym, ap, ap₂, ◌∙◌, subst}
use mathlib.Core.Logic.{◌↔◌, ◌≢◌}
use mathlib.Core.List.{List, [], ◌∷◌, ◌++◌, append_assoc}
use mathlib.Core.Bool.{Bool, true, false, cond, not}
use native.Mathlib.Omega.{arith}
use lib.ListN.{length, length-append}
use lib.Dec.{eqb}
use borrow.Author.Tests.{eq-eqb, ne_eqb, eqb-true, eqb-false}
use Rattle.words.specs.BigEndian.{byte_at, bytes_of}
use Rattle.words.specs.Text.{ascii}
use Rattle.wire.specs.Judge.{judge_code}
use Rattle.wire.specs.Read.{sum_of, read_of, span_of}
use Rattle.wire.specs.Write.{command_bytes, list_bytes}
use Rattle.walk.specs.Walk.{rests, unbroken}
use Rattle.walk.proofs.Joined.{reach_each, unbroken_joined}
use Rattle.text.specs.Split.{lines_of, ends_line, words_of, same_text}
use Rattle.text.specs.Number.{digits_in, whole_of}
use Rattle.text.specs.Names.{form_named}
use Rattle.text.specs.Line.{typed_as, line_of}
use Rattle.text.specs.Findings.{first_found}
use Rattle.text.specs.Assemble.{commands_in, bytes_in, line_numbers, line_findings, bad_line}
use Rattle.text.proofs.Joined.{raised_by, ends_joined, bytes_joined, numbers_joined, raised_finding, bad_line_joined, good_joined, typed_unbroken}
use Rattle.store.specs.Effects.{applied_of}
use Rattle.store.proofs.Sound.{Shaped}
use Rattle.report.specs.declared.Latest.{Latest}
use Rattle.report.specs.Record.{report_room}
use Rattle.bench.specs.declared.Bench.{Bench}
use Rattle.bench.specs.Status.{fresh_bench, bench_sound}
use Rattle.bench.specs.Carry.{taken}
use Rattle.bench.specs.Run.{own_numbers, noting, run_code, run_of}
use Rattle.bench.specs.Typed.{typed_found, typed_of}
use Rattle.bench.specs.Evenings.{Evening, evening, typed_evening, raised, Joins, Agree, JoinsThree, ends_list}
use Rattle.bench.proofs.InTurn.{left_by}
use Rattle.bench.proofs.Sound.{fresh_sound}
use Rattle.bench.proofs.Report.{record_at, rest_at, bench_at}
use Rattle.bench.proofs.Report as raw
use Rattle.bench.proofs.TypedReport as typed_runs
use Rattle.bench.proofs.Joining.{reach_told, own_joined, CarriedOut, raw_carried, typed_carried, left_by_lem, code_at}
use Rattle.bench.proofs.EveningCodes.{room_code, short_code, raw_accepted, typed_taken, bad_found, Stays, evening_stays, typed_stays}
use Rattle.bench.proofs.Joining.{Splits, splits, none_split, either_way, in_a_row}

-- # "no code 1, 2 or 3 occurs in A"

-- `unbroken` (walk, specs/Walk) asks it of the list's bytes alone. It is what the records say, whatever bench the list is run on: in no record is byte 1,
-- the code, 1, 2 or 3.
pub unbroken_recorded : (b : Bench) (s room : List ℕ) → let e = evening b s room in e.code ≡ 0
    → (unbroken s ≡ true) ↔ ((k : ℕ) → k < e.count → ends_list (byte_at (record_at e.room k) 1) ≡ false)
unbroken_recorded b s room accepted =
    let h = raw_carried b s room accepted in
    let each = reach_each (rests s) in (
      λ whole k there.
          let within : k < length (rests s) = omega (arith, h.count) in
          ap ends_list (code_at h k within) ∙ (reach_told (bench_at b s k) (rest_at s k)).0 (each.0 whole k within),
      λ says. each.1 (λ k within.
          let there : k < (evening b s room).count = omega (arith, h.count) in
          (reach_told (bench_at b s k) (rest_at s k)).1 (ap ends_list (sym (code_at h k within)) ∙ says k there)),
    )

-- So codes 4 and 11 do not matter, and 01's lone word at the end of a list does.
pub unbroken_examples : (unbroken (bytes_of (0x015a0002 ∷ 0x00000000 ∷ 0x015a8002 ∷ 0x015a8002 ∷ [])) ≡ true)
    × (unbroken (bytes_of (0x015a0002 ∷ 0x015a0002 ∷ 0x015a0002 ∷ [])) ≡ false)
unfolding bytes_of rests span_of
unbroken_examples = (refl, refl)

-- # "an empty kit list"

-- Its count is 0, and so the pupil's records stand at the front of the room.
pub no_kit_records : (b : Bench) (s room : List ℕ) → (run_of b [] s room).kit ≡ 0
unfolding run_of rests
no_kit_records b s room = go (eqb (run_code b [] s room) 0)
  where
    go : (accepted : Bool) → ◌≡◌ {A = ℕ} (cond accepted 0 0) 0
    go true = refl
    go false = refl

-- # "B's numbers rise"

-- The pupil's record number 2, with code 8 for its argument 2, which was 1024, raised by 255 becomes number 257.
pub raised_example :
    raised 255 1 (2 ∷ 8 ∷ 2 ∷ 0 ∷ 0 ∷ 0 ∷ 0 ∷ 2 ∷ 0 ∷ 0 ∷ 4 ∷ 0 ∷ []) ≡ 2 ∷ 8 ∷ 2 ∷ 0 ∷ 0 ∷ 0 ∷ 1 ∷ 1 ∷ 0 ∷ 0 ∷ 4 ∷ 0 ∷ []
raised_example = refl

-- # Two evenings

-- "Running A, then B from the state left, with no seconds between and an empty kit list", and running them joined.
module _ (b : Bench) (one two room room₁ room₂ : List ℕ) where
  abbrev first : Evening
  first = evening b one room₁

  abbrev second : Evening
  second = evening first.bench two room₂

  abbrev joined : Evening
  joined = evening b (one ++ two) room

  split_accepted : unbroken one ≡ true → first.code ≡ 0 → second.code ≡ 0 → joined.code ≡ 0 → Splits first.count joined first second
  split_accepted whole first_done second_done joined_done =
      let h = raw_carried b one room₁ first_done in
      let all : CarriedOut b (own_numbers one ++ raised_by (length (rests one)) (own_numbers two)) (one ++ two) room joined =
      subst (λ numbers. CarriedOut b numbers (one ++ two) room joined) (own_joined one two whole) (raw_carried b (one ++ two) room joined_done) in
      subst (λ n. Splits n joined first second) (sym h.count) (splits (length (rests one)) whole h (raw_carried first.bench two room₂ second_done) all)

  -- Where no run is refused, the rooms may have any length.
  pub evenings_accepted : unbroken one ≡ true → first.code ≡ 0 → second.code ≡ 0 → joined.code ≡ 0 → Joins first.count joined first second
  evenings_accepted whole first_done second_done joined_done = (split_accepted whole first_done second_done joined_done).joins

  -- Lists "of together at most 4,096 bytes", on any bench, sound or not, in rooms of the same length. (`Shaped`: the arrays of the store have their
  -- lengths, as every program's have.)
  module _ (shaped : Shaped b.store) (short : length (one ++ two) ≤ 4096)
      (alike₁ : length room₁ ≡ length room) (alike₂ : length room₂ ≡ length room) where
    first_code : first.code ≡ joined.code
    first_code =
        short_code b one room₁ (omega (arith, length-append one two))
        ∙ ap (room_code (bench_sound b)) alike₁
        ∙ sym (short_code b (one ++ two) room short)

    second_code : second.code ≡ joined.code
    second_code =
        short_code first.bench two room₂ (omega (arith, length-append one two))
        ∙ ap₂ room_code (evening_stays b shaped one room₁).sound alike₂
        ∙ sym (short_code b (one ++ two) room short)

    -- All three have one code; so where the joined run is accepted, neither part is refused.
    pub one_code : (first.code ≡ joined.code) × (second.code ≡ joined.code)
    one_code = (first_code, second_code)

    pub neither_refused : joined.code ≡ 0 → (first.code ≡ 0) × (second.code ≡ 0)
    neither_refused done = (first_code ∙ done, second_code ∙ done)

    split : unbroken one ≡ true → Splits first.count joined first second
    split whole = go (eqb joined.code 0) refl
      where
        go : (done : Bool) → eqb joined.code 0 ≡ done → Splits first.count joined first second
        go true is =
            let done = eqb-true joined.code 0 is in
            split_accepted whole (first_code ∙ done) (second_code ∙ done) done
        go false is =
            let refused = eqb-false joined.code 0 is in
            let none = raw.refused_leaves b [] (one ++ two) room refused in
            let none₁ = raw.refused_leaves b [] one room₁ (λ e. refused (sym first_code ∙ e)) in
            let none₂ = raw.refused_leaves first.bench [] two room₂ (λ e. refused (sym second_code ∙ e)) in
            none_split first.count b joined first second none.bench none₁.bench none₂.bench
            none.pupil_count none₁.pupil_count none₂.pupil_count

    -- The claim: "gives the state and records of running them joined, except that B's numbers rise by the number of A's commands", which is the count that
    -- A's run answers. It holds of refused runs as well, which leave the bench and have no records.
    pub two_evenings : unbroken one ≡ true → Joins first.count joined first second
    two_evenings whole = (split whole).joins

-- # Three evenings

-- "Three lists joined in either grouping agree too, with no code 1, 2 or 3 in the first two."
module _ (b : Bench) (shaped : Shaped b.store) (one two three : List ℕ) (short : length (one ++ (two ++ three)) ≤ 4096)
    (one_whole : unbroken one ≡ true) (two_whole : unbroken two ≡ true) where
  grouped : (one ++ two) ++ three ≡ one ++ (two ++ three)
  grouped = append_assoc one two three

  -- The first two joined and then the third; the first and then the other two joined: both give what all three joined give.
  module _ (room left₁ left₂ right₁ right₂ : List ℕ) (alike₁ : length left₁ ≡ length room) (alike₂ : length left₂ ≡ length room)
      (alike₃ : length right₁ ≡ length room) (alike₄ : length right₂ ≡ length room) where
    abbrev two_then_one : Evening
    two_then_one = evening b (one ++ two) left₁

    abbrev then_third : Evening
    then_third = evening two_then_one.bench three left₂

    abbrev one_then_two : Evening
    one_then_two = evening b one right₁

    abbrev then_both : Evening
    then_both = evening one_then_two.bench (two ++ three) right₂

    abbrev all : Evening
    all = evening b (one ++ (two ++ three)) room

    pub left_grouping : Joins two_then_one.count all two_then_one then_third
    left_grouping =
        subst (λ s. Joins two_then_one.count (evening b s room) two_then_one then_third) grouped
        (two_evenings b (one ++ two) three room left₁ left₂ shaped (subst (λ s. length s ≤ 4096) (sym grouped) short) alike₁ alike₂
        (unbroken_joined one two one_whole two_whole))

    pub right_grouping : Joins one_then_two.count all one_then_two then_both
    right_grouping = two_evenings b one (two ++ three) room right₁ right₂ shaped short alike₃ alike₄ one_whole

    pub either_grouping : Agree two_then_one.count two_then_one then_third one_then_two.count one_then_two then_both
    either_grouping = either_way left_grouping right_grouping

  -- So do all three one after another.
  pub three_evenings : (room room₁ room₂ room₃ : List ℕ) → length room₁ ≡ length room → length room₂ ≡ length room → length room₃ ≡ length room
      → let first = evening b one room₁ in
      let second = evening first.bench two room₂ in
      let third = evening second.bench three room₃ in
      JoinsThree first.count (first.count + second.count) (evening b (one ++ (two ++ three)) room) first second third
  three_evenings room room₁ room₂ room₃ alike₁ alike₂ alike₃ =
      let first = evening b one room₁ in
      in_a_row
      (split b one (two ++ three) room room₁ room shaped short alike₁ refl one_whole)
      (split first.bench two three room room₂ room₃ (evening_stays b shaped one room₁).shaped (omega (arith, length-append one (two ++ three)))
      alike₂ alike₃ two_whole)

-- # Typed lists

-- The first text ends in a line feed (`ends_line`). No code 1, 2 or 3 occurs in a typed list, for all of its commands were read.
module _ (b : Bench) (one two room room₁ room₂ : List ℕ) (ends : ends_line one ≡ true) where
  abbrev typed_first : Evening
  typed_first = typed_evening b one room₁

  abbrev typed_second : Evening
  typed_second = typed_evening typed_first.bench two room₂

  abbrev typed_joined : Evening
  typed_joined = typed_evening b (one ++ two) room

  -- Where no run is refused, the rooms may have any length. The second one's numbers are raised by the number of the first one's lines.
  typed_split_accepted : typed_first.code ≡ 0 → typed_second.code ≡ 0 → typed_joined.code ≡ 0
      → Splits (length (lines_of one)) typed_joined typed_first typed_second
  typed_split_accepted first_done second_done joined_done =
      let all : CarriedOut b (line_numbers one ++ raised_by (length (lines_of one)) (line_numbers two)) (bytes_in one ++ bytes_in two) room typed_joined =
      subst (λ numbers. CarriedOut b numbers (bytes_in one ++ bytes_in two) room typed_joined) (numbers_joined one two ends)
      (subst (λ s. CarriedOut b (line_numbers (one ++ two)) s room typed_joined) (bytes_joined one two ends) (typed_carried b (one ++ two) room joined_done)) in
      splits (length (lines_of one)) (typed_unbroken one) (typed_carried b one room₁ first_done) (typed_carried typed_first.bench two room₂ second_done) all

  pub typed_accepted : typed_first.code ≡ 0 → typed_second.code ≡ 0 → typed_joined.code ≡ 0
      → Joins (length (lines_of one)) typed_joined typed_first typed_second
  typed_accepted first_done second_done joined_done = (typed_split_accepted first_done second_done joined_done).joins

  -- A text with a bad line is refused as a whole. Joined, the texts are refused for the first one's bad line, as that text is alone; where it has none,
  -- for the second one's, with its number raised. Of two evenings the first has been carried out by then.
  pub typed_bad_line : length (one ++ two) ≤ 32768
      → ((bad_line one).told.code ≢ 0 → (typed_of b [] (one ++ two) room).found ≡ (typed_of b [] one room₁).found)
      × ((bad_line one).told.code ≡ 0 → (bad_line two).told.code ≢ 0
      → (typed_of b [] (one ++ two) room).found ≡ raised_finding (length (lines_of one)) (typed_of typed_first.bench [] two room₂).found)
  typed_bad_line short =
      let long = length-append one two in
      let joined_found : (bad_line (one ++ two)).told.code ≢ 0 → (typed_of b [] (one ++ two) room).found ≡ _ =
      λ bad. bad_found b (one ++ two) room short bad ∙ bad_line_joined one two ends in (
        λ bad.
            joined_found (λ e. bad ((good_joined one two ends).0 e).0)
            ∙ rw (ne_eqb (bad_line one).told.code 0 bad) (sym (bad_found b one room₁ (omega arith) bad)),
        λ good bad.
            joined_found (λ e. bad ((good_joined one two ends).0 e).1)
            ∙ rw (eq-eqb (bad_line one).told.code 0 good)
            (ap (raised_finding (length (lines_of one))) (sym (bad_found typed_first.bench two room₂ (omega arith) bad))),
      )

  -- In rooms of the same length.
  module _ (shaped : Shaped b.store) (alike₁ : length room₁ ≡ length room) (alike₂ : length room₂ ≡ length room) where
    stays : Stays b typed_first.bench
    stays = typed_stays b shaped one room₁

    -- Where the joined run is accepted, neither part is refused;
    pub typed_neither_refused : typed_joined.code ≡ 0 → (typed_first.code ≡ 0) × (typed_second.code ≡ 0)
    typed_neither_refused done =
        let p = typed_runs.passed b [] (one ++ two) room done in
        let good = (good_joined one two ends).0 p.good in
        let text_long = length-append one two in
        let list_long = ap length (bytes_joined one two ends) ∙ length-append (bytes_in one) (bytes_in two) in
        let text_short = p.text_short in
        let list_short = p.list_short in
        let enough = p.enough in (
          typed_taken b one room₁ (omega arith) good.0 (omega arith) (omega arith) p.sound,
          typed_taken typed_first.bench two room₂ (omega arith) good.1 (omega arith) (omega arith) (stays.sound ∙ p.sound),
        )

    -- and where neither is, and both together are not too long, the joined run is accepted.
    pub typed_joined_accepted : length (one ++ two) ≤ 32768 → length (bytes_in (one ++ two)) ≤ 4096 → typed_first.code ≡ 0 → typed_second.code ≡ 0
        → typed_joined.code ≡ 0
    typed_joined_accepted text_short list_short first_done second_done =
        let p = typed_runs.passed b [] one room₁ first_done in
        let q = typed_runs.passed typed_first.bench [] two room₂ second_done in
        let enough = p.enough in
        typed_taken b (one ++ two) room text_short ((good_joined one two ends).1 (p.good, q.good)) list_short (omega arith) p.sound

    typed_split : typed_joined.code ≡ 0 → Splits (length (lines_of one)) typed_joined typed_first typed_second
    typed_split done =
        let parts = typed_neither_refused done in
        typed_split_accepted parts.0 parts.1 done

    pub typed_two_evenings : typed_joined.code ≡ 0 → Joins (length (lines_of one)) typed_joined typed_first typed_second
    typed_two_evenings done = (typed_split done).joins

-- Three texts, of which the first two end in a line feed.
module _ (b : Bench) (shaped : Shaped b.store) (one two three : List ℕ) (one_ends : ends_line one ≡ true) (two_ends : ends_line two ≡ true)
    (room : List ℕ) (done : (typed_evening b (one ++ (two ++ three)) room).code ≡ 0) where
  abbrev typed_all : Evening
  typed_all = typed_evening b (one ++ (two ++ three)) room

  module _ (left₁ left₂ right₁ right₂ : List ℕ) (alike₁ : length left₁ ≡ length room) (alike₂ : length left₂ ≡ length room)
      (alike₃ : length right₁ ≡ length room) (alike₄ : length right₂ ≡ length room) where
    abbrev typed_two_then_one : Evening
    typed_two_then_one = typed_evening b (one ++ two) left₁

    abbrev typed_then_third : Evening
    typed_then_third = typed_evening typed_two_then_one.bench three left₂

    abbrev typed_one_then_two : Evening
    typed_one_then_two = typed_evening b one right₁

    abbrev typed_then_both : Evening
    typed_then_both = typed_evening typed_one_then_two.bench (two ++ three) right₂

    pub typed_left_grouping : Joins (length (lines_of (one ++ two))) typed_all typed_two_then_one typed_then_third
    typed_left_grouping =
        let grouped = append_assoc one two three in
        subst (λ text. Joins (length (lines_of (one ++ two))) (typed_evening b text room) typed_two_then_one typed_then_third) grouped
        (typed_two_evenings b (one ++ two) three room left₁ left₂ (ends_joined one two two_ends) shaped alike₁ alike₂
        (subst (λ text. (typed_evening b text room).code ≡ 0) (sym grouped) done))

    pub typed_right_grouping : Joins (length (lines_of one)) typed_all typed_one_then_two typed_then_both
    typed_right_grouping = typed_two_evenings b one (two ++ three) room right₁ right₂ one_ends shaped alike₃ alike₄ done

    pub typed_either_grouping : Agree (length (lines_of (one ++ two))) typed_two_then_one typed_then_third
        (length (lines_of one)) typed_one_then_two typed_then_both
    typed_either_grouping = either_way typed_left_grouping typed_right_grouping

  pub typed_three_evenings : (room₁ room₂ room₃ : List ℕ) → length room₁ ≡ length room → length room₂ ≡ length room → length room₃ ≡ length room
      → let first = typed_evening b one room₁ in
      let second = typed_evening first.bench two room₂ in
      let third = typed_evening second.bench three room₃ in
      JoinsThree (length (lines_of one)) (length (lines_of one) + length (lines_of two)) typed_all first second third
  typed_three_evenings room₁ room₂ room₃ alike₁ alike₂ alike₃ =
      let first = typed_evening b one room₁ in
      let rest_done = (typed_neither_refused b one (two ++ three) room room₁ room one_ends shaped alike₁ refl done).1 in
      in_a_row
      (typed_split b one (two ++ three) room room₁ room one_ends shaped alike₁ refl done)
      (typed_split first.bench two three room room₂ room₃ two_ends (typed_stays b shaped one room₁).shaped alike₂ alike₃ rest_done)

-- # The conditions are needed

-- Of three runs none was refused. The first list's one record has this code, and the second list has one record too; but run joined they have one in all,
-- and the power is not as it is when they are run apart.
pub record Differ (code : ℕ) (apart : Bool) (joined first second : Evening) : Type 0 where
  pub accepted : (joined.code ≡ 0) × (first.code ≡ 0) × (second.code ≡ 0)
  pub ended : byte_at (record_at first.room 0) 1 ≡ code
  pub counts : (joined.count ≡ 1) × (first.count ≡ 1) × (second.count ≡ 1)
  pub power_apart : second.bench.camera.power ≡ apart
  pub power_joined : joined.bench.camera.power ≡ not apart

-- On a fresh bench, in any rooms that are large enough.
module _ (room room₁ room₂ : List ℕ) (enough : report_room ≤ length room) (enough₁ : report_room ≤ length room₁) (enough₂ : report_room ≤ length room₂) where
  differ : (code : ℕ) (apart : Bool) (one two : List ℕ) → length (one ++ two) ≤ 4096
      → length (rests (one ++ two)) ≡ 1 → length (rests one) ≡ 1 → length (rests two) ≡ 1
      → (taken fresh_bench (rest_at one 0)).told.code ≡ code
      → left_by fresh_bench (rests one) ≡ fresh_bench
      → ((latest : Latest) → (left_by (noting fresh_bench latest) (rests two)).camera.power ≡ apart)
      → (left_by fresh_bench (rests (one ++ two))).camera.power ≡ not apart
      → let first = evening fresh_bench one room₁ in
      Differ code apart (evening fresh_bench (one ++ two) room) first (evening first.bench two room₂)
  differ code apart one two short joined_many one_many two_many ended stays apart_is joined_is =
      let sizes = length-append one two in
      let first = evening fresh_bench one room₁ in
      let still = evening_stays fresh_bench fresh_sound.shaped one room₁ in
      let done = raw_accepted fresh_bench fresh_sound.sound (one ++ two) room short enough in
      let done₁ = raw_accepted fresh_bench fresh_sound.sound one room₁ (omega arith) enough₁ in
      let done₂ = raw_accepted first.bench (still.sound ∙ fresh_sound.sound) two room₂ (omega arith) enough₂ in
      let h = raw_carried fresh_bench (one ++ two) room done in
      let h₁ = raw_carried fresh_bench one room₁ done₁ in
      let h₂ = raw_carried first.bench two room₂ done₂ in
      let begun : first.bench ≡ noting fresh_bench first.bench.latest = left_by_lem h₁ ∙ ap (λ c. noting c first.bench.latest) stays in
      record {
        accepted = (done, done₁, done₂);
        ended = code_at h₁ 0 (omega arith) ∙ ended;
        counts = (h.count ∙ joined_many, h₁.count ∙ one_many, h₂.count ∙ two_many);
        power_apart =
            ap (λ (c : Bench). c.camera.power) (left_by_lem h₂)
            ∙ ap (λ c. (left_by c (rests two)).camera.power) begun
            ∙ apart_is first.bench.latest;
        power_joined = ap (λ (c : Bench). c.camera.power) (left_by_lem h) ∙ joined_is;
      }

  -- 01's "power on", split: behind its second word the first part has code 3, behind its first word it has code 1. What is left of it alone is no command, so
  -- the power stays off.
  pub code_3_differs : let one = bytes_of (0x01140003 ∷ 0x01000000 ∷ []) in
      let two = bytes_of (0x00140003 ∷ []) in
      let first = evening fresh_bench one room₁ in
      Differ 3 false (evening fresh_bench (one ++ two) room) first (evening first.bench two room₂)
  unfolding bytes_of sum_of read_of rests span_of taken applied_of
  code_3_differs =
      differ 3 false (bytes_of (0x01140003 ∷ 0x01000000 ∷ [])) (bytes_of (0x00140003 ∷ [])) (omega arith) refl refl refl refl refl (λ latest. refl) refl

  pub code_1_differs : let one = bytes_of (0x01140003 ∷ []) in
      let two = bytes_of (0x01000000 ∷ 0x00140003 ∷ []) in
      let first = evening fresh_bench one room₁ in
      Differ 1 false (evening fresh_bench (one ++ two) room) first (evening first.bench two room₂)
  unfolding bytes_of sum_of read_of rests span_of taken applied_of
  code_1_differs =
      differ 1 false (bytes_of (0x01140003 ∷ [])) (bytes_of (0x01000000 ∷ 0x00140003 ∷ [])) (omega arith) refl refl refl refl refl (λ latest. refl) refl

  -- A length of 1, which has code 2 and ends its list, and then "power on", which is not reached in one list.
  pub code_2_differs : let one = bytes_of (0x01140001 ∷ 0x01140001 ∷ []) in
      let two = bytes_of (0x01140003 ∷ 0x01000000 ∷ 0x00140003 ∷ []) in
      let first = evening fresh_bench one room₁ in
      Differ 2 true (evening fresh_bench (one ++ two) room) first (evening first.bench two room₂)
  unfolding bytes_of sum_of read_of rests span_of taken applied_of
  code_2_differs =
      differ 2 true (bytes_of (0x01140001 ∷ 0x01140001 ∷ [])) (bytes_of (0x01140003 ∷ 0x01000000 ∷ 0x00140003 ∷ [])) (omega arith) refl refl refl refl refl
      (λ latest. refl) refl

-- So these are not two evenings joined.
pub differ_apart : {code by : ℕ} {apart : Bool} {joined first second : Evening} → Differ code apart joined first second → Joins by joined first second → ⊥
differ_apart d j = absurd (omega (arith, d.counts.0, d.counts.1, d.counts.2, j.count))

-- A first text without a line feed at its end: both texts are taken, and the line that they share when they are joined is a bad one.
pub line_feed_needed : (room room₁ room₂ : List ℕ) → report_room ≤ length room₁ → report_room ≤ length room₂
    → let one = ascii "img_pwr 1" in
    let two = ascii "tlm_flush\n" in
    let first = typed_evening fresh_bench one room₁ in
    (first.code ≡ 0) × ((typed_evening first.bench two room₂).code ≡ 0) × ((typed_evening fresh_bench (one ++ two) room).code ≡ 31)
unfolding typed_of typed_found first_found line_findings lines_of words_of same_text digits_in whole_of form_named typed_as line_of commands_in list_bytes command_bytes
    bytes_of sum_of judge_code
line_feed_needed room room₁ room₂ enough₁ enough₂ =
    let one = ascii "img_pwr 1" in
    let two = ascii "tlm_flush\n" in
    let first = typed_evening fresh_bench one room₁ in
    let one_bytes : length (bytes_in one) ≡ 12 = refl in
    let two_bytes : length (bytes_in two) ≡ 8 = refl in
    let still_sound = (typed_stays fresh_bench fresh_sound.shaped one room₁).sound ∙ fresh_sound.sound in (
      typed_taken fresh_bench one room₁ (omega arith) refl (omega arith) enough₁ fresh_sound.sound,
      typed_taken first.bench two room₂ (omega arith) refl (omega arith) enough₂ still_sound,
      refl,
    )
