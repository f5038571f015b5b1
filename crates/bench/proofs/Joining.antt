-- What 02's Q-12 rests on: commands behind others leave and record what they do when all of them stand in one list, whatever the latest run was and
-- whatever bytes follow a whole command; and records whose numbers are raised. Of evenings it says what one that was carried out left.
use Prim.Native.Nat.{ℕ, suc, ◌+◌, ◌*◌, ◌≤◌, ◌<◌}
use mathlib.Core.Path.{◌≡◌, refl, sym, ap, ap₂, ◌∙◌}
use mathlib.Core.Logic.{◌↔◌}
use mathlib.Core.List.{List, [], ◌∷◌, ◌++◌}
use mathlib.Core.Bool.{Bool, true, false, cond, ◌&&◌, ◌||◌, true≢false}
use native.Mathlib.Omega.{arith}
use lib.ListN.{length, take, drop, length-map}
use lib.Seq.{take_at}
use lib.Dec.{eqb, ltb}
use borrow.Author.Tests.{ne_eqb}
use Rattle.words.specs.BigEndian.{byte_at, word_at, written}
use Rattle.words.specs.Codes.{Check, ◌when◌, first_of}
use Rattle.words.proofs.Laws.{with_room}
use Rattle.words.proofs.Order.{lacks, code_lacked}
use Rattle.words.proofs.Tests as tests
use Rattle.wire.specs.declared.table.Form.{Form}
use Rattle.std.specs.Prelude.{Option, Some, None}
use Rattle.wire.specs.Table.{rule_of}
use Rattle.wire.specs.declared.judging.Told.{Told}
use Rattle.wire.specs.Read.{opcode_of, flag_of, length_of, third_word, sum_differs, decode_checks, whole_checks, reach_code, said}
use Rattle.wire.proofs.Answers.{reaches}
use Rattle.wire.proofs.Local.{reads_on}
use Rattle.walk.specs.Walk.{rests, all_reach, unbroken}
use Rattle.walk.proofs.Joined.{each_then, reach_both, rests_joined, joined_count}
use Rattle.text.specs.Assemble.{bytes_in, line_numbers}
use Rattle.text.proofs.Joined.{raised_by, raised_append}
use Rattle.report.specs.declared.Latest.{Latest}
use Rattle.report.specs.Record.{record_length}
use Rattle.bench.specs.declared.Bench.{Bench}
use Rattle.bench.specs.Carry.{Outcome, effect_of, state_checks, bytes_checks, taken}
use Rattle.bench.specs.Run.{Listed, record_of, numbers_from, own_numbers, run_rests, run_list, kit_part, noting, ended_with, report_with}
use Rattle.bench.specs.Evenings.{Evening, evening, typed_evening, records_in, raised_record, raised, raised_in, Joins, Agree, JoinsThree, ends_list}
use Rattle.bench.proofs.InTurn.{left_by, list_leaves, own_even, typed_even}
use Rattle.bench.proofs.Own.{same_reading}
use Rattle.bench.proofs.Listing.{records_long, record_within}
use Rattle.bench.proofs.Report as raw
use Rattle.bench.proofs.TypedReport as typed

-- What becomes of a command does not hang on the numbers of the latest run, and it leaves these; so commands in turn.
taken-noting : (b : Bench) (latest : Latest) (s : List ℕ)
    → taken (noting b latest) s ≡ record { told = (taken b s).told; bench = noting (taken b s).bench latest }
unfolding taken
taken-noting b latest s = ap (λ c. record { told = (taken b s).told; bench = c }) (go (eqb (first_of (bytes_checks b s)) 0))
  where
    go : (accepted : Bool) → cond accepted (effect_of (noting b latest) (said s)) (noting b latest) ≡ noting (cond accepted (effect_of b (said s)) b) latest
    go true = refl
    go false = refl

pub list_noting : (b : Bench) (latest : Latest) (sender : ℕ) (numbers : List ℕ) (rs : List (List ℕ))
    → run_rests (noting b latest) sender numbers rs
    ≡ record { bench = noting (run_rests b sender numbers rs).bench latest; records = (run_rests b sender numbers rs).records }
unfolding run_rests
list_noting b latest sender [] rs = refl
list_noting b latest sender (number ∷ numbers) [] = refl
list_noting b latest sender (number ∷ numbers) (r ∷ rs) =
    let told = (taken b r).told in
    let after : Outcome → Listed = λ o.
    let later = run_rests o.bench sender numbers rs in
    record { bench = later.bench; records = record_of sender o.told number ++ later.records } in
    ap after (taken-noting b latest r)
    ∙ ap (λ (l : Listed). record { bench = l.bench; records = record_of sender told number ++ l.records })
    (list_noting (taken b r).bench latest sender numbers rs)

-- Nor does it hang on bytes that follow a whole command. So commands of which none has code 1, 2 or 3, with the same bytes behind each, and then others:
-- these go on from the bench that those left, and their records stand behind.
followed : (b : Bench) (r t : List ℕ) → reach_code r ≡ 0 → taken b (r ++ t) ≡ taken b r
followed b r t passed = same_reading b (r ++ t) r (reads_on r t (reaches r passed))

abbrev both : Listed → Listed → Listed
both first second = record { bench = second.bench; records = first.records ++ second.records }

runs_on : (b : Bench) (sender : ℕ) (ms ns t : List ℕ) (rs ts : List (List ℕ)) → length ms ≡ length rs → all_reach rs ≡ true
    → let first = run_rests b sender ms rs in
    run_rests b sender (ms ++ ns) (each_then t rs ++ ts) ≡ both first (run_rests first.bench sender ns ts)
unfolding run_rests
runs_on b sender [] ns t [] ts even whole = refl
runs_on b sender [] ns t (r ∷ rs) ts even whole = absurd (omega arith)
runs_on b sender (m ∷ ms) ns t [] ts even whole = absurd (omega arith)
runs_on b sender (m ∷ ms) ns t (r ∷ rs) ts even whole =
    let parts = reach_both r rs whole in
    let told = (taken b r).told in
    let after : Outcome → Listed = λ o.
    let later = run_rests o.bench sender (ms ++ ns) (each_then t rs ++ ts) in
    record { bench = later.bench; records = record_of sender o.told m ++ later.records } in
    ap after (followed b r t parts.0)
    ∙ ap (λ (l : Listed). record { bench = l.bench; records = record_of sender told m ++ l.records })
    (runs_on (taken b r).bench sender ms ns t rs ts (omega arith) parts.1)

list_joined : (b : Bench) (sender : ℕ) (ms ns s t : List ℕ) → length ms ≡ length (rests s) → unbroken s ≡ true
    → let first = run_list b sender ms s in
    run_list b sender (ms ++ ns) (s ++ t) ≡ both first (run_list first.bench sender ns t)
list_joined b sender ms ns s t even whole =
    ap (run_rests b sender (ms ++ ns)) (rests_joined s t whole) ∙ runs_on b sender ms ns t (rests s) (rests t) even whole

-- Records with raised numbers are those of the same commands with raised numbers, wherever they stand at the front of a room.
raised_record_lem : (by sender : ℕ) (told : Told) (number : ℕ) → raised_record by (record_of sender told number) ≡ record_of sender told (number + by)
raised_record_lem by sender told number = ap (λ n. record_of sender told (n + by)) (raw.record_carries sender told number).number

raised_records : (by : ℕ) (b : Bench) (sender : ℕ) (numbers : List ℕ) (rs : List (List ℕ)) (beyond : List ℕ) → length numbers ≡ length rs
    → raised by (length rs) ((run_rests b sender numbers rs).records ++ beyond) ≡ (run_rests b sender (raised_by by numbers) rs).records
unfolding run_rests
raised_records by b sender [] [] beyond even = refl
raised_records by b sender [] (r ∷ rs) beyond even = absurd (omega arith)
raised_records by b sender (number ∷ numbers) [] beyond even = absurd (omega arith)
raised_records by b sender (number ∷ numbers) (r ∷ rs) beyond even =
    let told = (taken b r).told in
    let later = (run_rests (taken b r).bench sender numbers rs).records in
    ap (λ l. l ++ raised by (length rs) (later ++ beyond)) (raised_record_lem by sender told number)
    ∙ ap (λ l. record_of sender told (number + by) ++ l) (raised_records by (taken b r).bench sender numbers rs beyond (omega arith))

raised_twice : (by more : ℕ) (numbers : List ℕ) → raised_by more (raised_by by numbers) ≡ raised_by (by + more) numbers
raised_twice by more [] = refl
raised_twice by more (n ∷ ns) = ap₂ ◌∷◌ sum (raised_twice by more ns)
  where
    sum : n + by + more ≡ n + (by + more)
    sum = omega arith

-- The numbers of two lists joined: the first one's own, and the second one's raised.
numbers_raised : (by number : ℕ) (rs : List (List ℕ)) → numbers_from (number + by) rs ≡ raised_by by (numbers_from number rs)
numbers_raised by number [] = refl
numbers_raised by number (r ∷ rs) =
    ap (λ n. (number + by) ∷ numbers_from n rs) next ∙ ap (λ l. (number + by) ∷ l) (numbers_raised by (number + 1) rs)
  where
    next : number + by + 1 ≡ number + 1 + by
    next = omega arith

numbers_on : (number : ℕ) (t : List ℕ) (rs ts : List (List ℕ))
    → numbers_from number (each_then t rs ++ ts) ≡ numbers_from number rs ++ numbers_from (number + length rs) ts
numbers_on number t [] ts = ap (λ n. numbers_from n ts) none
  where
    none : number ≡ number + 0
    none = omega arith
numbers_on number t (r ∷ rs) ts =
    ap (λ l. number ∷ l) (numbers_on (number + 1) t rs ts)
    ∙ ap (λ n. number ∷ (numbers_from (number + 1) rs ++ numbers_from n ts)) (next number rs)
  where
    next : (number : ℕ) (rs : List (List ℕ)) → number + 1 + length rs ≡ number + suc (length rs)
    next number rs = omega arith

pub own_joined : (s t : List ℕ) → unbroken s ≡ true → own_numbers (s ++ t) ≡ own_numbers s ++ raised_by (length (rests s)) (own_numbers t)
own_joined s t whole =
    ap (numbers_from 1) (rests_joined s t whole)
    ∙ numbers_on 1 t (rests s) (rests t)
    ∙ ap (λ l. own_numbers s ++ l) (numbers_raised (length (rests s)) 1 (rests t))

-- A command ends its list exactly where its record says so: the rows behind 1, 2 and 3 have other codes.
abbrev lacks_all : List Check → Bool
lacks_all cs = lacks 1 cs && (lacks 2 cs && lacks 3 cs)

other_codes : (b : Bench) (s : List ℕ) → lacks_all (whole_checks s (length_of s) ++ state_checks b (said s)) ≡ true
other_codes b s = go (rule_of (opcode_of s))
  where
    rows : Option (Form × ℕ) → List Check
    rows found = 4 when sum_differs s (length_of s) ∷ decode_checks found (flag_of s) (length_of s) (word_at s 4) (third_word s (length_of s))

    go : (found : Option (Form × ℕ)) → lacks_all (rows found ++ state_checks b (said s)) ≡ true
    go (Some (form, length)) = refl
    go None = refl

no_end : (cs : List Check) → lacks_all cs ≡ true → ends_list (first_of cs) ≡ false
no_end cs all =
    let parts = tests.both (lacks 1 cs) (lacks 2 cs && lacks 3 cs) all in
    let later = tests.both (lacks 2 cs) (lacks 3 cs) parts.1 in
    rw (
      ne_eqb (first_of cs) 1 (code_lacked 1 cs parts.0 (λ e. omega arith)),
      ne_eqb (first_of cs) 2 (code_lacked 2 cs later.0 (λ e. omega arith)),
      ne_eqb (first_of cs) 3 (code_lacked 3 cs later.1 (λ e. omega arith)),
    )

pub reach_told : (b : Bench) (s : List ℕ) → (reach_code s ≡ 0) ↔ (ends_list (taken b s).told.code ≡ false)
unfolding taken
reach_told b s =
    go (ltb (length s) 8) (ltb (length_of s) 2 || ltb 32 (length_of s)) (ltb (length s) (length_of s * 4)) (whole_checks s (length_of s) ++ state_checks b (said s))
    (no_end (whole_checks s (length_of s) ++ state_checks b (said s)) (other_codes b s))
  where
    code : Bool → Bool → Bool → List Check → ℕ
    code few out cut behind = first_of (1 when few ∷ 2 when out ∷ 3 when cut ∷ behind)

    go : (few out cut : Bool) (behind : List Check) → ends_list (first_of behind) ≡ false
        → (code few out cut [] ≡ 0) ↔ (ends_list (code few out cut behind) ≡ false)
    go true out cut behind other = (λ e. absurd (omega arith), λ e. absurd (true≢false e))
    go false true cut behind other = (λ e. absurd (omega arith), λ e. absurd (true≢false e))
    go false false true behind other = (λ e. absurd (omega arith), λ e. absurd (true≢false e))
    go false false false behind other = (λ e. other, λ e. refl)

-- An evening that was carried out: a list of commands, with the numbers of their records.
pub record CarriedOut (b : Bench) (numbers s lent : List ℕ) (e : Evening) : Type 0 where
  pub even : length numbers ≡ length (rests s)
  pub bench : e.bench ≡ noting (run_list b 2 numbers s).bench e.bench.latest
  pub count : e.count ≡ length (rests s)
  pub room : let records = (run_list b 2 numbers s).records in e.room ≡ records ++ drop (length records) lent

-- A kit's list that is empty has no part in it.
no_kit : (b : Bench) → kit_part b [] ≡ record { bench = b; records = [] }
unfolding rests run_rests
no_kit b = refl

carried_out : (b : Bench) (numbers s room : List ℕ) (e : Evening) → length numbers ≡ length (rests s) → e.bench ≡ ended_with b [] numbers s
    → e.count ≡ length (rests s) → e.room ≡ written (report_with b [] numbers s) room → length (report_with b [] numbers s) ≤ length room
    → CarriedOut b numbers s room e
carried_out b numbers s room e even bench_is count_is room_is fits =
    record {
      even = even;
      bench = rw bench_is (ap (λ (l : Listed). noting (run_list l.bench 2 numbers s).bench (ended_with b [] numbers s).latest) (no_kit b));
      count = count_is;
      room =
          room_is
          ∙ with_room (report_with b [] numbers s) room fits
          ∙ ap (λ (l : Listed). let records = l.records ++ (run_list l.bench 2 numbers s).records in records ++ drop (length records) room) (no_kit b);
    }

pub raw_carried : (b : Bench) (s room : List ℕ) → (evening b s room).code ≡ 0 → CarriedOut b (own_numbers s) s room (evening b s room)
raw_carried b s room accepted =
    carried_out b (own_numbers s) s room (evening b s room) (own_even s) (raw.bench_after b [] s room accepted) (raw.pupil_count b [] s room accepted)
    (raw.room_is b [] s room accepted) (raw.fits b [] s room accepted)

pub typed_carried : (b : Bench) (text room : List ℕ) → (typed_evening b text room).code ≡ 0
    → CarriedOut b (line_numbers text) (bytes_in text) room (typed_evening b text room)
typed_carried b text room accepted =
    carried_out b (line_numbers text) (bytes_in text) room (typed_evening b text room) (typed_even text) (typed.bench_after b [] text room accepted)
    (typed.pupil_count b [] text room accepted) (typed.room_is b [] text room accepted) (typed.fits b [] text room accepted)

-- Its records stand at the front of its room.
module _ {b : Bench} {numbers s room : List ℕ} {e : Evening} (h : CarriedOut b numbers s room e) where
  records_are : records_in e ≡ (run_list b 2 numbers s).records
  records_are =
      let records = (run_list b 2 numbers s).records in
      let beyond = drop (length records) room in
      ap (λ l. take (record_length * e.count) l) h.room
      ∙ take_at records beyond (record_length * e.count) (omega (arith, records_long b 2 numbers (rests s) h.even, h.count))

  -- It leaves the bench that its commands leave.
  pub left_by_lem : e.bench ≡ noting (left_by b (rests s)) e.bench.latest
  left_by_lem = h.bench ∙ ap (λ c. noting c e.bench.latest) (list_leaves b 2 numbers (rests s) h.even)

  -- The code in a record.
  pub code_at : (k : ℕ) → k < length (rests s) → byte_at (raw.record_at e.room k) 1 ≡ (taken (raw.bench_at b s k) (raw.rest_at s k)).told.code
  code_at k there =
      let records = (run_list b 2 numbers s).records in
      let beyond = drop (length records) room in
      ap (λ l. byte_at l 1)
      (ap (λ l. raw.record_at l k) h.room
      ∙ record_within records beyond (record_length * k) (omega (arith, records_long b 2 numbers (rests s) h.even))
      ∙ raw.numbered_record b 2 numbers (rests s) h.even k there)

  raised_are : (by : ℕ) → raised_in by e ≡ (run_list b 2 (raised_by by numbers) s).records
  raised_are by =
      let records = (run_list b 2 numbers s).records in
      let beyond = drop (length records) room in
      ap (λ n. raised by n e.room) h.count
      ∙ ap (raised by (length (rests s))) h.room
      ∙ raised_records by b 2 numbers (rests s) beyond h.even

-- One evening is two joined, and stays so with all numbers raised once more.
pub record Splits (by : ℕ) (joined first second : Evening) : Type 0 where
  pub joins : Joins by joined first second
  pub raised : (more : ℕ) → raised_in more joined ≡ raised_in more first ++ raised_in (by + more) second

-- So where a list is two lists joined, and none of codes 1, 2 and 3 occurs in the first, its evening is those of both joined.
module _ {b : Bench} {ms ns s t room room₁ room₂ : List ℕ} {joined first second : Evening} (by : ℕ) (whole : unbroken s ≡ true)
    (one : CarriedOut b ms s room₁ first) (two : CarriedOut first.bench ns t room₂ second)
    (all : CarriedOut b (ms ++ raised_by by ns) (s ++ t) room joined) where
  abbrev there : Bench
  there = (run_list b 2 ms s).bench

  later : (numbers : List ℕ) → run_list first.bench 2 numbers t
      ≡ record { bench = noting (run_list there 2 numbers t).bench first.bench.latest; records = (run_list there 2 numbers t).records }
  later numbers = ap (λ c. run_list c 2 numbers t) one.bench ∙ list_noting there first.bench.latest 2 numbers (rests t)

  join : run_list b 2 (ms ++ raised_by by ns) (s ++ t) ≡ both (run_list b 2 ms s) (run_list there 2 (raised_by by ns) t)
  join = list_joined b 2 ms (raised_by by ns) s t one.even whole

  -- The bench that both lists leave: the numbers of the second one's records do not matter to it.
  abbrev left : Bench
  left = left_by there (rests t)

  raised_even : length (raised_by by ns) ≡ length (rests t)
  raised_even = length-map ns (λ n. n + by) ∙ two.even

  joined_left : joined.bench ≡ noting left joined.bench.latest
  joined_left =
      all.bench
      ∙ ap (λ (l : Listed). noting l.bench joined.bench.latest) join
      ∙ ap (λ c. noting c joined.bench.latest) (list_leaves there 2 (raised_by by ns) (rests t) raised_even)

  second_left : second.bench ≡ noting left second.bench.latest
  second_left =
      two.bench
      ∙ ap (λ (l : Listed). noting l.bench second.bench.latest) (later ns)
      ∙ ap (λ c. noting c second.bench.latest) (list_leaves there 2 ns (rests t) two.even)

  joined_joins : Joins by joined first second
  joined_joins =
      record {
        state = (
          ap (λ (c : Bench). c.camera) joined_left ∙ sym (ap (λ (c : Bench). c.camera) second_left),
          ap (λ (c : Bench). c.store) joined_left ∙ sym (ap (λ (c : Bench). c.store) second_left),
        );
        count = omega (arith, all.count, one.count, two.count, joined_count s t whole);
        records =
            records_are all
            ∙ ap (λ (l : Listed). l.records) join
            ∙ ap (λ l. l ++ (run_list there 2 (raised_by by ns) t).records) (sym (records_are one))
            ∙ ap (λ l. records_in first ++ l) (sym (ap (λ (l : Listed). l.records) (later (raised_by by ns))))
            ∙ ap (λ l. records_in first ++ l) (sym (raised_are two by));
      }

  -- With all numbers raised once more.
  joins_raised : (more : ℕ) → raised_in more joined ≡ raised_in more first ++ raised_in (by + more) second
  joins_raised more =
      raised_are all more
      ∙ ap (λ numbers. (run_list b 2 numbers (s ++ t)).records) numbers_are
      ∙ ap (λ (l : Listed). l.records) (list_joined b 2 (raised_by more ms) later_numbers s t first_even whole)
      ∙ ap (λ c. (run_list b 2 (raised_by more ms) s).records ++ (run_list c 2 later_numbers t).records) same_bench
      ∙ ap (λ l. (run_list b 2 (raised_by more ms) s).records ++ l) (sym (ap (λ (l : Listed). l.records) (later later_numbers)))
      ∙ sym (ap₂ ◌++◌ (raised_are one more) (raised_are two (by + more)))
    where
      later_numbers : List ℕ
      later_numbers = raised_by (by + more) ns

      numbers_are : raised_by more (ms ++ raised_by by ns) ≡ raised_by more ms ++ later_numbers
      numbers_are = raised_append more ms (raised_by by ns) ∙ ap (λ l. raised_by more ms ++ l) (raised_twice by more ns)

      first_even : length (raised_by more ms) ≡ length (rests s)
      first_even = length-map ms (λ n. n + more) ∙ one.even

      same_bench : (run_list b 2 (raised_by more ms) s).bench ≡ there
      same_bench = list_leaves b 2 (raised_by more ms) (rests s) first_even ∙ sym (list_leaves b 2 ms (rests s) one.even)

  pub splits : Splits by joined first second
  splits = record { joins = joined_joins; raised = joins_raised }

-- Evenings that were refused, which leave the bench and record nothing, are joined too.
pub none_split : (by : ℕ) (b : Bench) (joined first second : Evening) → joined.bench ≡ b → first.bench ≡ b → second.bench ≡ first.bench
    → joined.count ≡ 0 → first.count ≡ 0 → second.count ≡ 0 → Splits by joined first second
none_split by b joined first second joined_left first_left second_left joined_none first_none second_none =
    let same : joined.bench ≡ second.bench = joined_left ∙ sym (second_left ∙ first_left) in
    record {
      joins =
          record {
            state = (ap (λ (c : Bench). c.camera) same, ap (λ (c : Bench). c.store) same);
            count = omega (arith, joined_none, first_none, second_none);
            records = rw (joined_none, first_none, second_none);
          };
      raised = λ more. rw (joined_none, first_none, second_none);
    }

-- Three evenings: either grouping of them, and all three in a row.
pub either_way : {m n : ℕ} {joined x y u v : Evening} → Joins m joined x y → Joins n joined u v → Agree m x y n u v
either_way left right =
    record {
      state = (sym left.state.0 ∙ right.state.0, sym left.state.1 ∙ right.state.1);
      count = sym left.count ∙ right.count;
      records = sym left.records ∙ right.records;
    }

pub in_a_row : {m n : ℕ} {joined first rest second third : Evening} → Splits m joined first rest → Splits n rest second third
    → JoinsThree m (m + n) joined first second third
in_a_row {m} {n} {joined} {first} {rest} {second} {third} one two =
    let front = one.joins in
    let back = two.joins in
    record {
      state = (front.state.0 ∙ back.state.0, front.state.1 ∙ back.state.1);
      count = omega (arith, front.count, back.count);
      records =
          front.records
          ∙ ap (λ l. records_in first ++ l) (two.raised m)
          ∙ ap (λ k. records_in first ++ (raised_in m second ++ raised_in k third)) turned;
    }
  where
    turned : n + m ≡ m + n
    turned = omega arith
