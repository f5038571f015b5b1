-- Commands carried out one after another, as the code does it: those that are left, carried out from here, give what all of them give from the first.
-- The laws: the start, a turn, and the end. The bench stays sound on the way, and the tally that judges true of it. Where the commands come from
-- is in `Sources`.
use Prim.Native.Nat.{ℕ, ◌+◌, ◌*◌, ◌-◌, ◌≤◌, ◌<◌}
use mathlib.Core.Path.{◌≡◌, refl, sym, ap, ◌∙◌, subst}
use mathlib.Core.List.{List, [], ◌∷◌, ◌++◌, append_assoc}
use native.Mathlib.Omega.{arith}
use lib.ListN.{length, take, drop, length-append, length-drop, take-append-drop}
use lib.Seq.{length-take-le, take-append-le, drop-append-le, take_at, drop_at, drop-drop}
use borrow.Rule.Slice.PartMut.{put_mid}
use Rattle.std.specs.Prelude.{Option, Some, None, Result, Ok, Err}
use Rattle.words.specs.BigEndian.{written}
use Rattle.words.proofs.Laws.{with_room, part_written}
use Rattle.wire.specs.declared.kinds.Command.{Command}
use Rattle.wire.specs.declared.judging.Refusal.{Refusal}
use Rattle.wire.specs.Read.{Answer, answer_of, read_of}
use Rattle.report.specs.Record.{record_length}
use Rattle.store.specs.declared.tally.Tally.{Tally}
use Rattle.store.specs.TallySteps.{store_of, pool_after, Tallied}
use Rattle.bench.specs.declared.Bench.{Bench}
use Rattle.bench.specs.declared.Works.{Works}
use Rattle.bench.specs.declared.Rejection.{Rejection}
use Rattle.bench.specs.Carry.{Outcome, taken}
use Rattle.bench.specs.Steps.{bench_of, works_after, AtWork, decision_of, decided_in, bench_by, tally_by, carried_by, GivesOne, Gives}
use Rattle.bench.specs.Run.{record_of, Listed, run_rests}
use Rattle.bench.proofs.Sound.{GoodBench, taken_good}
use Rattle.bench.proofs.ByTally.{taken_by, taken_tallied}

-- Bytes that are written in two goes, the others behind the first, are written as one.
pub written_both : (xs ys room : List ℕ) → length xs + length ys ≤ length room → written (xs ++ ys) room ≡ xs ++ written ys (drop (length xs) room)
written_both xs ys room fits =
    with_room (xs ++ ys) room (omega (arith, length-append xs ys))
    ∙ rw (with_room ys (drop (length xs) room) (omega (arith, length-drop (length xs) room)), drop-drop, length-append, append_assoc)

-- The bytes of a record, of a list that goes on.
pub record_within : (xs ys : List ℕ) (n : ℕ) → n + record_length ≤ length xs → take record_length (drop n (xs ++ ys)) ≡ take record_length (drop n xs)
record_within xs ys n fits =
    ap (take record_length) (drop-append-le n xs ys (omega arith)) ∙ take-append-le record_length (drop n xs) ys (omega (arith, length-drop n xs))

-- The records of so many commands take 12 bytes each.
pub records_long : (b : Bench) (sender : ℕ) (numbers : List ℕ) (rs : List (List ℕ)) → length numbers ≡ length rs
    → length (run_rests b sender numbers rs).records ≡ record_length * length rs
unfolding run_rests
records_long b sender [] [] even = refl
records_long b sender [] (r ∷ rs) even = absurd (omega arith)
records_long b sender (number ∷ numbers) [] even = absurd (omega arith)
records_long b sender (number ∷ numbers) (r ∷ rs) even = omega (arith, records_long (taken b r).bench sender numbers rs (omega arith))

-- Behind the first n of so many commands, with their records at the front of the room: the others, each as it finds the list, and the numbers of
-- their records give, from the bench that is at work here, the rest of what all of them give. It is sound, and its tally true of its macros.
pub record Behind (all : Listed) (many sender : ℕ) (room₀ room : List ℕ) (w : Works) (pool numbers : List ℕ) (rs : List (List ℕ)) (n : ℕ)
    : Type 0 where
  pub good : GoodBench (bench_of w pool)
  pub tallied : Tallied (store_of pool w.tally) w.tally
  pub same : length room ≡ length room₀
  pub even : length numbers ≡ length rs
  pub counted : n + length rs ≡ many
  pub state : (run_rests (bench_of w pool) sender numbers rs).bench ≡ all.bench
  pub records : take (n * record_length) room ++ written (run_rests (bench_of w pool) sender numbers rs).records (drop (n * record_length) room)
      ≡ written all.records room₀

-- The start.
pub start : (w : Works) (pool : List ℕ) (sender : ℕ) (numbers : List ℕ) (rs : List (List ℕ)) (room : List ℕ) → GoodBench (bench_of w pool)
    → Tallied (store_of pool w.tally) w.tally → length numbers ≡ length rs
    → Behind (run_rests (bench_of w pool) sender numbers rs) (length rs) sender room room w pool numbers rs 0
start w pool sender numbers rs room good is even =
    record { good = good; tallied = is; same = refl; even = even; counted = omega arith; state = refl; records = refl }

-- A turn: what was decided of the next command is carried out, and its record is put behind the others, with the next number.
module _ {all : Listed} {many sender : ℕ} {room₀ room : List ℕ} {w : Works} {pool : List ℕ} {number : ℕ} {numbers r : List ℕ} {rs : List (List ℕ)}
    {n : ℕ}
    (behind : Behind all many sender room₀ room w pool (number ∷ numbers) (r ∷ rs) n)
    (fits : many * record_length ≤ length room₀) (decision : Result Command Rejection) {part : List ℕ}
    (decided : decision_of decision ≡ decided_in w.camera.power w.tally r)
    (put : part ≡ written (record_of sender (decision_of decision).told number) (take (length room - n * record_length) (drop (n * record_length) room))) where
  abbrev b : Bench
  b = bench_of w pool

  abbrev t : Tally
  t = w.tally

  module _ {after : Works} {left : List ℕ}
      (bench_is : bench_of after left ≡ bench_by b t (decision_of decision).taken)
      (tally_is : after.tally ≡ tally_by t (decision_of decision).taken) where
    abbrev outcome : Outcome
    outcome = record { told = (decision_of decision).told; bench = bench_of after left }

    -- This is what becomes of the command by the store's own rows; it leaves a sound bench, and the tally true of it.
    took : outcome ≡ taken b r
    took =
        rw bench_is
        (ap (λ (a : Answer). carried_by b t a) decided ∙ taken_by b t behind.good behind.tallied r)

    good_after : GoodBench outcome.bench
    good_after = subst (λ (o : Outcome). GoodBench o.bench) (sym took) (taken_good b behind.good r)

    tallied_after : Tallied outcome.bench.store after.tally
    tallied_after =
        let is : after.tally ≡ tally_by t (decided_in w.camera.power t r).taken = tally_is ∙ ap (λ (a : Answer). tally_by t a.taken) decided in
        subst (λ (o : Outcome). Tallied o.bench.store after.tally) (sym took)
        (subst (Tallied (taken b r).bench.store) (sym is) (taken_tallied b t behind.good behind.tallied r))

    abbrev later : Listed
    later = run_rests outcome.bench sender numbers rs

    abbrev own : List ℕ
    own = record_of sender (decision_of decision).told number

    split : run_rests b sender (number ∷ numbers) (r ∷ rs) ≡ record { bench = later.bench; records = own ++ later.records }
    unfolding run_rests
    split = rw (← took)

    size : n * record_length + record_length + record_length * length rs ≤ length room
    size = omega (arith, behind.counted, behind.same)

    kept : length (take (n * record_length) room) ≡ n * record_length
    kept = length-take-le (n * record_length) room (omega (arith, size))

    front : length (take (n * record_length) room ++ own) ≡ (n + 1) * record_length
    front = omega (arith, length-append (take (n * record_length) room) own, kept)

    abbrev beyond : List ℕ
    beyond = drop record_length (drop (n * record_length) room)

    placed : put_mid (n * record_length) (length room - n * record_length) room part ≡ (take (n * record_length) room ++ own) ++ beyond
    placed =
        part_written (n * record_length) own room part (omega (arith, size)) put
        ∙ ap (λ l. take (n * record_length) room ++ l) (with_room own (drop (n * record_length) room) (omega (arith, size, length-drop (n * record_length) room)))
        ∙ sym (append_assoc (take (n * record_length) room) own beyond)

    all_written : written (own ++ later.records) (drop (n * record_length) room) ≡ own ++ written later.records beyond
    all_written =
        let long = records_long outcome.bench sender numbers rs (omega (arith, behind.even)) in
        written_both own later.records (drop (n * record_length) room) (omega (arith, size, length-drop (n * record_length) room))

    whole : length (put_mid (n * record_length) (length room - n * record_length) room part) ≡ length room
    whole =
        ap length placed
        ∙ length-append (take (n * record_length) room ++ own) beyond
        ∙ omega (arith, front, size, length-drop (n * record_length) room, length-drop record_length (drop (n * record_length) room))

    turn : Behind all many sender room₀ (put_mid (n * record_length) (length room - n * record_length) room part) after left numbers rs (n + 1)
    turn =
        record {
          good = good_after;
          tallied = tallied_after;
          same = whole ∙ behind.same;
          even = omega (arith, behind.even);
          counted = omega (arith, behind.counted);
          state = ap (λ (l : Listed). l.bench) (sym split) ∙ behind.state;
          records =
              let whole_front = take (n * record_length) room ++ own in
              rw (placed, take_at whole_front beyond ((n + 1) * record_length) front, drop_at whole_front beyond ((n + 1) * record_length) front)
              (append_assoc (take (n * record_length) room) own (written later.records beyond)
              ∙ ap (λ l. take (n * record_length) room ++ l) (sym all_written)
              ∙ ap (λ (l : Listed). take (n * record_length) room ++ written l.records (drop (n * record_length) room)) (sym split)
              ∙ behind.records);
        }

  -- The turn of a refused command, which leaves the bench and the tally,
  pub turn_refused : {rejection : Rejection} → decision ≡ Err rejection
      → Behind all many sender room₀ (put_mid (n * record_length) (length room - n * record_length) room part) w pool numbers rs (n + 1)
  turn_refused is =
      turn (ap (λ (d : Result Command Rejection). bench_by b t (decision_of d).taken) (sym is)) (ap (λ (d : Result Command Rejection). tally_by t (decision_of d).taken) (sym is))

  -- and that of an accepted one, which takes effect.
  pub turn_accepted : {c : Command} {after : Works} {left : List ℕ} → decision ≡ Ok c
      → after ≡ works_after w c → left ≡ pool_after pool t c
      → Behind all many sender room₀ (put_mid (n * record_length) (length room - n * record_length) room part) after left numbers rs (n + 1)
  turn_accepted is after_is left_is =
      turn
      (rw (after_is, left_is) (ap (λ (d : Result Command Rejection). bench_by b t (decision_of d).taken) (sym is)))
      (rw after_is (ap (λ (d : Result Command Rejection). tally_by t (decision_of d).taken) (sym is)))

-- The end: no command is left.
module _ {all : Listed} {many sender : ℕ} {room₀ room : List ℕ} {w : Works} {pool : List ℕ} {n : ℕ}
    (behind : Behind all many sender room₀ room w pool [] [] n) where
  bench_ended : bench_of w pool ≡ all.bench
  unfolding run_rests
  bench_ended = behind.state

  room_ended : room ≡ written all.records room₀
  unfolding run_rests
  room_ended =
      sym (take-append-drop (n * record_length) room)
      ∙ ap (λ l. take (n * record_length) room ++ l) (sym (with_room [] (drop (n * record_length) room) (omega arith)))
      ∙ behind.records

  at_work : AtWork w pool
  at_work = record { whole = behind.good.shaped.pool; sound = behind.good.sound; tallied = behind.tallied }

  pub all_ended : (bench_of w pool ≡ all.bench) × (((n ≡ many) × AtWork w pool) × (room ≡ written all.records room₀))
  all_ended = (bench_ended, ((omega (arith, behind.counted), at_work), room_ended))

-- What a source gives, known to be one or none.
pub given_next : {rs later : List (List ℕ)} {numbers later_numbers : List ℕ} {o : Option (ℕ × Result Command Refusal)} {next : ℕ × Result Command Refusal}
    → o ≡ Some next → Gives rs numbers o later later_numbers → GivesOne rs numbers next.0 next.1 later later_numbers
given_next {rs} {later} {numbers} {later_numbers} is gives = subst (λ p. Gives rs numbers p later later_numbers) is gives

pub given_none : {rs : List (List ℕ)} (later : List (List ℕ)) (numbers later_numbers : List ℕ) {o : Option (ℕ × Result Command Refusal)} → o ≡ None
    → Gives rs numbers o later later_numbers → rs ≡ []
given_none {rs} later numbers later_numbers is gives = subst (λ p. Gives rs numbers p later later_numbers) is gives

-- The same, as a source gives the commands: the next one, with its number and what it was read as, or none.
module _ {all : Listed} {many sender : ℕ} {room₀ room : List ℕ} {w : Works} {pool numbers later_numbers : List ℕ} {rs later : List (List ℕ)} {n : ℕ}
    (behind : Behind all many sender room₀ room w pool numbers rs n) where
  module _ {number : ℕ} {read : Result Command Refusal} (given : GivesOne rs numbers number read later later_numbers) where
    next : Behind all many sender room₀ room w pool (number ∷ later_numbers) (given.rest ∷ later) n
    next =
        subst (λ ns. Behind all many sender room₀ room w pool ns (given.rest ∷ later) n) given.numbers_are
        (subst (λ xs. Behind all many sender room₀ room w pool numbers xs n) given.commands_are behind)

    pub one_less : length later < length rs
    one_less = omega (arith, ap length given.commands_are)

    module _ (fits : many * record_length ≤ length room₀) where
      -- Its record has room, and its place is one of so many.
      pub room_left : (n * record_length + record_length ≤ length room) × (n + 1 ≤ many)
      room_left = (omega (arith, next.counted, next.same), omega (arith, next.counted))

      module _ (decision : Result Command Rejection) {part : List ℕ}
          (decided : (s : List ℕ) → answer_of read ≡ read_of s → decision_of decision ≡ decided_in w.camera.power w.tally s)
          (put : part ≡ written (record_of sender (decision_of decision).told number) (take (length room - n * record_length) (drop (n * record_length) room))) where
        pub given_refused : {rejection : Rejection} → decision ≡ Err rejection
            → Behind all many sender room₀ (put_mid (n * record_length) (length room - n * record_length) room part) w pool later_numbers later (n + 1)
        given_refused is = turn_refused next fits decision (decided given.rest given.reads) put is

        pub given_accepted : {c : Command} {after : Works} {left : List ℕ} → decision ≡ Ok c → after ≡ works_after w c → left ≡ pool_after pool w.tally c
            → Behind all many sender room₀ (put_mid (n * record_length) (length room - n * record_length) room part) after left later_numbers later (n + 1)
        given_accepted is after_is left_is = turn_accepted next fits decision (decided given.rest given.reads) put is after_is left_is

-- It gives none: so none is left.
module _ {all : Listed} {many sender : ℕ} {room₀ room : List ℕ} {w : Works} {pool numbers : List ℕ} {rs : List (List ℕ)} {n : ℕ}
    (behind : Behind all many sender room₀ room w pool numbers rs n) where
  pub none_given : rs ≡ [] → (bench_of w pool ≡ all.bench) × (((n ≡ many) × AtWork w pool) × (room ≡ written all.records room₀))
  none_given none =
      let no_number : numbers ≡ [] = empty numbers (behind.even ∙ ap length none) in
      all_ended
      (subst (λ ns. Behind all many sender room₀ room w pool ns [] n) no_number
      (subst (λ xs. Behind all many sender room₀ room w pool numbers xs n) none behind))
    where
      empty : (ns : List ℕ) → length ns ≡ 0 → ns ≡ []
      empty [] e = refl
      empty (m ∷ ms) e = absurd (omega arith)
