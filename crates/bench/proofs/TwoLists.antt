-- A whole run, from what the code finds: what a refused run leaves, and that the records of both lists, the pupil's put behind the kit's, are the
-- report put as one.
use Prim.Native.Nat.{ℕ, ◌+◌, ◌*◌, ◌-◌, ◌≤◌, ◌<◌}
use mathlib.Core.Path.{◌≡◌, refl, sym, ap, ◌∙◌}
use mathlib.Core.List.{List, ◌++◌}
use mathlib.Core.Bool.{true, false}
use native.Mathlib.Omega.{arith}
use lib.ListN.{length, take, drop, length-append, length-drop}
use lib.Seq.{take_at, drop_at}
use lib.Dec.{eqb}
use borrow.Rule.Slice.PartMut.{put_mid}
use borrow.Author.Tests.{lt-ltb, le-ltb}
use Rattle.std.specs.Prelude.{Result, Ok, Err}
use Rattle.report.specs.Record.{record_length, report_room}
use Rattle.words.specs.BigEndian.{written}
use Rattle.words.proofs.Laws.{with_room, part_written}
use Rattle.walk.specs.Walk.{rests}
use Rattle.walk.proofs.Rests.{rests_512}
use Rattle.walk.proofs.Turns.{from_place}
use Rattle.bench.specs.declared.Bench.{Bench}
use Rattle.bench.specs.declared.lists.Ran.{Ran}
use Rattle.bench.specs.declared.lists.RunRefusal.{RunRefusal}
use Rattle.bench.specs.Status.{bench_sound}
use Rattle.bench.specs.Run.{Listed, numbers_from, own_numbers, run_rests, kit_part, ended_as, run_code, begun_code, ran_of, run_of, room_after}
use Rattle.bench.specs.Steps.{Even, pupil_by, ended_by, report_by, judged_code, judged_run, judged_room}
use Rattle.bench.proofs.InTurn.{own_even}
use Rattle.bench.proofs.Listing.{records_long, written_both}

-- A raw list from its start has its own numbers, which are even with its commands.
module _ (list : List ℕ) {left : List ℕ} {number : ℕ} (is : (left ≡ list) × (number ≡ 0)) where
  pub raw_even : length list ≤ 4096 → Even (numbers_from (number + 1) (rests left)) (rests left)
  raw_even short = rw (is.0, is.1) (own_even list, rests_512 list short)

-- The kit's list was carried out, with m records, and the records of both lists have room, whatever the pupil's numbers are.
pub record KitDone (b : Bench) (kit numbers : List ℕ) (rs : List (List ℕ)) (room : List ℕ) (m : ℕ) (b₁ : Bench) (room₁ : List ℕ) : Type 0 where
  pub even : length numbers ≡ length rs
  pub fits : (length (rests kit) + length rs) * record_length ≤ length room
  pub count : m ≡ length (rests kit)
  pub bench : b₁ ≡ (kit_part b kit).bench
  pub left : room₁ ≡ written (kit_part b kit).records room

-- So it is where it was read from its start and begun on that bench.
pub kit_done : {kit left : List ℕ} {number : ℕ} → (left ≡ kit) × (number ≡ 0) → length kit ≤ 4096 → {room : List ℕ} → report_room ≤ length room
    → {numbers : List ℕ} {rs : List (List ℕ)} → Even numbers rs → {b b₀ b₁ : Bench} {m : ℕ} {room₁ : List ℕ} → b₀ ≡ b
    → b₁ ≡ (run_rests b₀ 1 (numbers_from (number + 1) (rests left)) (rests left)).bench → m ≡ length (rests left)
    → room₁ ≡ written (run_rests b₀ 1 (numbers_from (number + 1) (rests left)) (rests left)).records room
    → KitDone b kit numbers rs room m b₁ room₁
kit_done {kit} {left} {number} is short {room} enough even {b} {b₀} b₀_is b₁_is m_is room₁_is =
    let part : run_rests b₀ 1 (numbers_from (number + 1) (rests left)) (rests left) ≡ kit_part b kit = rw (is.0, is.1, b₀_is) refl in
    record {
      even = even.0;
      fits = omega (arith, rests_512 kit short, even.1, enough);
      count = m_is ∙ ap (λ s. length (rests s)) is.0;
      bench = b₁_is ∙ ap (λ (l : Listed). l.bench) part;
      left = room₁_is ∙ ap (λ (l : Listed). written l.records room) part;
    }

module _ {b : Bench} {kit numbers : List ℕ} {rs : List (List ℕ)} {room : List ℕ} {m : ℕ} {b₁ : Bench} {room₁ : List ℕ}
    (done : KitDone b kit numbers rs room m b₁ room₁) where
  abbrev first : List ℕ
  first = (kit_part b kit).records

  first_long : length first ≡ m * record_length
  first_long = omega (arith, done.count, records_long b 1 (own_numbers kit) (rests kit) (own_even kit))

  first_put : room₁ ≡ first ++ drop (length first) room
  first_put = done.left ∙ with_room first room (omega (arith, done.fits, done.count, first_long))

  -- So the pupil's have room behind the kit's.
  pub rest_fits : (m + length rs) * record_length ≤ length room₁
  rest_fits =
      let long = ap length first_put ∙ length-append first (drop (length first) room) in
      omega (arith, long, done.fits, done.count, first_long, length-drop (length first) room)

  pub part_fits : length rs * record_length ≤ length (take (length room₁ - m * record_length) (drop (m * record_length) room₁))
  part_fits = rw (from_place room₁ (m * record_length)) (omega (arith, rest_fits, length-drop (m * record_length) room₁))

  -- The pupil's list was carried out then, in that part of the room.
  module _ {b₂ : Bench} {part : List ℕ} (b₂_is : b₂ ≡ ended_as (run_rests b₁ 2 numbers rs) (length rs))
      (part_is : part ≡ written (run_rests b₁ 2 numbers rs).records (take (length room₁ - m * record_length) (drop (m * record_length) room₁))) where
    abbrev second : List ℕ
    second = (pupil_by b kit numbers rs).records

    pub bench_left : b₂ ≡ ended_by b kit numbers rs
    bench_left = b₂_is ∙ ap (λ (b : Bench). ended_as (run_rests b 2 numbers rs) (length rs)) done.bench

    pupil_put : part ≡ written second (take (length room₁ - m * record_length) (drop (m * record_length) room₁))
    pupil_put =
        part_is
        ∙ ap (λ (b : Bench). written (run_rests b 2 numbers rs).records (take (length room₁ - m * record_length) (drop (m * record_length) room₁))) done.bench

    pub both_put : put_mid (m * record_length) (length room₁ - m * record_length) room₁ part ≡ written (report_by b kit numbers rs) room
    both_put =
        part_written (m * record_length) second room₁ part (omega (arith, rest_fits)) pupil_put
        ∙ rw (first_put, take_at first (drop (length first) room) (m * record_length) first_long, drop_at first (drop (length first) room) (m * record_length) first_long)
        (sym (written_both first second room (omega (arith, first_long, records_long (kit_part b kit).bench 2 numbers rs done.even))))

-- No refusal of a run has code 0.
begun_other : (refusal : RunRefusal) → eqb (begun_code refusal) 0 ≡ false
begun_other RunRefusal.ListTooLong = refl
begun_other RunRefusal.RoomTooSmall = refl
begun_other RunRefusal.Unsound = refl

-- A run whose lists were judged.
module _ (b : Bench) (kit numbers : List ℕ) (rs : List (List ℕ)) (room : List ℕ) where
  -- What it promises of its answer and of its room afterwards.
  abbrev pub Promise : Result Ran RunRefusal → List ℕ → Type 0
  Promise r left = (ran_of b r ≡ judged_run b kit numbers rs room) × (left ≡ judged_room b kit numbers rs room)

  -- A refused run: the bench and the room as they were, and counts of zero.
  refused_run : (refusal : RunRefusal) → judged_code b room ≡ begun_code refusal → Promise (Err refusal) room
  refused_run refusal code = rw (code, begun_other refusal) (refl, refl)

  pub room_small : length room < report_room → Promise (Err RunRefusal.RoomTooSmall) room
  room_small small = refused_run RunRefusal.RoomTooSmall (rw (lt-ltb (length room) report_room small))

  module _ (enough : report_room ≤ length room) where
    pub not_sound : bench_sound b ≡ false → Promise (Err RunRefusal.Unsound) room
    not_sound unsound = refused_run RunRefusal.Unsound (rw (le-ltb (length room) report_room enough, unsound))

    -- A run that was carried out.
    pub run_done : {m n : ℕ} {b₂ : Bench} {left : List ℕ} → bench_sound b ≡ true → m ≡ length (rests kit) → n ≡ length rs
        → b₂ ≡ ended_by b kit numbers rs → left ≡ written (report_by b kit numbers rs) room
        → Promise (Ok (record { bench = b₂; kit = m; pupil = n })) left
    run_done sound m_is n_is bench_is room_is =
        let code : judged_code b room ≡ 0 = rw (le-ltb (length room) report_room enough, sound) in
        (rw (code, bench_is, m_is, n_is), rw code room_is)

-- The run of two raw lists: one that is too long is refused, else it is such a run.
module _ (b : Bench) (kit pupil room : List ℕ) where
  abbrev pub RawPromise : Result Ran RunRefusal → List ℕ → Type 0
  RawPromise r left = (ran_of b r ≡ run_of b kit pupil room) × (left ≡ room_after b kit pupil room)

  too_long : run_code b kit pupil room ≡ 20 → RawPromise (Err RunRefusal.ListTooLong) room
  unfolding run_of room_after
  too_long code = rw code (refl, refl)

  pub kit_long : 4096 < length kit → RawPromise (Err RunRefusal.ListTooLong) room
  unfolding run_code
  kit_long long = too_long (rw (lt-ltb 4096 (length kit) long))

  module _ (short : length kit ≤ 4096) where
    pub pupil_long : 4096 < length pupil → RawPromise (Err RunRefusal.ListTooLong) room
    unfolding run_code
    pupil_long long = too_long (rw (le-ltb 4096 (length kit) short, lt-ltb 4096 (length pupil) long))

    pub raw_run : (r : Result Ran RunRefusal) {left front : List ℕ} {number : ℕ} → length pupil ≤ 4096 → (front ≡ pupil) × (number ≡ 0)
        → Promise b kit (numbers_from (number + 1) (rests front)) (rests front) room r left → RawPromise r left
    unfolding run_of room_after run_code
    raw_run r short_too is promise = rw (le-ltb 4096 (length kit) short, le-ltb 4096 (length pupil) short_too) (rw (is.0, is.1) at promise)
