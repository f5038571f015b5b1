-- 02, Q-12, "Two evenings or one": what an evening leaves, and when one evening is two of them joined.
use Rattle.std.specs.Prelude.{ℕ, zero, suc, ◌+◌, ◌*◌, ◌≡◌, List, [], ◌++◌, Bool, ◌||◌, take, drop, eqb}
use Rattle.words.specs.BigEndian.{word_at, word_bytes}
use Rattle.report.specs.Record.{record_length}
use Rattle.bench.specs.declared.Bench.{Bench}
use Rattle.bench.specs.Run.{run_of, room_after}
use Rattle.bench.specs.Typed.{typed_of, typed_room}

-- The code of the run's answer, the bench, how many records the pupil's list has, and the lent room, which has them at its front.
pub record Evening : Type 0 where
  pub code : ℕ
  pub bench : Bench
  pub count : ℕ
  pub room : List ℕ

-- The run of a pupil's list, raw or typed, behind "an empty kit list".
abbrev pub evening : Bench → List ℕ → List ℕ → Evening
evening b list room =
    let told = run_of b [] list room in
    record { code = told.code; bench = told.bench; count = told.pupil; room = room_after b [] list room }

abbrev pub typed_evening : Bench → List ℕ → List ℕ → Evening
typed_evening b text room =
    let told = typed_of b [] text room in
    record { code = told.found.told.code; bench = told.bench; count = told.pupil; room = typed_room b [] text room }

-- Its records, as they stand in the room.
abbrev pub records_in : Evening → List ℕ
records_in e = take (record_length * e.count) e.room

-- "B's numbers rise": a record's number is in its bytes 4 to 7; so of several records, one after another.
abbrev pub raised_record : ℕ → List ℕ → List ℕ
raised_record by bytes = take 4 bytes ++ word_bytes (word_at bytes 4 + by) ++ drop 8 bytes

abbrev pub raised : ℕ → ℕ → List ℕ → List ℕ
raised by zero bytes = []
raised by (suc count) bytes = raised_record by (take record_length bytes) ++ raised by count (drop record_length bytes)

abbrev pub raised_in : ℕ → Evening → List ℕ
raised_in by e = raised by e.count e.room

-- "Q-11's numbers of the latest run are not compared.": of the three fields of a bench the two others are, camera and store.
abbrev pub SameState : Bench → Bench → Type 0
SameState b c = (b.camera ≡ c.camera) × (b.store ≡ c.store)

-- One evening "gives the state and records" of two, "except that B's numbers rise" by so many.
pub record Joins (by : ℕ) (joined first second : Evening) : Type 0 where
  pub state : SameState joined.bench second.bench
  pub count : joined.count ≡ first.count + second.count
  pub records : records_in joined ≡ records_in first ++ raised_in by second

-- Two pairs of evenings leave and record the same: "Three lists joined in either grouping agree".
pub record Agree (m : ℕ) (x y : Evening) (n : ℕ) (u v : Evening) : Type 0 where
  pub state : SameState y.bench v.bench
  pub count : x.count + y.count ≡ u.count + v.count
  pub records : records_in x ++ raised_in m y ≡ records_in u ++ raised_in n v

-- One evening is three joined: the second one's numbers rise by m, the third one's by n.
pub record JoinsThree (m n : ℕ) (joined first second third : Evening) : Type 0 where
  pub state : SameState joined.bench third.bench
  pub count : joined.count ≡ first.count + second.count + third.count
  pub records : records_in joined ≡ records_in first ++ (raised_in m second ++ raised_in n third)

-- Is this one of codes 1, 2 and 3, which end their list?
abbrev pub ends_list : ℕ → Bool
ends_list code = eqb code 1 || eqb code 2 || eqb code 3
