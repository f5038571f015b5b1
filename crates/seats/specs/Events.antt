-- What can happen to the four seats, one thing after another, and what each seat got, what was done of it and how it was numbered meanwhile.
use Rattle.std.specs.Prelude.{◌≡◌, ℕ, zero, suc, ◌+◌, ◌%◌, Bool, false, cond, ◌&&◌, ◌||◌, List, [], ◌∷◌, ◌++◌, ◌==◌, nat_lt}
use Rattle.bench.specs.Exports.{Command, said, byte_at, word_at}
use Rattle.bench.specs.Events as shared
use Rattle.seats.specs.declared.Seats.{Seats}
use Rattle.seats.specs.Queues.{oldest}
use Rattle.seats.specs.State.{fresh_seats, queue_in, seats_sound, next_of}
use Rattle.seats.specs.Queueing.{queue_code, queue_at}
use Rattle.seats.specs.Turn.{turn_at, second_at}

pub data Event : Type 0 where
  queue : ℕ → List ℕ → Event
  turn : Event
  second : Event

-- The state after one event, and after several.
abbrev pub after_one : Seats → Event → Seats
after_one s (queue seat bytes) = (queue_at s seat bytes).seats
after_one s turn = (turn_at s).seats
after_one s second = (second_at s).seats

abbrev pub after : Seats → List Event → Seats
after s [] = s
after s (e ∷ es) = after (after_one s e) es

pub record Reached (s : Seats) : Type 0 where
  pub events : List Event
  pub reached : after fresh_seats events ≡ s

-- How many turns there are, and how many seconds pass.
abbrev pub turns_in : List Event → ℕ
turns_in [] = zero
turns_in (queue seat bytes ∷ es) = turns_in es
turns_in (turn ∷ es) = suc (turns_in es)
turns_in (second ∷ es) = turns_in es

abbrev pub seconds_in : List Event → ℕ
seconds_in [] = zero
seconds_in (queue seat bytes ∷ es) = seconds_in es
seconds_in (turn ∷ es) = seconds_in es
seconds_in (second ∷ es) = suc (seconds_in es)

-- The records of an event: that of a turn.
abbrev pub records_of : Seats → Event → List (List ℕ)
records_of s (queue seat bytes) = []
records_of s turn = (turn_at s).records
records_of s second = []

-- The numbers on those that have this seat as sender, by their bytes.
abbrev pub numbers_on : ℕ → List (List ℕ) → List ℕ
numbers_on v [] = []
numbers_on v (r ∷ rs) = cond (byte_at r 0 == v) (word_at r 4 ∷ numbers_on v rs) (numbers_on v rs)

-- Is there one?
abbrev pub sent_by : ℕ → List (List ℕ) → Bool
sent_by v [] = false
sent_by v (r ∷ rs) = byte_at r 0 == v || sent_by v rs

-- Is seat v served by an event, that is, has it a record with this sender? By any of several? How often?
abbrev pub serves : ℕ → Seats → Event → Bool
serves v s e = sent_by v (records_of s e)

abbrev pub serves_any : ℕ → Seats → List Event → Bool
serves_any v s [] = false
serves_any v s (e ∷ es) = serves v s e || serves_any v (after_one s e) es

abbrev pub times_served : ℕ → Seats → List Event → ℕ
times_served v s [] = zero
times_served v s (e ∷ es) = cond (serves v s e) (suc (times_served v (after_one s e) es)) (times_served v (after_one s e) es)

-- The commands that seat v got into its queue, those of its that were carried out, and the numbers on its records.
abbrev pub got_at : ℕ → Seats → Event → List Command
got_at v s (queue seat bytes) = cond (queue_code s seat bytes == 0 && seat == v) (said bytes ∷ []) []
got_at v s turn = []
got_at v s second = []

abbrev pub done_at : ℕ → Seats → Event → List Command
done_at v s e = cond (serves v s e) (oldest (queue_in s.queues v) ∷ []) []

abbrev pub got_in : ℕ → Seats → List Event → List Command
got_in v s [] = []
got_in v s (e ∷ es) = got_at v s e ++ got_in v (after_one s e) es

abbrev pub done_in : ℕ → Seats → List Event → List Command
done_in v s [] = []
done_in v s (e ∷ es) = done_at v s e ++ done_in v (after_one s e) es

abbrev pub numbers_in : ℕ → Seats → List Event → List ℕ
numbers_in v s [] = []
numbers_in v s (e ∷ es) = numbers_on v (records_of s e) ++ numbers_in v (after_one s e) es

-- So many numbers from one on, modulo 2^32.
abbrev pub count_up : ℕ → ℕ → List ℕ
count_up n zero = []
count_up n (suc k) = n ∷ count_up ((n + 1) % 4294967296) k

-- What the shared bench sees of an event: a turn is the command that it carries out, a second is a second.
abbrev pub bench_at : Seats → Event → List shared.Event
bench_at s (queue seat bytes) = []
bench_at s turn = cond (seats_sound s && nat_lt (next_of s) 4) (shared.command (oldest (queue_in s.queues (next_of s))) ∷ []) []
bench_at s second = cond (seats_sound s) (shared.second ∷ []) []

abbrev pub bench_in : Seats → List Event → List shared.Event
bench_in s [] = []
bench_in s (e ∷ es) = bench_at s e ++ bench_in (after_one s e) es
