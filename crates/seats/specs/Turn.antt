-- A turn, a second and the status of the shared bench (02, Q-13).
use Rattle.std.specs.Prelude.{ℕ, cond, List, [], ◌∷◌, take, nat_lt, slice_set, Option, Some, None, Result, Ok, Err}
use Rattle.bench.specs.Exports.{Kind, Told, Unsound, plain, kinds_in, record_bytes}
use Rattle.bench.specs.Status.{StatusTold}
use Rattle.bench.specs.Status as shared
use Rattle.bench.specs.Carry.{carry_out}
use Rattle.bench.specs.Second.{SecondTold}
use Rattle.bench.specs.Second as passing
use Rattle.seats.specs.declared.Seats.{Seats}
use Rattle.seats.specs.declared.Passed.{Passed}
use Rattle.seats.specs.declared.turns.Turned.{Turned}
use Rattle.seats.specs.Queues.{oldest, served_in}
use Rattle.seats.specs.State.{queue_in, number_at, seats_sound, next_of}

-- What a turn answers: 0 or 27, the record of the command that was carried out, if any, and the state afterwards.
pub record TurnTold : Type 0 where
  pub code : ℕ
  pub records : List (List ℕ)
  pub seats : Seats

-- A turn in which no command was carried out: the state is the one that was handed in.
abbrev pub stays : ℕ → Seats → TurnTold
stays code s = record { code = code; records = []; seats = s }

-- What is told of any turn; and of one in which a command was carried out or the state was not sound, by the state afterwards and the record.
abbrev pub turned_of : Seats → Result (Option Turned) Unsound → TurnTold
turned_of s (Ok (Some r)) = record { code = 0; records = r.record ∷ []; seats = r.seats }
turned_of s (Ok None) = stays 0 s
turned_of s (Err unsound) = stays 27 s

abbrev pub served_of : Seats → Seats → Result (List ℕ) Unsound → TurnTold
served_of s after (Ok r) = record { code = 0; records = r ∷ []; seats = after }
served_of s after (Err unsound) = stays 27 s

-- The code that its oldest command gets as it is carried out.
abbrev pub code_at : Seats → ℕ → ℕ
code_at s seat = (carry_out s.bench (oldest (queue_in s.queues seat))).told.code

-- "A turn's record has the seat as sender and the seat's own number"; parameter, spare byte and value are 0.
abbrev pub record_at : Seats → ℕ → List ℕ
record_at s seat = record_bytes seat (code_at s seat) 0 (number_at s seat) 0

-- The state after the oldest command of a seat was carried out: it has left its queue, whatever its code, and the seat was served last.
abbrev pub seats_after : Seats → ℕ → Seats
seats_after s seat =
    let q = queue_in s.queues seat in
    record { bench = (carry_out s.bench (oldest q)).bench; queues = slice_set s.queues seat (served_in q); last = seat }

abbrev pub served_at : Seats → ℕ → TurnTold
served_at s seat = record { code = 0; records = record_at s seat ∷ []; seats = seats_after s seat }

-- "one turn takes one command from the next waiting seat ..; with none waiting it does nothing"
unfoldable pub turn_at : Seats → TurnTold
turn_at s = cond (seats_sound s) (cond (nat_lt (next_of s) 4) (served_at s (next_of s)) (stays 0 s)) (stays 27 s)

-- What a second answers: the bench's own answer, with the seats around it.
pub record PassedTold : Type 0 where
  pub told : Told
  pub seats : Seats
  pub handed : List Kind
  pub codes : List ℕ

-- A second that seats do not pass, for their state is not sound.
abbrev pub passed_not : Seats → PassedTold
passed_not s = record { told = plain 27; seats = s; handed = []; codes = [] }

abbrev pub passed_of : Seats → Result Passed Unsound → PassedTold
passed_of s (Ok r) =
    record {
      told = plain 0;
      seats = r.seats;
      handed = kinds_in r.group;
      codes = take r.group.count r.codes;
    }
passed_of s (Err unsound) = passed_not s

abbrev pub passed_as : Seats → SecondTold → PassedTold
passed_as s r =
    record {
      told = r.told;
      seats = record { bench = r.bench; queues = s.queues; last = s.last };
      handed = r.handed;
      codes = r.codes;
    }

unfoldable pub second_at : Seats → PassedTold
second_at s = cond (seats_sound s) (passed_as s (passing.second_at s.bench)) (passed_not s)

-- What asking for the status of the shared bench says.
unfoldable pub status_at : Seats → StatusTold
status_at s = cond (seats_sound s) (shared.status_at s.bench) (record { code = 27; shown = [] })
