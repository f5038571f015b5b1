-- The state of the four seats, when it is sound, and which seat is next (02, Q-13).
use Rattle.std.specs.Prelude.{ℕ, ◌+◌, ◌%◌, Bool, cond, not, ◌&&◌, List, [], replicate, nat_lt, slice_index_or}
use Rattle.bench.specs.Exports.{Command, Check, ◌when◌}
use Rattle.bench.specs.Status.{fresh_bench, bench_sound}
use Rattle.seats.specs.declared.queues.Queue.{Queue}
use Rattle.seats.specs.declared.Seats.{Seats}
use Rattle.seats.specs.Queues.{empty_queue, waiting, queue_holds, first_number}

-- "from seat 0 on a fresh bench": seat 3 counts as served last.
abbrev pub fresh_seats : Seats
fresh_seats = record { bench = fresh_bench; queues = replicate 4 empty_queue; last = 3 }

-- The queue of a seat; past the last seat, nothing.
abbrev pub no_queue : Queue
no_queue = record { commands = []; count = 0; queued = 0 }

abbrev pub queue_in : List Queue → ℕ → Queue
queue_in qs seat = slice_index_or qs seat no_queue

-- The commands that wait for a seat.
abbrev pub waiting_at : Seats → ℕ → List Command
waiting_at s seat = waiting (queue_in s.queues seat)

-- The number of a seat's oldest command.
abbrev pub number_at : Seats → ℕ → ℕ
number_at s seat = first_number (queue_in s.queues seat)

abbrev pub waits : List Queue → ℕ → Bool
waits qs seat = nat_lt 0 (queue_in qs seat).count

abbrev pub holds_at : List Queue → ℕ → Bool
holds_at qs seat = queue_holds (queue_in qs seat)

abbrev pub queues_hold : List Queue → Bool
queues_hold qs = holds_at qs 0 && holds_at qs 1 && holds_at qs 2 && holds_at qs 3

-- The rules outside the bench: the last seat and the four queues.
unfoldable pub rules_hold : Seats → Bool
rules_hold s = nat_lt s.last 4 && queues_hold s.queues

-- "27 first, also at a turn, for an unsound bench, a queue above 32 or holding what fails 7 to 10, or a last seat above 3"
unfoldable pub seats_sound : Seats → Bool
seats_sound s = rules_hold s && bench_sound s.bench

abbrev pub sound_check : Seats → Check
sound_check s = 27 when not (seats_sound s)

-- "the next waiting seat after the last served, in circular order"; 4 where none waits.
unfoldable pub next_after : List Queue → ℕ → ℕ
next_after qs last =
    cond (waits qs ((last + 1) % 4)) ((last + 1) % 4)
    (cond (waits qs ((last + 2) % 4)) ((last + 2) % 4)
    (cond (waits qs ((last + 3) % 4)) ((last + 3) % 4)
    (cond (waits qs last) last 4)))

abbrev pub next_of : Seats → ℕ
next_of s = next_after s.queues s.last
