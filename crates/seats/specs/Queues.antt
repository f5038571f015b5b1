-- The queue of one seat: the commands that wait, the oldest first, and how many the seat has queued so far.
use Rattle.std.specs.Prelude.{ℕ, ◌+◌, ◌-◌, ◌%◌, Bool, true, false, ◌&&◌, List, [], ◌∷◌, ◌++◌, take, drop, replicate, ◌==◌, nat_le, slice_index_or, slice_set}
use Rattle.bench.specs.Exports.{Kind, Command, judge_code}
use Rattle.seats.specs.declared.queues.Queue.{Queue}

-- What a place of a queue holds before its first use; it is never asked for.
abbrev pub empty_command : Command
empty_command = record { flag = false; kind = Kind.ImgPwr 0 }

abbrev pub empty_queue : Queue
empty_queue = record { commands = replicate 32 empty_command; count = 0; queued = 0 }

-- The commands that wait, in the order in which they came.
abbrev pub waiting : Queue → List Command
waiting q = take q.count q.commands

abbrev pub oldest : Queue → Command
oldest q = slice_index_or q.commands 0 empty_command

-- A decoded command passes 8 to 10. (Row 7 asks for a pad, which only bytes have.)
abbrev pub passes_args : Command → Bool
passes_args c = judge_code c == 0

unfoldable pub all_pass : List Command → Bool
all_pass [] = true
all_pass (c ∷ cs) = passes_args c && all_pass cs

-- 02, Q-13, unless it is "a queue above 32 or holding what fails 7 to 10".
unfoldable pub queue_holds : Queue → Bool
queue_holds q = nat_le q.count 32 && all_pass (waiting q)

-- One command more at the end; the seat has queued one more, "modulo 2^32".
abbrev pub entered_in : Queue → Command → Queue
entered_in q c =
    record { commands = slice_set q.commands q.count c; count = q.count + 1; queued = (q.queued + 1) % 4294967296 }

-- The commands behind the first, each a place further to the front; the last place keeps what it holds.
abbrev pub shifted_of : List Command → List Command
shifted_of cs = take 31 (drop 1 cs) ++ drop 31 cs

-- The queue without its oldest command.
abbrev pub served_in : Queue → Queue
served_in q = record { commands = shifted_of q.commands; count = q.count - 1; queued = q.queued }

-- "the seat's own number, counting what it got into its queue from 1, modulo 2^32": the last of them has the number `queued`, and the oldest of those
-- that wait stands `count - 1` before it.
abbrev pub number_of : ℕ → ℕ → ℕ
number_of queued count = (queued + (4294967297 - count)) % 4294967296

abbrev pub first_number : Queue → ℕ
first_number q = number_of q.queued q.count
