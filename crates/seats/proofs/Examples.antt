-- Small examples of 02's rules on the four seats, each by computation.
use Rattle.std.proofs.Common.{◌≡◌, ℕ, List, [], ◌∷◌, refl}
use Rattle.bench.specs.Exports.{record_bytes}
use Rattle.seats.specs.declared.queues.Queue.{Queue}
use Rattle.seats.specs.Queues.{number_of}
use Rattle.seats.specs.State.{fresh_seats, next_after, next_of}

-- A queue of which only the count is asked.
abbrev counted : ℕ → Queue
counted n = record { commands = []; count = n; queued = n }

abbrev queues : ℕ → ℕ → ℕ → ℕ → List Queue
queues a b c d = counted a ∷ counted b ∷ counted c ∷ counted d ∷ []

-- With seats 0 and 2 waiting they are served in turn; a seat that waits alone is served again and again; on fresh seats nobody waits.
after_3 : next_after (queues 1 0 5 0) 3 ≡ 0
unfolding next_after
after_3 = refl

after_0 : next_after (queues 1 0 5 0) 0 ≡ 2
unfolding next_after
after_0 = refl

after_2 : next_after (queues 1 0 5 0) 2 ≡ 0
unfolding next_after
after_2 = refl

same_again : next_after (queues 0 0 5 0) 2 ≡ 2
unfolding next_after
same_again = refl

nobody : next_of fresh_seats ≡ 4
unfolding next_after
nobody = refl

-- The first of three has number 1, and so has the only one; the counter wraps behind 4,294,967,295 to 0.
first_of_three : number_of 3 3 ≡ 1
first_of_three = refl

last_of_three : number_of 3 1 ≡ 3
last_of_three = refl

at_the_wrap : number_of 1 3 ≡ 4294967295
at_the_wrap = refl

wrapped : number_of 1 2 ≡ 0
wrapped = refl

-- Seat 2, code 14, its command number 258.
record_of : record_bytes 2 14 0 258 0 ≡ 2 ∷ 14 ∷ 0 ∷ 0 ∷ 0 ∷ 0 ∷ 1 ∷ 2 ∷ 0 ∷ 0 ∷ 0 ∷ 0 ∷ []
record_of = refl
