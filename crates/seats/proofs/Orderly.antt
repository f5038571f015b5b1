-- Each seat's commands are carried out in the order queued, none lost and none twice, and the numbers on its records count up from 1.
use Rattle.std.proofs.Common.{◌≡◌, ℕ, zero, suc, ◌+◌, ◌-◌, ◌%◌, ◌<◌, ◌≤◌, Bool, true, false, cond, eqb, ltb, List, [], ◌∷◌, ◌++◌, length, sym, refl, ap, ◌∙◌, append_assoc, append-nil, arith, get_or-set_other, get_or-set_same, ltb-false, ltb-true, eqb-true}
use borrow.Author.Tests.{eqb-false}
use Rattle.bench.specs.Exports.{Command, plain, said}
use Rattle.bench.proofs.Report.{record_carries}
use Rattle.seats.specs.declared.queues.Queue.{Queue}
use Rattle.seats.specs.declared.Seats.{Seats}
use Rattle.seats.specs.Queues.{entered_in, served_in, number_of, first_number}
use Rattle.seats.specs.State.{fresh_seats, no_queue, queue_in, waiting_at, number_at, next_of}
use Rattle.seats.specs.Queueing.{queue_code}
use Rattle.seats.specs.Turn.{TurnTold, code_at, seats_after, turn_at}
use Rattle.seats.specs.Events.{Event, queue, turn, second, after_one, after, records_of, numbers_on, sent_by, serves}
use Rattle.seats.specs.Events.{got_at, done_at, got_in, done_in, numbers_in, count_up}
use Rattle.seats.proofs.States.{next_waits, turn_nobody, turn_one}
use Rattle.seats.proofs.Good.{GoodQueue, GoodSeats, good_sound, short, waiting_entered, waiting_served, Enters, enters, queue_leaves, event_keeps, fresh_good}
use Rattle.seats.proofs.Fair.{turn-serves, turn_seats, second_on}

-- One event and the queue of one seat: it stays, it gets one command, or its oldest is carried out.
data Happens (v : ℕ) (s : Seats) (e : Event) : Type 0 where
  same : serves v s e ≡ false → numbers_on v (records_of s e) ≡ [] → got_at v s e ≡ [] → queue_in (after_one s e).queues v ≡ queue_in s.queues v
      → Happens v s e
  more : (c : Command) → serves v s e ≡ false → numbers_on v (records_of s e) ≡ [] → got_at v s e ≡ c ∷ [] → (queue_in s.queues v).count < 32
      → queue_in (after_one s e).queues v ≡ entered_in (queue_in s.queues v) c → Happens v s e
  less : serves v s e ≡ true → numbers_on v (records_of s e) ≡ first_number (queue_in s.queues v) ∷ [] → got_at v s e ≡ []
      → 0 < (queue_in s.queues v).count → queue_in (after_one s e).queues v ≡ served_in (queue_in s.queues v) → Happens v s e

queue_happens : (v : ℕ) (s : Seats) → GoodSeats s → (seat : ℕ) (bytes : List ℕ) → Happens v s (queue seat bytes)
queue_happens v s good seat bytes = go (eqb (queue_code s seat bytes) 0) refl
  where
    go : (b : Bool) → eqb (queue_code s seat bytes) 0 ≡ b → Happens v s (queue seat bytes)
    go false is = same refl refl (rw is) (ap (λ (t : Seats). queue_in t.queues v) (queue_leaves s seat bytes is))
    go true is = here (eqb seat v) refl
      where
        got : Enters s seat bytes
        got = enters s (good_sound s good) seat bytes (eqb-true (queue_code s seat bytes) 0 is)

        new : Queue
        new = entered_in (queue_in s.queues seat) (said bytes)

        here : (b : Bool) → eqb seat v ≡ b → Happens v s (queue seat bytes)
        here true at =
            let e : seat ≡ v = eqb-true seat v at in
            more (said bytes) refl refl (rw (is, at)) (rw (← e) got.room)
            (rw (got.becomes, ← e) (get_or-set_same s.queues seat new no_queue (omega (arith, good.four, got.below))))
        here false at =
            same refl refl (rw (is, at)) (rw got.becomes (get_or-set_other s.queues seat v new no_queue (λ e. eqb-false seat v at (sym e))))

turn_happens : (v : ℕ) (s : Seats) → GoodSeats s → Happens v s turn
turn_happens v s good = go (ltb (next_of s) 4) refl
  where
    go : (b : Bool) → ltb (next_of s) 4 ≡ b → Happens v s turn
    go false is =
        let stays = turn_nobody s (good_sound s good) (ltb-false (next_of s) 4 is) in
        same (ap (λ (t : TurnTold). sent_by v t.records) (sym stays)) (ap (λ (t : TurnTold). numbers_on v t.records) (sym stays)) refl
        (ap (λ (t : TurnTold). queue_in t.seats.queues v) (sym stays))
    go true is = here (eqb (next_of s) v) refl
      where
        n : ℕ
        n = next_of s

        below : n < 4
        below = ltb-true n 4 is

        numbers : numbers_on v (turn_at s).records ≡ cond (eqb n v) (number_at s n ∷ []) []
        numbers =
            ap (λ (t : TurnTold). numbers_on v t.records) (sym (turn_one s (good_sound s good) below))
            ∙ ap (λ k. cond (eqb n v) (k ∷ []) []) (record_carries n (plain (code_at s n)) (number_at s n)).number

        left : queue_in (turn_at s).seats.queues v ≡ queue_in (seats_after s n).queues v
        left = ap (λ (t : Seats). queue_in t.queues v) (turn_seats s good below)

        here : (b : Bool) → eqb n v ≡ b → Happens v s turn
        here true at =
            let e : n ≡ v = eqb-true n v at in
            let waited : 0 < (queue_in s.queues n).count = ltb-true 0 (queue_in s.queues n).count (next_waits s.queues s.last below) in
            less (turn-serves s good below v ∙ at) (numbers ∙ rw (at, e)) refl (rw e at waited)
            (left ∙ rw e (get_or-set_same s.queues v (served_in (queue_in s.queues v)) no_queue (omega (arith, good.four, below))))
        here false at =
            same (turn-serves s good below v ∙ at) (numbers ∙ rw at) refl
            (left ∙ get_or-set_other s.queues n v (served_in (queue_in s.queues n)) no_queue (λ e. eqb-false n v at (sym e)))

happens : (v : ℕ) (s : Seats) → GoodSeats s → (e : Event) → Happens v s e
happens v s good (queue seat bytes) = queue_happens v s good seat bytes
happens v s good turn = turn_happens v s good
happens v s good second = same refl refl refl (ap (λ (qs : List Queue). queue_in qs v) (second_on s good).0)

-- What waited and what came is what was done and what waits, in this order.
step : (v : ℕ) (s : Seats) (e : Event) → GoodQueue (queue_in s.queues v) → Happens v s e
    → waiting_at s v ++ got_at v s e ≡ done_at v s e ++ waiting_at (after_one s e) v
step v s e good (same a n b c) = rw (a, b, c) (append-nil (waiting_at s v))
step v s e good (more d a n b room c) = rw (a, b, c) (sym (waiting_entered (queue_in s.queues v) d (omega (arith, good.long))))
step v s e good (less a n b some c) = rw (a, b, c) (append-nil (waiting_at s v) ∙ waiting_served (queue_in s.queues v) good some)

pub in_order : (v : ℕ) → v < 4 → (es : List Event) (s : Seats) → GoodSeats s
    → waiting_at s v ++ got_in v s es ≡ done_in v s es ++ waiting_at (after s es) v
in_order v h [] s good = append-nil (waiting_at s v)
in_order v h (e ∷ es) s good =
    let next = after_one s e in
    sym (append_assoc (waiting_at s v) (got_at v s e) (got_in v next es))
    ∙ ap (λ l. l ++ got_in v next es) (step v s e (good.each v h) (happens v s good e))
    ∙ append_assoc (done_at v s e) (waiting_at next v) (got_in v next es)
    ∙ ap (λ l. done_at v s e ++ l) (in_order v h es next (event_keeps s good e))
    ∙ sym (append_assoc (done_at v s e) (done_in v next es) (waiting_at (after next es) v))

-- Of the four seats of a fresh state.
fresh_seat : (P : ℕ → Type 0) → P 0 → P 1 → P 2 → P 3 → (v : ℕ) → v < 4 → P v
fresh_seat P a b c d zero h = a
fresh_seat P a b c d (suc zero) h = b
fresh_seat P a b c d (suc (suc zero)) h = c
fresh_seat P a b c d (suc (suc (suc zero))) h = d
fresh_seat P a b c d (suc (suc (suc (suc v)))) h = absurd (omega arith)

-- "none lost, none twice": from a fresh state on, what a seat got is what was done of it, in that order, and then what waits.
pub fresh_in_order : (v : ℕ) → v < 4 → (es : List Event) → got_in v fresh_seats es ≡ done_in v fresh_seats es ++ waiting_at (after fresh_seats es) v
fresh_in_order v h es =
    let none : waiting_at fresh_seats v ≡ [] = fresh_seat (λ w. waiting_at fresh_seats w ≡ []) refl refl refl refl v h in
    ap (λ l. l ++ got_in v fresh_seats es) (sym none) ∙ in_order v h es fresh_seats fresh_good

-- The number of the oldest, as one enters and as one is served.
number_entered : (queued count : ℕ) → queued < 4294967296 → count < 32 → number_of ((queued + 1) % 4294967296) (count + 1) ≡ number_of queued count
number_entered queued count h k = omega arith

number_served : (queued count : ℕ) → queued < 4294967296 → 0 < count → count ≤ 32
    → number_of queued (count - 1) ≡ (number_of queued count + 1) % 4294967296
number_served queued count h k l = omega arith

-- So the numbers on a seat's records, in order, count up from that of its oldest command, one to each command that was done.
pub counts_up : (v : ℕ) → v < 4 → (es : List Event) (s : Seats) → GoodSeats s
    → numbers_in v s es ≡ count_up (first_number (queue_in s.queues v)) (length (done_in v s es))
counts_up v h [] s good = refl
counts_up v h (e ∷ es) s good = go (happens v s good e) (counts_up v h es (after_one s e) (event_keeps s good e))
  where
    q : Queue
    q = queue_in s.queues v

    queue_good : GoodQueue q
    queue_good = good.each v h

    next : Seats
    next = after_one s e

    go : Happens v s e → numbers_in v next es ≡ count_up (first_number (queue_in next.queues v)) (length (done_in v next es))
        → numbers_on v (records_of s e) ++ numbers_in v next es ≡ count_up (first_number q) (length (done_at v s e ++ done_in v next es))
    go (same a n b c) later = rw (a, n) (later ∙ rw c)
    go (more d a n b room c) later = rw (a, n) (later ∙ rw (c, number_entered q.queued q.count queue_good.small room))
    go (less a n b some c) later =
        let on = number_served q.queued q.count queue_good.small some (short q queue_good) in
        rw (a, n) (ap (λ l. first_number q ∷ l) (later ∙ rw (c, on)))

-- "the records of a seat carry 1, 2, 3 … in order (modulo 2^32)"
pub fresh_counts_up : (v : ℕ) → v < 4 → (es : List Event) → numbers_in v fresh_seats es ≡ count_up 1 (length (done_in v fresh_seats es))
fresh_counts_up v h es =
    let one : first_number (queue_in fresh_seats.queues v) ≡ 1 =
    fresh_seat (λ w. first_number (queue_in fresh_seats.queues w) ≡ 1) refl refl refl refl v h in
    counts_up v h es fresh_seats fresh_good ∙ ap (λ n. count_up n (length (done_in v fresh_seats es))) one
