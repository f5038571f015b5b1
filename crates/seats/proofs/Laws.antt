-- Laws behind the functions on one queue.
use Rattle.std.proofs.Common.{◌≡◌, ◌<◌, ◌≤◌, Bool, true, false, ◌&&◌, List, [], ◌∷◌, length, refl, ap, arith, le-leb}
use borrow.Author.Tests.{lt-leb}
use Rattle.std.specs.List.{list_all}
use Rattle.bench.specs.Exports.{Command}
use Rattle.seats.specs.declared.queues.Queue.{Queue}
use Rattle.seats.specs.Queues.{waiting, passes_args, all_pass, queue_holds}
use Rattle.seats.specs.State.{queues_hold}

-- A test of all waiting commands, and of all four queues.
pub all_listed : (cs : List Command) → list_all passes_args cs ≡ all_pass cs
unfolding all_pass
all_listed [] = refl
all_listed (c ∷ cs) = ap (λ b. passes_args c && b) (all_listed cs)

pub four_hold : (qs : List Queue) → length qs ≡ 4 → list_all queue_holds qs ≡ queues_hold qs
four_hold (a ∷ b ∷ c ∷ d ∷ []) four = four_tests (queue_holds a) (queue_holds b) (queue_holds c) (queue_holds d)
  where
    four_tests : (a b c d : Bool) → (a && (b && (c && (d && true)))) ≡ (a && b && c && d)
    four_tests false b c d = refl
    four_tests true false c d = refl
    four_tests true true false d = refl
    four_tests true true true false = refl
    four_tests true true true true = refl
four_hold [] four = absurd (omega (arith, four))
four_hold (a ∷ []) four = absurd (omega (arith, four))
four_hold (a ∷ b ∷ []) four = absurd (omega (arith, four))
four_hold (a ∷ b ∷ c ∷ []) four = absurd (omega (arith, four))
four_hold (a ∷ b ∷ c ∷ d ∷ e ∷ more) four = absurd (omega (arith, four))

pub holds_long : (q : Queue) → 32 < q.count → false ≡ queue_holds q
unfolding queue_holds
holds_long q h = rw (lt-leb q.count 32 h)

pub holds_short : (q : Queue) (t : Bool) → q.count ≤ 32 → t ≡ all_pass (waiting q) → t ≡ queue_holds q
unfolding queue_holds
holds_short q t h e = rw (le-leb q.count 32 h) e
