-- `store::tally::Tally::appended` meets its contract: one count and one span are written, and an open macro has no more entries than are in use,
-- so that the count fits.
use Prim.Native.Nat.{◌<◌}
use mathlib.Core.Path.{◌≡◌, sym, ◌∙◌}
use mathlib.Core.Bool.{Bool, true}
use native.Mathlib.Omega.{arith}
use lib.Dec.{ltb}
use borrow.Author.Tests.{ltb-true, not-false}
use Rattle.words.proofs.Tests.{both}
use Rattle.store.specs.declared.tally.Tally.{Tally}
use Rattle.store.specs.TallySteps.{open_count, used_by, takes_by}
use Rattle.store.proofs.Places.{open_within}
use mathlib.Core.Path.{ap}
use mathlib.Core.Bool.{not}
use Rattle.store.proofs.tally.Tally.appended.Goals as goal

-- Where an append is taken, fewer entries are counted than the pool has.
count_free : (t : Tally) (taken : Bool) → taken ≡ takes_by t → taken ≡ true → open_count t < 192
count_free t taken is holds =
    let tests = both (ltb t.opened 8) (ltb (used_by t) 192) (sym is ∙ holds) in
    omega (arith, ltb-true (used_by t) 192 tests.1, open_within t.counts t.closed t.opened (ltb-true t.opened 8 tests.0))

pub overflow_add-count : goal.overflow_add-count
overflow_add-count c =
    let self = c.args.self in
    let taken = c.takes in
    omega (arith, count_free self taken.result taken.ensures (not-false taken.result (ap not c.if-not-takes.false)))
