-- `store::pool::start_of` meets its contract: each macro adds at most 255.
use Prim.Native.Nat.{ℕ, ◌+◌}
use mathlib.Core.Path.{◌≡◌, refl}
use mathlib.Core.List.{List}
use mathlib.Core.Bool.{Bool}
use native.Mathlib.Omega.{arith}
use native.Mathlib.Numerals.{add-one}
use borrow.Author.Rules.{rules}
use Rattle.store.specs.Pool.{size_of, start_of}
use Rattle.store.proofs.pool.start_of.Goals as goal

one_more : (counts : List ℕ) (closed : List Bool) (opened i sum size : ℕ) → sum ≡ start_of counts closed opened i
    → size ≡ size_of counts closed opened i → sum + size ≡ start_of counts closed opened (i + 1)
unfolding start_of
one_more counts closed opened i sum size e f = rw (add-one, e, f)

pub loop-i-init : goal.loop-i-init
unfolding start_of
loop-i-init c = (search rules, search rules, refl)

pub loop-i-preserved : goal.loop-i-preserved
loop-i-preserved c =
    let at = c.loop-i in
    let args = c.args in (
      search rules,
      omega (arith, c.size_of-sum.ensures.1),
      one_more args.counts args.closed args.opened at.i _ _ at.invariant.2 c.size_of-sum.ensures.0,
    )
