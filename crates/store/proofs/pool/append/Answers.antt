-- `store::pool::append` meets its contract: where a macro is open and an entry is free, the open macro ends before the pool does.
use Prim.Native.Nat.{ℕ, suc, ◌+◌, ◌*◌, ◌<◌, ◌≤◌}
use mathlib.Core.Path.{◌≡◌, sym, ap, ◌∙◌}
use mathlib.Core.List.{List}
use mathlib.Core.Bool.{Bool}
use native.Mathlib.Omega.{arith}
use native.Mathlib.Numerals.{add-one}
use borrow.Author.Tests.{lt-ltb, le-ltb}
use Rattle.wire.specs.declared.kinds.Command.{Command}
use Rattle.store.specs.Words.{inserted}
use Rattle.store.specs.Pool.{start_of, used_of, words_after}
use Rattle.store.proofs.Places.{start_up}
use Rattle.store.proofs.pool.append.Goals as goal

-- The outcomes, on the numbers that the code works out.
module _ (ws counts : List ℕ) (closed : List Bool) (opened : ℕ) (c : Command) where
  none_open : 8 ≤ opened → ws ≡ words_after ws counts closed opened c
  none_open h = rw (le-ltb opened 8 h)

  module _ (is_open : opened < 8) (top : ℕ) (used : top ≡ used_of counts closed opened) where
    none_free : 192 ≤ top → ws ≡ words_after ws counts closed opened c
    none_free full = rw (lt-ltb opened 8 is_open, ← used, le-ltb top 192 full)

    module _ (end : ℕ) (ends : end ≡ start_of counts closed opened (opened + 1)) where
      behind : start_of counts closed opened (suc opened) ≡ end
      behind = sym (ends ∙ ap (start_of counts closed opened) (add-one opened))

      within : end ≤ top
      within = omega (arith, start_up counts closed opened (suc opened) 8 (omega arith), behind, used)

      taken : (words : List ℕ) → top < 192 → words ≡ inserted ws (end * 3) (top * 3) c → words ≡ words_after ws counts closed opened c
      taken words free put = rw (lt-ltb opened 8 is_open, ← used, lt-ltb top 192 free, behind) put

pub overflow_mul-end : goal.overflow_mul-end
overflow_mul-end c =
    let ends_within : c.start-end.result ≤ c.used-top.result = let args = c.args in
    within args.words.now args.tally.now.counts args.tally.now.closed args.tally.now.opened args.command c.if-opened-ge-MACROS.false _ c.used-top.ensures _
    c.start-end.ensures in
    omega (arith, ends_within)

pub insert-requires : goal.insert-requires
insert-requires c =
    let ends_within : c.start-end.result ≤ c.used-top.result = let args = c.args in
    within args.words.now args.tally.now.counts args.tally.now.closed args.tally.now.opened args.command c.if-opened-ge-MACROS.false _ c.used-top.ensures _
    c.start-end.ensures in
    (c.requires, omega (arith, ends_within), omega arith)
