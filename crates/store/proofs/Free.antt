-- 02, Q-9: the free entries. An append takes one of them, for the open macro alone, CLEAR gives all of them back, and nothing else changes their
-- number; and they are the appends that an open macro would still take.
use Prim.Native.Nat.{ℕ, ◌+◌, ◌-◌, ◌<◌}
use mathlib.Core.Path.{◌≡◌, refl, sym, ap, ◌∙◌}
use mathlib.Core.List.{[], ◌∷◌, ◌++◌}
use mathlib.Core.Bool.{Bool, true, false, cond, true≢false, false≢true}
use native.Mathlib.Omega.{arith}
use lib.Dec.{leb, eqb}
use borrow.Author.Tests.{leb-false, le-leb, lt-leb, ne_eqb}
use Rattle.wire.specs.declared.kinds.Kind.{Kind}
use Rattle.wire.specs.declared.kinds.Command.{Command}
use Rattle.wire.specs.Judge.{judge_code}
use Rattle.wire.proofs.RoundTrip.{Held}
use Rattle.store.specs.declared.Store.{Store}
use Rattle.store.specs.declared.roles.Role.{Role}
use Rattle.store.specs.Roles.{role_of, is_clear}
use Rattle.store.specs.Pool.{used_in, free_in, entries_of, kept}
use Rattle.store.specs.Checks.{permit_code}
use Rattle.store.specs.Effects.{fresh_store, executed_as, applied_of, counted_down, after_second}
use Rattle.store.proofs.Entries.{stored_as, stored_same}
use Rattle.store.proofs.Kept.{kept_own, kept_other, kept_used, opened_used, closed_used, cleared_used, fresh_used}
use Rattle.store.proofs.Sound.{Good, Passed, none_runs, InRange, judged_role, appends, applied_executed, executed_passed}
use Rattle.store.proofs.Running.{clears_all, executed_test, executed_now}

-- A fresh store has all entries free.
pub fresh_free : free_in fresh_store ≡ 192
fresh_free = ap (λ n. 192 - n) fresh_used

-- A second leaves them.
pub second_free : (s : Store) → free_in (after_second s) ≡ free_in s
second_free s = go (eqb s.running 255)
  where
    go : (b : Bool) → free_in (cond b s (counted_down s)) ≡ free_in s
    go true = refl
    go false = refl

-- An executed CLEAR gives all of them back.
cleared_role : (s : Store) (r : Role) → is_clear r ≡ true → used_in (executed_as s r) ≡ 0
cleared_role s Role.Plain clear = absurd (false≢true clear)
cleared_role s (Role.Open m) clear = absurd (false≢true clear)
cleared_role s Role.Close clear = absurd (false≢true clear)
cleared_role s (Role.Run m) clear = absurd (false≢true clear)
cleared_role s (Role.Wait n) clear = absurd (false≢true clear)
cleared_role s Role.Stop clear = absurd (false≢true clear)
cleared_role s Role.Clear clear = cleared_used s

pub clear_free : (s : Store) (c : Command) → clears_all c ≡ true → free_in (applied_of s c) ≡ 192
clear_free s c clear =
    let p = executed_now c (is_clear (role_of c.kind)) clear in
    ap free_in (applied_executed s c p.0) ∙ ap (λ n. 192 - n) (cleared_role s (role_of c.kind) p.1)

-- Every other command that is executed leaves them, OPEN and CLOSE too: a macro that is opened has none, and one that is closed keeps its own.
executed_used : (s : Store) → Good s → (r : Role) → InRange r → Passed s false r → is_clear r ≡ false → used_in (executed_as s r) ≡ used_in s
executed_used s good Role.Plain range h other = refl
executed_used s good (Role.Open m) range h other =
    opened_used s m good.shaped.counts (omega (arith, none_runs s.opened h.no12)) range h.no13
executed_used s good Role.Close range h other = closed_used s good.shaped.marks
executed_used s good (Role.Run m) range h other = refl
executed_used s good (Role.Wait n) range h other = refl
executed_used s good Role.Stop range h other = refl
executed_used s good Role.Clear range h other = absurd (true≢false other)

-- What an accepted command does.
module _ (s : Store) (good : Good s) (c : Command) (judge : judge_code c ≡ 0) (permit : permit_code s c ≡ 0) where
  pub other_free : c.flag ≡ false → clears_all c ≡ false → free_in (applied_of s c) ≡ free_in s
  other_free flag other =
      let role = role_of c.kind in
      let clear = executed_test c (is_clear role) flag other in
      ap free_in (applied_executed s c flag)
      ∙ ap (λ n. 192 - n) (executed_used s good role (judged_role c judge) (executed_passed s c flag permit) clear)

  -- An append takes one,
  pub append_free : c.flag ≡ true → free_in (applied_of s c) + 1 ≡ free_in s
  append_free flag =
      let a = appends s good c flag judge permit in
      let used : used_in (applied_of s c) ≡ used_in s + 1 = ap used_in a.effect ∙ kept_used s c good.shaped.counts a.small in
      omega (arith, used, a.room)

  -- which is the open macro's last one from then on,
  pub append_own : c.flag ≡ true → entries_of (applied_of s c) s.opened ≡ entries_of s s.opened ++ (stored_as c ∷ [])
  append_own flag =
      let a = appends s good c flag judge permit in
      ap (λ t. entries_of t s.opened) a.effect ∙ kept_own s c good.shaped.pool good.shaped.counts a.small a.room

  -- the command itself where a program can hold it;
  pub append_held : Held c → c.flag ≡ true → entries_of (applied_of s c) s.opened ≡ entries_of s s.opened ++ (c ∷ [])
  append_held held flag = append_own flag ∙ ap (λ e. entries_of s s.opened ++ (e ∷ [])) (stored_same c judge held)

  -- it leaves the entries of every other macro,
  pub append_others : c.flag ≡ true → (k : ℕ) → k < 8 → (k ≡ s.opened → ⊥) → entries_of (applied_of s c) k ≡ entries_of s k
  append_others flag k small other =
      let a = appends s good c flag judge permit in
      ap (λ t. entries_of t k) a.effect ∙ kept_other s c good.shaped.pool good.shaped.counts a.small a.room k small other

  -- and the macro open.
  pub append_open : c.flag ≡ true → (applied_of s c).opened ≡ s.opened
  unfolding kept
  append_open flag = ap (λ (t : Store). t.opened) (appends s good c flag judge permit).effect

-- While a macro is open, row 16 alone can refuse an appended FLUSH.
abbrev pub flush : Command
flush = record { flag = true; kind = Kind.TlmFlush }

flush_code : (s : Store) → s.opened < 8 → (full : Bool) → leb 192 (used_in s) ≡ full → permit_code s flush ≡ cond full 16 0
unfolding permit_code
flush_code s small full is = rw (ne_eqb s.opened 255 (λ e. omega arith), is)

-- So it is taken exactly where an entry is free, and gets 16 where none is.
pub flush_taken : (s : Store) → s.opened < 8 → 0 < free_in s → permit_code s flush ≡ 0
flush_taken s small some = flush_code s small false (lt-leb 192 (used_in s) (omega arith))

pub flush_refused : (s : Store) → s.opened < 8 → free_in s ≡ 0 → permit_code s flush ≡ 16
flush_refused s small none = flush_code s small true (le-leb 192 (used_in s) (omega arith))

pub flush_needs : (s : Store) → s.opened < 8 → permit_code s flush ≡ 0 → 0 < free_in s
flush_needs s small permit = go (leb 192 (used_in s)) refl
  where
    go : (full : Bool) → leb 192 (used_in s) ≡ full → 0 < free_in s
    go true is = absurd (let z : 16 ≡ 0 = sym (flush_code s small true is) ∙ permit in omega arith)
    go false is = omega (arith, leb-false 192 (used_in s) is)
