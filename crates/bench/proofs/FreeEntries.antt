-- 02, Q-9: the free macro entries, as `free` tells them (`free_at`, specs/Status). They are the appends that an open macro would still take; an
-- accepted append takes one, an accepted CLEAR gives all back, and no other command and no second changes their number. A run is its commands, each
-- from its bytes (`run_is_its_commands`, Demands). The store's part is in its own proofs/Free.
use Prim.Native.Nat.{ℕ, zero, suc, ◌+◌, ◌-◌, ◌≤◌, ◌<◌}
use mathlib.Core.Path.{◌≡◌, refl, sym, ap, ◌∙◌}
use mathlib.Core.Logic.{◌≢◌}
use mathlib.Core.List.{List, [], ◌∷◌, ◌++◌}
use mathlib.Core.Bool.{Bool, true, false, cond}
use native.Mathlib.Omega.{arith}
use lib.Dec.{ltb}
use borrow.Author.Tests.{ltb-true, ltb-false, eq-eqb, ne_eqb}
use Rattle.wire.specs.declared.kinds.Command.{Command}
use Rattle.wire.specs.Judge.{judge_code}
use Rattle.wire.specs.Read.{said_parts, said}
use Rattle.wire.specs.Kind.{parts_of}
use Rattle.wire.specs.declared.kinds.Parts.{Parts}
use Rattle.wire.proofs.RoundTrip.{Held}
use Rattle.store.specs.Roles.{is_clear}
use Rattle.store.specs.Pool.{free_in, entries_of}
use Rattle.store.specs.Checks.{permit_code}
use Rattle.store.proofs.Free.{flush, clear_free, other_free, append_free, append_open, append_held, append_others, flush_taken, flush_refused}
use Rattle.store.proofs.Free as store
use Rattle.bench.specs.declared.Bench.{Bench}
use Rattle.bench.specs.Status.{fresh_bench, FreeTold, free_at}
use Rattle.bench.specs.Carry.{outcome_for, effect_of, carry_code, carry_out, carry_bytes_code, carry_out_bytes}
use Rattle.bench.specs.Second.{second_at}
use Rattle.bench.specs.Events.{Reached, executes}
use Rattle.bench.proofs.Outcomes.{behind_code_lem, carry_code_lem}
use Rattle.bench.proofs.Sound.{GoodBench, good_store, fresh_sound, Accepted, command_accepted, bytes_accepted, effect_keeps}
use Rattle.bench.proofs.Sound.{second_is, second_sound, reached_sound}

-- A sound bench tells the free entries of its store.
pub free_answers : (b : Bench) → GoodBench b → free_at b ≡ record { code = 0; free = free_in b.store }
unfolding free_at
free_answers b good = rw good.sound

same_free : (a b : Bench) → GoodBench a → GoodBench b → free_in a.store ≡ free_in b.store → free_at a ≡ free_at b
same_free a b good_a good_b same = free_answers a good_a ∙ ap (λ n. record { code = 0; free = n }) same ∙ sym (free_answers b good_b)

-- On a fresh bench all are free.
pub fresh_free : free_at fresh_bench ≡ record { code = 0; free = 192 }
fresh_free = free_answers fresh_bench fresh_sound ∙ ap (λ n. record { code = 0; free = n }) store.fresh_free

-- A second leaves them.
pub second_free : (b : Bench) → GoodBench b → free_at (second_at b).bench ≡ free_at b
second_free b good =
    ap free_at (second_is b good)
    ∙ same_free _ b (second_sound b good) good (store.second_free b.store)

-- What a command does to them that got this code and left this bench.
pub record FreeAfter (b : Bench) (c : Command) (code : ℕ) (left : Bench) : Type 0 where
  pub refused : code ≢ 0 → free_at left ≡ free_at b
  pub appended : code ≡ 0 → c.flag ≡ true → (free_at left).free + 1 ≡ (free_at b).free
  pub cleared : code ≡ 0 → executes is_clear c ≡ true → (free_at left).free ≡ 192
  pub other : code ≡ 0 → c.flag ≡ false → executes is_clear c ≡ false → free_at left ≡ free_at b

module _ (b : Bench) (good : GoodBench b) (c : Command) where
  -- An accepted one, by the store.
  module _ (passed : Accepted b c) where
    after : GoodBench (effect_of b c)
    after = effect_keeps b good c passed

    told : (free_at (effect_of b c)).free ≡ free_in (effect_of b c).store
    told = ap (λ (t : FreeTold). t.free) (free_answers (effect_of b c) after)

    was : (free_at b).free ≡ free_in b.store
    was = ap (λ (t : FreeTold). t.free) (free_answers b good)

    append_takes : c.flag ≡ true → (free_at (effect_of b c)).free + 1 ≡ (free_at b).free
    append_takes flag = omega (arith, told, was, append_free b.store (good_store b good) c passed.judge passed.permit flag)

    other_leaves : c.flag ≡ false → executes is_clear c ≡ false → free_at (effect_of b c) ≡ free_at b
    other_leaves flag no_clear =
        same_free (effect_of b c) b after good (other_free b.store (good_store b good) c passed.judge passed.permit flag no_clear)

  -- One with a code, of which 0 is acceptance.
  by_code : (parts : Parts) (code : ℕ) → (code ≡ 0 → Accepted b c) → FreeAfter b c code (outcome_for code parts b c).bench
  by_code parts code passes =
      record {
        refused = λ some. rw (ne_eqb code 0 some);
        appended = λ none flag. rw (eq-eqb code 0 none) (append_takes (passes none) flag);
        cleared = λ none clear. rw (eq-eqb code 0 none) (told (passes none) ∙ clear_free b.store c clear);
        other = λ none flag no_clear. rw (eq-eqb code 0 none) (other_leaves (passes none) flag no_clear);
      }

-- So it is with every command on a sound bench, decoded or from bytes.
pub command_free : (b : Bench) → GoodBench b → (c : Command) → FreeAfter b c (carry_out b c).told.code (carry_out b c).bench
unfolding carry_out
command_free b good c =
    by_code b good c (parts_of c.kind) (carry_code b c) (command_accepted b good c)

pub bytes_free : (b : Bench) → GoodBench b → (s : List ℕ) → FreeAfter b (said s) (carry_out_bytes b s).told.code (carry_out_bytes b s).bench
unfolding carry_out_bytes
bytes_free b good s =
    by_code b good (said s) (said_parts s) (carry_bytes_code b s) (bytes_accepted b good s)

-- An accepted append stands behind the entries that the open macro had, where the command is one that a program can hold, and leaves the entries of
-- every other macro.
module _ (b : Bench) (good : GoodBench b) (c : Command) (flag : c.flag ≡ true) (none : (carry_out b c).told.code ≡ 0) where
  passed : Accepted b c
  unfolding carry_out
  passed = command_accepted b good c none

  left_is : (carry_out b c).bench ≡ effect_of b c
  unfolding carry_out
  left_is = rw (eq-eqb (carry_code b c) 0 none)

  pub append_behind : Held c → entries_of (carry_out b c).bench.store b.store.opened ≡ entries_of b.store b.store.opened ++ (c ∷ [])
  append_behind held = rw left_is (append_held b.store (good_store b good) c passed.judge passed.permit held flag)

  pub append_alone : (k : ℕ) → k < 8 → k ≢ b.store.opened → entries_of (carry_out b c).bench.store k ≡ entries_of b.store k
  append_alone k small other = rw left_is (append_others b.store (good_store b good) c passed.judge passed.permit flag k small other)

-- The bench after n appended FLUSHes, carried out one after another.
abbrev pub flushed : Bench → ℕ → Bench
flushed b zero = b
flushed b (suc n) = (carry_out (flushed b n) flush).bench

-- One of them on a sound bench with a macro open: it gets what the rows of the store say.
flush_judged : judge_code flush ≡ 0
unfolding judge_code
flush_judged = refl

flush_code : (b : Bench) → GoodBench b → carry_code b flush ≡ permit_code b.store flush
flush_code b good = rw (carry_code_lem b flush good.sound, flush_judged) (behind_code_lem b flush)

-- After k of them: the macro is still open, and k fewer entries are free, or none.
record After (free k : ℕ) (b : Bench) : Type 0 where
  good : GoodBench b
  opened : b.store.opened < 8
  left : free_in b.store ≡ free - k

-- The next one is taken where an entry is free,
next_taken : (free k : ℕ) (b : Bench) → After free k b → k < free → (carry_code b flush ≡ 0) × After free (suc k) (carry_out b flush).bench
unfolding carry_out
next_taken free k b at more = (zero, rw zero next)
  where
    permit : permit_code b.store flush ≡ 0
    permit = flush_taken b.store at.opened (omega (arith, at.left))

    zero : carry_code b flush ≡ 0
    zero = flush_code b at.good ∙ permit

    next : After free (suc k) (effect_of b flush)
    next =
        let good = good_store b at.good in
        let one = append_free b.store good flush flush_judged permit refl in
        let same = append_open b.store good flush flush_judged permit refl in
        record {
          good = effect_keeps b at.good flush (record { judge = flush_judged; permit = permit });
          opened = omega (arith, same, at.opened);
          left = omega (arith, one, at.left);
        }

-- and gets 16 where none is.
next_refused : (free k : ℕ) (b : Bench) → After free k b → free ≤ k → (carry_code b flush ≡ 16) × After free (suc k) (carry_out b flush).bench
unfolding carry_out
next_refused free k b at none =
    let full : carry_code b flush ≡ 16 = flush_code b at.good ∙ flush_refused b.store at.opened (omega (arith, at.left)) in
    (full, rw full (record { good = at.good; opened = at.opened; left = omega (arith, at.left) }))

next : (free k : ℕ) (b : Bench) → After free k b
    → (carry_code b flush ≡ cond (ltb k free) 0 16) × After free (suc k) (carry_out b flush).bench
next free k b at = go (ltb k free) refl
  where
    go : (more : Bool) → ltb k free ≡ more → (carry_code b flush ≡ cond more 0 16) × After free (suc k) (carry_out b flush).bench
    go true e = next_taken free k b at (ltb-true k free e)
    go false e = next_refused free k b at (ltb-false k free e)

after_flushes : (b : Bench) → GoodBench b → b.store.opened < 8 → (k : ℕ) → After (free_in b.store) k (flushed b k)
after_flushes b good small zero = record { good = good; opened = small; left = omega arith }
after_flushes b good small (suc k) = (next (free_in b.store) k (flushed b k) (after_flushes b good small k)).1

-- "the free ones, appends that an open macro would still take": of appended FLUSHes on a reached bench with a macro open exactly the first `free` are
-- accepted, and every further one gets 16. (The code of the one behind the first k.)
pub free_are_appends : (b : Bench) → Reached b → b.store.opened ≢ 255 → (k : ℕ)
    → (carry_out (flushed b k) flush).told.code ≡ cond (ltb k (free_at b).free) 0 16
unfolding carry_out
free_are_appends b reached some k =
    let good = reached_sound b reached in
    let small = (good_store b good).marks.opened some in
    rw (free_answers b good) (next (free_in b.store) k (flushed b k) (after_flushes b good small k)).0
