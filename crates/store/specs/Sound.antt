-- The store's part of a sound state, clause by clause.
use Rattle.std.specs.Prelude.{ℕ, zero, suc, List, [], ◌∷◌, Bool, true, cond, not, ◌&&◌, ◌||◌, length, leb, eqb}
use Rattle.wire.specs.declared.kinds.Command.{Command}
use Rattle.wire.specs.Judge.{judge_code}
use Rattle.store.specs.declared.Store.{Store}
use Rattle.store.specs.Roles.{role_of}
use Rattle.store.specs.Pool.{count_of, is_closed, idle, used_in, entries_of}
use Rattle.store.specs.WrittenOut.{most_in, written_out}
use Rattle.store.specs.Checks.{row17, row18}

-- A test of every number below n, and of every element.
unfoldable pub all_below : ℕ → (ℕ → Bool) → Bool
all_below zero test = true
all_below (suc n) test = all_below n test && test n

unfoldable pub all_of : (Command → Bool) → List Command → Bool
all_of test [] = true
all_of test (c ∷ cs) = test c && all_of test cs

-- "each entry is a flag-1 command that passes 7 to 10 and, for a RUN, 17 and 18 as in its own macro"
-- (A decoded command has no pad, so 7 has nothing to say of it.)
abbrev pub entry_holds : List Bool → ℕ → Command → Bool
entry_holds closed m e =
    e.flag && eqb (judge_code e) 0 && not (row17 e.flag (role_of e.kind) m) && not (row18 (role_of e.kind) closed)

abbrev pub entries_hold : Store → ℕ → Bool
entries_hold s m = all_of (entry_holds s.closed m) (entries_of s m)

-- "each closed one has 1 .. and a length of 1 to 600", and no second with more than 64 entries (02, Q-2).
abbrev pub closed_holds : Store → ℕ → Bool
closed_holds s m =
    leb 1 (count_of s m)
    && leb 1 (length (written_out s m))
    && leb (length (written_out s m)) 600
    && leb (most_in (written_out s m)) 64
    && entries_hold s m

-- A macro that is neither closed nor open is not judged.
abbrev pub macro_holds : Store → ℕ → Bool
macro_holds s m = cond (is_closed s m) (closed_holds s m) (cond (eqb s.opened m) (entries_hold s m) true)

-- "a running macro is closed with 1 to its length seconds left"
abbrev pub running_holds : Store → Bool
running_holds s = idle s || (is_closed s s.running && leb 1 s.left && leb s.left (length (written_out s s.running)))

-- "Sound states are judged by the shared limit instead of 24" (02, Q-9).
abbrev pub pool_holds : Store → Bool
pool_holds s = leb (used_in s) 192

unfoldable pub store_sound : Store → Bool
store_sound s = pool_holds s && all_below 8 (macro_holds s) && running_holds s
