-- 02, Q-9: "The eight macros share 192 entries". What a store says of a macro, and where its entries are. Only `entries_of` and `kept` know the pool;
-- every rule speaks of a macro's entries.
use Rattle.std.specs.Prelude.{ℕ, zero, suc, ◌+◌, ◌*◌, ◌-◌, List, Bool, false, cond, ◌&&◌, ◌||◌, get_or, take, drop, set, ltb, eqb}
use Rattle.wire.specs.declared.kinds.Command.{Command}
use Rattle.store.specs.declared.Store.{Store}
use Rattle.store.specs.Words.{bit, commands_in, inserted}

-- How many entries a macro counts, and whether it is closed.
abbrev pub count_of : Store → ℕ → ℕ
count_of s m = get_or s.counts m 0

abbrev pub is_closed : Store → ℕ → Bool
is_closed s m = get_or s.closed m false

-- No macro runs.
abbrev pub idle : Store → Bool
idle s = eqb s.running 255

-- "Entries in use are those of the open and closed macros": a macro that is neither has none, whatever its count is.
abbrev pub in_use : List Bool → ℕ → ℕ → Bool
in_use closed opened m = get_or closed m false || eqb opened m

unfoldable pub size_of : List ℕ → List Bool → ℕ → ℕ → ℕ
size_of counts closed opened m = cond (in_use closed opened m) (get_or counts m 0) 0

-- The macros in use lie one behind another, in the order of their numbers: where macro m starts.
unfoldable pub start_of : List ℕ → List Bool → ℕ → ℕ → ℕ
start_of counts closed opened zero = 0
start_of counts closed opened (suc m) = start_of counts closed opened m + size_of counts closed opened m

-- The entries in use, and "the free ones, .. 192 less these".
abbrev pub used_of : List ℕ → List Bool → ℕ → ℕ
used_of counts closed opened = start_of counts closed opened 8

abbrev pub free_of : List ℕ → List Bool → ℕ → ℕ
free_of counts closed opened = 192 - used_of counts closed opened

abbrev pub used_in : Store → ℕ
used_in s = used_of s.counts s.closed s.opened

abbrev pub free_in : Store → ℕ
free_in s = free_of s.counts s.closed s.opened

-- So many entries of a pool, from a place on.
unfoldable pub between : List ℕ → ℕ → ℕ → List Command
between pool start size = take size (drop start (commands_in pool))

-- The entries of a macro, in their order.
unfoldable pub entries_of : Store → ℕ → List Command
unfolding between
entries_of s m = between s.pool (start_of s.counts s.closed s.opened m) (size_of s.counts s.closed s.opened m)

-- An append is taken where a macro is open and an entry is free: it comes behind the open macro's last entry, and what lies behind moves up by one.
abbrev pub takes : List ℕ → List Bool → ℕ → Bool
takes counts closed opened = ltb opened 8 && ltb (used_of counts closed opened) 192

abbrev pub pool_with : List ℕ → List ℕ → List Bool → ℕ → Command → List ℕ
pool_with pool counts closed opened c =
    inserted pool (start_of counts closed opened (suc opened) * 3) (used_of counts closed opened * 3) c

abbrev pub words_after : List ℕ → List ℕ → List Bool → ℕ → Command → List ℕ
words_after pool counts closed opened c = cond (takes counts closed opened) (pool_with pool counts closed opened c) pool

-- The store with one entry more in its open macro.
unfoldable pub kept : Store → Command → Store
kept s c =
    record {
      pool = pool_with s.pool s.counts s.closed s.opened c;
      counts = set s.counts s.opened (count_of s s.opened + 1);
      closed = s.closed;
      opened = s.opened;
      running = s.running;
      left = s.left;
    }

-- The closed macros as a status frame has them: "bit m for macro m".
abbrev pub marks_of : List Bool → ℕ
marks_of closed =
    bit (get_or closed 0 false)
    + bit (get_or closed 1 false) * 2
    + bit (get_or closed 2 false) * 4
    + bit (get_or closed 3 false) * 8
    + bit (get_or closed 4 false) * 16
    + bit (get_or closed 5 false) * 32
    + bit (get_or closed 6 false) * 64
    + bit (get_or closed 7 false) * 128
