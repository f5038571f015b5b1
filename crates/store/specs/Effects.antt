-- What an accepted command does to the store, and what a second does.
use Rattle.std.specs.Prelude.{ℕ, ◌*◌, ◌-◌, List, [], ◌∷◌, ◌++◌, map, Bool, true, false, cond, length, get_or, set, take, replicate, eqb}
use Rattle.wire.specs.declared.kinds.Kind.{Kind}
use Rattle.wire.specs.declared.kinds.Command.{Command}
use Rattle.store.specs.declared.Store.{Store}
use Rattle.store.specs.declared.roles.Role.{Role}
use Rattle.store.specs.declared.groups.Group.{Group}
use Rattle.store.specs.Roles.{role_of}
use Rattle.store.specs.Words.{words_of, no_command, commands_in}
use Rattle.store.specs.Pool.{idle, takes, kept}
use Rattle.store.specs.WrittenOut.{written_out}

abbrev pub store_with : List ℕ → List ℕ → List Bool → ℕ → ℕ → ℕ → Store
store_with pool counts closed opened running left =
    record { pool = pool; counts = counts; closed = closed; opened = opened; running = running; left = left }

-- "Fresh: all numbers zero, .. no macro open, closed or running."
abbrev pub fresh_store : Store
fresh_store = store_with (replicate 576 0) (replicate 8 0) (replicate 8 false) 255 255 0

-- "A flag-1 command is only stored, as the open macro's next entry."
abbrev pub appended_of : Store → Command → Store
appended_of s c = cond (takes s.counts s.closed s.opened) (kept s c) s

-- "OPEN starts an empty macro"
abbrev pub opened_of : Store → ℕ → Store
opened_of s m = store_with s.pool (set s.counts m 0) s.closed m s.running s.left

-- "CLOSE fixes it until CLEAR"
abbrev pub closed_of : Store → Store
closed_of s = store_with s.pool s.counts (set s.closed s.opened true) 255 s.running s.left

-- "RUN makes its macro run from its first entry": all of its seconds are left.
abbrev pub started_of : Store → ℕ → Store
started_of s m = store_with s.pool s.counts s.closed s.opened m (length (written_out s m))

-- "STOP makes the bench idle"
abbrev pub stopped_of : Store → Store
stopped_of s = store_with s.pool s.counts s.closed s.opened 255 0

-- "CLEAR drops all macros, the open one too"
abbrev pub cleared_of : Store → Store
cleared_of s = store_with s.pool (replicate 8 0) (replicate 8 false) 255 s.running s.left

-- An executed command: plain ones are not the store's.
abbrev pub executed_as : Store → Role → Store
executed_as s Role.Plain = s
executed_as s (Role.Open m) = opened_of s m
executed_as s Role.Close = closed_of s
executed_as s (Role.Run m) = started_of s m
executed_as s (Role.Wait n) = s
executed_as s Role.Stop = stopped_of s
executed_as s Role.Clear = cleared_of s

-- The effect of an accepted command.
unfoldable pub applied_of : Store → Command → Store
applied_of s c = cond c.flag (appended_of s c) (executed_as s (role_of c.kind))

-- "A second's answer is that group" (02, Q-2): the words of its entries, in order and as the pool has them, and how many entries they are. The places
-- behind them, up to 64 entries, hold zeros.
abbrev pub entry_words : Kind → List ℕ
entry_words kind = words_of (record { flag = true; kind = kind })

unfoldable pub group_words : List Kind → List ℕ
group_words [] = []
group_words (k ∷ ks) = entry_words k ++ group_words ks

abbrev pub shown_as : List Kind → List ℕ
shown_as ks = group_words ks ++ replicate (192 - length ks * 3) 0

abbrev pub group_of : List Kind → Group
group_of ks = record { words = shown_as ks; count = length ks }

-- The kinds that words say, and those of a group.
abbrev pub kind_at : List ℕ → ℕ → Kind
kind_at words i = (get_or (commands_in words) i no_command).kind

abbrev pub kinds_in : Group → List Kind
kinds_in g = map (λ (c : Command). c.kind) (take g.count (commands_in g.words))

-- "if a macro runs, the next .. of its written-out list is handed over ..": of L seconds with `left` left, group L - left.
abbrev pub group_due : Store → ℕ → ℕ → List Kind
group_due s m left = get_or (written_out s m) (length (written_out s m) - left) []

abbrev pub next_group : Store → List Kind
next_group s = cond (idle s) [] (group_due s s.running s.left)

-- ".. after the last one the bench is idle."
abbrev pub counted_down : Store → Store
counted_down s =
    store_with s.pool s.counts s.closed s.opened (cond (eqb (s.left - 1) 0) 255 s.running) (s.left - 1)

abbrev pub after_second : Store → Store
after_second s = cond (idle s) s (counted_down s)
