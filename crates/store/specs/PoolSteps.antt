-- Steps of the implementation: no public promise of the product (`bench`, `wire`, `frame`) needs them.
-- One entry as its words, and the words that are moved up by one entry before another is put into the gap.
use Rattle.std.specs.Prelude.{ℕ, ◌+◌, ◌-◌, List, ◌++◌, take, drop}
use Rattle.wire.specs.declared.kinds.Command.{Command}
use Rattle.store.specs.declared.pool.Entry.{Entry}
use Rattle.store.specs.Words.{command_of}

-- The command that an entry's words say.
abbrev pub command_in : Entry → Command
command_in e = command_of e.head e.first e.second

-- The words with those from `from` to `to` once more, three places up.
unfoldable pub raised : List ℕ → ℕ → ℕ → List ℕ
raised ws from to = take (from + 3) ws ++ (take (to - from) (drop from ws) ++ drop (to + 3) ws)
