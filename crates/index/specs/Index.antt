-- 02, Q-14: "Keep an index beside a list: how many records, at most 512, and the offset where each one's bytes begin."
use Rattle.std.specs.Prelude.{ℕ, ◌-◌, List, [], ◌++◌, map, length, get_or, take, drop}
use Rattle.walk.specs.Walk.{rests}

-- Where the commands begin that a walk finds from a place of the list on: each rest begins as far before the list's end as it has bytes.
unfoldable pub starts_from : List ℕ → ℕ → List ℕ
starts_from s at = map (λ r. length s - length r) (rests (drop at s))

-- The last of some offsets; 0 where there is none.
abbrev pub last_of : List ℕ → ℕ
last_of old = get_or old (length old - 1) 0

-- "When a list grows at its end the index is extended, anew from a command that had code 1, 2 or 3": all offsets of an earlier index stay but the last,
-- and from that one on the list is walked. Only a list's last command can have such a code, and any other last command begins there again.
unfoldable pub index_of : List ℕ → List ℕ → List ℕ
index_of s old = take (length old - 1) old ++ starts_from s (last_of old)

-- An index that is built anew: no earlier one.
abbrev pub built : List ℕ → List ℕ
built s = index_of s []
