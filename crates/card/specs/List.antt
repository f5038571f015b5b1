-- 02, Q-4: "The stored form begins with the number 1, then the number of commands"; what a stored list says, and what a raw one does.
use Rattle.std.specs.Prelude.{ℕ, zero, suc, List, [], ◌∷◌, ◌++◌, not, length, eqb}
use Rattle.words.specs.Codes.{◌when◌}
use Rattle.wire.specs.declared.kinds.Command.{Command}
use Rattle.wire.specs.declared.judging.Told.{Told}
use Rattle.wire.specs.Read.{Answer, read_of}
use Rattle.walk.specs.Walk.{rests}
use Rattle.card.specs.Reading.{Got, got, refused, and_then, passing}
use Rattle.card.specs.Number.{number_bytes, number_at}
use Rattle.card.specs.Command.{stored_command, command_at}

-- Commands in stored form, one after another.
unfoldable pub stored_commands : List Command → List ℕ
stored_commands [] = []
stored_commands (c ∷ cs) = stored_command c ++ stored_commands cs

-- The stored form of a list.
unfoldable pub stored_bytes : List Command → List ℕ
unfolding stored_commands
stored_bytes cs = number_bytes 1 ++ (number_bytes (length cs) ++ stored_commands cs)

-- What a list says: its commands and the place behind the last; or what is told of one, and that one's number, 0 where it belongs to no command.
pub data Said : Type 0 where
  said : List Command → ℕ → Said
  bad : ℕ → Told → Said

-- A command in front of what the rest says.
abbrev pub onto : Command → Said → Said
onto c (said cs end) = said (c ∷ cs) end
onto c (bad number told) = bad number told

-- A command of this number, and what the rest behind it says.
abbrev pub next_said : Got Command → ℕ → (ℕ → Said) → Said
next_said (got c end) number rest = onto c (rest end)
next_said (refused told) number rest = bad number told

-- So many stored commands from a place on, of which the first has this number.
unfoldable pub said_from : ℕ → ℕ → List ℕ → ℕ → Said
said_from zero number s at = said [] at
said_from (suc k) number s at = next_said (command_at s at) number (λ end. said_from k (suc number) s end)

-- "36 first number not 1"
unfoldable pub first_at : List ℕ → Got ℕ
first_at s = and_then (number_at s 0) (λ first end. passing (36 when not (eqb first 1) ∷ []) (got first end))

-- The number of commands behind it, which is not judged by itself.
unfoldable pub count_at : List ℕ → Got ℕ
count_at s = and_then (first_at s) (λ first next. number_at s next)

-- What follows from the first two numbers, which belong to no command.
abbrev pub head_then : Got ℕ → (ℕ → ℕ → Said) → Said
head_then (got count end) next = next count end
head_then (refused told) next = bad 0 told

-- What a stored list says.
unfoldable pub stored_says : List ℕ → Said
stored_says s = head_then (count_at s) (λ count at. said_from count 1 s at)

-- A command that was read, in front of what the rest says; or what is told of one that was refused.
abbrev pub next_told : Told → List Command → ℕ → Said → Said
next_told told [] number rest = bad number told
next_told told (c ∷ cs) number rest = onto c rest

abbrev pub raw_next : Answer → ℕ → Said → Said
raw_next a number rest = next_told a.told a.taken number rest

-- A raw list as each of its commands finds it (01, "Two lists, one report"), of which the first has this number; where it ends plays no part.
unfoldable pub raw_from : ℕ → List (List ℕ) → Said
raw_from number [] = said [] 0
raw_from number (s ∷ ss) = raw_next (read_of s) number (raw_from (suc number) ss)

-- What a raw list says.
unfoldable pub raw_says : List ℕ → Said
raw_says s = raw_from 1 (rests s)
