-- The readings of 02, Q-10, on small lists, as claims that the machine computes.
use Prim.Native.Nat.{ℕ}
use mathlib.Core.Path.{◌≡◌, refl}
use mathlib.Core.List.{List, [], ◌∷◌, ◌++◌}
use mathlib.Core.Bool.{true, false}
use lib.ListN.{take, drop}
use Rattle.wire.specs.Read.{sum_of, read_code, span_of}
use Rattle.rescue.specs.Pieces.{passing, pieces_of, kept_in, kept_of, Stretch, stretches_in, stretches_of, table_of}
use Rattle.rescue.specs.Answers.{answer, rescued_as, room_after, table_after}
use Rattle.rescue.specs.Whole.{command, stretch, parts_in, parts_of}

-- A FLUSH; power on; WAIT 2 with flag 0, which is code 10; CLOSE with flag 1, which is code 9; IMAGE with interval 0, which is code 8; and a goal whose two
-- words are a FLUSH.
abbrev flush : List ℕ
flush = 1 ∷ 90 ∷ 0 ∷ 2 ∷ 1 ∷ 90 ∷ 0 ∷ 2 ∷ []

abbrev power_on : List ℕ
power_on = 1 ∷ 20 ∷ 0 ∷ 3 ∷ 1 ∷ 0 ∷ 0 ∷ 0 ∷ 0 ∷ 20 ∷ 0 ∷ 3 ∷ []

abbrev executed_wait : List ℕ
executed_wait = 127 ∷ 4 ∷ 0 ∷ 3 ∷ 0 ∷ 2 ∷ 0 ∷ 0 ∷ 127 ∷ 6 ∷ 0 ∷ 3 ∷ []

abbrev appended_close : List ℕ
appended_close = 127 ∷ 2 ∷ 128 ∷ 2 ∷ 127 ∷ 2 ∷ 128 ∷ 2 ∷ []

abbrev interval_zero : List ℕ
interval_zero = 1 ∷ 80 ∷ 0 ∷ 3 ∷ 0 ∷ 5 ∷ 0 ∷ 0 ∷ 1 ∷ 85 ∷ 0 ∷ 3 ∷ []

abbrev flush_in_goal : List ℕ
flush_in_goal = 1 ∷ 83 ∷ 0 ∷ 4 ∷ flush ++ (1 ∷ 83 ∷ 0 ∷ 4 ∷ [])

abbrev span : ℕ → ℕ → Stretch
span start size = record { start = start; size = size }

-- A command is kept with 0, 9 or 10, and with no other code.
pub codes :
    (passing flush ≡ true)
    × (passing executed_wait ≡ true)
    × (passing appended_close ≡ true)
    × (passing interval_zero ≡ false)
    × (passing (take 7 flush) ≡ false)
    × (passing (take 8 power_on) ≡ false)
    × (passing [] ≡ false)
unfolding passing read_code sum_of
codes = (refl, refl, refl, refl, refl, refl, refl)

-- One byte is skipped at a time, and neighbours are one stretch: in front, between and behind.
pub stretches :
    (kept_of (255 ∷ flush) ≡ flush)
    × (stretches_of (255 ∷ flush) ≡ span 0 1 ∷ [])
    × (kept_of (flush ++ (1 ∷ 90 ∷ 0 ∷ power_on)) ≡ flush ++ power_on)
    × (stretches_of (flush ++ (1 ∷ 90 ∷ 0 ∷ power_on)) ≡ span 8 3 ∷ [])
    × (stretches_of (255 ∷ flush ++ (7 ∷ 7 ∷ flush) ++ take 7 flush) ≡ span 0 1 ∷ span 9 2 ∷ span 19 7 ∷ [])
    × (stretches_of (flush ++ interval_zero ++ flush) ≡ span 8 12 ∷ [])
    × (stretches_of (flush ++ power_on) ≡ [])
unfolding passing read_code sum_of span_of pieces_of kept_in stretches_in
stretches = (refl, refl, refl, refl, refl, refl, refl)

-- What stands within a command that passes is passed with it; within one that does not, it is found: of the goal with another first byte the FLUSH is kept.
pub within :
    (stretches_of flush_in_goal ≡ [])
    × (kept_of (2 ∷ drop 1 flush_in_goal) ≡ flush)
    × (stretches_of (2 ∷ drop 1 flush_in_goal) ≡ span 0 4 ∷ span 12 4 ∷ [])
    × (parts_of (2 ∷ drop 1 flush_in_goal) ≡ stretch 0 (2 ∷ 83 ∷ 0 ∷ 4 ∷ []) ∷ command flush ∷ stretch 12 (1 ∷ 83 ∷ 0 ∷ 4 ∷ []) ∷ [])
unfolding passing read_code sum_of span_of pieces_of kept_in stretches_in parts_in
within = (refl, refl, refl, refl)

-- A byte in front of a FLUSH: eight bytes of room and four of the table are enough, one byte less of either is 24, and then both stay as they were.
abbrev eight : List ℕ
eight = 170 ∷ 170 ∷ 170 ∷ 170 ∷ 170 ∷ 170 ∷ 170 ∷ 170 ∷ []

pub rooms :
    (rescued_as (255 ∷ flush) eight (take 4 eight) ≡ answer 0 8 1)
    × (table_after (255 ∷ flush) eight (take 5 eight) ≡ 0 ∷ 0 ∷ 0 ∷ 1 ∷ 170 ∷ [])
    × (rescued_as (255 ∷ flush) (take 7 eight) (take 4 eight) ≡ answer 24 0 0)
    × (rescued_as (255 ∷ flush) eight (take 3 eight) ≡ answer 24 0 0)
    × (room_after (255 ∷ flush) eight (take 3 eight) ≡ eight)
unfolding passing read_code sum_of span_of pieces_of kept_in stretches_in table_of rescued_as room_after table_after
rooms = (refl, refl, refl, refl, refl)
