-- The kit's list, walked from its start, is read as its four commands, each with code 0, and then it has ended.
use mathlib.Core.Path.{◌≡◌, refl}
use mathlib.Core.List.{[], ◌∷◌, map}
use Rattle.words.specs.BigEndian.{bytes_of}
use Rattle.wire.specs.declared.kinds.Command.{Command}
use Rattle.wire.specs.Judge.{plain}
use Rattle.wire.specs.Read.{Answer, read_of, sum_of, span_of}
use Rattle.wire.specs.Write.{command_bytes}
use Rattle.walk.specs.Walk.{rests}
use Rattle.listing.specs.Kit.{kit_commands, kit_bytes}

abbrev taken : Command → Answer
taken c = record { told = plain 0; taken = c ∷ [] }

pub kit_read : map read_of (rests kit_bytes) ≡ map taken kit_commands
unfolding kit_bytes command_bytes bytes_of sum_of rests read_of span_of
kit_read = refl
