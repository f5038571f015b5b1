-- "The list program has the kit list power on, region 0 0, algorithm 0, auto flush 1".
use Rattle.std.specs.Prelude.{ℕ, List, [], ◌∷◌, false}
use Rattle.wire.specs.declared.kinds.Command.{Command}
use Rattle.wire.specs.declared.kinds.Kind.{Kind}
use Rattle.wire.specs.Write.{list_bytes}

-- A command that is to be executed, not appended.
abbrev pub executed : Kind → Command
executed kind = record { flag = false; kind = kind }

abbrev pub kit_commands : List Command
kit_commands = executed (Kind.ImgPwr 1) ∷ executed (Kind.ImgRegion 0 0) ∷ executed (Kind.TrkAlg 0) ∷ executed (Kind.FlushAuto 1) ∷ []

unfoldable pub kit_bytes : List ℕ
unfolding list_bytes
kit_bytes = list_bytes kit_commands
