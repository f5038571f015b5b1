-- The readings of Q-4, worked out by the meanings themselves.
use mathlib.Core.Path.{◌≡◌, refl}
use mathlib.Core.List.{[], ◌∷◌}
use mathlib.Core.Bool.{true, false}
use Rattle.wire.specs.declared.kinds.Kind.{Kind}
use Rattle.wire.specs.declared.kinds.Command.{Command}
use Rattle.wire.specs.Judge.{plain, stray_with, told_with}
use Rattle.wire.specs.Write.{list_bytes}
use Rattle.card.specs.Reading.{got, refused}
use Rattle.card.specs.Number.{groups_in, number_bytes, run_of, value_of, number_in}
use Rattle.card.specs.Command.{numbers_bytes, stored_command, argument_at, arguments_at, flag_at, flagged, behind_opcode, command_at}
use Rattle.card.specs.List.{stored_commands, stored_bytes, said_from, first_at, count_at, stored_says}
use Rattle.card.specs.Answers.{answer, from_card}

-- Numbers: lowest group first, no needless group, 32 bits; the end of the bytes stands before all else.
numbers :
    (number_bytes 0 ≡ 0 ∷ []) × (number_bytes 300 ≡ 172 ∷ 2 ∷ []) × (number_bytes 0xffffffff ≡ 255 ∷ 255 ∷ 255 ∷ 255 ∷ 15 ∷ [])
    × (number_in (172 ∷ 2 ∷ 9 ∷ []) 0 ≡ got 300 2) × (number_in (128 ∷ 0 ∷ []) 0 ≡ refused (plain 35))
    × (number_in (255 ∷ 255 ∷ 255 ∷ 255 ∷ 15 ∷ []) 0 ≡ got 0xffffffff 5) × (number_in (255 ∷ 255 ∷ 255 ∷ 255 ∷ 16 ∷ []) 0 ≡ refused (plain 35))
    × (number_in (128 ∷ 128 ∷ 128 ∷ 128 ∷ 128 ∷ 128 ∷ []) 0 ≡ refused (plain 34)) × (number_in [] 0 ≡ refused (plain 34))
unfolding groups_in number_bytes run_of value_of number_in
numbers = (refl, refl, refl, refl, refl, refl, refl, refl, refl)

-- A list of one command: IMG_PWR 1 with the flag.
power : Command
power = record { flag = true; kind = Kind.ImgPwr 1 }

stored_form : stored_bytes (power ∷ []) ≡ 1 ∷ 1 ∷ 148 ∷ 2 ∷ 1 ∷ 1 ∷ []
unfolding power groups_in number_bytes numbers_bytes stored_command stored_commands stored_bytes
stored_form = refl

-- Commands: OPEN 3 and what is told of its relatives; mode 300 is out of range and not cut.
commands :
    (command_at (129 ∷ 254 ∷ 1 ∷ 0 ∷ 3 ∷ []) 0 ≡ got (record { flag = false; kind = Kind.Open 3 }) 5)
    × (command_at (128 ∷ 254 ∷ 1 ∷ []) 0 ≡ refused (plain 5))
    × (command_at (148 ∷ 130 ∷ 4 ∷ []) 0 ≡ refused (plain 5))
    × (command_at (129 ∷ 254 ∷ 1 ∷ 2 ∷ []) 0 ≡ refused (plain 38))
    × (command_at (129 ∷ 254 ∷ 1 ∷ 1 ∷ 8 ∷ []) 0 ≡ refused (told_with 8 (stray_with 1 8 0 7)))
    × (command_at (148 ∷ 2 ∷ 0 ∷ 172 ∷ 2 ∷ []) 0 ≡ refused (told_with 8 (stray_with 1 300 0 1)))
    × (command_at (129 ∷ 254 ∷ 1 ∷ 1 ∷ 7 ∷ []) 0 ≡ refused (plain 9))
    × (command_at (130 ∷ 254 ∷ 1 ∷ 1 ∷ []) 0 ≡ refused (plain 9))
    × (command_at (132 ∷ 254 ∷ 1 ∷ 0 ∷ 5 ∷ []) 0 ≡ refused (plain 10))
unfolding run_of value_of number_in argument_at arguments_at flag_at flagged behind_opcode command_at
commands = (refl, refl, refl, refl, refl, refl, refl, refl, refl)

-- Lists: 36; 34 in the first two numbers belongs to no command; too many commands end in 34, too few in 37.
lists :
    ((from_card [] []).answer ≡ answer (plain 34) 0 0)
    × ((from_card (2 ∷ []) []).answer ≡ answer (plain 36) 0 0)
    × ((from_card (1 ∷ 128 ∷ []) []).answer ≡ answer (plain 34) 0 0)
    × ((from_card (1 ∷ 0 ∷ []) []).answer ≡ answer (plain 0) 0 0)
    × ((from_card (1 ∷ 0 ∷ 0 ∷ []) []).answer ≡ answer (plain 37) 0 0)
    × ((from_card (1 ∷ 2 ∷ 130 ∷ 254 ∷ 1 ∷ 0 ∷ []) []).answer ≡ answer (plain 34) 2 0)
unfolding run_of value_of number_in argument_at arguments_at flag_at flagged behind_opcode command_at said_from first_at count_at stored_says list_bytes from_card
lists = (refl, refl, refl, refl, refl, refl)
