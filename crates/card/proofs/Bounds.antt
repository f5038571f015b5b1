-- How long a stored list is: no command is longer than it was, so that a list is longer by its first two numbers at most.
use Prim.Native.Nat.{ℕ, ◌+◌, ◌*◌, ◌^◌, ◌≤◌, ◌<◌}
use mathlib.Core.Path.{◌≡◌, ap}
use mathlib.Core.List.{List, [], ◌∷◌, ◌++◌}
use mathlib.Core.Bool.{Bool, true, false}
use native.Mathlib.Omega.{arith}
use lib.ListN.{length, length-append}
use Rattle.words.proofs.Front.{Bytes}
use Rattle.wire.specs.declared.table.Layout.{Layout}
use Rattle.wire.specs.declared.kinds.Command.{Command}
use Rattle.wire.specs.Table.{row_of, arguments_of}
use Rattle.wire.specs.Kind.{parts_of}
use Rattle.wire.specs.Write.{flag_bit, command_bytes, list_bytes}
use Rattle.wire.proofs.Layouts.{Within, arg_words, form_words}
use Rattle.wire.proofs.Lengths.{length_command}
use Rattle.wire.proofs.RoundTrip.{Held, held_within}
use Rattle.card.specs.Number.{number_bytes}
use Rattle.card.specs.Command.{arguments_in, numbers_bytes, stored_command}
use Rattle.card.specs.List.{stored_commands, stored_bytes, said, raw_says}
use Rattle.card.proofs.Groups.{number_most, number_few}
use Rattle.card.proofs.Lists.{Good, none, some, raw_listed}

bit_short : (flag : Bool) → length (number_bytes (flag_bit flag)) ≤ 1
bit_short true = number_few 0 1 (omega arith)
bit_short false = number_few 0 0 (omega arith)

-- The arguments' numbers take no more than their words, the last word and two bytes.
arguments_short : (layout : Layout) (first second : ℕ) → Within layout first second
    → length (numbers_bytes (arguments_in (arguments_of layout) first second)) + 6 ≤ (arg_words layout + 2) * 4
unfolding numbers_bytes
arguments_short Layout.Bare first second h = omega arith
arguments_short Layout.Byte first second h = omega (arith, length-append (number_bytes first) [], number_most first)
arguments_short Layout.Half first second h = omega (arith, length-append (number_bytes first) [], number_most first)
arguments_short Layout.Halves first second h =
    let one : first < 128 ^ 3 = omega (arith, h.0) in
    let two : second < 128 ^ 3 = omega (arith, h.1) in
    omega (
      arith,
      length-append (number_bytes first) (number_bytes second ++ []),
      length-append
          (number_bytes second) [],
      number_few 2 first one,
      number_few 2 second two,
    )
arguments_short Layout.Singles first second h =
    omega (arith, length-append (number_bytes first) (number_bytes second ++ []), length-append (number_bytes second) [], number_most first, number_most second)

-- A stored command is no longer than the raw one.
pub command_short : (c : Command) → Held c → length (stored_command c) ≤ length (command_bytes c)
unfolding stored_command numbers_bytes
command_short c held =
    let parts = parts_of c.kind in
    let row = row_of (parts_of c.kind).form in
    let arguments = numbers_bytes (arguments_in (arguments_of (row_of (parts_of c.kind).form).layout) (parts_of c.kind).first (parts_of c.kind).second) in
    omega (
      arith,
      length-append (number_bytes row.opcode) (number_bytes (flag_bit c.flag) ++ arguments),
      length-append (number_bytes (flag_bit c.flag)) arguments,
      number_most row.opcode,
      bit_short c.flag,
      arguments_short row.layout parts.first parts.second (held_within c.kind held),
      length_command c,
      form_words parts.form,
    )

commands_short : (cs : List Command) → Good cs → length (stored_commands cs) ≤ length (list_bytes cs)
unfolding stored_commands list_bytes
commands_short [] none = omega arith
commands_short (c ∷ cs) (some held allowed good) =
    omega (
      arith,
      commands_short cs good,
      command_short c held,
      length-append (stored_command c) (stored_commands cs),
      length-append (command_bytes c)
          (list_bytes cs),
    )

-- A stored list is never longer than its raw one and the first two numbers, which have five bytes each at most.
pub stored_short : (cs : List Command) → Good cs → length (stored_bytes cs) ≤ length (list_bytes cs) + 10
unfolding stored_bytes
stored_short cs good =
    omega (
      arith,
      commands_short cs good,
      number_most 1,
      number_most (length cs),
      length-append (number_bytes 1) (number_bytes (length cs) ++ stored_commands cs),
      length-append (number_bytes (length cs)) (stored_commands cs),
    )

-- Of a raw list that passes throughout.
pub raw_stored_short : (s : List ℕ) (cs : List Command) (end : ℕ) → Bytes s → raw_says s ≡ said cs end → length (stored_bytes cs) ≤ length s + 10
raw_stored_short s cs end bytes e =
    let raw = raw_listed s cs end bytes e in
    omega (arith, stored_short cs raw.good, ap length raw.same)
