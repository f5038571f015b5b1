-- How long a command is on the wire: as many words as its row says, and four bytes to a word.
use Prim.Native.Nat.{ℕ, ◌+◌, ◌*◌, ◌≤◌}
use mathlib.Core.Path.{◌≡◌, ◌∙◌}
use mathlib.Core.List.{List}
use native.Mathlib.Omega.{arith}
use lib.ListN.{length, length-append}
use Rattle.words.specs.BigEndian.{word_bytes, bytes_of}
use Rattle.words.proofs.Laws.{length-bytes_of}
use Rattle.wire.specs.declared.table.Form.{Form}
use Rattle.wire.specs.declared.table.Layout.{Layout}
use Rattle.wire.specs.declared.kinds.Command.{Command}
use Rattle.wire.specs.Table.{row_of}
use Rattle.wire.specs.Kind.{parts_of}
use Rattle.wire.specs.Read.{sum_of}
use Rattle.wire.specs.Write.{packed_of, closed, words_of, command_bytes}
use Rattle.wire.proofs.Layouts.{arg_words, length_packed, form_words}

-- A row's length is that of its layout's words with the first word and the sum.
pub row_words : (form : Form) (first second : ℕ) → (row_of form).words ≡ length (packed_of (row_of form).layout first second) + 2
row_words form first second = omega (arith, form_words form, length_packed (row_of form).layout first second)

-- A layout has at most two argument words.
pub few_words : (layout : Layout) → arg_words layout ≤ 2
few_words Layout.Bare = omega arith
few_words Layout.Byte = omega arith
few_words Layout.Half = omega arith
few_words Layout.Halves = omega arith
few_words Layout.Singles = omega arith

-- No command is longer than four words.
pub row_words_most : (form : Form) → (row_of form).words ≤ 4
row_words_most form = omega (arith, form_words form, few_words (row_of form).layout)

-- Words with their sum behind them take four bytes each.
pub length-closed : (ws : List ℕ) → length (closed ws) ≡ (length ws + 1) * 4
unfolding closed
length-closed ws = length-append (bytes_of ws) (word_bytes (sum_of (bytes_of ws) (length ws))) ∙ omega (arith, length-bytes_of ws)

pub length_command : (c : Command) → length (command_bytes c) ≡ (row_of (parts_of c.kind).form).words * 4
unfolding command_bytes
length_command c =
    let parts = parts_of c.kind in
    omega (arith, length-closed (words_of c), row_words parts.form parts.first parts.second)
