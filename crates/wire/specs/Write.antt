-- Writing a command: the words that it is made of, their sum, and what a writer answers and leaves in its room.
use Rattle.std.specs.Prelude.{ℕ, ◌+◌, ◌*◌, ◌%◌, List, [], ◌∷◌, ◌++◌, Bool, true, false, cond, not, length, eqb}
use Rattle.words.specs.BigEndian.{word_bytes, bytes_of, has_room, written}
use Rattle.words.specs.Codes.{Check, ◌when◌, first_of}
use Rattle.wire.specs.declared.table.Layout.{Layout}
use Rattle.wire.specs.declared.kinds.Command.{Command}
use Rattle.wire.specs.declared.judging.Refusal.{Refusal}
use Rattle.wire.specs.declared.judging.Told.{Told}
use Rattle.std.specs.Prelude.{Result, Ok, Err}
use Rattle.wire.specs.Table.{row_of}
use Rattle.wire.specs.Kind.{parts_of}
use Rattle.wire.specs.Judge.{plain, told_of, told_for, arg_checks}
use Rattle.wire.specs.Read.{sum_of}

-- The flag as a bit.
abbrev pub flag_bit : Bool → ℕ
flag_bit false = 0
flag_bit true = 1

-- Word 1: opcode, 16 bits; macro flag, 1 bit; length, 15 bits.
abbrev pub head_of : ℕ → Bool → ℕ → ℕ
head_of opcode flag words = opcode * 65536 + flag_bit flag * 32768 + words

-- The argument words: each argument in its field, from the top, and a pad of zeros.
abbrev pub packed_of : Layout → ℕ → ℕ → List ℕ
packed_of Layout.Bare first second = []
packed_of Layout.Byte first second = (first % 256 * 16777216) ∷ []
packed_of Layout.Half first second = (first % 65536 * 65536) ∷ []
packed_of Layout.Halves first second = (first % 65536 * 65536 + second % 65536) ∷ []
packed_of Layout.Singles first second = first ∷ second ∷ []

-- Words and behind them their XOR, as bytes.
unfoldable pub closed : List ℕ → List ℕ
closed ws = bytes_of ws ++ word_bytes (sum_of (bytes_of ws) (length ws))

-- The first word and the argument words of a command.
abbrev pub words_of : Command → List ℕ
words_of c =
    let parts = parts_of c.kind in
    let row = row_of parts.form in
    head_of row.opcode c.flag row.words ∷ packed_of row.layout parts.first parts.second

-- The bytes of a command.
unfoldable pub command_bytes : Command → List ℕ
unfolding closed
command_bytes c = closed (words_of c)

-- Commands as bytes, one after another.
unfoldable pub list_bytes : List Command → List ℕ
list_bytes [] = []
list_bytes (c ∷ cs) = command_bytes c ++ list_bytes cs

-- What a writer answers: what it tells of the command, and how many bytes were written.
pub record Wrote : Type 0 where
  pub told : Told
  pub bytes : ℕ

abbrev pub wrote_of : Result ℕ Refusal → Wrote
wrote_of (Ok bytes) = record { told = plain 0; bytes = bytes }
wrote_of (Err refusal) = record { told = told_of refusal; bytes = 0 }

-- Command writing: 8, then 9 or 10, then 24.
abbrev pub write_checks : Command → List ℕ → List Check
write_checks c room = arg_checks c ++ (24 when not (has_room (command_bytes c) room) ∷ [])

unfoldable pub write_code : Command → List ℕ → ℕ
write_code c room = first_of (write_checks c room)

unfoldable pub wrote_at : Command → List ℕ → Wrote
unfolding write_code
wrote_at c room =
    record {
      told = told_for (write_code c room) (parts_of c.kind);
      bytes = cond (eqb (write_code c room) 0) (length (command_bytes c)) 0;
    }

-- The room afterwards: the command at its front and the rest as it was; all of it as it was on a refusal.
unfoldable pub room_after : Command → List ℕ → List ℕ
unfolding write_code
room_after c room = cond (eqb (write_code c room) 0) (written (command_bytes c) room) room
