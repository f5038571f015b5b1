-- "For a sender and number the bytes are shown as part of that sender's list".
use Rattle.std.specs.Prelude.{ℕ, ◌+◌, ◌-◌, ◌≡◌, List, [], Bool, cond, not, ◌||◌, length, take, drop, ltb, eqb}
use Rattle.std.specs.Borrow.{Bor}
use Rattle.wire.specs.Read.{span_of}
use Rattle.walk.specs.Walk.{start_after}

-- "any request where either list is longer than 4,096 bytes"
abbrev pub too_long : List ℕ → List ℕ → Bool
too_long kit pupil = ltb 4096 (length kit) || ltb 4096 (length pupil)

-- Where command `number`, from 1, begins in its list; the list's length where there is no such command.
abbrev pub start_of : List ℕ → ℕ → ℕ
start_of s number = cond (eqb number 0) (length s) (start_after s (number - 1))

-- The bytes of the command that begins at a place: the 4L bytes, or all that is left where codes 1 to 3 ended the list.
abbrev pub bytes_at : List ℕ → ℕ → List ℕ
bytes_at s at = take (span_of (drop at s)) (drop at s)

-- The bytes of command `number`. "A number that has no record shows an empty part"
abbrev pub command_of : List ℕ → ℕ → List ℕ
command_of s number = bytes_at s (start_of s number)

-- The list of a sender: 1 the kit's, 2 the pupil's; any other sender has none.
abbrev pub list_of : List ℕ → List ℕ → ℕ → List ℕ
list_of kit pupil sender = cond (eqb sender 1) kit (cond (eqb sender 2) pupil [])

unfoldable pub shown_of : List ℕ → List ℕ → ℕ → ℕ → List ℕ
shown_of kit pupil sender number = cond (too_long kit pupil) [] (command_of (list_of kit pupil sender) number)

-- The number to look up in the sender's list: 0, which no command has, where nothing is to be shown whatever the number.
abbrev pub asked_of : List ℕ → List ℕ → ℕ → ℕ → ℕ
asked_of kit pupil sender number = cond (too_long kit pupil || not (eqb sender 1 || eqb sender 2)) 0 number

-- How far into its list a part begins: where the command does if any bytes are shown, else at the list's start.
abbrev pub offset_to : List ℕ → ℕ → ℕ
offset_to bytes start = cond (eqb (length bytes) 0) 0 start

unfoldable pub offset_of : List ℕ → List ℕ → ℕ → ℕ → ℕ
offset_of kit pupil sender number = offset_to (shown_of kit pupil sender number) (start_of (list_of kit pupil sender) number)

-- The slice that the answer is a part of: the sender's own, and the kit's for a sender other than 1 or 2.
abbrev pub slice_of : Bor (List ℕ) → Bor (List ℕ) → ℕ → Bor (List ℕ)
slice_of kit pupil sender = cond (eqb sender 2) pupil kit

-- The place of a part: in its slice's own memory, so many bytes behind the slice's first. An empty part has a place too, at offset 0.
pub record Placed (slice part : Bor (List ℕ)) (offset : ℕ) : Type 0 where
  pub block : part.ref_ptr.0 ≡ slice.ref_ptr.0
  pub start : part.ref_ptr.1 ≡ slice.ref_ptr.1 + offset
