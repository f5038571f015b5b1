-- The answers of the reader and of the writer, one law to an outcome.
use Prim.Native.Nat.{ℕ, ◌≤◌, ◌<◌}
use mathlib.Core.Path.{◌≡◌, sym}
use mathlib.Core.Logic.{◌≢◌}
use mathlib.Core.List.{List, [], ◌∷◌}
use native.Mathlib.Omega.{arith}
use lib.ListN.{length}
use lib.Dec.{ltb}
use borrow.Author.Tests.{lt-ltb, le-ltb, ne_eqb}
use Rattle.words.specs.BigEndian.{has_room}
use Rattle.words.specs.Codes.{Check, ◌when◌, first_of}
use Rattle.words.proofs.FirstOf.{Coded, first_refuses, first_passes}
use Rattle.housekeeping.specs.declared.Housekeeping.{Housekeeping}
use Rattle.housekeeping.specs.declared.Refusal.{Refusal}
use Rattle.housekeeping.specs.Frame.{frame_bytes, frame_at}
use Rattle.housekeeping.specs.Answers.{Answer, code_of, items_checks, read_code, read_of, wrote_of, write_code}
use Rattle.words.specs.declared.codes.NoRoom.{NoRoom}
use Rattle.std.specs.Prelude.{Result, Ok, Err, is_ok}

abbrev pub refused_with : ℕ → Answer
refused_with code = record { code = code; taken = [] }

abbrev pub taken_as : Housekeeping → Answer
taken_as h = record { code = 0; taken = h ∷ [] }

-- No refusal has code 0.
pub some_code : (refusal : Refusal) → code_of refusal ≢ 0
some_code Refusal.CutOff e = omega arith
some_code Refusal.WrongTag e = omega arith
some_code Refusal.WrongLength e = omega arith
some_code Refusal.LeftOver e = omega arith

-- Reading: the items, then what is left over.
module _ (s : List ℕ) where
  abbrev over : List Check
  over = 50 when ltb 18 (length s) ∷ []

  coded : Coded (items_checks s)
  coded = omega arith

  answered : (code : ℕ) → code ≡ read_code s → code ≢ 0 → refused_with code ≡ read_of s
  unfolding read_of
  answered code e some = rw (sym e, ne_eqb code 0 some)

  pub wrong_item : (refusal : Refusal) → code_of refusal ≡ first_of (items_checks s) → refused_with (code_of refusal) ≡ read_of s
  unfolding read_code
  wrong_item refusal e =
      answered (code_of refusal) (first_refuses (items_checks s) over coded (code_of refusal) (some_code refusal) e) (some_code refusal)

  pub left_over : 0 ≡ first_of (items_checks s) → 18 < length s → refused_with 50 ≡ read_of s
  unfolding read_code
  left_over none long =
      let due : 50 ≡ first_of over = rw (lt-ltb 18 (length s) long) in
      answered 50 (first_passes (items_checks s) over coded none 50 due) (λ zero. omega arith)

  pub taken : (h : Housekeeping) → 0 ≡ first_of (items_checks s) → length s ≤ 18 → h ≡ frame_at s → taken_as h ≡ read_of s
  unfolding read_of read_code
  taken h none short made =
      let due : 0 ≡ first_of over = rw (le-ltb 18 (length s) short) in
      let code : 0 ≡ read_code s = first_passes (items_checks s) over coded none 0 due in
      rw (sym code, made)

-- Writing: whether the 18 bytes had room.
pub told : (h : Housekeeping) (room : List ℕ) (wrote : Result (Unit {0}) NoRoom) → is_ok wrote ≡ has_room (frame_bytes h) room
    → wrote_of wrote ≡ write_code h room
unfolding write_code
told h room (Ok done) fits = rw (sym fits)
told h room (Err refused) fits = rw (sym fits)
