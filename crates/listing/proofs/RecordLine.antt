-- The line of a record, of the record's own bytes.
use Prim.Native.Nat.{ℕ, ◌+◌, ◌*◌, ◌≤◌, ◌<◌}
use mathlib.Core.Path.{◌≡◌, sym, ap, ◌∙◌}
use mathlib.Core.List.{List}
use native.Mathlib.Omega.{arith}
use lib.ListN.{take, drop}
use lib.Seq.{get_or-take, get_or-drop}
use Rattle.words.specs.BigEndian.{byte_at, word_at}
use Rattle.wire.specs.declared.judging.Told.{Told}
use Rattle.report.specs.Record.{record_bytes, record_length}
use Rattle.listing.specs.Text.{line_of, line_at}

-- The line of a sender, a number and a verdict.
abbrev pub line_for : ℕ → ℕ → Told → List ℕ
line_for sender number verdict =
    let stray = verdict.stray in
    line_of (record { sender = sender; number = number; code = verdict.code; par = stray.par; value = stray.value })

-- The line at a place of a report where a record stands is the line of that record.
module _ (room : List ℕ) (k sender number : ℕ) (verdict : Told)
    (stands : take record_length (drop (record_length * k) room)
    ≡ record_bytes sender verdict.code verdict.stray.par number verdict.stray.value) where
  abbrev bytes : List ℕ
  bytes = record_bytes sender verdict.code verdict.stray.par number verdict.stray.value

  byte_there : (j at : ℕ) → j < record_length → record_length * k + j ≡ at → byte_at room at ≡ byte_at bytes j
  byte_there j at within place =
      ap (byte_at room) (sym place)
      ∙ sym (get_or-take record_length (drop (record_length * k) room) j 0 within ∙ get_or-drop (record_length * k) room j 0)
      ∙ ap (λ bytes. byte_at bytes j) stands

  word_there : (j at : ℕ) → j + 4 ≤ record_length → record_length * k + j ≡ at → word_at room at ≡ word_at bytes j
  word_there j at within place =
      omega (
        arith,
        byte_there j at (omega arith) place,
        byte_there (j + 1) (at + 1) (omega arith) (omega arith),
        byte_there (j + 2) (at + 2) (omega arith) (omega arith),
        byte_there (j + 2 + 1) (at + 2 + 1) (omega arith) (omega arith),
      )

  pub record_line : line_at room k ≡ line_for sender number verdict
  record_line =
      let at = k * record_length in
      let numbered : word_at room (at + 4) ≡ number = word_there 4 (at + 4) (omega arith) (omega arith) ∙ omega arith in
      let valued : word_at room (at + 8) ≡ verdict.stray.value = word_there 8 (at + 8) (omega arith) (omega arith) ∙ omega arith in
      rw (
        byte_there 0 at (omega arith) (omega arith),
        byte_there 1 (at + 1) (omega arith) (omega arith),
        byte_there 2 (at + 2) (omega arith) (omega arith),
        numbered,
        valued,
      )
