-- What the assembler writes, of the meanings: every list that passes has room in 4,096 bytes, and so what is to be written stands at the front of
-- them.
use Prim.Native.Nat.{ℕ, ◌≤◌}
use mathlib.Core.Path.{◌≡◌, refl}
use mathlib.Core.List.{List}
use mathlib.Core.Bool.{cond}
use native.Mathlib.Omega.{arith}
use lib.ListN.{length}
use lib.Dec.{eqb, ltb}
use borrow.Author.Tests.{ltb-false}
use Rattle.words.specs.BigEndian.{written}
use Rattle.text.specs.Findings.{first_found, outcome_for}
use Rattle.text.specs.Assemble.{bytes_in, text_findings, assemble_findings, assembled_as, room_after}
use Rattle.text.proofs.Found.{found_silent, whole_silent}
use Rattle.assemble.specs.Printed.{found}

module _ (typed room : List ℕ) where
  pub fits : 4096 ≤ length room → (found typed).told.code ≡ 0 → length (bytes_in typed) ≤ length room
  fits enough none =
      let passed = found_silent (text_findings typed) none in
      let above = ltb 4096 (length (bytes_in typed)) in
      omega (arith, ltb-false 4096 (length (bytes_in typed)) (whole_silent 20 above (λ e. omega arith) passed.1.1.0))

  pub answered : assembled_as typed room ≡ outcome_for (first_found (assemble_findings typed room)) (length (bytes_in typed))
  unfolding assembled_as
  answered = refl

  pub stays : room_after typed room ≡ cond (eqb (first_found (assemble_findings typed room)).told.code 0) (written (bytes_in typed) room) room
  unfolding room_after assembled_as
  stays = refl
