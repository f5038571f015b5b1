-- What the program writes, of the meanings: every raw list that passes has room in 4,096 bytes, and so 24 is never found.
use Prim.Native.Nat.{ℕ, ◌≤◌}
use mathlib.Core.Path.{◌≡◌, refl}
use mathlib.Core.List.{List}
use native.Mathlib.Omega.{arith}
use lib.ListN.{length}
use borrow.Author.Tests.{ltb-false}
use Rattle.words.proofs.Order.{due_none}
use Rattle.wire.specs.Write.{list_bytes}
use Rattle.card.specs.List.{Said, said, bad, stored_says}
use Rattle.card.specs.Answers.{raw_by, from_card}
use Rattle.moving.specs.Found.{found_by, bytes_by}
use Rattle.moving.proofs.Results.{Moves, refused_moves, passed_moves}
use Rattle.from_card.specs.Printed.{whole_checks, found, bytes_in}

module _ (stored room : List ℕ) where
  pub fits : 4096 ≤ length room → (found stored).told.code ≡ 0 → length (bytes_in stored) ≤ length room
  fits enough = go (stored_says stored)
    where
      go : (says : Said) → (found_by says (whole_checks (length stored))).told.code ≡ 0 → length (bytes_by says list_bytes) ≤ length room
      go (said cs end) none =
          let passed = due_none (whole_checks (length stored) cs end) refl none in
          omega (arith, enough, ltb-false 4096 (length (list_bytes cs)) passed.1.0)
      go (bad number told) none = omega arith

  pub moves : ((found stored).told.code ≡ 0 → length (bytes_in stored) ≤ length room) → Moves (found stored) (bytes_in stored) room (from_card stored room)
  unfolding from_card
  moves = go (stored_says stored)
    where
      go : (says : Said) → ((found_by says (whole_checks (length stored))).told.code ≡ 0 → length (bytes_by says list_bytes) ≤ length room)
          → Moves (found_by says (whole_checks (length stored))) (bytes_by says list_bytes) room (raw_by (length stored) says room)
      go (said cs end) fit = passed_moves (whole_checks (length stored) cs end) (list_bytes cs) room (omega arith, (omega arith, tt)) fit
      go (bad number told) fit = refused_moves told number room
