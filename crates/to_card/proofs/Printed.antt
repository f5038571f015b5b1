-- What the program writes, of the meanings: the stored form of every list that passes has room in 4,106 bytes, and so 24 is never found.
use Prim.Native.Nat.{ℕ, ◌≤◌}
use mathlib.Core.Path.{◌≡◌, refl}
use mathlib.Core.List.{List, []}
use mathlib.Core.Bool.{Bool, true, false, cond}
use native.Mathlib.Omega.{arith}
use lib.ListN.{length}
use lib.Dec.{ltb}
use borrow.Author.Tests.{ltb-false}
use Rattle.words.proofs.Front.{Bytes}
use Rattle.wire.specs.Judge.{plain}
use Rattle.text.specs.Findings.{finding}
use Rattle.card.specs.List.{Said, said, bad, stored_bytes, raw_says}
use Rattle.card.specs.Answers.{refused_as, stored_by, to_card}
use Rattle.card.proofs.Bounds.{raw_stored_short}
use Rattle.moving.specs.Found.{found_by, bytes_by}
use Rattle.moving.proofs.Results.{Moves, refused_moves, passed_moves}
use Rattle.to_card.specs.Printed.{found, bytes_in}

module _ (raw room : List ℕ) where
  pub fits : Bytes raw → 4106 ≤ length room → (found raw).told.code ≡ 0 → length (bytes_in raw) ≤ length room
  fits bytes enough = go (ltb 4096 (length raw)) (raw_says raw) refl refl
    where
      go : (long : Bool) (says : Said) → ltb 4096 (length raw) ≡ long → raw_says raw ≡ says
          → (cond long (finding (plain 20) 0) (found_by says (λ cs end. []))).told.code ≡ 0 → length (bytes_by says stored_bytes) ≤ length room
      go true says is_long is none = absurd (let z : ◌≡◌ {A = ℕ} 20 0 = none in omega arith)
      go false (said cs end) is_long is none = omega (arith, enough, raw_stored_short raw cs end bytes is, ltb-false 4096 (length raw) is_long)
      go false (bad number told) is_long is none = omega arith

  pub moves : ((found raw).told.code ≡ 0 → length (bytes_in raw) ≤ length room) → Moves (found raw) (bytes_in raw) room (to_card raw room)
  unfolding to_card
  moves = go (ltb 4096 (length raw)) (raw_says raw)
    where
      go : (long : Bool) (says : Said) → let f = cond long (finding (plain 20) 0) (found_by says (λ cs end. [])) in
          (f.told.code ≡ 0 → length (bytes_by says stored_bytes) ≤ length room)
          → Moves f (bytes_by says stored_bytes) room (cond long (refused_as (plain 20) 0 room) (stored_by says room))
      go true says fit = record { answered = refl; lies = refl }
      go false (said cs end) fit = passed_moves [] (stored_bytes cs) room tt fit
      go false (bad number told) fit = refused_moves told number room
