-- Writing a command in two steps: refused by rows 8 to 10, or else decided by the room.
use Prim.Native.Nat.{ℕ}
use mathlib.Core.Path.{◌≡◌, refl, ap}
use mathlib.Core.List.{List, [], ◌∷◌}
use mathlib.Core.Bool.{Bool, true, false, cond, not}
use native.Mathlib.Omega.{arith}
use lib.Dec.{eqb}
use lib.ListN.{length}
use Rattle.words.specs.BigEndian.{has_room, written}
use Rattle.words.specs.Codes.{◌when◌}
use Rattle.words.proofs.FirstOf.{first_append}
use Rattle.wire.specs.declared.kinds.Command.{Command}
use Rattle.wire.specs.Kind.{parts_of}
use Rattle.wire.specs.Judge.{told_for, arg_checks, judge_code, judged}
use Rattle.wire.specs.Write.{command_bytes, write_code, wrote_at, room_after}
use Rattle.wire.specs.Steps.{wrote_allowed}

module _ (c : Command) (room : List ℕ) where
  -- The code of the whole, and answer and room by that code.
  code_is : write_code c room ≡ cond (eqb (judge_code c) 0) (cond (not (has_room (command_bytes c) room)) 24 0) (judge_code c)
  unfolding write_code judge_code
  code_is = first_append (arg_checks c) (24 when not (has_room (command_bytes c) room) ∷ []) (omega arith, (omega arith, (omega arith, tt)))

  answer_at : (code : ℕ) → write_code c room ≡ code
      → wrote_at c room ≡ record { told = told_for code (parts_of c.kind); bytes = cond (eqb code 0) (length (command_bytes c)) 0 }
  unfolding wrote_at
  answer_at code e = ap (λ n. record { told = told_for n (parts_of c.kind); bytes = cond (eqb n 0) (length (command_bytes c)) 0 }) e

  room_at : (code : ℕ) → write_code c room ≡ code → room_after c room ≡ cond (eqb code 0) (written (command_bytes c) room) room
  unfolding room_after
  room_at code e = ap (λ n. cond (eqb n 0) (written (command_bytes c) room) room) e

  -- A command that rows 8 to 10 refuse is not written.
  pub refused : eqb (judge_code c) 0 ≡ false → (record { told = judged c; bytes = 0 } ≡ wrote_at c room) × (room ≡ room_after c room)
  refused late =
      let code : write_code c room ≡ judge_code c = rw (code_is, late) in
      rw (answer_at (judge_code c) code, room_at (judge_code c) code, late) (refl, refl)

  by_room : (fits : Bool) → has_room (command_bytes c) room ≡ fits → write_code c room ≡ cond (not fits) 24 0
      → (wrote_allowed c room ≡ wrote_at c room) × (written (command_bytes c) room ≡ room_after c room)
  by_room true r e = rw (answer_at 0 e, room_at 0 e, r) (refl, refl)
  by_room false r e = rw (answer_at 24 e, room_at 24 e, r) (refl, refl)

  -- One that they allow is written where it has room.
  pub allowed : 0 ≡ judge_code c → (wrote_allowed c room ≡ wrote_at c room) × (written (command_bytes c) room ≡ room_after c room)
  allowed z = by_room (has_room (command_bytes c) room) refl (rw (code_is, ← z))
