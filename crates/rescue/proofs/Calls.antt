-- `rescue` as a caller meets it: when it is taken, what a refusal leaves, and what stands in both rooms.
use Prim.Native.Nat.{ℕ, ◌*◌, ◌≤◌, ◌<◌}
use mathlib.Core.Path.{◌≡◌, refl, sym, ap, ◌∙◌}
use mathlib.Core.Logic.{◌↔◌, ◌≢◌}
use mathlib.Core.List.{List}
use mathlib.Core.Bool.{Bool, true, false, cond, not}
use native.Mathlib.Omega.{arith}
use lib.ListN.{length, take, drop}
use lib.Seq.{take_at}
use lib.Dec.{eqb, ltb}
use borrow.Author.Tests.{eqb-true, ltb-false, le-ltb, lt-ltb, leb-true, le-leb, ne_eqb, not-false}
use Rattle.words.specs.BigEndian.{has_room}
use Rattle.words.proofs.Tests.{neither}
use Rattle.rescue.specs.Pieces.{kept_of, stretches_of}
use Rattle.rescue.specs.Answers.{skipped_of, rescue_code, answer, table_size, rescued_as, room_after, table_after}
use Rattle.rescue.proofs.Order.{rescue_order}
use Rattle.rescue.proofs.Bounds.{kept_short, stretches_456, table_short}
use Rattle.rescue.proofs.Turns.{length_table}

module _ (s room table : List ℕ) where
  -- The code of an answer is that of the call.
  pub answered_code : (rescued_as s room table).code ≡ rescue_code s room table
  unfolding rescued_as
  answered_code = go (eqb (rescue_code s room table) 0) refl
    where
      go : (done : Bool) → eqb (rescue_code s room table) 0 ≡ done
          → (cond done (answer 0 (length (kept_of s)) (length (stretches_of s))) (answer (rescue_code s room table) 0 0)).code ≡ rescue_code s room table
      go true is = sym (eqb-true (rescue_code s room table) 0 is)
      go false is = refl

  -- Demand 1: a refusal leaves every byte of both rooms as it was, and answers with counts of 0.
  pub refused_leaves : rescue_code s room table ≢ 0 → (room_after s room table ≡ room) × (table_after s room table ≡ table)
  unfolding room_after table_after
  refused_leaves refused = rw (ne_eqb (rescue_code s room table) 0 refused) (refl, refl)

  pub refused_counts : rescue_code s room table ≢ 0 → ((rescued_as s room table).kept ≡ 0) × ((rescued_as s room table).stretches ≡ 0)
  unfolding rescued_as
  refused_counts refused = rw (ne_eqb (rescue_code s room table) 0 refused) (refl, refl)

  -- A rescue is taken exactly when the list is not too long and both rooms have enough bytes.
  pub taken : (rescue_code s room table ≡ 0)
      ↔ ((length s ≤ 4096) × ((length (kept_of s) ≤ length room) × (4 * length (stretches_of s) ≤ length table)))
  unfolding rescue_code
  taken = (down, up)
    where
      down : rescue_code s room table ≡ 0 → (length s ≤ 4096) × ((length (kept_of s) ≤ length room) × (4 * length (stretches_of s) ≤ length table))
      down code =
          let none = (rescue_order s room table).accepted.0 code in
          let fit = neither (not (has_room (kept_of s) room)) (not (has_room (skipped_of s) table)) none.1.0 in
          let kept_fits : length (kept_of s) ≤ length room = leb-true _ _ (not-false _ fit.0) in
          let table_fits : length (skipped_of s) ≤ length table = leb-true _ _ (not-false _ fit.1) in
          (ltb-false 4096 (length s) none.0, (kept_fits, omega (arith, length_table (stretches_of s))))

      up : (length s ≤ 4096) × ((length (kept_of s) ≤ length room) × (4 * length (stretches_of s) ≤ length table)) → rescue_code s room table ≡ 0
      up enough =
          rw (
            le-ltb 4096 (length s) enough.0,
            le-leb (length (kept_of s)) (length room) enough.1.0,
            le-leb (length (skipped_of s)) (length table) (omega (arith, length_table (stretches_of s), enough.1.1)),
          )

  -- Of a list that is too long the code is 20, whatever room there is.
  pub too_long_code : 4096 < length s → rescue_code s room table ≡ 20
  unfolding rescue_code
  too_long_code long = rw (lt-ltb 4096 (length s) long)

  -- It is taken wherever the list is not too long, the room is as long as the list and the table has 1,824 bytes.
  pub enough_room : length s ≤ 4096 → length s ≤ length room → 1824 ≤ length table → rescue_code s room table ≡ 0
  enough_room short long table_long =
      taken.1 (short, (omega (arith, kept_short s), omega (arith, table_short s short, length_table (stretches_of s))))

  -- An accepted call leaves the commands and the stretches at the fronts of their rooms, as many bytes as it says, and the rest as it was.
  module _ (code : rescue_code s room table ≡ 0) where
    pub kept_count : (rescued_as s room table).kept ≡ length (kept_of s)
    unfolding rescued_as
    kept_count = rw code

    pub stretch_count : (rescued_as s room table).stretches ≡ length (stretches_of s)
    unfolding rescued_as
    stretch_count = rw code

    pub table_count : table_size (rescued_as s room table).stretches ≡ length (skipped_of s)
    table_count = ap table_size stretch_count ∙ size (ltb (length (stretches_of s)) 456) refl
      where
        size : (b : Bool) → ltb (length (stretches_of s)) 456 ≡ b → cond b (length (stretches_of s) * 4) 1824 ≡ length (skipped_of s)
        size true is = omega (arith, length_table (stretches_of s))
        size false is =
            let most = stretches_456 s (taken.0 code).0 in
            omega (arith, ltb-false (length (stretches_of s)) 456 is, length_table (stretches_of s))

    pub kept_front : take (rescued_as s room table).kept (room_after s room table) ≡ kept_of s
    unfolding room_after
    kept_front = rw (kept_count, code) (take_at (kept_of s) (drop (length (kept_of s)) room) (length (kept_of s)) refl)

    pub table_front : take (4 * (rescued_as s room table).stretches) (table_after s room table) ≡ skipped_of s
    unfolding table_after
    table_front =
        rw (stretch_count, code)
        (take_at (skipped_of s) (drop (length (skipped_of s)) table) (4 * length (stretches_of s)) (length_table (stretches_of s)))
