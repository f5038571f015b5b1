-- The ends of a rescue: which answer, and what both rooms hold afterwards, by the tests that were passed on the way.
use Prim.Native.Nat.{ℕ, ◌/◌, ◌≤◌, ◌<◌}
use mathlib.Core.Path.{◌≡◌, refl, sym, ap, ◌∙◌}
use mathlib.Core.List.{List, ◌++◌}
use mathlib.Core.Bool.{true, false}
use native.Mathlib.Omega.{arith}
use lib.ListN.{length, take, drop}
use lib.Seq.{length-take-le}
use lib.Dec.{eqb}
use borrow.Author.Tests.{lt-ltb, le-ltb, lt-leb, le-leb}
use Rattle.words.specs.BigEndian.{has_room}
use Rattle.std.specs.Prelude.{Result, Ok, Err}
use Rattle.rescue.specs.declared.Rescued.{Rescued}
use Rattle.rescue.specs.declared.Refusal.{Refusal}
use Rattle.rescue.specs.declared.Sums.{Sums}
use Rattle.rescue.specs.Pieces.{kept_of, stretches_of}
use Rattle.rescue.specs.Answers.{skipped_of, rescue_code, answer, answer_of, rescued_as, room_after, table_after}
use Rattle.rescue.specs.Steps.{Gathered}
use Rattle.rescue.proofs.Turns.{length_table}

-- What is promised of an answer and of both rooms.
abbrev pub Said : List ℕ → List ℕ → List ℕ → Result Rescued Refusal → List ℕ → List ℕ → Type 0
Said s room table r room' table' = (answer_of r ≡ rescued_as s room table) × ((room' ≡ room_after s room table) × (table' ≡ table_after s room table))

module _ (s room table : List ℕ) where
  refused : (code : ℕ) → eqb code 0 ≡ false → rescue_code s room table ≡ code
      → (answer code 0 0 ≡ rescued_as s room table) × ((room ≡ room_after s room table) × (table ≡ table_after s room table))
  unfolding rescued_as room_after table_after
  refused code some is = rw (is, some) (refl, (refl, refl))

  code_long : 4096 < length s → rescue_code s room table ≡ 20
  unfolding rescue_code
  code_long long = rw (lt-ltb 4096 (length s) long)

  pub too_long : 4096 < length s → Said s room table (Err Refusal.TooLong) room table
  too_long long = refused 20 refl (code_long long)

  -- All was gathered.
  module _ (short : length s ≤ 4096) (kept skipped : List ℕ) (sums : Sums) (g : Gathered s kept skipped sums) where
    kept_size : length (take sums.kept kept) ≡ sums.kept
    kept_size = length-take-le sums.kept kept g.kept_fits

    table_size : length (take sums.table skipped) ≡ sums.table
    table_size = length-take-le sums.table skipped g.table_fits

    is_kept : length (kept_of s) ≡ sums.kept
    is_kept = sym (ap length g.kept_front) ∙ kept_size

    is_table : length (skipped_of s) ≡ sums.table
    is_table = sym (ap length g.table_front) ∙ table_size

    code_kept : length room < sums.kept → rescue_code s room table ≡ 24
    unfolding rescue_code
    code_kept less = rw (le-ltb 4096 (length s) short, lt-leb (length (kept_of s)) (length room) (omega (arith, is_kept)))

    pub no_room_kept : length room < sums.kept → Said s room table (Err Refusal.NoRoom) room table
    no_room_kept less = refused 24 refl (code_kept less)

    module _ (fits : sums.kept ≤ length room) where
      kept_fits : has_room (kept_of s) room ≡ true
      kept_fits = le-leb (length (kept_of s)) (length room) (omega (arith, is_kept))

      code_table : length table < sums.table → rescue_code s room table ≡ 24
      unfolding rescue_code
      code_table less =
          rw (le-ltb 4096 (length s) short, kept_fits, lt-leb (length (skipped_of s)) (length table) (omega (arith, is_table)))

      pub no_room_table : length table < sums.table → Said s room table (Err Refusal.NoRoom) room table
      no_room_table less = refused 24 refl (code_table less)

      module _ (table_fits : sums.table ≤ length table) where
        code_done : rescue_code s room table ≡ 0
        unfolding rescue_code
        code_done =
            rw (le-ltb 4096 (length s) short, kept_fits, le-leb (length (skipped_of s)) (length table) (omega (arith, is_table)))

        stretches : sums.table / 4 ≡ length (stretches_of s)
        stretches = omega (arith, is_table, length_table (stretches_of s))

        -- Both were written at the front of their rooms.
        pub done : (front skips : List ℕ) → front ≡ take sums.kept kept → skips ≡ take sums.table skipped
            → Said s room table (Ok (record { kept = sums.kept; stretches = sums.table / 4 })) (front ++ drop sums.kept room) (skips ++ drop sums.table table)
        unfolding rescued_as room_after table_after
        done front skips put_kept put_table =
            rw (code_done, stretches, is_kept, is_table, put_kept ∙ g.kept_front, put_table ∙ g.table_front) (refl, (refl, refl))
