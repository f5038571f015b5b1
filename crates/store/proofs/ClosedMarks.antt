-- The closed macros as the status frame's byte: each of its bits is a macro's mark.
use Prim.Native.Nat.{ℕ, zero, suc, ◌/◌, ◌%◌, ◌^◌, ◌≤◌, ◌<◌}
use mathlib.Core.Path.{◌≡◌, refl, sym}
use mathlib.Core.List.{List}
use mathlib.Core.Bool.{Bool, true, false, ◌&&◌}
use native.Mathlib.Omega.{arith}
use lib.ListN.{get_or, get_or-eq_default}
use lib.Dec.{ltb, eqb}
use borrow.Author.Tests.{ltb-true, ltb-false}
use Rattle.store.specs.declared.Store.{Store}
use Rattle.store.specs.Words.{bit}
use Rattle.store.specs.Pool.{marks_of, is_closed}
use Rattle.store.proofs.Sound.{Shaped}
use Rattle.store.proofs.Laws.{bit_small}

-- The test of a bit gives back the mark.
bit_test : (b : Bool) → eqb (bit b) 1 ≡ b
bit_test false = refl
bit_test true = refl

record Bits (cl : List Bool) : Type 0 where
  b0 : bit (get_or cl 0 false) ≤ 1
  b1 : bit (get_or cl 1 false) ≤ 1
  b2 : bit (get_or cl 2 false) ≤ 1
  b3 : bit (get_or cl 3 false) ≤ 1
  b4 : bit (get_or cl 4 false) ≤ 1
  b5 : bit (get_or cl 5 false) ≤ 1
  b6 : bit (get_or cl 6 false) ≤ 1
  b7 : bit (get_or cl 7 false) ≤ 1

bits : (cl : List Bool) → Bits cl
bits cl =
    record {
      b0 = bit_small (get_or cl 0 false);
      b1 = bit_small (get_or cl 1 false);
      b2 = bit_small (get_or cl 2 false);
      b3 = bit_small (get_or cl 3 false);
      b4 = bit_small (get_or cl 4 false);
      b5 = bit_small (get_or cl 5 false);
      b6 = bit_small (get_or cl 6 false);
      b7 = bit_small (get_or cl 7 false);
    }

-- Bit m of the eight marks as a number.
bit_of : (cl : List Bool) (m : ℕ) → m < 8 → marks_of cl / 2 ^ m % 2 ≡ bit (get_or cl m false)
bit_of cl zero h = omega (arith, bits cl)
bit_of cl (suc zero) h = omega (arith, bits cl)
bit_of cl (suc (suc zero)) h = omega (arith, bits cl)
bit_of cl (suc (suc (suc zero))) h = omega (arith, bits cl)
bit_of cl (suc (suc (suc (suc zero)))) h = omega (arith, bits cl)
bit_of cl (suc (suc (suc (suc (suc zero))))) h = omega (arith, bits cl)
bit_of cl (suc (suc (suc (suc (suc (suc zero)))))) h = omega (arith, bits cl)
bit_of cl (suc (suc (suc (suc (suc (suc (suc zero))))))) h = omega (arith, bits cl)
bit_of cl (suc (suc (suc (suc (suc (suc (suc (suc m)))))))) h = absurd (omega arith)

-- "one bit for each closed macro, bit m for macro m": the bit is set exactly where the macro is closed.
pub marked_is : (s : Store) → Shaped s → (m : ℕ) → (ltb m 8 && eqb (marks_of s.closed / 2 ^ m % 2) 1) ≡ is_closed s m
marked_is s shape m = go (ltb m 8) refl
  where
    go : (b : Bool) → ltb m 8 ≡ b → (ltb m 8 && eqb (marks_of s.closed / 2 ^ m % 2) 1) ≡ is_closed s m
    go true e = rw (e, bit_of s.closed m (ltb-true m 8 e)) (bit_test (is_closed s m))
    go false e = rw e (sym (get_or-eq_default s.closed false (let past : 8 ≤ m = ltb-false m 8 e in omega (arith, shape.marks))))
