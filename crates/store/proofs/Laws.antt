-- Laws of the store's meanings that the proofs of its functions share.
use Prim.Native.Nat.{ℕ, ◌≤◌, min}
use mathlib.Core.Path.{◌≡◌, refl, sym}
use mathlib.Core.List.{List}
use mathlib.Core.Bool.{Bool, true, false, true≢false}
use native.Mathlib.Omega.{arith}
use lib.ListN.{length, get_or, get_or-eq_default}
use lib.Dec.{ltb}
use borrow.Author.Tests.{lt-ltb, le-ltb, ltb-true, ltb-false}
use Rattle.store.specs.declared.roles.Role.{Role}
use Rattle.store.specs.Words.{bit}
use Rattle.store.specs.TallySteps.{passes_by}

-- Past the end of a list nothing is read.
pub read_past : {A : Type 0} (l : List A) (d : A) (m n : ℕ) → length l ≡ n → n ≤ m → d ≡ get_or l m d
read_past l d m n e h = sym (get_or-eq_default l d (omega arith))

-- A bit is at most 1.
pub bit_small : (t : Bool) → bit t ≤ 1
bit_small false = omega arith
bit_small true = omega arith

-- A length that is told up to 601 is above 600 where the length is.
pub over_capped : (n : ℕ) → ltb 600 (min 601 n) ≡ ltb 600 n
over_capped n = go (ltb 600 n) refl
  where
    go : (t : Bool) → ltb 600 n ≡ t → ltb 600 (min 601 n) ≡ t
    go true e = lt-ltb 600 (min 601 n) (omega (arith, ltb-true 600 n e))
    go false e = le-ltb 600 (min 601 n) (omega (arith, ltb-false 600 n e))

-- A number of entries that is told up to 65 is above 64 where the number is.
pub over_few : (n : ℕ) → ltb 64 (min 65 n) ≡ ltb 64 n
over_few n = go (ltb 64 n) refl
  where
    go : (t : Bool) → ltb 64 n ≡ t → ltb 64 (min 65 n) ≡ t
    go true e = lt-ltb 64 (min 65 n) (omega (arith, ltb-true 64 n e))
    go false e = le-ltb 64 (min 65 n) (omega (arith, ltb-false 64 n e))

-- A command that passes the store by is an executed one, and plain.
pub passed_by : (flag : Bool) (role : Role) → passes_by flag role ≡ true → (flag ≡ false) × (role ≡ Role.Plain)
passed_by false Role.Plain e = (refl, refl)
passed_by false (Role.Open m) e = absurd (true≢false (sym e))
passed_by false Role.Close e = absurd (true≢false (sym e))
passed_by false (Role.Run m) e = absurd (true≢false (sym e))
passed_by false (Role.Wait n) e = absurd (true≢false (sym e))
passed_by false Role.Stop e = absurd (true≢false (sym e))
passed_by false Role.Clear e = absurd (true≢false (sym e))
passed_by true role e = absurd (true≢false (sym e))
