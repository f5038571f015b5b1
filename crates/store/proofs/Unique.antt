-- An answer is told by its meaning: two answers with one meaning are one. A left inverse of the meaning gives the answer back.
use Prim.Native.Nat.{ℕ}
use mathlib.Core.Path.{◌≡◌, refl}
use mathlib.Core.Bool.{cond}
use lib.Dec.{eqb}
use Rattle.std.specs.Prelude.{Result, Ok, Err}
use Rattle.words.proofs.Laws.{one_to_one}
use Rattle.store.specs.declared.checks.Denial.{Denial}
use Rattle.store.specs.Checks.{code_of, told_permit}

-- The permit of a code: 0 is permission.
denial_of : ℕ → Denial
denial_of code =
    cond (eqb code 11) Denial.NoneOpen
    (cond (eqb code 12) Denial.AnotherOpen
    (cond (eqb code 13) Denial.AlreadyClosed
    (cond (eqb code 14) Denial.NoEntries
    (cond (eqb code 15) Denial.TooLong
    (cond (eqb code 25) Denial.TooMany
    (cond (eqb code 16) Denial.NoneFree
    (cond (eqb code 17) Denial.NotBelow
    (cond (eqb code 18) Denial.NotClosed Denial.Running))))))))

permit_of : ℕ → Result (Unit {0}) Denial
permit_of code = cond (eqb code 0) (Ok tt) (Err (denial_of code))

permit_back : (p : Result (Unit {0}) Denial) → permit_of (told_permit p) ≡ p
unfolding permit_of denial_of
permit_back (Ok tt) = refl
permit_back (Err Denial.NoneOpen) = refl
permit_back (Err Denial.AnotherOpen) = refl
permit_back (Err Denial.AlreadyClosed) = refl
permit_back (Err Denial.NoEntries) = refl
permit_back (Err Denial.TooLong) = refl
permit_back (Err Denial.TooMany) = refl
permit_back (Err Denial.NoneFree) = refl
permit_back (Err Denial.NotBelow) = refl
permit_back (Err Denial.NotClosed) = refl
permit_back (Err Denial.Running) = refl

pub permit_told : (a b : Result (Unit {0}) Denial) → told_permit a ≡ told_permit b → a ≡ b
permit_told = one_to_one told_permit permit_of permit_back

-- A denial's code is its permit's.
pub denial_told : (a b : Denial) → code_of a ≡ code_of b → a ≡ b
denial_told a b e = let same = permit_told (Err a) (Err b) e in cc
