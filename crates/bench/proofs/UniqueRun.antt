-- 01, "What each promise answers for": two results that one promise allows are equal. The number that 01 gives to a run's answer, its counts and the
-- bench afterwards say which answer it was.
use Prim.Native.Nat.{ℕ}
use mathlib.Core.Path.{◌≡◌, refl}
use mathlib.Core.Bool.{cond}
use lib.Dec.{eqb}
use Rattle.std.specs.Prelude.{Result, Ok, Err}
use Rattle.words.proofs.Laws.{one_to_one}
use Rattle.bench.specs.declared.lists.Ran.{Ran}
use Rattle.bench.specs.declared.Bench.{Bench}
use Rattle.bench.specs.declared.lists.RunRefusal.{RunRefusal}
use Rattle.bench.specs.Run.{begun_code, RunTold, ran_of}

-- Why a run with a code was refused.
abbrev begun_with : ℕ → RunRefusal
begun_with code = cond (eqb code 20) RunRefusal.ListTooLong (cond (eqb code 21) RunRefusal.RoomTooSmall RunRefusal.Unsound)

begun_back : (a : RunRefusal) → begun_with (begun_code a) ≡ a
begun_back RunRefusal.ListTooLong = refl
begun_back RunRefusal.RoomTooSmall = refl
begun_back RunRefusal.Unsound = refl

-- Two refusals with the same code are the same.
pub one_begun : (a b : RunRefusal) → begun_code a ≡ begun_code b → a ≡ b
one_begun = one_to_one begun_code begun_with begun_back

-- Two answers of a run of a bench with the same code, bench and counts are the same.
pub one_ran : (before : Bench) (a b : Result Ran RunRefusal) → ran_of before a ≡ ran_of before b → a ≡ b
one_ran before = one_to_one (ran_of before) ran_with back
  where
    ran_with : RunTold → Result Ran RunRefusal
    ran_with t = cond (eqb t.code 0) (Ok (record { bench = t.bench; kit = t.kit; pupil = t.pupil })) (Err (begun_with t.code))

    back : (r : Result Ran RunRefusal) → ran_with (ran_of before r) ≡ r
    back (Ok r) = refl
    back (Err RunRefusal.ListTooLong) = refl
    back (Err RunRefusal.RoomTooSmall) = refl
    back (Err RunRefusal.Unsound) = refl
