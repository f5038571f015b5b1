-- 01, "What each promise answers for": two results that one promise allows are equal. The numbers and values that 01 gives to an answer say which
-- it was.
use Prim.Native.Nat.{ℕ}
use mathlib.Core.Path.{◌≡◌, refl, ap}
use mathlib.Core.List.{[], ◌∷◌}
use mathlib.Core.Bool.{cond}
use lib.Dec.{eqb}
use Rattle.words.proofs.Laws.{one_to_one}
use Rattle.wire.specs.declared.kinds.Command.{Command}
use Rattle.wire.specs.declared.judging.Refusal.{Refusal}
use Rattle.wire.specs.declared.judging.Told.{Told}
use Rattle.std.specs.Prelude.{Result, Ok, Err}
use Rattle.wire.specs.Judge.{told_of, told_judged}
use Rattle.wire.specs.Read.{Answer, answer_of}
use Rattle.wire.specs.Write.{Wrote, wrote_of}
use Rattle.wire.specs.Steps.{Reached, reach_of}
use Rattle.wire.proofs.Answers.{refusal_code}

-- The refusal of which this is told; for a code that no refusal has, any will do.
abbrev pub refusal_of : Told → Refusal
refusal_of t =
    cond (eqb t.code 1) Refusal.TooFewBytes
    (cond (eqb t.code 2) Refusal.LengthOutOfBounds
    (cond (eqb t.code 3) Refusal.CutOff
    (cond (eqb t.code 4) Refusal.SumDiffers
    (cond (eqb t.code 5) Refusal.UnknownOpcode
    (cond (eqb t.code 6) Refusal.WrongLength
    (cond (eqb t.code 7) Refusal.PadNotZero
    (cond (eqb t.code 8) (Refusal.OutOfRange t.stray)
    (cond (eqb t.code 9) Refusal.FlagForbidden
    (cond (eqb t.code 10) Refusal.FlagMissing Refusal.NoRoom)))))))))

pub refusal_back : (r : Refusal) → refusal_of (told_of r) ≡ r
refusal_back Refusal.TooFewBytes = refl
refusal_back Refusal.LengthOutOfBounds = refl
refusal_back Refusal.CutOff = refl
refusal_back Refusal.SumDiffers = refl
refusal_back Refusal.UnknownOpcode = refl
refusal_back Refusal.WrongLength = refl
refusal_back Refusal.PadNotZero = refl
refusal_back (Refusal.OutOfRange stray) = refl
refusal_back Refusal.FlagForbidden = refl
refusal_back Refusal.FlagMissing = refl
refusal_back Refusal.NoRoom = refl

-- Two refusals of which the same is told, code, parameter, value and limits, are the same.
pub one_refusal : (a b : Refusal) → told_of a ≡ told_of b → a ≡ b
one_refusal = one_to_one told_of refusal_of refusal_back

-- Code 0 says that there was no refusal, and any other code which it was.
abbrev told : {A : Type 0} → Told → A → (Refusal → A) → A
told t accepted refused = cond (eqb t.code 0) accepted (refused (refusal_of t))

told_back : {A : Type 0} (r : Refusal) (accepted : A) (refused : Refusal → A) → told (told_of r) accepted refused ≡ refused r
told_back r accepted refused = rw (refusal_code r, refusal_back r)

-- Two judgements of which the same is told are the same.
pub one_judged : (a b : Result (Unit {0}) Refusal) → told_judged a ≡ told_judged b → a ≡ b
one_judged = one_to_one told_judged judged_of back
  where
    judged_of : Told → Result (Unit {0}) Refusal
    judged_of t = told t (Ok tt) Err

    back : (j : Result (Unit {0}) Refusal) → judged_of (told_judged j) ≡ j
    back (Ok done) = refl
    back (Err r) = told_back r (Ok tt) Err

-- Two readings with the same answer are the same.
pub one_reading : (a b : Result Command Refusal) → answer_of a ≡ answer_of b → a ≡ b
one_reading = one_to_one answer_of reading_of back
  where
    reading_of : Answer → Result Command Refusal
    reading_of a = elim a.taken [ [] ↦ Err (refusal_of a.told) | c ∷ cs ↦ Ok c ]

    back : (r : Result Command Refusal) → reading_of (answer_of r) ≡ r
    back (Ok c) = refl
    back (Err r) = ap Err (refusal_back r)

-- Two answers of a writer that tell the same, with the same number of bytes, are the same.
pub one_writing : (a b : Result ℕ Refusal) → wrote_of a ≡ wrote_of b → a ≡ b
one_writing = one_to_one wrote_of writing_of back
  where
    writing_of : Wrote → Result ℕ Refusal
    writing_of w = told w.told (Ok w.bytes) Err

    back : (w : Result ℕ Refusal) → writing_of (wrote_of w) ≡ w
    back (Ok bytes) = refl
    back (Err r) = told_back r (Ok 0) Err

-- Two reaches with the same code and number of words are the same.
pub one_reach : (a b : Result ℕ Refusal) → reach_of a ≡ reach_of b → a ≡ b
one_reach = one_to_one reach_of reach_back back
  where
    reach_back : Reached → Result ℕ Refusal
    reach_back r = told r.told (Ok r.words) Err

    back : (r : Result ℕ Refusal) → reach_back (reach_of r) ≡ r
    back (Ok words) = refl
    back (Err r) = told_back r (Ok 0) Err
