-- 01, "What each promise answers for": two results that one promise allows are equal. The numbers and values that 01 gives to an answer say which it
-- was.
use Prim.Native.Nat.{ℕ, ◌<◌}
use mathlib.Core.Path.{◌≡◌, refl, sym, ap, ◌∙◌}
use mathlib.Core.List.{[], ◌∷◌}
use mathlib.Core.Bool.{cond, ◌&&◌, ◌||◌}
use native.Mathlib.Omega.{arith}
use lib.Dec.{eqb, leb}
use Rattle.std.specs.Prelude.{Result, Ok, Err, IfOk}
use Rattle.words.proofs.Laws.{one_to_one}
use Rattle.frame.specs.declared.Frame.{Frame}
use Rattle.housekeeping.specs.declared.Housekeeping.{Housekeeping}
use Rattle.wire.specs.declared.judging.Refusal.{Refusal}
use Rattle.wire.specs.declared.judging.Told.{Told}
use Rattle.wire.specs.Judge.{told_of}
use Rattle.wire.proofs.Unique.{one_refusal}
use Rattle.store.specs.declared.checks.Denial.{Denial}
use Rattle.store.specs.Checks.{code_of}
use Rattle.store.specs.Effects.{group_of}
use Rattle.store.proofs.Unique.{denial_told}
use Rattle.store.specs.declared.Unsound.{Unsound}
use Rattle.bench.specs.declared.Bench.{Bench}
use Rattle.bench.specs.declared.Rejection.{Rejection}
use Rattle.bench.specs.declared.Passed.{Passed}
use Rattle.bench.specs.Status.{StatusTold, told_status, FreeTold, told_free, HousekeepingTold, told_housekeeping}
use Rattle.bench.specs.Carry.{Outcome, verdict_of, outcome_of}
use Rattle.bench.specs.Second.{SecondTold, passed_of, codes_shown}

-- Which of the four rejections a rejection is, and which one a code tells of; 0 is acceptance.
abbrev place_of : Rejection → ℕ
place_of Rejection.Unsound = 1
place_of (Rejection.Misread refusal) = 2
place_of (Rejection.Denied denial) = 3
place_of Rejection.Dark = 4

abbrev place_told : ℕ → ℕ
place_told code =
    cond (eqb code 0) 0 (cond (eqb code 27) 1 (cond (eqb code 26) 4 (cond ((leb 11 code && leb code 19) || eqb code 25) 3 2)))

refusal_place : (r : Refusal) → place_told (told_of r).code ≡ 2
refusal_place Refusal.TooFewBytes = refl
refusal_place Refusal.LengthOutOfBounds = refl
refusal_place Refusal.CutOff = refl
refusal_place Refusal.SumDiffers = refl
refusal_place Refusal.UnknownOpcode = refl
refusal_place Refusal.WrongLength = refl
refusal_place Refusal.PadNotZero = refl
refusal_place (Refusal.OutOfRange par) = refl
refusal_place Refusal.FlagForbidden = refl
refusal_place Refusal.FlagMissing = refl
refusal_place Refusal.NoRoom = refl

denial_place : (d : Denial) → place_told (code_of d) ≡ 3
denial_place Denial.NoneOpen = refl
denial_place Denial.AnotherOpen = refl
denial_place Denial.AlreadyClosed = refl
denial_place Denial.NoEntries = refl
denial_place Denial.TooLong = refl
denial_place Denial.TooMany = refl
denial_place Denial.NoneFree = refl
denial_place Denial.NotBelow = refl
denial_place Denial.NotClosed = refl
denial_place Denial.Running = refl

place_told_lem : (r : Rejection) → place_told (verdict_of r).code ≡ place_of r
place_told_lem Rejection.Unsound = refl
place_told_lem (Rejection.Misread refusal) = refusal_place refusal
place_told_lem (Rejection.Denied denial) = denial_place denial
place_told_lem Rejection.Dark = refl

place_some : (r : Rejection) → 0 < place_of r
place_some Rejection.Unsound = omega arith
place_some (Rejection.Misread refusal) = omega arith
place_some (Rejection.Denied denial) = omega arith
place_some Rejection.Dark = omega arith

-- Two rejections of which the same is told are the same.
one_placed : (a b : Rejection) → place_of a ≡ place_of b → verdict_of a ≡ verdict_of b → a ≡ b
one_placed Rejection.Unsound Rejection.Unsound p e = refl
one_placed Rejection.Dark Rejection.Dark p e = refl
one_placed (Rejection.Misread r) (Rejection.Misread s) p e = ap Rejection.Misread (one_refusal r s e)
one_placed (Rejection.Denied c) (Rejection.Denied d) p e = ap Rejection.Denied (denial_told c d (ap (λ (t : Told). t.code) e))
one_placed Rejection.Unsound (Rejection.Misread r) p e = absurd (omega arith)
one_placed Rejection.Unsound (Rejection.Denied d) p e = absurd (omega arith)
one_placed Rejection.Unsound Rejection.Dark p e = absurd (omega arith)
one_placed (Rejection.Misread r) Rejection.Unsound p e = absurd (omega arith)
one_placed (Rejection.Misread r) (Rejection.Denied d) p e = absurd (omega arith)
one_placed (Rejection.Misread r) Rejection.Dark p e = absurd (omega arith)
one_placed (Rejection.Denied d) Rejection.Unsound p e = absurd (omega arith)
one_placed (Rejection.Denied d) (Rejection.Misread r) p e = absurd (omega arith)
one_placed (Rejection.Denied d) Rejection.Dark p e = absurd (omega arith)
one_placed Rejection.Dark Rejection.Unsound p e = absurd (omega arith)
one_placed Rejection.Dark (Rejection.Misread r) p e = absurd (omega arith)
one_placed Rejection.Dark (Rejection.Denied d) p e = absurd (omega arith)

pub one_verdict : (a b : Rejection) → verdict_of a ≡ verdict_of b → a ≡ b
one_verdict a b e = one_placed a b (sym (place_told_lem a) ∙ ap (λ (t : Told). place_told t.code) e ∙ place_told_lem b) e

-- No rejection has code 0.
rejected : {A : Type 0} (r : Rejection) → 0 ≡ (verdict_of r).code → A
rejected r e =
    let none : 0 ≡ place_of r = ap place_told e ∙ place_told_lem r in
    absurd (omega (arith, none, place_some r))

-- Two results of `carry_out` or of `carry_out_bytes` on a bench, with the same outcome, are the same.
pub one_carried : (before : Bench) (a b : Result Bench Rejection) → outcome_of before a ≡ outcome_of before b → a ≡ b
one_carried before (Ok a) (Ok b) e = ap Ok (ap (λ (o : Outcome). o.bench) e)
one_carried before (Err r) (Err s) e = ap Err (one_verdict r s (ap (λ (o : Outcome). o.told) e))
one_carried before (Ok a) (Err s) e = rejected s (ap (λ (o : Outcome). o.told.code) e)
one_carried before (Err r) (Ok b) e = rejected r (sym (ap (λ (o : Outcome). o.told.code) e))

-- Two results of `second` on a bench that tell the same, with groups and codes of what they tell, are the same.
pub record Tells (before : Bench) (told : SecondTold) (r : Result Passed Unsound) : Type 0 where
  pub tells : passed_of before r ≡ told
  pub group : IfOk r (λ (p : Passed). p.group ≡ group_of told.handed)
  pub codes : IfOk r (λ (p : Passed). p.codes ≡ codes_shown told.codes)

pub one_passed : (before : Bench) (told : SecondTold) (a b : Result Passed Unsound) → Tells before told a → Tells before told b → a ≡ b
one_passed before told (Ok a) (Ok b) of_a of_b =
    let same = of_a.tells ∙ sym of_b.tells in
    let group : a.group ≡ b.group = of_a.group ∙ sym of_b.group in
    let codes : a.codes ≡ b.codes = of_a.codes ∙ sym of_b.codes in
    let bench : a.bench ≡ b.bench = ap (λ (o : SecondTold). o.bench) same in
    ap Ok (rw (group, codes, bench))
one_passed before told (Err a) (Err b) of_a of_b = refl
one_passed before told (Ok a) (Err b) of_a of_b =
    let none : 0 ≡ 27 = ap (λ (o : SecondTold). o.told.code) (of_a.tells ∙ sym of_b.tells) in
    absurd (omega (arith, none))
one_passed before told (Err a) (Ok b) of_a of_b =
    let none : 27 ≡ 0 = ap (λ (o : SecondTold). o.told.code) (of_a.tells ∙ sym of_b.tells) in
    absurd (omega (arith, none))

-- Two answers of `status` that tell the same are the same.
pub one_status : (a b : Result Frame Unsound) → told_status a ≡ told_status b → a ≡ b
one_status = one_to_one told_status status_back back
  where
    status_back : StatusTold → Result Frame Unsound
    status_back s = elim s.shown [ [] ↦ Err (record {}) | f ∷ fs ↦ Ok f ]

    back : (s : Result Frame Unsound) → status_back (told_status s) ≡ s
    back (Ok f) = refl
    back (Err unsound) = refl

-- Two answers of `free` that tell the same are the same.
pub one_free : (a b : Result ℕ Unsound) → told_free a ≡ told_free b → a ≡ b
one_free = one_to_one told_free free_back back
  where
    free_back : FreeTold → Result ℕ Unsound
    free_back t = cond (eqb t.code 0) (Ok t.free) (Err (record {}))

    back : (f : Result ℕ Unsound) → free_back (told_free f) ≡ f
    back (Ok n) = refl
    back (Err unsound) = refl

-- Two answers of `housekeeping` that tell the same are the same.
pub one_housekept : (a b : Result Housekeeping Unsound) → told_housekeeping a ≡ told_housekeeping b → a ≡ b
one_housekept = one_to_one told_housekeeping housekept_back back
  where
    housekept_back : HousekeepingTold → Result Housekeeping Unsound
    housekept_back t = elim t.shown [ [] ↦ Err (record {}) | h ∷ hs ↦ Ok h ]

    back : (h : Result Housekeeping Unsound) → housekept_back (told_housekeeping h) ≡ h
    back (Ok h) = refl
    back (Err unsound) = refl
