-- 01, "What each promise answers for": two results that one promise allows are equal. The code, the parameter and the line that a typed run's answer
-- has, its counts and the bench afterwards say which answer it was.
use Prim.Native.Nat.{ℕ}
use mathlib.Core.Path.{◌≡◌, refl, sym, ap, ◌∙◌, subst}
use mathlib.Core.List.{List, [], ◌∷◌}
use mathlib.Core.Bool.{Bool, true, false, cond, ◌||◌, true≢false}
use lib.Dec.{eqb}
use Rattle.std.specs.Prelude.{Result, Ok, Err}
use Rattle.wire.specs.declared.judging.Refusal.{Refusal}
use Rattle.wire.specs.declared.judging.Told.{Told}
use Rattle.wire.specs.Judge.{told_of}
use Rattle.text.specs.declared.findings.Fault.{Fault}
use Rattle.text.specs.declared.findings.Finding.{Finding}
use Rattle.text.specs.Findings.{told_fault}
use Rattle.text.proofs.Unique.{one_fault}
use Rattle.bench.specs.declared.Bench.{Bench}
use Rattle.bench.specs.declared.lists.Ran.{Ran}
use Rattle.bench.specs.declared.lists.typed.TypedRefusal.{TypedRefusal}
use Rattle.bench.specs.Typed.{begun_finding, ran_finding, TypedTold, typed_ran_of}

-- Is this a code of the whole run? No fault of a line has one.
abbrev of_whole : ℕ → Bool
of_whole code = eqb code 0 || eqb code 20 || eqb code 21 || eqb code 27

refusal_of_line : (r : Refusal) → of_whole (told_of r).code ≡ false
refusal_of_line Refusal.TooFewBytes = refl
refusal_of_line Refusal.LengthOutOfBounds = refl
refusal_of_line Refusal.CutOff = refl
refusal_of_line Refusal.SumDiffers = refl
refusal_of_line Refusal.UnknownOpcode = refl
refusal_of_line Refusal.WrongLength = refl
refusal_of_line Refusal.PadNotZero = refl
refusal_of_line (Refusal.OutOfRange par) = refl
refusal_of_line Refusal.FlagForbidden = refl
refusal_of_line Refusal.FlagMissing = refl
refusal_of_line Refusal.NoRoom = refl

fault_of_line : (f : Fault) → of_whole (told_fault f).code ≡ false
fault_of_line Fault.UnknownName = refl
fault_of_line Fault.WrongCount = refl
fault_of_line Fault.Malformed = refl
fault_of_line Fault.Unsayable = refl
fault_of_line (Fault.Wire refusal) = refusal_of_line refusal

-- The fault of an answer that names a line; what was found says whether there is one, and which.
abbrev fault_in : Result Ran TypedRefusal → List Fault
fault_in (Ok r) = []
fault_in (Err TypedRefusal.TooLong) = []
fault_in (Err (TypedRefusal.BadLine number fault)) = fault ∷ []
fault_in (Err TypedRefusal.RoomTooSmall) = []
fault_in (Err TypedRefusal.Unsound) = []

data Of (found : Finding) (faults : List Fault) : Type 0 where
  whole : faults ≡ [] → of_whole found.told.code ≡ true → Of found faults
  line : (f : Fault) → faults ≡ f ∷ [] → found.told ≡ told_fault f → Of found faults

fault_of : (a : Result Ran TypedRefusal) → Of (ran_finding a) (fault_in a)
fault_of (Ok r) = whole refl refl
fault_of (Err TypedRefusal.TooLong) = whole refl refl
fault_of (Err (TypedRefusal.BadLine number fault)) = line fault refl refl
fault_of (Err TypedRefusal.RoomTooSmall) = whole refl refl
fault_of (Err TypedRefusal.Unsound) = whole refl refl

apart : {A : Type 0} (found : Finding) (f : Fault) → of_whole found.told.code ≡ true → found.told ≡ told_fault f → A
apart found f none is = absurd (true≢false (sym none ∙ ap (λ (t : Told). of_whole t.code) is ∙ fault_of_line f))

one_fault_in : (found : Finding) (fs gs : List Fault) → Of found fs → Of found gs → fs ≡ gs
one_fault_in found fs gs (whole e none) (whole d no_other) = e ∙ sym d
one_fault_in found fs gs (line f e is) (line g d is_other) = e ∙ ap (λ h. h ∷ []) (one_fault f g (sym is ∙ is_other)) ∙ sym d
one_fault_in found fs gs (whole e none) (line g d is) = apart found g none is
one_fault_in found fs gs (line f e is) (whole d none) = apart found f none is

-- The answer, from what it tells and its fault.
abbrev ran_with : List Fault → TypedTold → Result Ran TypedRefusal
ran_with [] t =
    cond (eqb t.found.told.code 0) (Ok (record { bench = t.bench; kit = t.kit; pupil = t.pupil }))
    (Err
    (cond (eqb t.found.told.code 20) TypedRefusal.TooLong
    (cond (eqb t.found.told.code 21) TypedRefusal.RoomTooSmall TypedRefusal.Unsound)))
ran_with (fault ∷ faults) t = Err (TypedRefusal.BadLine t.found.number fault)

ran_back : (before : Bench) (a : Result Ran TypedRefusal) → ran_with (fault_in a) (typed_ran_of before a) ≡ a
ran_back before (Ok r) = refl
ran_back before (Err TypedRefusal.TooLong) = refl
ran_back before (Err (TypedRefusal.BadLine number fault)) = refl
ran_back before (Err TypedRefusal.RoomTooSmall) = refl
ran_back before (Err TypedRefusal.Unsound) = refl

-- Of what is told of an answer, the finding is that of the answer.
found_in : (before : Bench) (a : Result Ran TypedRefusal) → (typed_ran_of before a).found ≡ ran_finding a
found_in before (Ok r) = refl
found_in before (Err refusal) = refl

-- Two answers of a typed run of a bench that tell the same are the same.
pub one_ran : (before : Bench) (a b : Result Ran TypedRefusal) → typed_ran_of before a ≡ typed_ran_of before b → a ≡ b
one_ran before a b e =
    let found : ran_finding a ≡ ran_finding b = sym (found_in before a) ∙ ap (λ (t : TypedTold). t.found) e ∙ found_in before b in
    let same : fault_in a ≡ fault_in b =
    one_fault_in (ran_finding b) (fault_in a) (fault_in b) (subst (λ (f : Finding). Of f (fault_in a)) found (fault_of a)) (fault_of b) in
    sym (ran_back before a)
    ∙ ap (ran_with (fault_in a)) e
    ∙ ap (λ faults. ran_with faults (typed_ran_of before b)) same
    ∙ ran_back before b

-- Two refusals with the same code, parameter and line are the same.
pub one_begun : (a b : TypedRefusal) → begun_finding a ≡ begun_finding b → a ≡ b
one_begun a b e =
    let same : fault_in (Err a) ≡ fault_in (Err b) =
    one_fault_in (begun_finding b) (fault_in (Err a)) (fault_in (Err b)) (subst (λ (f : Finding). Of f (fault_in (Err a))) e (fault_of (Err a))) (fault_of (Err b)) in
    sym (begun_back a)
    ∙ ap (begun_with (fault_in (Err a))) e
    ∙ ap (λ faults. begun_with faults (begun_finding b)) same
    ∙ begun_back b
  where
    begun_with : List Fault → Finding → TypedRefusal
    begun_with [] f = cond (eqb f.told.code 20) TypedRefusal.TooLong (cond (eqb f.told.code 21) TypedRefusal.RoomTooSmall TypedRefusal.Unsound)
    begun_with (fault ∷ faults) f = TypedRefusal.BadLine f.number fault

    begun_back : (r : TypedRefusal) → begun_with (fault_in (Err r)) (begun_finding r) ≡ r
    begun_back TypedRefusal.TooLong = refl
    begun_back (TypedRefusal.BadLine number fault) = refl
    begun_back TypedRefusal.RoomTooSmall = refl
    begun_back TypedRefusal.Unsound = refl
