-- Two results that a promise allows are equal: from what is told, the number and the bytes, the result can be had back.
use mathlib.Core.Path.{◌≡◌, refl}
use mathlib.Core.Bool.{false, cond}
use lib.Dec.{eqb}
use Rattle.words.proofs.Laws.{one_to_one}
use Rattle.wire.specs.declared.judging.Refusal.{Refusal}
use Rattle.wire.specs.declared.judging.Told.{Told}
use Rattle.wire.proofs.Answers.{refusal_code}
use Rattle.wire.proofs.Unique.{refusal_of}
use Rattle.card.specs.declared.answers.Fault.{Fault}
use Rattle.std.specs.Prelude.{Ok, Err}
use Rattle.card.specs.Answers.{told_fault, Moved, Answer, answer_of}

-- The fault of which this is told.
abbrev fault_of : Told → Fault
fault_of t =
    cond (eqb t.code 20) Fault.TooLong
    (cond (eqb t.code 34) Fault.Ended
    (cond (eqb t.code 35) Fault.Overlong
    (cond (eqb t.code 36) Fault.NotOne
    (cond (eqb t.code 37) Fault.LeftOver
    (cond (eqb t.code 38) Fault.BadFlag (Fault.Wire (refusal_of t)))))))

fault_back : (f : Fault) → fault_of (told_fault f) ≡ f
fault_back (Fault.Wire Refusal.TooFewBytes) = refl
fault_back (Fault.Wire Refusal.LengthOutOfBounds) = refl
fault_back (Fault.Wire Refusal.CutOff) = refl
fault_back (Fault.Wire Refusal.SumDiffers) = refl
fault_back (Fault.Wire Refusal.UnknownOpcode) = refl
fault_back (Fault.Wire Refusal.WrongLength) = refl
fault_back (Fault.Wire Refusal.PadNotZero) = refl
fault_back (Fault.Wire (Refusal.OutOfRange stray)) = refl
fault_back (Fault.Wire Refusal.FlagForbidden) = refl
fault_back (Fault.Wire Refusal.FlagMissing) = refl
fault_back (Fault.Wire Refusal.NoRoom) = refl
fault_back Fault.TooLong = refl
fault_back Fault.Ended = refl
fault_back Fault.Overlong = refl
fault_back Fault.NotOne = refl
fault_back Fault.LeftOver = refl
fault_back Fault.BadFlag = refl

-- No fault has code 0.
fault_code : (f : Fault) → eqb (told_fault f).code 0 ≡ false
fault_code (Fault.Wire refusal) = refusal_code refusal
fault_code Fault.TooLong = refl
fault_code Fault.Ended = refl
fault_code Fault.Overlong = refl
fault_code Fault.NotOne = refl
fault_code Fault.LeftOver = refl
fault_code Fault.BadFlag = refl

abbrev moved_of : Answer → Moved
moved_of a = cond (eqb a.told.code 0) (Ok a.bytes) (Err (record { number = a.number; fault = fault_of a.told }))

moved_back : (m : Moved) → moved_of (answer_of m) ≡ m
moved_back (Ok bytes) = refl
moved_back (Err why) = rw (fault_code why.fault, fault_back why.fault)

-- No two results say the same: `to_card` has one result, and `from_card` has.
pub one_moved : (x y : Moved) → answer_of x ≡ answer_of y → x ≡ y
one_moved = one_to_one answer_of moved_of moved_back
