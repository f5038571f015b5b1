-- Two results that one promise allows are equal. The numbers and values that 02 gives to an answer say which it was; of a line that is shown these are
-- its bytes and its place. (The place of what `front` gives is not promised: its callers use the bytes and their number alone.)
use Prim.Native.Nat.{ℕ}
use mathlib.Core.Path.{◌≡◌, refl, sym, ap, ◌∙◌}
use mathlib.Core.List.{List, [], ◌∷◌}
use mathlib.Core.Bool.{false, cond}
use lib.Dec.{eqb}
use denote.Ref.{Bor}
use Rattle.words.proofs.Laws.{one_to_one}
use Rattle.wire.specs.declared.judging.Refusal.{Refusal as WireRefusal}
use Rattle.wire.specs.declared.judging.Told.{Told}
use Rattle.wire.specs.Judge.{told_of}
use Rattle.wire.specs.Read.{Answer}
use Rattle.wire.proofs.Unique.{refusal_of, refusal_back}
use Rattle.walk.specs.Shown.{Placed}
use Rattle.walk.proofs.Unique.{one_place}
use Rattle.text.specs.declared.findings.Fault.{Fault}
use Rattle.text.specs.Findings.{told_fault, Outcome, translated_of}
use Rattle.text.specs.Line.{answer_line}
use Rattle.text.specs.Shown.{line_shown, line_start}
use Rattle.text.proofs.Found.{fault_code}
use Rattle.std.specs.Prelude.{Option, Some, None, Result, Ok, Err}
use Rattle.wire.specs.declared.kinds.Command.{Command}
use Rattle.text.specs.declared.findings.Refusal.{Refusal}

-- The fault of which this is told.
abbrev fault_of : Told → Fault
fault_of t =
    cond (eqb t.code 30) Fault.UnknownName
    (cond (eqb t.code 32) Fault.WrongCount
    (cond (eqb t.code 31) Fault.Malformed
    (cond (eqb t.code 33) Fault.Unsayable (Fault.Wire (refusal_of t)))))

wire_back : (r : WireRefusal) → fault_of (told_of r) ≡ Fault.Wire (refusal_of (told_of r))
wire_back WireRefusal.TooFewBytes = refl
wire_back WireRefusal.LengthOutOfBounds = refl
wire_back WireRefusal.CutOff = refl
wire_back WireRefusal.SumDiffers = refl
wire_back WireRefusal.UnknownOpcode = refl
wire_back WireRefusal.WrongLength = refl
wire_back WireRefusal.PadNotZero = refl
wire_back (WireRefusal.OutOfRange stray) = refl
wire_back WireRefusal.FlagForbidden = refl
wire_back WireRefusal.FlagMissing = refl
wire_back WireRefusal.NoRoom = refl

pub fault_back : (f : Fault) → fault_of (told_fault f) ≡ f
fault_back Fault.UnknownName = refl
fault_back Fault.WrongCount = refl
fault_back Fault.Malformed = refl
fault_back Fault.Unsayable = refl
fault_back (Fault.Wire refusal) = wire_back refusal ∙ ap Fault.Wire (refusal_back refusal)

-- Two faults of which the same is told, code, parameter, value and limits, are the same.
pub one_fault : (a b : Fault) → told_fault a ≡ told_fault b → a ≡ b
one_fault = one_to_one told_fault fault_of fault_back

-- No fault has the code of a whole text.
not_whole : (f : Fault) → eqb (told_fault f).code 20 ≡ false
not_whole Fault.UnknownName = refl
not_whole Fault.WrongCount = refl
not_whole Fault.Malformed = refl
not_whole Fault.Unsayable = refl
not_whole (Fault.Wire refusal) = of_wire refusal
  where
    of_wire : (r : WireRefusal) → eqb (told_of r).code 20 ≡ false
    of_wire WireRefusal.TooFewBytes = refl
    of_wire WireRefusal.LengthOutOfBounds = refl
    of_wire WireRefusal.CutOff = refl
    of_wire WireRefusal.SumDiffers = refl
    of_wire WireRefusal.UnknownOpcode = refl
    of_wire WireRefusal.WrongLength = refl
    of_wire WireRefusal.PadNotZero = refl
    of_wire (WireRefusal.OutOfRange stray) = refl
    of_wire WireRefusal.FlagForbidden = refl
    of_wire WireRefusal.FlagMissing = refl
    of_wire WireRefusal.NoRoom = refl

-- Two answers of `assemble`, `list_text` or `judge_text` that tell the same, with the same number and count of bytes, are the same.
pub one_translated : (a b : Result ℕ Refusal) → translated_of a ≡ translated_of b → a ≡ b
one_translated = one_to_one translated_of translation back
  where
    translation : Outcome → Result ℕ Refusal
    translation o =
        cond (eqb o.found.told.code 0) (Ok o.bytes)
        (cond (eqb o.found.told.code 20) (Err Refusal.TooLong) (Err (Refusal.BadLine o.found.number (fault_of o.found.told))))

    back : (t : Result ℕ Refusal) → translation (translated_of t) ≡ t
    back (Ok bytes) = refl
    back (Err Refusal.TooLong) = refl
    back (Err (Refusal.BadLine number fault)) = rw (fault_code fault, not_whole fault, fault_back fault)

-- Two answers of `line_of` that tell the same, with the same command, are the same.
pub one_line : (a b : Result (Option Command) Fault) → answer_line a ≡ answer_line b → a ≡ b
one_line = one_to_one answer_line line_for back
  where
    line_for : Answer → Result (Option Command) Fault
    line_for a = elim a.taken [ [] ↦ cond (eqb a.told.code 0) (Ok None) (Err (fault_of a.told)) | c ∷ cs ↦ Ok (Some c) ]

    back : (l : Result (Option Command) Fault) → line_for (answer_line l) ≡ l
    back (Ok None) = refl
    back (Ok (Some command)) = refl
    back (Err fault) = rw (fault_code fault, fault_back fault)

-- Two answers of `line_shown` have the same bytes and the same place.
abbrev pub Promise : Bor (List ℕ) → ℕ → Bor (List ℕ) → Type 0
Promise text number r = (r.now ≡ line_shown text.now number) × Placed text r (line_start text.now number)

pub one_shown : (text : Bor (List ℕ)) (number : ℕ) (a b : Bor (List ℕ)) → Promise text number a → Promise text number b
    → (a.now ≡ b.now) × (a.ref_ptr ≡ b.ref_ptr)
one_shown text number a b p q = (p.0 ∙ sym q.0, one_place text a b (line_start text.now number) p.1 q.1)
