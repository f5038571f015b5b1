-- 01, "What each promise answers for": two results that one promise allows are equal. The numbers and values of an answer say which it was.
use Rattle.std.proofs.Common.{◌≡◌, ℕ, cond, eqb, List, [], ◌∷◌, sym, refl, ap, ◌∙◌, arith}
use Rattle.std.specs.Prelude.{Option, Some, None, Result, Ok, Err}
use Rattle.bench.specs.Exports.{Told, Unsound, told_of, group_of}
use Rattle.bench.specs.Exports as read
use Rattle.bench.specs.Second.{codes_shown}
use Rattle.bench.proofs.Exports.{one_to_one, refusal_of}
use Rattle.seats.specs.declared.Seats.{Seats}
use Rattle.seats.specs.declared.queueing.Refusal.{Refusal}
use Rattle.seats.specs.declared.turns.Turned.{Turned}
use Rattle.seats.specs.declared.Passed.{Passed}
use Rattle.seats.specs.Queueing.{refusal_told, QueueTold, queued_of}
use Rattle.seats.specs.Turn.{TurnTold, turned_of, PassedTold, passed_of}

-- Which answer of queueing this was told of: a refusal, or none.
abbrev refused_of : Told → Option Refusal
refused_of t =
    cond (eqb t.code 0) None
    (cond (eqb t.code 27) (Some Refusal.Unsound)
    (cond (eqb t.code 51) (Some Refusal.NoSeat)
    (cond (eqb t.code 53) (Some Refusal.BytesFollow)
    (cond (eqb t.code 52) (Some Refusal.Full) (Some (Refusal.Misread (refusal_of t)))))))

misread_back : (r : read.Refusal) → refused_of (told_of r) ≡ Some (Refusal.Misread r)
misread_back read.Refusal.TooFewBytes = refl
misread_back read.Refusal.LengthOutOfBounds = refl
misread_back read.Refusal.CutOff = refl
misread_back read.Refusal.SumDiffers = refl
misread_back read.Refusal.UnknownOpcode = refl
misread_back read.Refusal.WrongLength = refl
misread_back read.Refusal.PadNotZero = refl
misread_back (read.Refusal.OutOfRange stray) = refl
misread_back read.Refusal.FlagForbidden = refl
misread_back read.Refusal.FlagMissing = refl
misread_back read.Refusal.NoRoom = refl

refused_back : (r : Refusal) → refused_of (refusal_told r) ≡ Some r
refused_back Refusal.Unsound = refl
refused_back Refusal.NoSeat = refl
refused_back (Refusal.Misread refusal) = misread_back refusal
refused_back Refusal.BytesFollow = refl
refused_back Refusal.Full = refl

-- Two results of `queue` on the same seats that tell the same are the same.
abbrev queue_result : QueueTold → Result Seats Refusal
queue_result t = by (refused_of t.told)
  where
    by : Option Refusal → Result Seats Refusal
    by None = Ok t.seats
    by (Some refusal) = Err refusal

queued_back : (s : Seats) (r : Result Seats Refusal) → queue_result (queued_of s r) ≡ r
queued_back s (Ok after) = refl
queued_back s (Err refusal) = rw (refused_back refusal) refl

pub one_queued : (s : Seats) (a b : Result Seats Refusal) → queued_of s a ≡ queued_of s b → a ≡ b
one_queued s = one_to_one (queued_of s) queue_result (queued_back s)

-- Two results of `turn` on the same seats that tell the same are the same.
abbrev turn_result : TurnTold → Result (Option Turned) Unsound
turn_result t = by t.records
  where
    by : List (List ℕ) → Result (Option Turned) Unsound
    by [] = cond (eqb t.code 27) (Err (record {})) (Ok None)
    by (bytes ∷ more) = Ok (Some (record { seats = t.seats; «record» = bytes }))

turned_back : (s : Seats) (r : Result (Option Turned) Unsound) → turn_result (turned_of s r) ≡ r
turned_back s (Ok None) = refl
turned_back s (Ok (Some r)) = refl
turned_back s (Err unsound) = refl

pub one_turned : (s : Seats) (a b : Result (Option Turned) Unsound) → turned_of s a ≡ turned_of s b → a ≡ b
one_turned s = one_to_one (turned_of s) turn_result (turned_back s)

-- Two results of `second` on the same seats that tell the same, with groups and codes of what they tell, are the same.
pub record SecondTells (s : Seats) (told : PassedTold) (r : Result Passed Unsound) : Type 0 where
  pub tells : passed_of s r ≡ told
  pub group : (p : Passed) → r ≡ Ok p → p.group ≡ group_of told.handed
  pub codes : (p : Passed) → r ≡ Ok p → p.codes ≡ codes_shown told.codes

pub one_passed : (s : Seats) (told : PassedTold) (a b : Result Passed Unsound) → SecondTells s told a → SecondTells s told b → a ≡ b
one_passed s told (Ok a) (Ok b) of_a of_b =
    let group : a.group ≡ b.group = of_a.group a refl ∙ sym (of_b.group b refl) in
    let codes : a.codes ≡ b.codes = of_a.codes a refl ∙ sym (of_b.codes b refl) in
    let seats : a.seats ≡ b.seats = ap (λ (o : PassedTold). o.seats) (of_a.tells ∙ sym of_b.tells) in
    let whole : a ≡ b = rw (group, codes, seats) in ap (λ p. Ok p) whole
one_passed s told (Err unsound) (Err other) of_a of_b = refl
one_passed s told (Ok a) (Err unsound) of_a of_b = absurd (omega (arith, ap (λ (o : PassedTold). o.told.code) (of_a.tells ∙ sym of_b.tells)))
one_passed s told (Err unsound) (Ok b) of_a of_b = absurd (omega (arith, ap (λ (o : PassedTold). o.told.code) (of_a.tells ∙ sym of_b.tells)))
