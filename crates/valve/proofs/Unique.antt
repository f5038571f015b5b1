-- Two results that a promise allows are equal: from what a promise says of a result, the result can be had back.
use Rattle.std.proofs.Common.{◌≡◌, ℕ, ◌==◌, ne_eqb, cond, eqb, List, [], ◌∷◌, refl, ap}
use Rattle.words.proofs.Laws.{one_to_one}
use Rattle.valve.specs.declared.Frame.{Frame}
use Rattle.valve.specs.declared.refusal.Refusal.{Refusal}
use Rattle.valve.specs.declared.state.Valve.{Valve}
use Rattle.words.specs.declared.codes.NoRoom.{NoRoom}
use Rattle.std.specs.Prelude.{Result, Ok, Err, if◌then◌else◌}
use Rattle.valve.specs.Answers.{Answer, code_of, answer_of, wrote_of}
use Rattle.valve.specs.State.{Outcome, outcome_of}
use Rattle.valve.proofs.States.{some_code}

-- The refusal with a code.
abbrev refusal_of : ℕ → Refusal
refusal_of code =
    cond (eqb code 40) Refusal.WrongSize
    (cond (eqb code 41) Refusal.WrongSum
    (cond (eqb code 42) Refusal.WrongIdentifier
    (cond (eqb code 43) Refusal.NotZero
    (cond (eqb code 44) Refusal.NoPattern (cond (eqb code 45) Refusal.NotArmed Refusal.WrongCode)))))

refusal_back : (r : Refusal) → refusal_of (code_of r) ≡ r
refusal_back Refusal.WrongSize = refl
refusal_back Refusal.WrongSum = refl
refusal_back Refusal.WrongIdentifier = refl
refusal_back Refusal.NotZero = refl
refusal_back Refusal.NoPattern = refl
refusal_back Refusal.NotArmed = refl
refusal_back Refusal.WrongCode = refl

-- No two refusals have one code.
pub one_refusal : (x y : Refusal) → code_of x ≡ code_of y → x ≡ y
one_refusal = one_to_one code_of refusal_of refusal_back

-- The reading with an answer.
abbrev reading_of : Answer → Result Frame Refusal
reading_of a = from a.taken
  where
    from : List Frame → Result Frame Refusal
    from [] = Err (refusal_of a.code)
    from (f ∷ fs) = Ok f

reading_back : (r : Result Frame Refusal) → reading_of (answer_of r) ≡ r
reading_back (Ok f) = refl
reading_back (Err refusal) = ap Err (refusal_back refusal)

-- No two readings say the same: `read_frame` has one result.
pub one_reading : (x y : Result Frame Refusal) → answer_of x ≡ answer_of y → x ≡ y
one_reading = one_to_one answer_of reading_of reading_back

-- The writing with a code.
abbrev writing_of : ℕ → Result Unit NoRoom
writing_of code = if code == 0 then Ok tt else Err (record {})

writing_back : (w : Result Unit NoRoom) → writing_of (wrote_of w) ≡ w
writing_back (Ok w) = refl
writing_back (Err refused) = refl

-- No two writings say the same: `write_frame` has one result.
pub one_writing : (x y : Result Unit NoRoom) → wrote_of x ≡ wrote_of y → x ≡ y
one_writing = one_to_one wrote_of writing_of writing_back

-- The answer with a code, and the valve that it hands back.
abbrev answer_with : Outcome → Result Valve Refusal
answer_with o = if o.code == 0 then Ok o.valve else Err (refusal_of o.code)

answer_back : (v : Valve) (x : Result Valve Refusal) → answer_with (outcome_of v x) ≡ x
answer_back v (Ok left) = refl
answer_back v (Err refusal) = rw (ne_eqb (code_of refusal) 0 (some_code refusal)) (ap Err (refusal_back refusal))

-- No two say the same of a valve: `carry_out` has one result.
pub one_carried : (v : Valve) (x y : Result Valve Refusal) → outcome_of v x ≡ outcome_of v y → x ≡ y
one_carried v = one_to_one (outcome_of v) answer_with (answer_back v)
