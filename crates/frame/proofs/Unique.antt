-- Two results that a promise allows are equal: from what a promise says of a result, the result can be had back.
use Prim.Native.Nat.{ℕ}
use mathlib.Core.Path.{◌≡◌, refl, ap}
use mathlib.Core.List.{List, [], ◌∷◌}
use mathlib.Core.Bool.{cond}
use lib.Dec.{eqb}
use Rattle.words.proofs.Laws.{one_to_one}
use Rattle.frame.specs.declared.Frame.{Frame}
use Rattle.frame.specs.declared.Refusal.{Refusal}
use Rattle.std.specs.Prelude.{Result, Ok, Err}
use Rattle.frame.specs.Answers.{Answer, code_of, answer_of, wrote_of}

-- The refusal with a code.
abbrev refusal_of : ℕ → Refusal
refusal_of code = cond (eqb code 22) Refusal.WrongSize (cond (eqb code 23) Refusal.RuleBroken Refusal.NoRoom)

refusal_back : (r : Refusal) → refusal_of (code_of r) ≡ r
refusal_back Refusal.WrongSize = refl
refusal_back Refusal.RuleBroken = refl
refusal_back Refusal.NoRoom = refl

-- No two refusals have one code.
pub one_refusal : (x y : Refusal) → code_of x ≡ code_of y → x ≡ y
one_refusal = one_to_one code_of refusal_of refusal_back

-- The reading with an answer.
abbrev reading_of : Answer → Result Frame Refusal
reading_of a = from a.taken
  where
    from : List Frame → Result Frame Refusal
    from [] = Err (refusal_of a.code)
    from (f ∷ fs) = Ok f

reading_back : (r : Result Frame Refusal) → reading_of (answer_of r) ≡ r
reading_back (Ok f) = refl
reading_back (Err refusal) = ap Err (refusal_back refusal)

-- No two readings say the same: `read_frame` has one result.
pub one_reading : (x y : Result Frame Refusal) → answer_of x ≡ answer_of y → x ≡ y
one_reading = one_to_one answer_of reading_of reading_back

-- The writing with a code.
abbrev writing_of : ℕ → Result Unit Refusal
writing_of code = cond (eqb code 0) (Ok tt) (Err (refusal_of code))

writing_back : (w : Result Unit Refusal) → writing_of (wrote_of w) ≡ w
writing_back (Ok tt) = refl
writing_back (Err Refusal.WrongSize) = refl
writing_back (Err Refusal.RuleBroken) = refl
writing_back (Err Refusal.NoRoom) = refl

-- No two writings say the same: `write_frame` has one result.
pub one_writing : (x y : Result Unit Refusal) → wrote_of x ≡ wrote_of y → x ≡ y
one_writing = one_to_one wrote_of writing_of writing_back
