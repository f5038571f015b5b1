-- Two results that a promise allows are equal: from what a promise says of a result, the result can be had back.
use Prim.Native.Nat.{ℕ}
use mathlib.Core.Path.{◌≡◌, refl, ap}
use mathlib.Core.List.{List, [], ◌∷◌}
use mathlib.Core.Bool.{cond}
use lib.Dec.{eqb}
use Rattle.words.proofs.Laws.{one_to_one}
use Rattle.housekeeping.specs.declared.Housekeeping.{Housekeeping}
use Rattle.housekeeping.specs.declared.Refusal.{Refusal}
use Rattle.std.specs.Prelude.{Result, Ok, Err}
use Rattle.words.specs.declared.codes.NoRoom.{NoRoom}
use Rattle.housekeeping.specs.Answers.{Answer, code_of, answer_of, wrote_of}

-- The refusal with a code.
abbrev refusal_of : ℕ → Refusal
refusal_of code =
    cond (eqb code 47) Refusal.CutOff (cond (eqb code 48) Refusal.WrongTag (cond (eqb code 49) Refusal.WrongLength Refusal.LeftOver))

refusal_back : (r : Refusal) → refusal_of (code_of r) ≡ r
refusal_back Refusal.CutOff = refl
refusal_back Refusal.WrongTag = refl
refusal_back Refusal.WrongLength = refl
refusal_back Refusal.LeftOver = refl

-- No two refusals have one code.
pub one_refusal : (x y : Refusal) → code_of x ≡ code_of y → x ≡ y
one_refusal = one_to_one code_of refusal_of refusal_back

-- The reading with an answer.
abbrev reading_of : Answer → Result Housekeeping Refusal
reading_of a = from a.taken
  where
    from : List Housekeeping → Result Housekeeping Refusal
    from [] = Err (refusal_of a.code)
    from (h ∷ hs) = Ok h

reading_back : (r : Result Housekeeping Refusal) → reading_of (answer_of r) ≡ r
reading_back (Ok h) = refl
reading_back (Err refusal) = ap Err (refusal_back refusal)

-- No two readings say the same: `read_housekeeping` has one result.
pub one_reading : (x y : Result Housekeeping Refusal) → answer_of x ≡ answer_of y → x ≡ y
one_reading = one_to_one answer_of reading_of reading_back

-- The writing with a code.
abbrev writing_of : ℕ → Result Unit NoRoom
writing_of code = cond (eqb code 0) (Ok tt) (Err (record {}))

writing_back : (w : Result Unit NoRoom) → writing_of (wrote_of w) ≡ w
writing_back (Ok w) = refl
writing_back (Err refused) = refl

-- No two writings say the same: `write_housekeeping` has one result.
pub one_writing : (x y : Result Unit NoRoom) → wrote_of x ≡ wrote_of y → x ≡ y
one_writing = one_to_one wrote_of writing_of writing_back
