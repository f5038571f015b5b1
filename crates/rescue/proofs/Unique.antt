-- Two results that a promise allows are equal: from the code and the two numbers, the result can be had back.
use mathlib.Core.Path.{◌≡◌, refl}
use mathlib.Core.Bool.{cond}
use lib.Dec.{eqb}
use Rattle.words.proofs.Laws.{one_to_one}
use Rattle.std.specs.Prelude.{Result, Ok, Err}
use Rattle.rescue.specs.declared.Rescued.{Rescued}
use Rattle.rescue.specs.declared.Refusal.{Refusal}
use Rattle.rescue.specs.Answers.{Answer, answer_of}

-- The result with an answer.
abbrev result_of : Answer → Result Rescued Refusal
result_of a = cond (eqb a.code 0) (Ok (record { kept = a.kept; stretches = a.stretches })) (cond (eqb a.code 20) (Err Refusal.TooLong) (Err Refusal.NoRoom))

result_back : (r : Result Rescued Refusal) → result_of (answer_of r) ≡ r
result_back (Ok done) = refl
result_back (Err Refusal.TooLong) = refl
result_back (Err Refusal.NoRoom) = refl

-- No two results say the same: `rescue` has one result.
pub one_rescued : (x y : Result Rescued Refusal) → answer_of x ≡ answer_of y → x ≡ y
one_rescued = one_to_one answer_of result_of result_back
