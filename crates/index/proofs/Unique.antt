-- Two results that a promise allows are equal: from what a promise says of a result, the result can be had back.
use Prim.Native.Nat.{ℕ}
use mathlib.Core.Path.{◌≡◌, refl, sym, ◌∙◌}
use mathlib.Core.List.{List}
use mathlib.Core.Bool.{cond}
use lib.Dec.{eqb}
use denote.Ref.{Bor}
use Rattle.words.proofs.Laws.{one_to_one}
use Rattle.walk.specs.Shown.{Placed}
use Rattle.walk.proofs.Unique.{one_place}
use Rattle.std.specs.Prelude.{Result, Ok, Err}
use Rattle.index.specs.declared.Refusal.{Refusal}
use Rattle.index.specs.Answers.{Answer, answer_of}
use Rattle.index.specs.Found.{found_of, found_at}

-- The result with an answer.
abbrev result_of : Answer → Result ℕ Refusal
result_of a =
    cond (eqb a.code 0) (Ok a.count)
    (cond (eqb a.code 20) (Err Refusal.TooLong) (cond (eqb a.code 54) (Err Refusal.BadOffsets) (Err Refusal.NoRoom)))

result_back : (r : Result ℕ Refusal) → result_of (answer_of r) ≡ r
result_back (Ok count) = refl
result_back (Err Refusal.TooLong) = refl
result_back (Err Refusal.BadOffsets) = refl
result_back (Err Refusal.NoRoom) = refl

-- No two results say the same: `build` has one result.
pub one_indexed : (x y : Result ℕ Refusal) → answer_of x ≡ answer_of y → x ≡ y
one_indexed = one_to_one answer_of result_of result_back

-- What `look_up` promises of its answer.
abbrev pub Promise : Bor (List ℕ) → List ℕ → ℕ → Bor (List ℕ) → Type 0
Promise list offsets number r = (r.now ≡ found_of list.now offsets number) × Placed list r (found_at list.now offsets number)

-- Two answers of `look_up` have the same bytes and the same place.
pub one_found : (list : Bor (List ℕ)) (offsets : List ℕ) (number : ℕ) (a b : Bor (List ℕ))
    → Promise list offsets number a → Promise list offsets number b → (a.now ≡ b.now) × (a.ref_ptr ≡ b.ref_ptr)
one_found list offsets number a b p q = (p.0 ∙ sym q.0, one_place list a b (found_at list.now offsets number) p.1 q.1)
