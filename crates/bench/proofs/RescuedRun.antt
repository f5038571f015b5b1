-- 02, Q-10: what a rescue keeps can be run as a list, and then none of its records has a code of 1 to 8. Places k count from 0.
use Prim.Native.Nat.{ℕ, zero, suc, ◌+◌, ◌≤◌, ◌<◌}
use mathlib.Core.Path.{◌≡◌, refl, sym, subst}
use mathlib.Core.Logic.{◌⊎◌, inl, inr}
use mathlib.Core.List.{List, [], ◌∷◌}
use mathlib.Core.Bool.{Bool, true, false, cond, ◌&&◌, ◌||◌, false≢true}
use native.Mathlib.Omega.{arith}
use lib.ListN.{length, get_or}
use lib.Dec.{eqb, leb}
use borrow.Author.Tests.{eqb-true, leb-true}
use Rattle.words.specs.BigEndian.{byte_at}
use Rattle.words.specs.Codes.{Check, first_of}
use Rattle.words.proofs.Tests.{both}
use Rattle.wire.specs.Read.{read_code, said}
use Rattle.walk.specs.Walk.{rests}
use Rattle.rescue.specs.Pieces.{passing, kept_of}
use Rattle.rescue.specs.Whole.{all_pass}
use Rattle.rescue.proofs.Unharmed.{rescued_passes}
use Rattle.bench.specs.declared.Bench.{Bench}
use Rattle.bench.specs.Carry.{state_checks, taken}
use Rattle.bench.specs.Run.{run_of, room_after}
use Rattle.bench.proofs.Outcomes.{behind_code, read_then}
use Rattle.bench.proofs.Report.{record_at, kit_record, pupil_record}

-- A code that is none of 1 to 8: acceptance, or one from 9 on.
abbrev pub Later : ℕ → Type 0
Later code = (code ≡ 0) ⊎ (9 ≤ code)

-- Rows whose codes are all from 9 on give such a code. The rows that ask for the state are of that sort.
abbrev from_nine : List Check → Bool
from_nine [] = true
from_nine (c ∷ cs) = leb 9 c.code && from_nine cs

first_later : (cs : List Check) → from_nine cs ≡ true → Later (first_of cs)
first_later [] h = inl refl
first_later (c ∷ cs) h = go c.due (first_later cs parts.1)
  where
    parts : (leb 9 c.code ≡ true) × (from_nine cs ≡ true)
    parts = both (leb 9 c.code) (from_nine cs) h

    go : (due : Bool) → Later (first_of cs) → Later (cond due c.code (first_of cs))
    go true rest = inr (leb-true 9 c.code parts.0)
    go false rest = rest

-- So a command that passes 1 to 8 gets a later code, or none, on every bench.
passes_later : (code : ℕ) → (nine ten : Bool) → eqb code 9 ≡ nine → eqb code 10 ≡ ten → (nine || ten) ≡ true → 9 ≤ code
passes_later code true ten is_9 is_10 pass = omega (arith, eqb-true code 9 is_9)
passes_later code false true is_9 is_10 pass = omega (arith, eqb-true code 10 is_10)
passes_later code false false is_9 is_10 pass = absurd (false≢true pass)

pub taken_later : (b : Bench) (r : List ℕ) → passing r ≡ true → Later (taken b r).told.code
unfolding taken passing behind_code
taken_later b r pass = subst Later (sym (read_then b r)) (go (eqb (read_code r) 0) refl pass)
  where
    go : (none : Bool) → eqb (read_code r) 0 ≡ none → (none || (eqb (read_code r) 9 || eqb (read_code r) 10)) ≡ true
        → Later (cond none (behind_code b (said r)) (read_code r))
    go true is own = first_later (state_checks b (said r)) refl
    go false is own = inr (passes_later (read_code r) (eqb (read_code r) 9) (eqb (read_code r) 10) refl refl own)

pass_at : (rs : List (List ℕ)) → all_pass rs ≡ true → (k : ℕ) → k < length rs → passing (get_or rs k []) ≡ true
pass_at [] all k there = absurd (omega arith)
pass_at (r ∷ rs) all zero there = (both (passing r) (all_pass rs) all).0
pass_at (r ∷ rs) all (suc k) there = pass_at rs (both (passing r) (all_pass rs) all).1 k (omega arith)

-- The code of a record is its second byte.
abbrev pub code_in : List ℕ → ℕ
code_in bytes = byte_at bytes 1

-- A list that passes 1 to 8 throughout, run as the pupil's, or as the kit's: no record of it has one of these codes.
module _ (b : Bench) (kit pupil room : List ℕ) (accepted : (run_of b kit pupil room).code ≡ 0) where
  pub passing_pupil : all_pass (rests pupil) ≡ true → (k : ℕ) → k < length (rests pupil)
      → Later (code_in (record_at (room_after b kit pupil room) (length (rests kit) + k)))
  passing_pupil all k there =
      subst (λ bytes. Later (code_in bytes)) (sym (pupil_record b kit pupil room accepted k there)) (taken_later _ _ (pass_at (rests pupil) all k there))

  pub passing_kit : all_pass (rests kit) ≡ true → (k : ℕ) → k < length (rests kit) → Later (code_in (record_at (room_after b kit pupil room) k))
  passing_kit all k there =
      subst (λ bytes. Later (code_in bytes)) (sym (kit_record b kit pupil room accepted k there)) (taken_later _ _ (pass_at (rests kit) all k there))

-- What is kept of a damaged list is such a list, whatever the bench, the kit's list and the damaged one are.
pub rescued_run : (b : Bench) (kit s room : List ℕ) → (run_of b kit (kept_of s) room).code ≡ 0 → (k : ℕ) → k < length (rests (kept_of s))
    → Later (code_in (record_at (room_after b kit (kept_of s) room) (length (rests kit) + k)))
rescued_run b kit s room accepted k there = passing_pupil b kit (kept_of s) room accepted (rescued_passes s) k there
