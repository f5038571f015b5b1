-- 01, "Codes, in the order they are tried": a list of checks, each a code and whether it is due, and the first that is.
use Rattle.std.specs.Prelude.{ℕ, List, [], ◌∷◌, Bool, cond, Result, Ok, Err}

-- One row: this code is given when the test holds.
pub record Check : Type 0 where
  pub code : ℕ
  pub due : Bool

infix 70 ◌when◌
abbrev pub ◌when◌ : ℕ → Bool → Check
code when due = record { code = code; due = due }

-- The code of the first row that holds; 0, acceptance, where none does.
abbrev pub first_of : List Check → ℕ
first_of [] = 0
first_of (c ∷ cs) = cond c.due c.code (first_of cs)

-- The code of an answer, from that of each refusal: 0 where it was accepted.
abbrev pub answer_code : {A E : Type 0} → (E → ℕ) → Result A E → ℕ
answer_code code (Ok x) = 0
answer_code code (Err refusal) = code refusal
