-- How far the command at the front of some bytes reaches: never past their end, and always past the first of them.
use Prim.Native.Nat.{ℕ, ◌*◌, ◌≤◌, ◌<◌}
use mathlib.Core.Path.{◌≡◌, refl}
use mathlib.Core.List.{List}
use mathlib.Core.Bool.{Bool, true, false}
use mathlib.Core.Logic.{◌⊎◌, inl, inr, ⊎_elim}
use native.Mathlib.Omega.{arith}
use lib.ListN.{length, drop, length-drop}
use lib.Dec.{eqb}
use borrow.Author.Tests.{ne_eqb, eqb-true, eqb-false}
use Rattle.wire.specs.Read.{length_of, reach_code, span_of}
use Rattle.wire.proofs.Answers.{reaches}
use Rattle.wire.proofs.Local.{span_whole}

-- It is a whole command of 4L bytes where codes 1 to 3 pass, else all that is left.
pub span_passed : (s : List ℕ) → reach_code s ≡ 0 → span_of s ≡ length_of s * 4
span_passed s passed = span_whole s (reaches s passed)

pub span_ended : (s : List ℕ) → (reach_code s ≡ 0 → ⊥) → span_of s ≡ length s
unfolding span_of
span_ended s ended = rw (ne_eqb (reach_code s) 0 ended)

span_cases : (s : List ℕ) → ((8 ≤ span_of s) × (span_of s ≤ length s)) ⊎ (span_of s ≡ length s)
span_cases s = go (eqb (reach_code s) 0) refl
  where
    go : (b : Bool) → eqb (reach_code s) 0 ≡ b → ((8 ≤ span_of s) × (span_of s ≤ length s)) ⊎ (span_of s ≡ length s)
    go true is =
        let passed = eqb-true (reach_code s) 0 is in
        let r = reaches s passed in
        let long = span_passed s passed in
        inl (omega arith, omega arith)
    go false is = inr (span_ended s (eqb-false (reach_code s) 0 is))

-- A command lies within the bytes left.
pub span_within : (s : List ℕ) → span_of s ≤ length s
span_within s = ⊎_elim (λ w. w.1) (λ e. omega arith) (span_cases s)

-- Where bytes are left a command takes one at least, so that a walk ends after as many steps as the list has bytes.
pub span_some : (s : List ℕ) → 0 < length s → 0 < span_of s
span_some s more = ⊎_elim (λ w. omega (arith, w.0)) (λ e. omega arith) (span_cases s)

-- A command with another behind it takes 8 bytes at least.
pub span_eight : (s : List ℕ) → 0 < length (drop (span_of s) s) → 8 ≤ span_of s
span_eight s more = ⊎_elim (λ w. w.0) (λ e. absurd (omega (arith, length-drop (span_of s) s))) (span_cases s)
