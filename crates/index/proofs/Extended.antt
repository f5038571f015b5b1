-- 02, Q-14, "When a list grows at its end the index is extended, anew from a command that had code 1, 2 or 3": extending the index of s to that of s ++ t
-- is building the index of s ++ t, whatever codes s ended with.
use Prim.Native.Nat.{ℕ, zero, suc, ◌+◌, ◌-◌, ◌≤◌, ◌<◌}
use mathlib.Core.Path.{◌≡◌, refl, sym, ap, ◌∙◌}
use mathlib.Core.List.{List, [], ◌∷◌, ◌++◌}
use mathlib.Core.Bool.{Bool, true, false}
use native.Mathlib.Omega.{arith}
use lib.ListN.{length, take, drop, length-append, length-drop}
use lib.Seq.{drop-append-le}
use lib.Dec.{eqb, ltb}
use borrow.Author.Tests.{ltb-true, ltb-false, eqb-true, eqb-false}
use Rattle.wire.specs.Read.{reach_code, span_of}
use Rattle.wire.proofs.Answers.{reaches}
use Rattle.wire.proofs.Local.{spans_on}
use Rattle.walk.proofs.Spans.{span_some, span_ended}
use Rattle.index.specs.Index.{starts_from, last_of, index_of, built}
use Rattle.index.proofs.Starts.{starts_none, starts_more}

-- All offsets but the last, and what follows from the last on.
abbrev from_last : List ℕ → (ℕ → List ℕ) → List ℕ
from_last old next = take (length old - 1) old ++ next (last_of old)

from_later : (o : ℕ) (old : List ℕ) (next : ℕ → List ℕ) → 0 < length old → from_last (o ∷ old) next ≡ o ∷ from_last old next
from_later o [] next more = absurd (omega arith)
from_later o (p ∷ old) next more =
    let two : length (o ∷ p ∷ old) - 1 ≡ suc (length old) = omega arith in
    let one : length (p ∷ old) - 1 ≡ length old = omega arith in
    rw (two, one)

-- A command with another behind it reaches as far where the list goes on: codes 1, 2 and 3 leave nothing behind theirs.
span_on : (s t : List ℕ) (at : ℕ) → at + span_of (drop at s) < length s → span_of (drop at (s ++ t)) ≡ span_of (drop at s)
span_on s t at more = ap span_of (drop-append-le at s t (omega arith)) ∙ go (eqb (reach_code (drop at s)) 0) refl
  where
    go : (b : Bool) → eqb (reach_code (drop at s)) 0 ≡ b → span_of (drop at s ++ t) ≡ span_of (drop at s)
    go true is = spans_on (drop at s) t (reaches (drop at s) (eqb-true (reach_code (drop at s)) 0 is))
    go false is = absurd (omega (arith, span_ended (drop at s) (eqb-false (reach_code (drop at s)) 0 is), length-drop at s))

-- So all commands but the last begin where they began.
module _ (s t : List ℕ) where
  abbrev Extends : ℕ → Type 0
  Extends at = from_last (starts_from s at) (starts_from (s ++ t)) ≡ starts_from (s ++ t) at

  abbrev behind : ℕ → ℕ
  behind at = at + span_of (drop at s)

  extends_from : (n at : ℕ) → length s ≤ n + at → at < length s → Extends at
  extends_from zero at enough more = absurd (omega arith)
  extends_from (suc n) at enough more = go (ltb (behind at) (length s)) refl (λ left there. extends_from n (behind at) left there)
    where
      go : (b : Bool) → ltb (behind at) (length s) ≡ b → (length s ≤ n + (behind at) → (behind at) < length s → Extends (behind at)) → Extends at
      go true is rest =
          let later = ltb-true (behind at) (length s) is in
          let some : 0 < length (starts_from s (behind at)) = omega (arith, ap length (starts_more s (behind at) later)) in
          let moves = span_some (drop at s) (omega (arith, length-drop at s)) in
          ap (λ l. from_last l (starts_from (s ++ t))) (starts_more s at more)
          ∙ from_later at (starts_from s (behind at)) (starts_from (s ++ t)) some
          ∙ ap (λ l. at ∷ l) (rest (omega arith) later)
          ∙ ap (λ k. at ∷ starts_from (s ++ t) (at + k)) (sym (span_on s t at later))
          ∙ sym (starts_more (s ++ t) at (omega (arith, length-append s t)))
      go false is rest =
          let end = ltb-false (behind at) (length s) is in
          ap (λ l. from_last l (starts_from (s ++ t))) (starts_more s at more ∙ ap (λ l. at ∷ l) (starts_none s (behind at) end))

  pub extended_built : index_of (s ++ t) (built s) ≡ built (s ++ t)
  unfolding index_of
  extended_built = go (ltb 0 (length s)) refl
    where
      go : (b : Bool) → ltb 0 (length s) ≡ b → Extends 0
      go true is = extends_from (length s) 0 (omega arith) (ltb-true 0 (length s) is)
      go false is = ap (λ l. from_last l (starts_from (s ++ t))) (starts_none s 0 (omega (arith, ltb-false 0 (length s) is)))
