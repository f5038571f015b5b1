-- What becomes of a command depends on its own bytes alone, and not on what follows them: rows 1 to 10 read no further, and the rows behind them ask
-- for the command that was read.
use Prim.Native.Nat.{ℕ}
use mathlib.Core.Path.{◌≡◌, refl, sym, ap, ◌∙◌}
use mathlib.Core.List.{List, [], ◌∷◌}
use mathlib.Core.Bool.{Bool, true, false, cond}
use lib.Dec.{eqb}
use borrow.Author.Tests.{eqb-true}
use Rattle.words.specs.Codes.{first_of}
use Rattle.wire.specs.declared.kinds.Command.{Command}
use Rattle.std.specs.Prelude.{Ok}
use Rattle.wire.specs.Read.{Answer, answer_of, answer_for, read_code, read_of, said_parts, said}
use Rattle.wire.specs.Judge.{plain}
use Rattle.walk.proofs.Shows.{first, own_read}
use Rattle.bench.specs.declared.Bench.{Bench}
use Rattle.bench.specs.Carry.{Outcome, effect_of, outcome_for, bytes_checks, taken}
use Rattle.bench.proofs.Outcomes.{left, behind_code, behind_told, read_then}

-- What the rows behind 10 say of a command that was read.
abbrev permitted : Bench → Command → Outcome
permitted b c = record { told = plain (behind_code b c); bench = cond (eqb (behind_code b c) 0) (effect_of b c) b }

-- The outcome, from what reading said.
abbrev on_reading : Bench → Answer → Outcome
on_reading b a = elim a.taken [ [] ↦ left a.told b | c ∷ cs ↦ permitted b c ]

-- Where rows 1 to 10 pass, those say it.
read_passed : (b : Bench) (s : List ℕ) → read_code s ≡ 0 → permitted b (said s) ≡ taken b s
unfolding taken
read_passed b s none =
    let code : first_of (bytes_checks b s) ≡ behind_code b (said s) = rw (read_then b s, none) in
    ap (λ told. record { told = told; bench = cond (eqb (behind_code b (said s)) 0) (effect_of b (said s)) b }) (sym (behind_told (said_parts s) b (said s)))
    ∙ ap (λ n. outcome_for n (said_parts s) b (said s)) (sym code)

by_reading : (b : Bench) (s : List ℕ) → taken b s ≡ on_reading b (read_of s)
unfolding taken read_of
by_reading b s = go (eqb (read_code s) 0) refl
  where
    go : (none : Bool) → eqb (read_code s) 0 ≡ none → taken b s ≡ on_reading b (read_of s)
    go true is =
        let zero = eqb-true (read_code s) 0 is in
        let was : read_of s ≡ answer_of (Ok (said s)) = ap (λ n. answer_for n (said_parts s) (said s)) zero in
        sym (read_passed b s zero) ∙ ap (on_reading b) (sym was)
    go false is =
        let code : first_of (bytes_checks b s) ≡ read_code s = rw (read_then b s, is) in rw (code, is)

-- Two readings that say the same lead to the same.
pub same_reading : (b : Bench) (s t : List ℕ) → read_of s ≡ read_of t → taken b s ≡ taken b t
same_reading b s t e = by_reading b s ∙ ap (on_reading b) e ∙ sym (by_reading b t)

-- So a command alone leads to what it leads to in its list.
pub taken_own : (b : Bench) (s : List ℕ) → taken b (first s) ≡ taken b s
taken_own b s = same_reading b (first s) s (own_read s)
