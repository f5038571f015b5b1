-- What becomes of a command, step by step as the power and the tally are asked: each part that passes leaves the rows behind it, and a refusal takes no
-- command.
use Prim.Native.Nat.{ℕ}
use mathlib.Core.Path.{◌≡◌, refl, sym, ap, ◌∙◌}
use mathlib.Core.List.{List, [], ◌∷◌, ◌++◌}
use mathlib.Core.Bool.{Bool, true, false, cond}
use lib.Dec.{eqb}
use Rattle.words.specs.Codes.{first_of}
use Rattle.words.proofs.FirstOf.{first_append}
use Rattle.wire.specs.declared.kinds.Command.{Command}
use Rattle.wire.specs.declared.judging.Refusal.{Refusal}
use Rattle.wire.specs.declared.judging.Told.{Told}
use Rattle.std.specs.Prelude.{Ok, Err}
use Rattle.wire.specs.Judge.{plain, told_of, told_for, arg_checks, judge_code, judged}
use Rattle.wire.specs.Read.{Answer, answer_of, answer_for, read_code, read_of, read_checks, said_parts, said}
use Rattle.wire.specs.Kind.{parts_of}
use Rattle.wire.specs.declared.kinds.Parts.{Parts}
use Rattle.wire.proofs.Answers.{refusal_code}
use Rattle.wire.proofs.Parameters.{other_told}
use Rattle.store.specs.declared.checks.Denial.{Denial}
use Rattle.store.specs.declared.tally.Tally.{Tally}
use Rattle.store.specs.Checks.{code_of, told_permit}
use Rattle.store.specs.TallySteps.{tally_code}
use Rattle.bench.specs.Carry.{row26}
use Rattle.bench.specs.Steps.{behind_checks, permitted_with, permitted_by, decided_by, decided_in}
use Rattle.bench.proofs.Outcomes.{judge_coded, read_coded}

-- What a refusal says: what it tells, and no command.
abbrev none : Told → Answer
none told = record { told = told; taken = [] }

-- Refused by rows 1 to 10.
misread : (parts : Parts) (c : Command) (code : ℕ) (r : Refusal) → told_of r ≡ told_for code parts → none (told_of r) ≡ answer_for code parts c
misread parts c code r e =
    let other : eqb code 0 ≡ false = rw (ap (λ (t : Told). t.code) e) at (refusal_code r) in
    rw (e, other)

denial_none : (c : Command) (d : Denial) → none (plain (code_of d)) ≡ permitted_with (code_of d) c
denial_none c Denial.NoneOpen = refl
denial_none c Denial.AnotherOpen = refl
denial_none c Denial.AlreadyClosed = refl
denial_none c Denial.NoEntries = refl
denial_none c Denial.TooLong = refl
denial_none c Denial.TooMany = refl
denial_none c Denial.NoneFree = refl
denial_none c Denial.NotBelow = refl
denial_none c Denial.NotClosed = refl
denial_none c Denial.Running = refl

-- Row 26 and the store's: in the dark, denied, or granted.
module _ (power : Bool) (t : Tally) (c : Command) where
  pub in_dark : row26 power c.flag c.kind ≡ true → none (plain 26) ≡ permitted_by power t c
  unfolding permitted_by
  in_dark e = rw e

  module _ (lit : row26 power c.flag c.kind ≡ false) where
    by_tally : first_of (behind_checks power t c) ≡ tally_code t c
    unfolding tally_code
    by_tally = rw lit

    pub denied : (d : Denial) → told_permit (Err d) ≡ tally_code t c → none (plain (code_of d)) ≡ permitted_by power t c
    unfolding permitted_by
    denied d e = denial_none c d ∙ ap (λ n. permitted_with n c) (e ∙ sym by_tally)

    pub granted : told_permit (Ok tt) ≡ tally_code t c → answer_of (Ok c) ≡ permitted_by power t c
    unfolding permitted_by
    granted e = ap (λ n. permitted_with n c) (e ∙ sym by_tally)

module _ (power : Bool) (t : Tally) where
  abbrev behind : Command → ℕ
  behind c = first_of (behind_checks power t c)

  -- They ask for no number.
  behind_for : (parts : Parts) (c : Command) → permitted_with (behind c) c ≡ answer_for (behind c) parts c
  behind_for parts c =
      ap (λ told. record { told = told; taken = cond (eqb (behind c) 0) (c ∷ []) [] }) (sym (other_told parts (behind_checks power t c) refl))

  -- Those rows speak where the rows of judging, or of reading, all passed.
  judge_first : (c : Command) → first_of (arg_checks c ++ behind_checks power t c) ≡ cond (eqb (judge_code c) 0) (behind c) (judge_code c)
  unfolding judge_code
  judge_first c = first_append (arg_checks c) (behind_checks power t c) (judge_coded c)

  read_first : (s : List ℕ) → first_of (read_checks s ++ behind_checks power t (said s)) ≡ cond (eqb (read_code s) 0) (behind (said s)) (read_code s)
  unfolding read_code
  read_first s = first_append (read_checks s) (behind_checks power t (said s)) (read_coded s)

  -- A decoded command: refused by 8 to 10, or what the rows behind them say.
  pub judged_refused : (c : Command) (r : Refusal) → told_of r ≡ judged c → none (told_of r) ≡ decided_by power t c
  unfolding decided_by
  judged_refused c r e =
      let other : eqb (judge_code c) 0 ≡ false = rw (ap (λ (t : Told). t.code) e) at (refusal_code r) in
      let code : first_of (arg_checks c ++ behind_checks power t c) ≡ judge_code c = rw (judge_first c, other) in
      misread (parts_of c.kind) c (judge_code c) r e ∙ ap (λ n. answer_for n (parts_of c.kind) c) (sym code)

  pub judged_passed : (c : Command) → plain 0 ≡ judged c → permitted_by power t c ≡ decided_by power t c
  unfolding decided_by permitted_by
  judged_passed c e =
      let zero : judge_code c ≡ 0 = sym (ap (λ (t : Told). t.code) e) in
      let code : first_of (arg_checks c ++ behind_checks power t c) ≡ behind c = rw (judge_first c, zero) in
      behind_for (parts_of c.kind) c ∙ ap (λ n. answer_for n (parts_of c.kind) c) (sym code)

  -- The command at the front of some bytes: refused by 1 to 10, or what those rows say of the command that was read.
  pub read_refused : (s : List ℕ) (r : Refusal) → answer_of (Err r) ≡ read_of s → none (told_of r) ≡ decided_in power t s
  unfolding decided_in read_of
  read_refused s r e =
      let told : told_of r ≡ told_for (read_code s) (said_parts s) = ap (λ (a : Answer). a.told) e in
      let other : eqb (read_code s) 0 ≡ false = rw (ap (λ (t : Told). t.code) told) at (refusal_code r) in
      let code : first_of (read_checks s ++ behind_checks power t (said s)) ≡ read_code s = rw (read_first s, other) in
      misread (said_parts s) (said s) (read_code s) r told ∙ ap (λ n. answer_for n (said_parts s) (said s)) (sym code)

  pub read_passed : (s : List ℕ) (c : Command) → answer_of (Ok c) ≡ read_of s → permitted_by power t c ≡ decided_in power t s
  unfolding decided_in read_of permitted_by
  read_passed s c e =
      let zero : read_code s ≡ 0 = sym (ap (λ (a : Answer). a.told.code) e) in
      let both : c ∷ [] ≡ cond (eqb (read_code s) 0) (said s ∷ []) [] = ap (λ (a : Answer). a.taken) e in
      let one : c ∷ [] ≡ said s ∷ [] = rw zero at both in
      let same : c ≡ said s = cc in
      let code : first_of (read_checks s ++ behind_checks power t (said s)) ≡ behind (said s) = rw (read_first s, zero) in
      ap (permitted_by power t) same ∙ behind_for (said_parts s) (said s) ∙ ap (λ n. answer_for n (said_parts s) (said s)) (sym code)
