-- The answers of a valve, one law to an outcome.
use Rattle.std.proofs.Common.{◌≡◌, ℕ, true, false, ◌≢◌, List, get_or, sym, refl, ap, ◌∙◌, arith, eq-eqb, ne_eqb}
use Rattle.words.specs.Codes.{first_of}
use Rattle.words.proofs.FirstOf.{Coded, first_refuses, first_passes}
use Rattle.valve.specs.declared.Act.{Act}
use Rattle.valve.specs.declared.Frame.{Frame}
use Rattle.valve.specs.declared.refusal.Refusal.{Refusal}
use Rattle.valve.specs.declared.state.Valve.{Valve}
use Rattle.valve.specs.Frame.{firing_code, frame_at}
use Rattle.valve.specs.Answers.{Answer, code_of, read_checks, read_code, read_of}
use Rattle.valve.specs.State.{is_armed, act_checks, Outcome, outcome_by, carry_code, carry_out}
use Rattle.valve.proofs.Answers.{refused_with, taken_as}

abbrev pub outcome : ℕ → Valve → Outcome
outcome code v = record { code = code; valve = v }

-- Firing,
module _ (v : Valve) (code : ℕ) where
  abbrev fire : Outcome
  fire = outcome_by (first_of (act_checks v (Act.Fire code))) v (Act.Fire code)

  pub not_armed : is_armed v ≡ false → outcome 45 v ≡ fire
  not_armed safe = rw safe

  pub wrong_code : is_armed v ≡ true → code ≢ firing_code → outcome 46 v ≡ fire
  wrong_code armed other = rw (armed, ne_eqb code firing_code other)

  pub fires_it : is_armed v ≡ true → code ≡ firing_code → outcome 0 Valve.Fired ≡ fire
  fires_it armed right = rw (armed, eq-eqb code firing_code right)

-- No refusal has code 0, and no row does.
pub some_code : (refusal : Refusal) → code_of refusal ≢ 0
some_code Refusal.WrongSize e = omega arith
some_code Refusal.WrongSum e = omega arith
some_code Refusal.WrongIdentifier e = omega arith
some_code Refusal.NotZero e = omega arith
some_code Refusal.NoPattern e = omega arith
some_code Refusal.NotArmed e = omega arith
some_code Refusal.WrongCode e = omega arith

coded : (s : List ℕ) → Coded (read_checks s)
coded s = omega arith

-- and a frame carried out: what its bytes were refused for, else what its act comes to.
module _ (v : Valve) (s : List ℕ) where
  pub misread : (refusal : Refusal) → refused_with (code_of refusal) ≡ read_of s → outcome (code_of refusal) v ≡ carry_out v s
  unfolding read_of read_code carry_code carry_out
  misread refusal read =
      let code : code_of refusal ≡ carry_code v s =
      first_refuses (read_checks s) (act_checks v (frame_at s).act) (coded s) (code_of refusal) (some_code refusal) (ap (λ (a : Answer). a.code) read) in
      rw (sym code, ne_eqb (code_of refusal) 0 (some_code refusal))

  pub obeyed : (f : Frame) → taken_as f ≡ read_of s → outcome_by (first_of (act_checks v f.act)) v f.act ≡ carry_out v s
  unfolding read_of read_code carry_code carry_out
  obeyed f read =
      let none : 0 ≡ first_of (read_checks s) = ap (λ (a : Answer). a.code) read in
      let shown : read_of s ≡ taken_as (frame_at s) = rw (sym none) in
      let is : f ≡ frame_at s = ap (λ (a : Answer). get_or a.taken 0 f) (read ∙ shown) in
      let rows = act_checks v (frame_at s).act in
      let code : first_of rows ≡ carry_code v s = first_passes (read_checks s) rows (coded s) none (first_of rows) refl in
      ap (λ (g : Frame). outcome_by (first_of (act_checks v g.act)) v g.act) is ∙ ap (λ n. outcome_by n v (frame_at s).act) code
