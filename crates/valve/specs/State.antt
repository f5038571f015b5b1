-- 02, Q-7, the valve: "on the state, 45 firing when not armed, 46 firing code wrong"; "Status bit 14 means armed, bits 14 and 15 fired. Arming an armed or fired
-- valve, or firing again, changes nothing."
use Rattle.std.specs.Prelude.{ℕ, Bool, true, false, cond, not, List, [], ◌∷◌, ◌++◌, ◌==◌, Result, Ok, Err}
use Rattle.words.specs.Codes.{Check, ◌when◌, first_of}
use Rattle.valve.specs.declared.Act.{Act}
use Rattle.valve.specs.declared.state.Valve.{Valve}
use Rattle.valve.specs.declared.refusal.Refusal.{Refusal}
use Rattle.valve.specs.Frame.{firing_code, frame_at}
use Rattle.valve.specs.Answers.{code_of, read_checks}

-- A fresh valve is safe.
abbrev pub fresh_valve : Valve
fresh_valve = Valve.Safe

-- A fired valve counts as armed.
abbrev pub is_armed : Valve → Bool
is_armed Valve.Safe = false
is_armed Valve.Armed = true
is_armed Valve.Fired = true

-- The status word: bit 14 is 16384, bits 14 and 15 are 49152.
abbrev pub status_of : Valve → ℕ
status_of Valve.Safe = 0
status_of Valve.Armed = 16384
status_of Valve.Fired = 49152

-- The rows on the state: arming has none; firing has 45, then 46.
abbrev pub act_checks : Valve → Act → List Check
act_checks v Act.Arm = []
act_checks v (Act.Fire code) = 45 when not (is_armed v) ∷ 46 when not (code == firing_code) ∷ []

-- What an act that is accepted leaves: only a safe valve is changed by arming, and one that is fired stays so.
abbrev pub left_by : Valve → Act → Valve
left_by Valve.Safe Act.Arm = Valve.Armed
left_by Valve.Armed Act.Arm = Valve.Armed
left_by Valve.Fired Act.Arm = Valve.Fired
left_by v (Act.Fire code) = Valve.Fired

-- What carrying out answers: a code, and the valve afterwards.
pub record Outcome : Type 0 where
  pub code : ℕ
  pub valve : Valve

-- It is code 0 and the valve that was handed back; of a refusal the code, and the valve as it was.
abbrev pub outcome_of : Valve → Result Valve Refusal → Outcome
outcome_of v (Ok left) = record { code = 0; valve = left }
outcome_of v (Err refusal) = record { code = code_of refusal; valve = v }

-- The valve is as it was, unless the code is 0.
abbrev pub outcome_by : ℕ → Valve → Act → Outcome
outcome_by code v act = record { code = code; valve = cond (code == 0) (left_by v act) v }

-- A frame carried out from its bytes: 40 to 44 on the bytes, then 45 and 46 on the valve.
abbrev pub frame_checks : Valve → List ℕ → List Check
frame_checks v s = read_checks s ++ act_checks v (frame_at s).act

unfoldable pub carry_code : Valve → List ℕ → ℕ
carry_code v s = first_of (frame_checks v s)

unfoldable pub carry_out : Valve → List ℕ → Outcome
carry_out v s = outcome_by (carry_code v s) v (frame_at s).act
