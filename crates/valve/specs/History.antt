-- What the safety officer asks about: a valve that is sent frames one after another, whatever bytes they are, and the places at which it was armed and fired.
use Rattle.std.specs.Prelude.{◌≡◌, ℕ, suc, ◌<◌, List, [], ◌∷◌, length, take, slice_index_or}
use Rattle.valve.specs.declared.state.Valve.{Valve}
use Rattle.valve.specs.Frame.{words_in}
use Rattle.valve.specs.State.{carry_code, carry_out}

-- The valve when all of the frames were carried out,
abbrev pub sent : Valve → List (List ℕ) → Valve
sent v [] = v
sent v (s ∷ ss) = sent (carry_out v s).valve ss

-- and before the one at a place, counted from 0; and that frame.
abbrev pub valve_before : Valve → List (List ℕ) → ℕ → Valve
valve_before v frames i = sent v (take i frames)

abbrev pub frame_no : List (List ℕ) → ℕ → List ℕ
frame_no frames i = slice_index_or frames i []

-- Of the frames that a valve was sent, the one at a place has these words 1 to 4, it was accepted, and with it the valve went from one state to another.
pub record Turned (v : Valve) (frames : List (List ℕ)) (i : ℕ) (words : List ℕ) (was became : Valve) : Type 0 where
  pub sent_there : i < length frames
  pub says : words_in (frame_no frames i) 1 4 ≡ words
  pub accepted : carry_code (valve_before v frames i) (frame_no frames i) ≡ 0
  pub before : valve_before v frames i ≡ was
  pub after : valve_before v frames (suc i) ≡ became

-- Arming is ffff 0001 0000 0000; firing is 0000 0000 ffff and the right code, 1810.
abbrev pub ArmedAt : Valve → List (List ℕ) → ℕ → Type 0
ArmedAt v frames i = Turned v frames i (65535 ∷ 1 ∷ 0 ∷ 0 ∷ []) Valve.Safe Valve.Armed

abbrev pub FiredAt : Valve → List (List ℕ) → ℕ → Type 0
FiredAt v frames i = Turned v frames i (0 ∷ 0 ∷ 65535 ∷ 6160 ∷ []) Valve.Armed Valve.Fired

-- There is a place at which the valve was armed, and a later one at which it was fired.
pub record ArmedThenFired (v : Valve) (frames : List (List ℕ)) : Type 0 where
  pub arming : ℕ
  pub firing : ℕ
  pub earlier : arming < firing
  pub armed : ArmedAt v frames arming
  pub fired : FiredAt v frames firing
