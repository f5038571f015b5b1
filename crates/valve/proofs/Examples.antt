-- 02, Q-7, by figures: the frames that arm and fire, each refusal, and the valve's way, as claims that the machine computes.
use Rattle.std.proofs.Common.{◌≡◌, ℕ, ◌+◌, true, false, List, [], ◌∷◌, ◌++◌, take, drop, refl}
use Rattle.valve.specs.declared.Act.{Act}
use Rattle.valve.specs.declared.state.Valve.{Valve}
use Rattle.valve.specs.Frame.{bytes_of, zeros, bytes_with, frame_bytes}
use Rattle.valve.specs.Answers.{read_code}
use Rattle.valve.specs.State.{status_of, carry_code, carry_out}
use Rattle.valve.specs.History.{sent}

-- A frame by its first six words.
abbrev frame : List ℕ → List ℕ
frame words = bytes_of (words ++ zeros 26)

-- Without flags: 000e ffff 0001 0000 0000, whose sum wraps to 000e, arms; 000e 0000 0000 ffff 1810, whose sum wraps to 181d, fires.
abbrev arm : List ℕ
arm = frame (14 ∷ 65535 ∷ 1 ∷ 0 ∷ 0 ∷ 14 ∷ [])

abbrev fire : List ℕ
fire = frame (14 ∷ 0 ∷ 0 ∷ 65535 ∷ 6160 ∷ 6173 ∷ [])

-- So they are written; with the flags word 0 is c00e or 800e, and any firing code is taken.
pub written :
    (frame_bytes (record { ocpl = false; quiet = false; act = Act.Arm }) ≡ arm)
    × (frame_bytes (record { ocpl = false; quiet = false; act = Act.Fire 6160 }) ≡ fire)
    × (frame_bytes (record { ocpl = true; quiet = true; act = Act.Arm }) ≡ frame (49166 ∷ 65535 ∷ 1 ∷ 0 ∷ 0 ∷ 49166 ∷ []))
    × (frame_bytes (record { ocpl = true; quiet = false; act = Act.Fire 65535 }) ≡ frame (32782 ∷ 0 ∷ 0 ∷ 65535 ∷ 65535 ∷ 32780 ∷ []))
unfolding bytes_with
written = (refl, refl, refl, refl)

-- Each refusal of the bytes: 63, 65 and no bytes; a sum that is one off, and one that would be right over words 0 to 5; another identifier, where a flag makes
-- none; word 6 or word 31 not zero; neither pattern, and both.
pub refused :
    (read_code (take 63 arm) ≡ 40)
    × (read_code (arm ++ (0 ∷ [])) ≡ 40)
    × (read_code [] ≡ 40)
    × (read_code (frame (14 ∷ 65535 ∷ 1 ∷ 0 ∷ 0 ∷ 15 ∷ [])) ≡ 41)
    × (read_code (frame (14 ∷ 65535 ∷ 1 ∷ 0 ∷ 65522 ∷ 7 ∷ [])) ≡ 41)
    × (read_code (frame (15 ∷ 65535 ∷ 1 ∷ 0 ∷ 0 ∷ 15 ∷ [])) ≡ 42)
    × (read_code (frame (16398 ∷ 65535 ∷ 1 ∷ 0 ∷ 0 ∷ 16398 ∷ [])) ≡ 0)
    × (read_code (take 12 arm ++ (0 ∷ 1 ∷ drop 14 arm)) ≡ 43)
    × (read_code (take 63 arm ++ (1 ∷ [])) ≡ 43)
    × (read_code (frame (14 ∷ 0 ∷ 0 ∷ 0 ∷ 0 ∷ 14 ∷ [])) ≡ 44)
    × (read_code (frame (14 ∷ 65535 ∷ 1 ∷ 65535 ∷ 6160 ∷ 6173 ∷ [])) ≡ 44)
unfolding read_code
refused = (refl, refl, refl, refl, refl, refl, refl, refl, refl, refl, refl)

-- On the valve: 45 before 46; 46 on an armed valve and on a fired one; a frame that is wrong is refused for that first.
pub denied :
    (carry_code Valve.Safe fire ≡ 45)
    × (carry_code Valve.Safe (frame (14 ∷ 0 ∷ 0 ∷ 65535 ∷ 6161 ∷ 6174 ∷ [])) ≡ 45)
    × (carry_code Valve.Armed (frame (14 ∷ 0 ∷ 0 ∷ 65535 ∷ 6161 ∷ 6174 ∷ [])) ≡ 46)
    × (carry_code Valve.Fired (frame (14 ∷ 0 ∷ 0 ∷ 65535 ∷ 6161 ∷ 6174 ∷ [])) ≡ 46)
    × (carry_code Valve.Safe (frame (14 ∷ 0 ∷ 0 ∷ 65535 ∷ 6161 ∷ 6173 ∷ [])) ≡ 41)
unfolding carry_code
denied = (refl, refl, refl, refl, refl)

-- The valve's way: firing before arming does nothing, firing twice and arming thrice are as once, and nothing leads back.
pub ways :
    (sent Valve.Safe (arm ∷ fire ∷ []) ≡ Valve.Fired)
    × (sent Valve.Safe (fire ∷ arm ∷ []) ≡ Valve.Armed)
    × (sent Valve.Safe (arm ∷ arm ∷ arm ∷ []) ≡ Valve.Armed)
    × (sent Valve.Safe (arm ∷ fire ∷ fire ∷ arm ∷ []) ≡ Valve.Fired)
    × (status_of Valve.Armed ≡ 16384)
    × (status_of Valve.Fired ≡ 16384 + 32768)
unfolding carry_out carry_code
ways = (refl, refl, refl, refl, refl, refl)
