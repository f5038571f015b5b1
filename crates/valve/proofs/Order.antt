-- Demand 2, "the one code that stands first in the order of checks", for the valve: 40 to 44 on a frame's bytes, then 45 and 46 on the valve; writing tries 24
-- alone.
use Rattle.std.proofs.Common.{◌≡◌, ℕ, true, List, ◌++◌, refl}
use Rattle.words.proofs.Order.{Order, order, apart}
use Rattle.valve.specs.declared.Act.{Act}
use Rattle.valve.specs.declared.Frame.{Frame}
use Rattle.valve.specs.declared.state.Valve.{Valve}
use Rattle.valve.specs.Frame.{frame_at}
use Rattle.valve.specs.Answers.{read_checks, read_code, write_checks, write_code}
use Rattle.valve.specs.State.{act_checks, frame_checks, carry_code}

-- The code of a reading is that of the first row that is due, and 0 exactly when none is.
pub read_order : (s : List ℕ) → Order (read_checks s) (read_code s)
unfolding read_code
read_order s = order (read_checks s) refl

-- The same of a writing,
pub write_order : (f : Frame) (room : List ℕ) → Order (write_checks f room) (write_code f room)
unfolding write_code
write_order f room = order (write_checks f room) refl

-- and of a frame that is carried out, on any valve.
rows_apart : (v : Valve) (s : List ℕ) (act : Act) → apart (read_checks s ++ act_checks v act) ≡ true
rows_apart v s Act.Arm = refl
rows_apart v s (Act.Fire code) = refl

pub carry_order : (v : Valve) (s : List ℕ) → Order (frame_checks v s) (carry_code v s)
unfolding carry_code
carry_order v s = order (frame_checks v s) (rows_apart v s (frame_at s).act)
