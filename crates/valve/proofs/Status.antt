-- The bits of the status word say the state, both ways: bit 14 means armed, bits 14 and 15 fired, and no other bit is ever set.
use Rattle.std.proofs.Common.{◌≡◌, ℕ, ◌/◌, ◌%◌, ◌^◌, Bool, true, false, cond, eqb, ◌↔◌, sym, refl, ap, ◌∙◌, ap₂}
use Rattle.words.proofs.Laws.{one_to_one}
use Rattle.valve.specs.declared.state.Valve.{Valve}
use Rattle.valve.specs.State.{status_of}

-- Bit k of a word.
abbrev pub bit_of : ℕ → ℕ → Bool
bit_of word k = eqb (word / 2 ^ k % 2) 1

-- The state that bits 14 and 15 say: fired by the latter, else armed by the former.
abbrev pub state_by : Bool → Bool → Valve
state_by armed fired = cond fired Valve.Fired (cond armed Valve.Armed Valve.Safe)

abbrev pub state_of : ℕ → Valve
state_of word = state_by (bit_of word 14) (bit_of word 15)

pub state_back : (v : Valve) → state_of (status_of v) ≡ v
state_back Valve.Safe = refl
state_back Valve.Armed = refl
state_back Valve.Fired = refl

-- A valve is in a state exactly when these two bits of its status word are those of that state: neither set of a safe valve, bit 14 alone of an armed one, both of
-- a fired one.
pub bits_say : (v x : Valve)
    → (v ≡ x) ↔ ((bit_of (status_of v) 14 ≡ bit_of (status_of x) 14) × (bit_of (status_of v) 15 ≡ bit_of (status_of x) 15))
bits_say v x = (
  λ is. (ap (λ w. bit_of (status_of w) 14) is, ap (λ w. bit_of (status_of w) 15) is),
  λ bits. sym (state_back v) ∙ ap₂ state_by bits.0 bits.1 ∙ state_back x,
)

pub bits :
    (bit_of (status_of Valve.Safe) 14 ≡ false)
    × (bit_of (status_of Valve.Safe) 15 ≡ false)
    × (bit_of (status_of Valve.Armed) 14 ≡ true)
    × (bit_of (status_of Valve.Armed) 15 ≡ false)
    × (bit_of (status_of Valve.Fired) 14 ≡ true)
    × (bit_of (status_of Valve.Fired) 15 ≡ true)
bits = (refl, refl, refl, refl, refl, refl)

-- No two states have one status word.
pub one_status : (x y : Valve) → status_of x ≡ status_of y → x ≡ y
one_status = one_to_one status_of state_of state_back

-- The fourteen bits below them are never set.
pub other_bits : (v : Valve) → status_of v % 16384 ≡ 0
other_bits Valve.Safe = refl
other_bits Valve.Armed = refl
other_bits Valve.Fired = refl
