-- Lent rooms, which are filled before a call.
use Rattle.std.specs.Prelude.{ℕ, suc, ◌+◌, Bool, List, [], ◌∷◌, cond, drop, eqb}

-- How many places at the front have the filling, by what tells two values apart.
unfoldable pub filled : {A : Type 0} → (A → A → Bool) → A → List A → ℕ
filled same fill [] = 0
filled same fill (b ∷ bs) = cond (same b fill) (suc (filled same fill bs)) 0

-- The first place from this one on that has something else; behind the room where none has.
abbrev pub first_other : {A : Type 0} → (A → A → Bool) → A → List A → ℕ → ℕ
first_other same fill room from = from + filled same fill (drop from room)

-- The same of a room of numbers.
abbrev pub first_changed : ℕ → List ℕ → ℕ → ℕ
first_changed fill room from = first_other eqb fill room from

-- What a room of bytes, 0xaa, and a room of offsets, 0xaaaa, is filled with.
abbrev pub byte_fill : ℕ
byte_fill = 170

abbrev pub offset_fill : ℕ
offset_fill = 43690
