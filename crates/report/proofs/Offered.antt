-- A record offered to a room, its four bytes and then those of its number and of its value: what the writer answers and what it leaves.
use Prim.Native.Nat.{ℕ}
use mathlib.Core.Path.{◌≡◌, ap, ap₂, ◌∙◌}
use mathlib.Core.List.{List, [], ◌∷◌}
use mathlib.Core.Bool.{Bool, cond}
use lib.ListN.{get_or}
use Rattle.words.specs.BigEndian.{word_bytes, has_room, written}
use Rattle.report.specs.Record.{record_bytes, put_code}

-- The twelve bytes, from those of the number and of the value.
abbrev pub twelve : ℕ → ℕ → ℕ → List ℕ → List ℕ → List ℕ
twelve sender code par n v =
    sender ∷ code ∷ par ∷ 0
    ∷ get_or n 0 0 ∷ get_or n 1 0 ∷ get_or n 2 0 ∷ get_or n 3 0
    ∷ get_or v 0 0 ∷ get_or v 1 0 ∷ get_or v 2 0 ∷ get_or v 3 0
    ∷ []

pub offered : (sender code par number value : ℕ) (n v room left : List ℕ) (fitted : Bool) → n ≡ word_bytes number → v ≡ word_bytes value
    → fitted ≡ has_room (twelve sender code par n v) room → left ≡ written (twelve sender code par n v) room
    → (cond fitted 0 24 ≡ put_code (record_bytes sender code par number value) room)
    × (left ≡ written (record_bytes sender code par number value) room)
offered sender code par number value n v room left fitted numbered valued answer put =
    let same : twelve sender code par n v ≡ record_bytes sender code par number value = ap₂ (twelve sender code par) numbered valued in
    (ap (λ fits. cond fits 0 24) (answer ∙ ap (λ bytes. has_room bytes room) same), put ∙ ap (λ bytes. written bytes room) same)
