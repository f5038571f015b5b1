-- Where a program stands in its script.
use Rattle.std.specs.Prelude.{ℕ, List, Bool, true, ◌&&◌, length, ltb}
use Rattle.script.specs.declared.place.Place.{Place}

abbrev pub start_place : Place
start_place = record { at = 0; used = 0; good = true }

-- Every item was good so far, and there is another one.
abbrev pub goes_on : Place → List ℕ → Bool
goes_on p s = p.good && ltb p.at (length s)

abbrev pub place_after : Place → ℕ → ℕ → Place
place_after p at used = record { at = at; used = used; good = p.good }
