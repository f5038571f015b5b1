-- Steps of the code. No public promise needs them.
use Rattle.std.specs.Prelude.{ℕ, ◌+◌, ◌≤◌, ◌≡◌, List, [], ◌∷◌, Bool, true, ◌&&◌, length, take, leb, ltb}
use Rattle.index.specs.Index.{starts_from}

-- `climbs`: offsets that rise from a number on, each below an end.
unfoldable pub climbing : ℕ → ℕ → List ℕ → Bool
climbing least end [] = true
climbing least end (o ∷ os) = leb least o && (ltb o end && climbing (o + 1) end os)

-- `gather`: the walk's starts at the front of its buffer.
pub record Gathered (s : List ℕ) (from : ℕ) (buffer : List ℕ) (n : ℕ) : Type 0 where
  pub few : n ≤ 512
  pub count : n ≡ length (starts_from s from)
  pub front : take n buffer ≡ starts_from s from
