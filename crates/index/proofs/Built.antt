-- 02, Q-14, what an index built anew holds: exactly the starts that the walk finds, at most 512. It fits its list, and every list that goes on from it.
use Prim.Native.Nat.{ℕ, zero, suc, ◌+◌, ◌-◌, ◌≤◌, ◌<◌}
use mathlib.Core.Path.{◌≡◌, refl, sym, ap, ◌∙◌}
use mathlib.Core.List.{List, [], ◌∷◌, map}
use mathlib.Core.Bool.{Bool, true, false, not}
use native.Mathlib.Omega.{arith}
use lib.ListN.{length, get_or, drop, length-drop}
use lib.Dec.{ltb}
use borrow.Author.Tests.{ltb-true, ltb-false, le-ltb, lt-ltb, le-leb}
use Rattle.wire.specs.Read.{span_of}
use Rattle.walk.specs.Walk.{start_after, rests}
use Rattle.walk.proofs.Spans.{span_some}
use Rattle.walk.proofs.Rests.{rest_at, start_within, rests_512}
use Rattle.index.specs.Index.{starts_from, index_of, built}
use Rattle.index.specs.Answers.{from_zero, rising, within, unfit}
use Rattle.index.specs.Steps.{climbing}
use Rattle.index.proofs.Starts.{starts_none, starts_more, length_starts}
use Rattle.index.proofs.Offsets.{climbing_all, either}

-- "how many records .. and the offset where each one's bytes begin": one offset to a command, each the place where the walk finds it.
pub record Holds (s offsets : List ℕ) : Type 0 where
  pub count : length offsets ≡ length (rests s)
  pub starts : (k : ℕ) → k < length (rests s) → get_or offsets k 0 ≡ start_after s k

place_at : (n : ℕ) (rs : List (List ℕ)) (k : ℕ) → k < length rs → get_or (map (λ r. n - length r) rs) k 0 ≡ n - length (get_or rs k [])
place_at n [] k there = absurd (omega arith)
place_at n (r ∷ rs) zero there = refl
place_at n (r ∷ rs) (suc k) there = place_at n rs k (omega arith)

pub built_starts : (s : List ℕ) → built s ≡ starts_from s 0
unfolding index_of
built_starts s = refl

pub built_holds : (s : List ℕ) → Holds s (built s)
unfolding index_of starts_from
built_holds s =
    record {
      count = length_starts s 0;
      starts = λ k there.
          let start = start_after s k in
          let size : length (get_or (rests s) k []) ≡ length s - start = ap length (rest_at s k) ∙ length-drop start s in
          place_at (length s) (rests s) k there ∙ omega (arith, start_within s k);
    }

-- No other offsets do.
same_places : (xs ys : List ℕ) → length xs ≡ length ys → ((k : ℕ) → k < length ys → get_or xs k 0 ≡ get_or ys k 0) → xs ≡ ys
same_places [] [] long each = refl
same_places [] (y ∷ ys) long each = absurd (omega arith)
same_places (x ∷ xs) [] long each = absurd (omega arith)
same_places (x ∷ xs) (y ∷ ys) long each =
    let rest = same_places xs ys (omega arith) (λ k there. each (suc k) (omega arith)) in
    rw (each 0 (omega arith), rest)

pub holds_built : (s offsets : List ℕ) → Holds s offsets → offsets ≡ built s
holds_built s offsets h =
    let own = built_holds s in
    same_places offsets (built s) (h.count ∙ sym own.count)
    (λ k there. h.starts k (omega (arith, own.count)) ∙ sym (own.starts k (omega (arith, own.count))))

-- "at most 512"
pub built_few : (s : List ℕ) → length s ≤ 4096 → length (built s) ≤ 512
built_few s short = omega (arith, (built_holds s).count, rests_512 s short)

-- The starts from a place on climb, below every end that is not before the list's.
climb_from : (n : ℕ) (s : List ℕ) (end least at : ℕ) → length s ≤ n + at → length s ≤ end → least ≤ at → climbing least end (starts_from s at) ≡ true
unfolding climbing
climb_from zero s end least at enough inside low = rw (starts_none s at (omega arith))
climb_from (suc n) s end least at enough inside low =
    go (ltb at (length s)) refl (λ left above. climb_from n s end (at + 1) (at + span_of (drop at s)) left inside above)
  where
    go : (b : Bool) → ltb at (length s) ≡ b
        → (length s ≤ n + (at + span_of (drop at s)) → at + 1 ≤ at + span_of (drop at s)
        → climbing (at + 1) end (starts_from s (at + span_of (drop at s))) ≡ true)
        → climbing least end (starts_from s at) ≡ true
    go false is rest = rw (starts_none s at (ltb-false at (length s) is))
    go true is rest =
        let more = ltb-true at (length s) is in
        let moves = span_some (drop at s) (omega (arith, length-drop at s)) in
        rw (starts_more s at more, le-leb least at low, lt-ltb at end (omega arith)) (rest (omega arith) (omega arith))

first_start : (s : List ℕ) → from_zero (starts_from s 0) ≡ true
first_start s = go (ltb 0 (length s)) refl
  where
    go : (b : Bool) → ltb 0 (length s) ≡ b → from_zero (starts_from s 0) ≡ true
    go true is = rw (starts_more s 0 (ltb-true 0 (length s) is))
    go false is = rw (starts_none s 0 (omega (arith, ltb-false 0 (length s) is)))

pub built_fits : (s : List ℕ) (end : ℕ) → length s ≤ 4096 → length s ≤ end → unfit end (built s) ≡ false
built_fits s end short inside =
    let starts = starts_from s 0 in
    let climb = climb_from (length s) s end 0 0 (omega arith) inside (omega arith) in
    rw (le-ltb 512 (length (built s)) (built_few s short), built_starts s, first_start s)
    (sym (either (rising starts) (within end starts)) ∙ ap not (sym (climbing_all end starts) ∙ climb))
