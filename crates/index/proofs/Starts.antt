-- Where the commands of a list begin, one at a time: at the list's end none does, before it one does and the others behind it. Then a walk that
-- gathers them in a buffer.
use Prim.Native.Nat.{ℕ, suc, ◌+◌, ◌*◌, ◌-◌, ◌≤◌, ◌<◌}
use mathlib.Core.Path.{◌≡◌, refl, sym, ap, ◌∙◌}
use mathlib.Core.List.{List, [], ◌∷◌, ◌++◌, map, append_assoc, append-nil}
use native.Mathlib.Omega.{arith}
use native.Mathlib.Numerals.{add-one}
use lib.ListN.{length, get_or, take, drop, set, length-drop, length-set, length-map, drop_of_length-le}
use lib.Seq.{drop-drop, take-suc-set, sets, sets-eq}
use borrow.Rule.Slice.PartMut.{put_mid}
use Rattle.wire.specs.Read.{span_of}
use Rattle.walk.specs.Walk.{start_after, rests}
use Rattle.walk.proofs.Rests.{rests_none, rests_more, rests_few, rest_at}
use Rattle.index.specs.Index.{starts_from}
use Rattle.index.specs.Steps.{Gathered}

module _ (s : List ℕ) (at : ℕ) where
  pub starts_none : length s ≤ at → starts_from s at ≡ []
  unfolding starts_from
  starts_none end = rw (drop_of_length-le s {i = at} end, rests_none)

  pub starts_more : at < length s → starts_from s at ≡ at ∷ starts_from s (at + span_of (drop at s))
  unfolding starts_from
  starts_more more =
      let left = length-drop at s in
      let first : length s - length (drop at s) ≡ at = omega arith in
      rw (rests_more (drop at s) (omega arith), first, drop-drop)

  -- As many begin as the walk finds, at most one for each eight bytes that are left.
  pub length_starts : length (starts_from s at) ≡ length (rests (drop at s))
  unfolding starts_from
  length_starts = length-map (rests (drop at s)) (λ r. length s - length r)

  pub starts_few : 8 * length (starts_from s at) ≤ length s - at + 7
  starts_few = omega (arith, length_starts, rests_few (drop at s), length-drop at s)

-- The places of these rests, each as far before the list's end as it has bytes.
abbrev pub places_of : List ℕ → List (List ℕ) → List ℕ
places_of s rs = map (λ r. length s - length r) rs

-- Gathering: the starts in the buffer so far and those that are left are all of them.
pub record Gathering (s : List ℕ) (from : ℕ) (buffer₀ buffer : List ℕ) (left : List (List ℕ)) (n : ℕ) : Type 0 where
  pub short : length s ≤ 4096
  pub long : 512 ≤ length buffer₀
  pub same : length buffer ≡ length buffer₀
  pub within : (k : ℕ) → length (get_or left k []) ≤ length s
  pub all : n + length left ≡ length (starts_from s from)
  pub front : take n buffer ++ places_of s left ≡ starts_from s from

pub none_gathered : (s : List ℕ) (from : ℕ) (buffer : List ℕ) (left : List (List ℕ)) → length s ≤ 4096 → 512 ≤ length buffer
    → left ≡ rests (drop from s) → Gathering s from buffer buffer left 0
unfolding starts_from
none_gathered s from buffer left short long is =
    record {
      short = short;
      long = long;
      same = refl;
      within = λ k.
          omega (arith, ap (λ l. length (get_or l k [])) is, ap length (rest_at (drop from s) k), length-drop (start_after (drop from s) k) (drop from s), length-drop from s);
      all = omega (arith, ap length is, length_starts s from);
      front = ap (places_of s) is;
    }

module _ (s : List ℕ) (from : ℕ) (buffer₀ buffer : List ℕ) (left : List (List ℕ)) (n : ℕ) (g : Gathering s from buffer₀ buffer left n) where
  -- The buffer has a place for one more.
  module _ (r : List ℕ) (rs : List (List ℕ)) (more : left ≡ r ∷ rs) where
    pub place_left : n < length buffer
    place_left = omega (arith, ap length more, g.all, g.same, g.long, g.short, starts_few s from)

    pub before_end : length r ≤ length s
    before_end = omega (arith, ap (λ l. length (get_or l 0 [])) more, g.within 0)

    -- One turn, and one start fewer is left.
    pub gathers : Gathering s from buffer₀ (set buffer n (length s - length r)) rs (n + 1)
    gathers =
        record {
          short = g.short;
          long = g.long;
          same = length-set buffer n (length s - length r) ∙ g.same;
          within = λ k. omega (arith, ap (λ l. length (get_or l (suc k) [])) more, g.within (suc k));
          all = omega (arith, ap length more, g.all);
          front = rw (add-one, take-suc-set buffer n (length s - length r) place_left, append_assoc)
              (ap (λ l. take n buffer ++ places_of s l) (sym more) ∙ g.front);
        }

  pub all_gathered : left ≡ [] → Gathered s from buffer n
  all_gathered none =
      record {
        few = omega (arith, ap length none, g.all, starts_few s from, g.short);
        count = omega (arith, ap length none, g.all);
        front = sym (append-nil (take n buffer)) ∙ ap (λ l. take n buffer ++ places_of s l) (sym none) ∙ g.front;
      }

-- A part of a room written over, of so many places from one on.
pub part_set : (at k : ℕ) (room part bytes : List ℕ) → part ≡ bytes → k ≡ length bytes → at + length bytes ≤ length room
    → put_mid at k room part ≡ sets room at bytes
part_set at k room part bytes is size fits =
    (λ i. take at room ++ (is i ++ (drop-drop k at room ∙ ap (λ m. drop (at + m) room) size) i)) ∙ sym (append_assoc (take at room) bytes _) ∙ sym (sets-eq bytes room at fits)
