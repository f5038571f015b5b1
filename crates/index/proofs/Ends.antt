-- The ends of building an index: which answer, and what the room holds afterwards, by the tests that were passed on the way.
use Prim.Native.Nat.{ℕ, ◌+◌, ◌-◌, ◌≤◌, ◌<◌}
use mathlib.Core.Path.{◌≡◌, refl, sym, ap, ◌∙◌}
use mathlib.Core.List.{List, ◌++◌}
use mathlib.Core.Bool.{true, false}
use native.Mathlib.Omega.{arith}
use lib.ListN.{length, take, drop, length-append}
use lib.Seq.{sets, sets-eq, length-take-le}
use lib.Dec.{eqb}
use borrow.Author.Tests.{le-ltb, lt-ltb}
use Rattle.words.proofs.Laws.{sets-append}
use Rattle.std.specs.Prelude.{Result, Ok, Err}
use Rattle.index.specs.declared.Refusal.{Refusal}
use Rattle.index.specs.Index.{starts_from, last_of, index_of}
use Rattle.index.specs.Answers.{unfit, build_code, answer_of, built_as, room_after}

-- The offsets that stay, and how many an index has.
length_kept : (old : List ℕ) → length (take (length old - 1) old) ≡ length old - 1
length_kept old = length-take-le (length old - 1) old (omega arith)

pub length_index : (s old : List ℕ) → length (index_of s old) ≡ length old - 1 + length (starts_from s (last_of old))
unfolding index_of
length_index s old =
    length-append (take (length old - 1) old) (starts_from s (last_of old)) ∙ ap (λ n. n + length (starts_from s (last_of old))) (length_kept old)

-- What is promised of an answer and of the room.
abbrev pub Said : List ℕ → List ℕ → List ℕ → Result ℕ Refusal → List ℕ → Type 0
Said s old room r room' = (answer_of r ≡ built_as s old room) × (room' ≡ room_after s old room)

module _ (s old room : List ℕ) where
  refused : (code : ℕ) → eqb code 0 ≡ false → build_code s old room ≡ code
      → (record { code = code; count = 0 } ≡ built_as s old room) × (room ≡ room_after s old room)
  unfolding built_as room_after
  refused code some is = rw (is, some) (refl, refl)

  code_long : 4096 < length s → build_code s old room ≡ 20
  unfolding build_code
  code_long long = rw (lt-ltb 4096 (length s) long)

  pub too_long : 4096 < length s → Said s old room (Err Refusal.TooLong) room
  too_long long = refused 20 refl (code_long long)

  code_unfit : length s ≤ 4096 → unfit (length s) old ≡ true → build_code s old room ≡ 54
  unfolding build_code
  code_unfit short due = rw (le-ltb 4096 (length s) short, due)

  pub bad_offsets : length s ≤ 4096 → unfit (length s) old ≡ true → Said s old room (Err Refusal.BadOffsets) room
  bad_offsets short due = refused 54 refl (code_unfit short due)

-- The list and the offsets are taken, so many of these stay, and the walk from the last one found so many commands.
pub record Walked (s old : List ℕ) (kept from found : ℕ) : Type 0 where
  pub short : length s ≤ 4096
  pub fit : unfit (length s) old ≡ false
  pub stay : kept ≡ length old - 1
  pub last : from ≡ last_of old
  pub counted : found ≡ length (starts_from s from)

module _ (s old room : List ℕ) (kept from found : ℕ) (w : Walked s old kept from found) where
  all : kept + found ≡ length (index_of s old)
  all = rw (w.stay, w.counted, w.last) (sym (length_index s old))

  code_more : 512 < kept + found → build_code s old room ≡ 24
  unfolding build_code
  code_more more = rw (le-ltb 4096 (length s) w.short, w.fit, ← all, lt-ltb 512 (kept + found) more)

  pub too_many_found : 512 < kept + found → Said s old room (Err Refusal.NoRoom) room
  too_many_found more = refused s old room 24 refl (code_more more)

  module _ (few : kept + found ≤ 512) where
    code_short : length room < kept + found → build_code s old room ≡ 24
    unfolding build_code
    code_short less =
        rw (le-ltb 4096 (length s) w.short, w.fit, ← all, le-ltb 512 (kept + found) few, lt-ltb (length room) (kept + found) less)

    pub too_few_places : length room < kept + found → Said s old room (Err Refusal.NoRoom) room
    too_few_places less = refused s old room 24 refl (code_short less)

    -- Both parts stored are the index stored.
    module _ (fits : kept + found ≤ length room) where
      code_done : build_code s old room ≡ 0
      unfolding build_code
      code_done =
          rw (le-ltb 4096 (length s) w.short, w.fit, ← all, le-ltb 512 (kept + found) few, le-ltb (length room) (kept + found) fits)

      module _ (starts room₁ room₂ : List ℕ) (is_starts : starts ≡ starts_from s from) (first : room₁ ≡ sets room 0 (take kept old))
          (second : room₂ ≡ sets room₁ kept starts) where
        stored : room₂ ≡ index_of s old ++ drop (length (index_of s old)) room
        unfolding index_of
        stored =
            let head = take (length old - 1) old in
            let tail = starts_from s (last_of old) in
            let place : 0 + length head ≡ kept = omega (arith, length_kept old, w.stay) in
            let long : length (head ++ tail) ≡ kept + found = sym all in
            let front : 0 + length (head ++ tail) ≡ length (head ++ tail) = omega arith in
            second
            ∙ ap (sets room₁ kept) is_starts
            ∙ ap (λ l. sets l kept (starts_from s from)) (first ∙ ap (λ k. sets room 0 (take k old)) w.stay)
            ∙ ap (λ p. sets (sets room 0 head) kept (starts_from s p)) w.last
            ∙ ap (λ k. sets (sets room 0 head) k tail) (sym place)
            ∙ sets-append room 0 head tail
            ∙ sets-eq (head ++ tail) room 0 (omega (arith, long))
            ∙ rw front

        pub done : Said s old room (Ok (kept + found)) room₂
        unfolding built_as room_after
        done = rw (code_done, all) (refl, stored)
