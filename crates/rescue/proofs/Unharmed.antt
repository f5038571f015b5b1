-- "a list that passes 1 to 8 throughout loses nothing", and only such a list does; what is kept is one, so that rescuing it again changes nothing.
use Prim.Native.Nat.{ℕ, ◌+◌, ◌≤◌, ◌<◌}
use mathlib.Core.Path.{◌≡◌, refl, sym, ap, subst, ◌∙◌}
use mathlib.Core.Logic.{◌↔◌}
use mathlib.Core.List.{List, [], ◌∷◌, ◌++◌}
use mathlib.Core.Bool.{true, false, false≢true}
use native.Mathlib.Omega.{arith}
use lib.ListN.{length, take, drop, length-append, take-append-drop}
use lib.Seq.{drop-append_seam}
use Rattle.wire.specs.Read.{span_of}
use Rattle.wire.proofs.Answers.{Reaches, reaches}
use Rattle.wire.proofs.Local.{spans_on}
use Rattle.walk.specs.Walk.{rests}
use Rattle.walk.proofs.Rests.{rests_none, rests_more}
use Rattle.rescue.specs.Pieces.{passing, pieces_of, kept_in, kept_of, stretches_in, stretches_of, table_of}
use Rattle.rescue.specs.Answers.{rescue_code, answer, rescued_as, room_after, table_after}
use Rattle.rescue.specs.Whole.{all_pass, without}
use Rattle.rescue.proofs.Passing.{passing_reaches, passing_eight, passing_on, Whole, alone}
use Rattle.rescue.proofs.Pieces.{pieces_none, pieces_kept, pieces_skipped, by_pieces}
use Rattle.rescue.proofs.Together.{together}
use Rattle.rescue.proofs.Calls.{taken}

-- A command that passes, in front of anything: a walk finds it there, and what is behind it.
module _ (bs t : List ℕ) (w : Whole bs) where
  abbrev r : Reaches bs
  r = reaches bs (passing_reaches bs w.passes)

  on_rests : rests (bs ++ t) ≡ (bs ++ t) ∷ rests t
  on_rests =
      rests_more (bs ++ t) (omega (arith, length-append bs t, passing_eight bs w.passes))
      ∙ ap (λ n. (bs ++ t) ∷ rests (drop n (bs ++ t))) (spans_on bs t r ∙ w.own)
      ∙ rw (drop-append_seam bs t)

  on_all_pass : all_pass (rests t) ≡ true → all_pass (rests (bs ++ t)) ≡ true
  on_all_pass all = rw (on_rests, passing_on bs t w.passes) all

-- What is kept passes throughout: walked as a list, none of its commands has a code of 1 to 8.
pub rescued_passes : (s : List ℕ) → all_pass (rests (kept_of s)) ≡ true
unfolding kept_in
rescued_passes = by_pieces (λ s. all_pass (rests (kept_of s)) ≡ true) (rw (pieces_none, rests_none)) kept_one skipped_one
  where
    kept_one : (s : List ℕ) → passing s ≡ true → all_pass (rests (kept_of (drop (span_of s) s))) ≡ true → all_pass (rests (kept_of s)) ≡ true
    kept_one s is rest = rw (pieces_kept s is) (on_all_pass (take (span_of s) s) (kept_of (drop (span_of s) s)) (alone s is) rest)

    skipped_one : (b : ℕ) (bs : List ℕ) → passing (b ∷ bs) ≡ false → all_pass (rests (kept_of bs)) ≡ true → all_pass (rests (kept_of (b ∷ bs))) ≡ true
    skipped_one b bs is rest = rw (pieces_skipped b bs is) rest

-- A list that passes throughout is kept whole, and nothing of it is skipped.
abbrev Unharmed : List ℕ → Type 0
Unharmed s = (kept_of s ≡ s) × ((at : ℕ) → stretches_in at 0 (pieces_of s) ≡ [])

unharmed_from : (s : List ℕ) → all_pass (rests s) ≡ true → Unharmed s
unfolding kept_in stretches_in
unharmed_from = by_pieces (λ s. all_pass (rests s) ≡ true → Unharmed s) (λ all. rw pieces_none (refl, λ at. refl)) kept_one skipped_one
  where
    kept_one : (s : List ℕ) → passing s ≡ true → (all_pass (rests (drop (span_of s) s)) ≡ true → Unharmed (drop (span_of s) s))
        → all_pass (rests s) ≡ true → Unharmed s
    kept_one s is rest all =
        let more : 0 < length s = omega (arith, passing_eight s is) in
        let others = rest (rw (rests_more s more, is) at all) in
        rw (pieces_kept s is) (
          ap (λ l. take (span_of s) s ++ l) others.0 ∙ take-append-drop (span_of s) s,
          λ at. others.1 (at + length (take (span_of s) s)),
        )

    skipped_one : (b : ℕ) (bs : List ℕ) → passing (b ∷ bs) ≡ false → (all_pass (rests bs) ≡ true → Unharmed bs)
        → all_pass (rests (b ∷ bs)) ≡ true → Unharmed (b ∷ bs)
    skipped_one b bs is rest all = absurd (false≢true (rw (rests_more (b ∷ bs) (omega arith), is) at all))

pub unharmed : (s : List ℕ) → all_pass (rests s) ≡ true → (kept_of s ≡ s) × (stretches_of s ≡ [])
unharmed s all = ((unharmed_from s all).0, (unharmed_from s all).1 0)

-- And no other list is: where no stretch is skipped, the list passes throughout.
pub only_unharmed : (s : List ℕ) → (all_pass (rests s) ≡ true) ↔ (stretches_of s ≡ [])
unfolding without
only_unharmed s = (λ all. (unharmed s all).1, back)
  where
    back : stretches_of s ≡ [] → all_pass (rests s) ≡ true
    back none =
        let same : s ≡ kept_of s = ap (λ xs. without 0 xs s) (sym none) ∙ (together s).rest in
        subst (λ l. all_pass (rests l) ≡ true) (sym same) (rescued_passes s)

-- So rescuing what was rescued changes nothing, and skips nothing.
pub rescued_again : (s : List ℕ) → (kept_of (kept_of s) ≡ kept_of s) × (stretches_of (kept_of s) ≡ [])
rescued_again s = unharmed (kept_of s) (rescued_passes s)

-- The same of a call: a list that passes throughout comes out of it as it is, if the room is as long, and no room is asked for the table.
module _ (s room table : List ℕ) (all : all_pass (rests s) ≡ true) (short : length s ≤ 4096) (fits : length s ≤ length room) where
  code : rescue_code s room table ≡ 0
  code = (taken s room table).1 (short, (rw (unharmed s all).0 fits, rw (unharmed s all).1 (omega arith)))

  pub loses_nothing : (rescued_as s room table ≡ answer 0 (length s) 0) × ((room_after s room table ≡ s ++ drop (length s) room) × (table_after s room table ≡ table))
  unfolding rescued_as room_after table_after table_of
  loses_nothing = rw (code, (unharmed s all).0, (unharmed s all).1) (refl, (refl, refl))
