-- 01, "For a sender and number the bytes are shown as part of that sender's list": what is shown, said by the rests of that list.
use Prim.Native.Nat.{ℕ, ◌+◌, ◌-◌, ◌≤◌, ◌<◌}
use mathlib.Core.Path.{◌≡◌, refl, ap, ◌∙◌}
use mathlib.Core.List.{List, []}
use mathlib.Core.Bool.{Bool, true, false, cond, ◌||◌}
use mathlib.Core.Logic.{◌⊎◌, inl, inr, ⊎_elim}
use native.Mathlib.Omega.{arith}
use lib.ListN.{length, get_or, take, drop, length-drop, get_or-eq_default}
use lib.Seq.{take-nil, take-length, length-take-le}
use lib.Dec.{ltb, eqb}
use borrow.Author.Tests.{le-ltb, lt-ltb, ne_eqb, eqb-true, eqb-false}
use Rattle.wire.specs.Read.{reach_code, read_of, span_of}
use Rattle.wire.proofs.Local.{read_own}
use Rattle.walk.specs.Walk.{start_after, rests}
use Rattle.walk.specs.Shown.{too_long, start_of, command_of, list_of, shown_of, offset_of}
use Rattle.walk.proofs.Spans.{span_passed, span_ended, span_within, span_some}
use Rattle.walk.proofs.Rests.{rest_at, rest_there}
use Rattle.walk.proofs.Turns.{nothing_at}

-- The command that some bytes begin with.
abbrev pub first : List ℕ → List ℕ
first s = take (span_of s) s

-- Command number k + 1 of a list begins behind the first k, and is the one that rest k begins with.
start_of_lem : (s : List ℕ) (k : ℕ) → start_of s (k + 1) ≡ start_after s k
start_of_lem s k = rw (ne_eqb (k + 1) 0 (λ z. omega arith)) (ap (start_after s) back)
  where
    back : k + 1 - 1 ≡ k
    back = omega arith

command_of_lem : (s : List ℕ) (k : ℕ) → command_of s (k + 1) ≡ first (get_or (rests s) k [])
command_of_lem s k = rw (start_of_lem s k, rest_at s k)

-- A test that holds, or a list with nothing to show, leaves nothing.
by_test : (a b : Bool) (s : List ℕ) → (a ≡ true) ⊎ (b ≡ true) → cond (a || b) [] s ≡ []
by_test true b s long = refl
by_test false true s long = refl
by_test false false s long = absurd (⊎_elim apart apart long)
  where
    apart : false ≡ true → ⊥
    apart e = let z : ◌≡◌ {A = ℕ} 0 1 = cc in omega arith

by_list : (long : Bool) (s : List ℕ) → s ≡ [] → cond long [] s ≡ []
by_list true s none = refl
by_list false s none = none

module _ (kit pupil : List ℕ) where
  -- Where either list is too long, nothing is shown.
  pub shows_no_list : (sender number : ℕ) → (4096 < length kit) ⊎ (4096 < length pupil) → shown_of kit pupil sender number ≡ []
  unfolding shown_of
  shows_no_list sender number long =
      by_test (ltb 4096 (length kit)) (ltb 4096 (length pupil)) (command_of (list_of kit pupil sender) number)
      (⊎_elim (λ h. inl (lt-ltb 4096 (length kit) h)) (λ h. inr (lt-ltb 4096 (length pupil) h)) long)

  -- A sender other than 1 or 2 has no list.
  pub shows_no_sender : (sender number : ℕ) → (sender ≡ 1 → ⊥) → (sender ≡ 2 → ⊥) → shown_of kit pupil sender number ≡ []
  unfolding shown_of
  shows_no_sender sender number not_1 not_2 =
      rw (ne_eqb sender 1 not_1, ne_eqb sender 2 not_2) (by_list (too_long kit pupil) (command_of [] number) (nothing_at [] (start_of [] number) (omega arith)))

  -- No command has the number 0.
  pub shows_no_number : (sender : ℕ) → shown_of kit pupil sender 0 ≡ []
  unfolding shown_of
  shows_no_number sender =
      let s = list_of kit pupil sender in by_list (too_long kit pupil) (command_of s 0) (nothing_at s (length s) (omega arith))

  -- Nor has any a number past the last.
  pub shows_no_record : (sender k : ℕ) → length (rests (list_of kit pupil sender)) ≤ k → shown_of kit pupil sender (k + 1) ≡ []
  unfolding shown_of
  shows_no_record sender k past =
      let s = list_of kit pupil sender in
      by_list (too_long kit pupil) (command_of s (k + 1)) (command_of_lem s k ∙ ap first (get_or-eq_default (rests s) [] past) ∙ take-nil (span_of []))

  -- Otherwise number k + 1 shows the command that rest k of its sender's list begins with.
  module _ (kit_short : length kit ≤ 4096) (pupil_short : length pupil ≤ 4096) where
    pub shows : (sender k : ℕ) → shown_of kit pupil sender (k + 1) ≡ first (get_or (rests (list_of kit pupil sender)) k [])
    unfolding shown_of
    shows sender k = rw (le-ltb 4096 (length kit) kit_short, le-ltb 4096 (length pupil) pupil_short) (command_of_lem (list_of kit pupil sender) k)

    pub shows_kit : (k : ℕ) → shown_of kit pupil 1 (k + 1) ≡ first (get_or (rests kit) k [])
    shows_kit k = shows 1 k

    pub shows_pupil : (k : ℕ) → shown_of kit pupil 2 (k + 1) ≡ first (get_or (rests pupil) k [])
    shows_pupil k = shows 2 k

    -- Every record shows something.
    pub shows_some : (sender k : ℕ) → k < length (rests (list_of kit pupil sender)) → 0 < length (shown_of kit pupil sender (k + 1))
    shows_some sender k there =
        let s = list_of kit pupil sender in
        let rest = drop (start_after s k) s in
        let left : 0 < length rest = omega (arith, length-drop (start_after s k) s, (rest_there s k).0 there) in
        rw (shows sender k, rest_at s k) (omega (arith, length-take-le (span_of rest) rest (span_within rest), span_some rest left))

    -- It is shown where the command begins in its list.
    pub shows_at : (sender k : ℕ) → k < length (rests (list_of kit pupil sender)) → offset_of kit pupil sender (k + 1) ≡ start_after (list_of kit pupil sender) k
    unfolding offset_of
    shows_at sender k there =
        let some = shows_some sender k there in
        rw (ne_eqb (length (shown_of kit pupil sender (k + 1))) 0 (λ z. omega arith)) (start_of_lem (list_of kit pupil sender) k)

-- Reading is local: what codes 1 to 10 say of a command depends on its own bytes alone, and not on what follows them.
pub own_read : (s : List ℕ) → read_of (first s) ≡ read_of s
own_read s = go (eqb (reach_code s) 0) refl
  where
    go : (b : Bool) → eqb (reach_code s) 0 ≡ b → read_of (first s) ≡ read_of s
    go true is =
        let passed = eqb-true (reach_code s) 0 is in ap (λ n. read_of (take n s)) (span_passed s passed) ∙ read_own s passed
    go false is = ap read_of (ap (λ n. take n s) (span_ended s (eqb-false (reach_code s) 0 is)) ∙ take-length s)

-- So the bytes shown for a record are read as its command was read in the list.
pub shown_read : (kit pupil : List ℕ) → length kit ≤ 4096 → length pupil ≤ 4096 → (sender k : ℕ)
    → read_of (shown_of kit pupil sender (k + 1)) ≡ read_of (get_or (rests (list_of kit pupil sender)) k [])
shown_read kit pupil kit_short pupil_short sender k =
    ap read_of (shows kit pupil kit_short pupil_short sender k) ∙ own_read (get_or (rests (list_of kit pupil sender)) k [])
