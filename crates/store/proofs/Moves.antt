-- An element put in among others, what lies behind it one place up; and the same in words, as the code does it: from the top down, an entry's three
-- words at a time.
use Prim.Native.Nat.{ℕ, zero, suc, ◌+◌, ◌-◌, ◌≤◌, min}
use mathlib.Core.Path.{◌≡◌, refl, sym, ap, ◌∙◌}
use mathlib.Core.List.{List, [], ◌∷◌, ◌++◌, append_assoc}
use mathlib.Core.Bool.{Bool, true, false}
use native.Mathlib.Omega.{arith}
use lib.ListN.{length, set, take, drop, length-take, length-drop, length-append}
use lib.Seq.{length-take-le, take-nil, sets-eq, take-append-le, drop-append-le, take-append-add}
use lib.Seq.{paste, drop-append-add, take-take, drop-drop, drop_at, take_all}
use lib.Dec.{leb}
use borrow.Author.Tests.{leb-true, leb-false}
use Rattle.wire.specs.declared.kinds.Command.{Command}
use Rattle.wire.specs.declared.kinds.Parts.{Parts}
use Rattle.wire.specs.Kind.{parts_of}
use Rattle.store.specs.Words.{head_of, words_of, inserted}
use Rattle.store.specs.PoolSteps.{raised}

-- A list with an element put in at one place, and those up to another place behind it.
abbrev pub insert_at : {A : Type 0} → List A → ℕ → ℕ → A → List A
insert_at es at top x = take at es ++ (x ∷ (take (top - at) (drop at es) ++ drop (top + 1) es))

module _ {A : Type 0} where
  -- The part of a list between two places lies before a seam.
  part_before : (xs ys : List A) (start size : ℕ) → start + size ≤ length xs → take size (drop start (xs ++ ys)) ≡ take size (drop start xs)
  part_before xs ys start size h =
      ap (take size) (drop-append-le start xs ys (omega arith))
      ∙ take-append-le size (drop start xs) ys (rw length-drop (omega arith))

  -- take and drop change places.
  drop-take : (start n : ℕ) (xs : List A) → drop start (take n xs) ≡ take (n - start) (drop start xs)
  drop-take zero n xs =
      let e : n ≡ n - 0 = omega arith in
      ap (λ k. take k xs) e
  drop-take (suc start) zero xs =
      let e : 0 ≡ 0 - suc start = omega arith in
      ap (λ k. take k (drop (suc start) xs)) e
  drop-take (suc start) (suc n) [] = sym (take-nil (suc n - suc start))
  drop-take (suc start) (suc n) (x ∷ xs) =
      let e : suc n - suc start ≡ n - start = omega arith in
      drop-take start n xs ∙ ap (λ k. take k (drop start xs)) (sym e)

  part_of_take : (xs : List A) (n start size : ℕ) → start + size ≤ n → take size (drop start (take n xs)) ≡ take size (drop start xs)
  part_of_take xs n start size h =
      ap (take size) (drop-take start n xs) ∙ take-take size (n - start) (drop start xs) (omega arith)

  module _ (es : List A) (at top : ℕ) (x : A) (ordered : at ≤ top) (fits : top + 1 ≤ length es) where
    -- What lies before the place stays.
    pub insert_before : (start size : ℕ) → start + size ≤ at → take size (drop start (insert_at es at top x)) ≡ take size (drop start es)
    insert_before start size h =
        part_before (take at es) _ start size (rw (length-take-le at es (omega arith)) (omega arith)) ∙ part_of_take es at start size h

    -- What ends at the place has the new element behind.
    pub insert_end : (start size : ℕ) → start + size ≡ at
        → take (size + 1) (drop start (insert_at es at top x)) ≡ take size (drop start es) ++ (x ∷ [])
    insert_end start size h =
        let rest : List A = take (top - at) (drop at es) ++ drop (top + 1) es in
        let part : List A = take size (drop start es) in
        let left : at - start ≡ size = omega arith in
        let long : length part ≡ size = length-take-le size (drop start es) (rw length-drop (omega arith)) in
        let seam : drop start (take at es ++ (x ∷ rest)) ≡ part ++ (x ∷ rest) =
        drop-append-le start (take at es) (x ∷ rest) (rw (length-take-le at es (omega arith)) (omega arith))
        ∙ ap (λ l. l ++ (x ∷ rest)) (drop-take start at es ∙ ap (λ k. take k (drop start es)) left) in
        let more : size + 1 ≡ length part + 1 = omega arith in
        ap (take (size + 1)) seam ∙ ap (λ k. take k (part ++ (x ∷ rest))) more ∙ take-append-add part (x ∷ rest) 1

    -- What lies behind it is one place up.
    pub insert_behind : (start size : ℕ) → at ≤ start → start + size ≤ top
        → take size (drop (start + 1) (insert_at es at top x)) ≡ take size (drop start es)
    insert_behind start size h k =
        let moved : List A = take (top - at) (drop at es) in
        let rest : List A = moved ++ drop (top + 1) es in
        let low : length (take at es) ≡ at = length-take-le at es (omega arith) in
        let place : start + 1 ≡ length (take at es) + suc (start - at) = omega arith in
        let long : length moved ≡ top - at = length-take-le (top - at) (drop at es) (rw length-drop (omega arith)) in
        let back : at + (start - at) ≡ start = omega arith in
        ap (λ n. take size (drop n (take at es ++ (x ∷ rest)))) place
        ∙ ap (take size) (drop-append-add (take at es) (x ∷ rest) (suc (start - at)))
        ∙ part_before moved (drop (top + 1) es) (start - at) size (rw long (omega arith))
        ∙ part_of_take (drop at es) (top - at) (start - at) size (omega arith)
        ∙ ap (take size) (drop-drop (start - at) at es ∙ ap (λ n. drop n es) back)

-- A part that runs past the end of a list is the part up to the end.
pub part_cut : {A : Type 0} (l : List A) (n start size end : ℕ) → length l ≡ n → end ≡ min n (start + size)
    → take size (drop start l) ≡ take (end - start) (drop start l)
part_cut l n start size end long is = go (leb (start + size) n) refl
  where
    go : (b : Bool) → leb (start + size) n ≡ b → take size (drop start l) ≡ take (end - start) (drop start l)
    go true e =
        let same : size ≡ end - start = omega (arith, leb-true (start + size) n e) in
        ap (λ k. take k (drop start l)) same
    go false e =
        let over = leb-false (start + size) n e in
        take_all size (drop start l) (rw length-drop (omega (arith, over)))
        ∙ sym (take_all (end - start) (drop start l) (rw length-drop (omega (arith, over))))

-- The words are copied three places up.
pub raised_whole : (ws : List ℕ) (from to : ℕ) → from ≤ to → paste ws (from + 3) (drop from ws) (to - from) ≡ raised ws from to
unfolding raised
raised_whole ws from to h =
    let end : from + 3 + (to - from) ≡ to + 3 = omega arith in
    append_assoc (take (from + 3) ws) (take (to - from) (drop from ws)) (drop (from + 3 + (to - from)) ws)
    ∙ ap (λ n. take (from + 3) ws ++ (take (to - from) (drop from ws) ++ drop n ws)) end

pub length-raised : (ws : List ℕ) (from to : ℕ) → from ≤ to → to + 3 ≤ length ws → length (raised ws from to) ≡ length ws
unfolding raised
length-raised ws from to h fits =
    simp (length-append, length-take, length-drop) (omega arith)

-- The three words of an entry are put into the gap.
pub gap_filled : (ws l : List ℕ) (from to : ℕ) (c : Command) (parts : Parts) (head : ℕ) → from ≤ to → to + 3 ≤ length ws → l ≡ raised ws from to
    → parts ≡ parts_of c.kind → head ≡ head_of parts.form c.flag
    → set (set (set l from head) (from + 1) parts.first) (from + 2) parts.second ≡ inserted ws from to c
unfolding raised inserted
gap_filled ws l from to c parts head h fits is apart front =
    let rest : List ℕ = take (to - from) (drop from ws) ++ drop (to + 3) ws in
    let low : List ℕ = take (from + 3) ws in
    let size : length low ≡ from + 3 = length-take-le (from + 3) ws (omega arith) in
    let whole : length l ≡ length ws = ap length is ∙ length-raised ws from to h fits in
    let before : take from l ≡ take from ws =
    ap (take from) is ∙ take-append-le from low rest (omega arith) ∙ take-take from (from + 3) ws (omega arith) in
    let behind : drop (from + 3) l ≡ rest = ap (drop (from + 3)) is ∙ drop_at low rest (from + 3) size in
    let one : from + 1 ≡ suc from = omega arith in
    let two : from + 2 ≡ suc (suc from) = omega arith in
    rw (one, two, front, apart) (sets-eq (words_of c) l from (omega arith) ∙ rw (before, behind) (append_assoc (take from ws) (words_of c) rest))

pub length_inserted : (ws : List ℕ) (from to : ℕ) (c : Command) → from ≤ to → to + 3 ≤ length ws → length (inserted ws from to c) ≡ length ws
unfolding inserted
length_inserted ws from to c h fits =
    simp (length-append, length-take, length-drop) (omega arith)
