-- The pieces of a list, one at a time.
use Prim.Native.Nat.{ℕ, zero, suc, ◌≤◌, ◌<◌}
use mathlib.Core.Path.{◌≡◌, refl, sym, ap, ◌∙◌}
use mathlib.Core.List.{List, [], ◌∷◌}
use mathlib.Core.Bool.{Bool, true, false}
use native.Mathlib.Omega.{arith}
use lib.ListN.{length, take, drop, get_or, length-drop}
use Rattle.wire.specs.Read.{span_of}
use Rattle.rescue.specs.Pieces.{passing, kept, skipped, pieces_in, pieces_of}
use Rattle.rescue.proofs.Passing.{passing_eight}

-- One piece where bytes are left.
more_kept : (n b : ℕ) (bs : List ℕ) → passing (b ∷ bs) ≡ true
    → pieces_in (suc n) (b ∷ bs) ≡ kept (take (span_of (b ∷ bs)) (b ∷ bs)) ∷ pieces_in n (drop (span_of (b ∷ bs)) (b ∷ bs))
unfolding pieces_in
more_kept n b bs is = rw (pieces_in, is)

more_skipped : (n b : ℕ) (bs : List ℕ) → passing (b ∷ bs) ≡ false → pieces_in (suc n) (b ∷ bs) ≡ skipped b ∷ pieces_in n bs
unfolding pieces_in
more_skipped n b bs is = rw (pieces_in, is)

-- What is behind a command that passes has fewer bytes.
fewer : (s : List ℕ) → passing s ≡ true → length (drop (span_of s) s) < length s
fewer s is = omega (arith, length-drop (span_of s) s, passing_eight s is)

-- More pieces than the list has bytes change nothing.
enough : (m n : ℕ) (s : List ℕ) → length s ≤ m → length s ≤ n → pieces_in m s ≡ pieces_in n s
unfolding pieces_in
enough zero zero s hm hn = refl
enough zero (suc n) [] hm hn = refl
enough zero (suc n) (b ∷ bs) hm hn = absurd (omega arith)
enough (suc m) zero [] hm hn = refl
enough (suc m) zero (b ∷ bs) hm hn = absurd (omega arith)
enough (suc m) (suc n) [] hm hn = refl
enough (suc m) (suc n) (b ∷ bs) hm hn = go (passing (b ∷ bs)) refl (λ t h k. enough m n t h k)
  where
    go : (p : Bool) → passing (b ∷ bs) ≡ p → ((t : List ℕ) → length t ≤ m → length t ≤ n → pieces_in m t ≡ pieces_in n t)
        → pieces_in (suc m) (b ∷ bs) ≡ pieces_in (suc n) (b ∷ bs)
    go true is rest =
        let s = b ∷ bs in
        let less = fewer s is in
        more_kept m b bs is ∙ ap (λ l. kept (take (span_of s) s) ∷ l) (rest (drop (span_of s) s) (omega arith) (omega arith)) ∙ sym (more_kept n b bs is)
    go false is rest = more_skipped m b bs is ∙ ap (λ l. skipped b ∷ l) (rest bs (omega arith) (omega arith)) ∙ sym (more_skipped n b bs is)

pub pieces_none : pieces_of [] ≡ []
unfolding pieces_of
pieces_none = refl

pub pieces_kept : (s : List ℕ) → passing s ≡ true → pieces_of s ≡ kept (take (span_of s) s) ∷ pieces_of (drop (span_of s) s)
unfolding pieces_of
pieces_kept [] is = absurd (omega (arith, passing_eight [] is))
pieces_kept (b ∷ bs) is =
    let s = b ∷ bs in
    let less = fewer s is in
    more_kept (length bs) b bs is
    ∙ ap (λ l. kept (take (span_of s) s) ∷ l) (enough (length bs) (length (drop (span_of s) s)) (drop (span_of s) s) (omega arith) (omega arith))

pub pieces_skipped : (b : ℕ) (bs : List ℕ) → passing (b ∷ bs) ≡ false → pieces_of (b ∷ bs) ≡ skipped b ∷ pieces_of bs
unfolding pieces_of
pieces_skipped b bs is = more_skipped (length bs) b bs is

-- The same of any bytes of which there are some.
pub pieces_skip : (s : List ℕ) → passing s ≡ false → 0 < length s → pieces_of s ≡ skipped (get_or s 0 0) ∷ pieces_of (drop 1 s)
pieces_skip [] is more = absurd (omega arith)
pieces_skip (b ∷ bs) is more = pieces_skipped b bs is

-- Every list comes to its end by keeping and skipping: proofs about its pieces go by these three cases.
module _ (P : List ℕ → Type 0) (none : P []) (kept_one : (s : List ℕ) → passing s ≡ true → P (drop (span_of s) s) → P s)
    (skipped_one : (b : ℕ) (bs : List ℕ) → passing (b ∷ bs) ≡ false → P bs → P (b ∷ bs)) where
  by_pieces_in : (n : ℕ) (s : List ℕ) → length s ≤ n → P s
  by_pieces_in zero [] h = none
  by_pieces_in zero (b ∷ bs) h = absurd (omega arith)
  by_pieces_in (suc n) [] h = none
  by_pieces_in (suc n) (b ∷ bs) h = go (passing (b ∷ bs)) refl (λ t k. by_pieces_in n t k)
    where
      go : (p : Bool) → passing (b ∷ bs) ≡ p → ((t : List ℕ) → length t ≤ n → P t) → P (b ∷ bs)
      go true is rest =
          let s = b ∷ bs in
          kept_one s is (rest (drop (span_of s) s) (omega (arith, fewer s is)))
      go false is rest = skipped_one b bs is (rest bs (omega arith))

  pub by_pieces : (s : List ℕ) → P s
  by_pieces s = by_pieces_in (length s) s (omega arith)
