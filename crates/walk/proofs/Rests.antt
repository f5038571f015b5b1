-- The list as each of its commands finds it: the rests, how they follow one another, where they begin, and how many they are.
use Prim.Native.Nat.{ℕ, zero, suc, ◌+◌, ◌*◌, ◌≤◌, ◌<◌}
use mathlib.Core.Path.{◌≡◌, refl, sym, ap, ◌∙◌}
use mathlib.Core.List.{List, [], ◌∷◌}
use mathlib.Core.Logic.{◌⊎◌, inl, inr, ⊎_elim}
use native.Mathlib.Omega.{arith}
use lib.ListN.{length, get_or, drop, length-drop}
use lib.Seq.{drop-nil, drop-drop}
use lib.Dec.{eqb-suc-zero}
use Rattle.wire.specs.Read.{span_of}
use Rattle.walk.specs.Walk.{start_after, rests_in, rests}
use Rattle.walk.proofs.Spans.{span_within, span_some, span_eight}

-- What is left behind the command at the front.
abbrev pub behind : List ℕ → List ℕ
behind s = drop (span_of s) s

-- Behind a command fewer bytes are left.
pub fewer : (s : List ℕ) → 0 < length s → length (behind s) < length s
fewer s more = omega (arith, length-drop (span_of s) s, span_some s more)

-- One step of the walk where bytes are left.
step : (n b : ℕ) (bs : List ℕ) → rests_in (suc n) (b ∷ bs) ≡ (b ∷ bs) ∷ rests_in n (behind (b ∷ bs))
unfolding rests_in
step n b bs = rw (rests_in, eqb-suc-zero (length bs))

-- More steps than the list has bytes change nothing.
enough : (m n : ℕ) (s : List ℕ) → length s ≤ m → length s ≤ n → rests_in m s ≡ rests_in n s
unfolding rests_in
enough zero zero s hm hn = refl
enough zero (suc n) [] hm hn = refl
enough zero (suc n) (b ∷ bs) hm hn = absurd (omega arith)
enough (suc m) zero [] hm hn = refl
enough (suc m) zero (b ∷ bs) hm hn = absurd (omega arith)
enough (suc m) (suc n) [] hm hn = refl
enough (suc m) (suc n) (b ∷ bs) hm hn =
    let s = b ∷ bs in
    let less = fewer s (omega arith) in
    step m b bs ∙ ap (λ l. s ∷ l) (enough m n (behind s) (omega arith) (omega arith)) ∙ sym (step n b bs)

-- An ended list has no rests.
pub rests_none : rests [] ≡ []
unfolding rests
rests_none = refl

-- Any other list is its own first rest, and the others are those of what is left behind its first command.
pub rests_more : (s : List ℕ) → 0 < length s → rests s ≡ s ∷ rests (behind s)
unfolding rests
rests_more [] more = absurd (omega arith)
rests_more (b ∷ bs) more =
    let s = b ∷ bs in
    step (length bs) b bs ∙ ap (λ l. s ∷ l) (enough (length bs) (length (behind s)) (behind s) (omega (arith, fewer s more)) (omega arith))

-- Where command k, from 0, begins lies within the list.
pub start_within : (s : List ℕ) (k : ℕ) → start_after s k ≤ length s
unfolding start_after
start_within s zero = omega arith
start_within s (suc k) = omega (arith, start_within s k, span_within (drop (start_after s k) s), length-drop (start_after s k) s)

-- Command k + 1 of a list is command k of what is left behind the first.
start_behind : (s : List ℕ) (k : ℕ) → start_after s (suc k) ≡ span_of s + start_after (behind s) k
unfolding start_after
start_behind s zero = omega arith
start_behind s (suc k) = rw (start_behind s k, ← drop-drop) (omega arith)

-- Either a list has ended, or bytes are left.
ended : (s : List ℕ) → (s ≡ []) ⊎ (0 < length s)
ended [] = inl refl
ended (b ∷ bs) = inr (omega arith)

none : (s : List ℕ) → s ≡ [] → rests s ≡ []
none s e = ap rests e ∙ rests_none

-- Rest k is what is left of the list from where command k begins; where there is no such command nothing is left.
pub rest_at : (s : List ℕ) (k : ℕ) → get_or (rests s) k [] ≡ drop (start_after s k) s
unfolding start_after
rest_at s zero = ⊎_elim (λ e. rw (none s e, e)) (λ more. rw (rests_more s more)) (ended s)
rest_at s (suc k) =
    ⊎_elim
    (λ e. rw (none s e, e, drop-nil _))
    (λ more. rw (rests_more s more, start_behind s k, ← drop-drop) (rest_at (behind s) k))
    (ended s)

-- There is a rest k exactly where command k begins before the list's end.
pub rest_there : (s : List ℕ) (k : ℕ) → (k < length (rests s) → start_after s k < length s) × (start_after s k < length s → k < length (rests s))
unfolding start_after
rest_there s zero =
    ⊎_elim
    (λ e. rw (none s e, e) (λ h. h, λ h. h))
    (λ more. rw (rests_more s more) (λ h. more, λ h. omega arith))
    (ended s)
rest_there s (suc k) =
    ⊎_elim
    (λ e. rw (none s e, e) (λ h. absurd (omega arith), λ h. absurd (omega arith)))
    (λ more.
    let long = length-drop (span_of s) s in
    let there = rest_there (behind s) k in
    rw (rests_more s more, start_behind s k) (
      λ h. omega (arith, there.0 (omega arith)),
      λ h. omega (arith, there.1 (omega arith)),
    ))
    (ended s)

-- A list of n bytes has at most (n + 7) / 8 commands: each but the last takes 8 bytes at least.
few_in : (n : ℕ) (s : List ℕ) → length s ≤ n → 8 * length (rests s) ≤ length s + 7
few_in zero s h = ⊎_elim (λ e. rw (none s e) (omega arith)) (λ more. absurd (omega arith)) (ended s)
few_in (suc n) s h =
    ⊎_elim
    (λ e. rw (none s e) (omega arith))
    (λ more.
    let less = fewer s more in
    let rest = few_in n (behind s) (omega arith) in
    let long = length-drop (span_of s) s in
    rw (rests_more s more) (⊎_elim
    (λ e. rw (none (behind s) e) (omega arith))
    (λ further. omega (arith, span_eight s further, rest))
    (ended (behind s))))
    (ended s)

pub rests_few : (s : List ℕ) → 8 * length (rests s) ≤ length s + 7
rests_few s = few_in (length s) s (omega arith)

-- So a list that is taken has at most 512 commands, and two such lists have at most 1,024 records.
pub rests_512 : (s : List ℕ) → length s ≤ 4096 → length (rests s) ≤ 512
rests_512 s h = omega (arith, rests_few s)

pub records_1024 : (kit pupil : List ℕ) → length kit ≤ 4096 → length pupil ≤ 4096 → length (rests kit) + length (rests pupil) ≤ 1024
records_1024 kit pupil hk hp = omega (arith, rests_512 kit hk, rests_512 pupil hp)
