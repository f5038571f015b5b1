-- What an append, OPEN, CLOSE and CLEAR do to the entries of every macro, and to the number in use: an append gives the open macro one entry more and
-- leaves all others, OPEN and CLOSE leave all.
use Prim.Native.Nat.{ℕ, suc, ◌+◌, ◌≤◌, ◌<◌}
use mathlib.Core.Path.{◌≡◌, refl, sym, ap, ◌∙◌}
use mathlib.Core.List.{List, [], ◌∷◌, ◌++◌}
use mathlib.Core.Bool.{Bool, true, false, cond}
use native.Mathlib.Omega.{arith}
use lib.ListN.{length, take, drop, length-drop}
use lib.Seq.{length-take-le}
use lib.Dec.{ltb}
use borrow.Author.Tests.{ltb-true, ltb-false}
use Rattle.wire.specs.declared.kinds.Command.{Command}
use Rattle.store.specs.declared.Store.{Store}
use Rattle.store.specs.Words.{commands_in}
use Rattle.store.specs.Pool.{count_of, is_closed, in_use, size_of, start_of, used_of, used_in, between, entries_of, kept}
use Rattle.store.specs.Effects.{fresh_store, opened_of, closed_of, cleared_of}
use Rattle.store.proofs.Places.{start_next, start_up, open_size, SameSizes, same_start, grown, size_other, size_grown}
use Rattle.store.proofs.Places.{start_before, start_behind, opened_sizes, closed_sizes}
use Rattle.store.proofs.Moves.{insert_at, insert_before, insert_end, insert_behind, length_inserted}
use Rattle.store.proofs.Entries.{stored_as, commands_inserted, length_commands}

-- The entries of a macro among those of the pool.
abbrev entries_in : List Command → List ℕ → List Bool → ℕ → ℕ → List Command
entries_in pool counts closed opened m = take (size_of counts closed opened m) (drop (start_of counts closed opened m) pool)

-- The open macro's entries are the old ones with the new one behind; those of any other macro are what they were.
module _ (pool : List Command) (counts : List ℕ) (closed : List Bool) (opened : ℕ) (x : Command)
    (size : length pool ≡ 192) (many : length counts ≡ 8) (is_open : opened < 8) (free : used_of counts closed opened < 192) where
  abbrev end : ℕ
  end = start_of counts closed opened (suc opened)

  abbrev top : ℕ
  top = used_of counts closed opened

  abbrev after : List Command
  after = insert_at pool end top x

  ordered : end ≤ top
  ordered = start_up counts closed opened (suc opened) 8 (omega arith)

  own_more : entries_in after (grown counts opened) closed opened opened ≡ entries_in pool counts closed opened opened ++ (x ∷ [])
  own_more =
      rw (size_grown counts closed opened many is_open, start_before counts closed opened many is_open opened (omega arith))
      (insert_end pool end top x ordered (omega arith) (start_of counts closed opened opened) (size_of counts closed opened opened)
      (sym (start_next counts closed opened opened)))

  others_same : (m : ℕ) → m < 8 → (m ≡ opened → ⊥)
      → entries_in after (grown counts opened) closed opened m ≡ entries_in pool counts closed opened m
  others_same m h other = go (ltb m opened) refl
    where
      go : (b : Bool) → ltb m opened ≡ b
          → entries_in after (grown counts opened) closed opened m ≡ entries_in pool counts closed opened m
      go true e =
          let below : m < opened = ltb-true m opened e in
          let up : start_of counts closed opened (suc m) ≤ end = start_up counts closed opened (suc m) (suc opened) (omega arith) in
          rw (size_other counts closed opened many is_open m other, start_before counts closed opened many is_open m (omega arith))
          (insert_before pool end top x ordered (omega arith) (start_of counts closed opened m) (size_of counts closed opened m)
          (omega (arith, start_next counts closed opened m)))
      go false e =
          let above : opened < m = omega (arith, ltb-false m opened e) in
          let up : end ≤ start_of counts closed opened m = start_up counts closed opened (suc opened) m (omega arith) in
          let last : start_of counts closed opened (suc m) ≤ top = start_up counts closed opened (suc m) 8 (omega arith) in
          rw (size_other counts closed opened many is_open m other, start_behind counts closed opened many is_open m above)
          (insert_behind pool end top x ordered (omega arith) (start_of counts closed opened m) (size_of counts closed opened m) up
          (omega (arith, start_next counts closed opened m)))

-- An append that is taken.
module _ (s : Store) (c : Command) (whole : length s.pool ≡ 576) (many : length s.counts ≡ 8) (is_open : s.opened < 8)
    (free : used_in s < 192) where
  abbrev pool : List Command
  pool = commands_in s.pool

  read_after : (m : ℕ) → entries_of (kept s c) m
      ≡ entries_in (insert_at pool (start_of s.counts s.closed s.opened (suc s.opened)) (used_in s) (stored_as c))
      (grown s.counts s.opened) s.closed s.opened m
  unfolding entries_of between kept
  read_after m =
      let ordered = start_up s.counts s.closed s.opened (suc s.opened) 8 (omega arith) in
      ap (λ es. entries_in es (grown s.counts s.opened) s.closed s.opened m)
      (commands_inserted s.pool _ _ c ordered (omega arith))

  pub kept_own : entries_of (kept s c) s.opened ≡ entries_of s s.opened ++ (stored_as c ∷ [])
  unfolding entries_of between
  kept_own =
      read_after s.opened
      ∙ own_more pool s.counts s.closed s.opened (stored_as c) (length_commands 192 s.pool whole) many is_open free

  pub kept_other : (k : ℕ) → k < 8 → (k ≡ s.opened → ⊥) → entries_of (kept s c) k ≡ entries_of s k
  unfolding entries_of between
  kept_other k h other =
      read_after k
      ∙ others_same pool s.counts s.closed s.opened (stored_as c) (length_commands 192 s.pool whole) many is_open free k h other

-- One more is in use, and the pool stays as long.
pub kept_used : (s : Store) (c : Command) → length s.counts ≡ 8 → s.opened < 8 → used_in (kept s c) ≡ used_in s + 1
unfolding kept
kept_used s c many is_open = start_behind s.counts s.closed s.opened many is_open 8 is_open

pub kept-length : (s : Store) (c : Command) → length s.pool ≡ 576 → s.opened < 8 → used_in s < 192 → length (kept s c).pool ≡ 576
unfolding kept
kept-length s c whole is_open free =
    let ordered = start_up s.counts s.closed s.opened (suc s.opened) 8 (omega arith) in
    length_inserted s.pool _ _ c (omega (arith, ordered)) (omega arith) ∙ whole

-- Two stores with the same pool whose macros have the same sizes have the same entries, and as many in use.
module _ (s u : Store) (pools : s.pool ≡ u.pool) (same : SameSizes s.counts s.closed s.opened u.counts u.closed u.opened 8) where
  same_entries : (k : ℕ) → k < 8 → entries_of s k ≡ entries_of u k
  unfolding entries_of
  same_entries k h =
      rw (pools, same k h, same_start s.counts s.closed s.opened u.counts u.closed u.opened k 8 (omega arith) same)

  same_used : used_in s ≡ used_in u
  same_used = same_start s.counts s.closed s.opened u.counts u.closed u.opened 8 8 (omega arith) same

-- OPEN of a macro that is not in use, while none is open.
module _ (s : Store) (m : ℕ) (many : length s.counts ≡ 8) (none : 8 ≤ s.opened) (number : m < 8) (unused : is_closed s m ≡ false) where
  opened_same : SameSizes (opened_of s m).counts s.closed m s.counts s.closed s.opened 8
  opened_same = opened_sizes s.counts s.closed s.opened m many none number unused

  pub opened_entries : (k : ℕ) → k < 8 → entries_of (opened_of s m) k ≡ entries_of s k
  opened_entries = same_entries (opened_of s m) s refl opened_same

  pub opened_used : used_in (opened_of s m) ≡ used_in s
  opened_used = same_used (opened_of s m) s refl opened_same

-- CLOSE.
module _ (s : Store) (marks : length s.closed ≡ 8) where
  closed_same : SameSizes s.counts (closed_of s).closed 255 s.counts s.closed s.opened 8
  closed_same = closed_sizes s.counts s.closed s.opened marks

  pub closed_entries : (k : ℕ) → k < 8 → entries_of (closed_of s) k ≡ entries_of s k
  closed_entries = same_entries (closed_of s) s refl closed_same

  pub closed_used : used_in (closed_of s) ≡ used_in s
  closed_used = same_used (closed_of s) s refl closed_same

-- CLEAR, and a fresh store.
pub cleared_used : (s : Store) → used_in (cleared_of s) ≡ 0
unfolding start_of size_of
cleared_used s = refl

pub fresh_used : used_in fresh_store ≡ 0
unfolding start_of size_of
fresh_used = refl

-- A closed macro and the open one have as many entries as they count, where the pool holds all that are in use; one that counts none has none.
pub size_open : (s : Store) → size_of s.counts s.closed s.opened s.opened ≡ count_of s s.opened
size_open s = open_size s.counts s.closed s.opened

pub entries_length : (s : Store) (m : ℕ) → length s.pool ≡ 576 → used_in s ≤ 192 → m < 8
    → length (entries_of s m) ≡ size_of s.counts s.closed s.opened m
unfolding entries_of between
entries_length s m whole fits number =
    let start = start_of s.counts s.closed s.opened m in
    let last = start_up s.counts s.closed s.opened (suc m) 8 (omega arith) in
    length-take-le _ (drop start (commands_in s.pool))
    (rw (length-drop, length_commands 192 s.pool whole) (omega (arith, last, start_next s.counts s.closed s.opened m)))

pub entries_none : (s : Store) (m : ℕ) → count_of s m ≡ 0 → entries_of s m ≡ []
unfolding entries_of between size_of
entries_none s m none =
    ap (λ n. between s.pool (start_of s.counts s.closed s.opened m) (cond (in_use s.closed s.opened m) n 0)) none
    ∙ go (in_use s.closed s.opened m)
  where
    go : (b : Bool) → between s.pool (start_of s.counts s.closed s.opened m) (cond b 0 0) ≡ []
    go true = refl
    go false = refl
