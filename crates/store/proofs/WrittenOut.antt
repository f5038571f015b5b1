-- What a written-out list is, in 01's and 02's words, each theorem under its sentence. They hold of every store. The laws behind them are in
-- Parts.antt, Flat.antt, Seconds.antt and WaitLaws.antt; that the lists of closed macros stay fixed is `lists_stay`, Sound.antt.
use Prim.Native.Nat.{ℕ, zero, suc, ◌+◌, ◌≤◌, ◌<◌}
use mathlib.Core.Path.{◌≡◌, refl, ap, ◌∙◌}
use mathlib.Core.List.{List, [], ◌∷◌, ◌++◌, map, append-nil}
use mathlib.Core.Bool.{Bool, true, false, cond}
use native.Mathlib.Omega.{arith}
use lib.ListN.{length, get_or, replicate}
use lib.Dec.{ltb}
use Rattle.wire.specs.declared.kinds.Kind.{Kind}
use Rattle.wire.specs.declared.kinds.Command.{Command}
use Rattle.store.specs.declared.Store.{Store}
use Rattle.store.specs.Roles.{role_of}
use Rattle.store.specs.Pool.{is_closed, entries_of}
use Rattle.store.specs.WrittenOut.{expand, flat, Item, items_of, in_first, seconds, most_in, written_out}
use Rattle.store.specs.SpanSteps.{waits_of, last_in}
use Rattle.store.proofs.Flat.{expand-append}
use Rattle.store.proofs.Parts.{look, part_of, parts_of, Kept, parts_are, part_run, part_kept}
use Rattle.store.proofs.Seconds.{length_in_first, length_closes, seconds-length}
use Rattle.store.proofs.Contents.{All}
use Rattle.store.proofs.WaitLaws.{Lasts, waits_last, most_reached, most_least}

-- First the list with its RUNs replaced and its WAITs kept, `flat s m`: `parts_of s m es` is what the entries es add to it in macro m of store s,
-- `part_of s m e` what one entry adds.

-- "The written-out list of a macro takes its entries in order": the list is what its entries add,
pub flat_is : (s : Store) (m : ℕ) → flat s m ≡ parts_of s m (entries_of s m)
flat_is s m = parts_are s m

-- no entries add nothing,
pub flat_none : (s : Store) (m : ℕ) → parts_of s m [] ≡ []
unfolding expand
flat_none s m = refl

-- the first one's part comes before the rest,
pub flat_first : (s : Store) (m : ℕ) (e : Command) (es : List Command) → parts_of s m (e ∷ es) ≡ part_of s m e ++ parts_of s m es
unfolding expand
flat_first s m e es = refl

-- the earlier ones come before the later ones,
pub flat_append : (s : Store) (m : ℕ) (xs ys : List Command) → parts_of s m (xs ++ ys) ≡ parts_of s m xs ++ parts_of s m ys
flat_append s m xs ys = expand-append (look s m) xs ys

-- and so the last one's part comes last.
pub flat_last : (s : Store) (m : ℕ) (es : List Command) (e : Command) → entries_of s m ≡ es ++ (e ∷ [])
    → flat s m ≡ parts_of s m es ++ part_of s m e
unfolding expand
flat_last s m es e h =
    flat_is s m ∙ ap (parts_of s m) h ∙ flat_append s m es (e ∷ []) ∙ ap (λ l. parts_of s m es ++ l) (append-nil (part_of s m e))

-- "an appended RUN is replaced by the whole written-out list of its target": a closed macro with a smaller number, as rows 17 and 18 want it.
pub flat_run : (s : Store) (m k : ℕ) (e : Command) → e.kind ≡ Kind.Run k → k < m → is_closed s k ≡ true → part_of s m e ≡ flat s k
flat_run s m k e kind below closed = part_run s m k e (ap role_of kind) below closed

-- Every other entry (`Kept`: each role but RUN) stands for itself, a WAIT too.
pub flat_kept : (s : Store) (m : ℕ) (e : Command) → Kept (role_of e.kind) → part_of s m e ≡ e.kind ∷ []
flat_kept s m e itself = part_kept s m e (role_of e.kind) refl itself

-- Then second by second (02, Q-2): a list is entries, which are handed over, and WAITs, and its seconds are made of these.
pub written_is : (s : Store) (m : ℕ) → written_out s m ≡ seconds (items_of (flat s m))
unfolding written_out
written_is s m = refl

-- "a second hands over all entries up to the next WAIT (not itself)", and "WAIT n closes its second and is followed by n-1 empty ones";
pub group_closed : (ks : List Kind) (n : ℕ) (rest : List Item)
    → seconds (map Item.entry ks ++ (Item.wait (suc n) ∷ rest)) ≡ ks ∷ (replicate n [] ++ seconds rest)
unfolding seconds
group_closed [] n rest = refl
group_closed (k ∷ ks) n rest = ap (in_first k) (group_closed ks n rest)

-- "or the end": entries with no WAIT behind them are one second,
pub group_open : (k : Kind) (ks : List Kind) → seconds (map Item.entry (k ∷ ks)) ≡ (k ∷ ks) ∷ []
unfolding seconds
group_open k [] = refl
group_open k (next ∷ ks) = ap (in_first k) (group_open next ks)

-- and where nothing is left there is no second.
pub group_none : seconds [] ≡ []
unfolding seconds
group_none = refl

-- Is there a last item, and is it an entry?
unfoldable pub ends_open : List Item → Bool
ends_open [] = false
ends_open (Item.entry kind ∷ []) = true
ends_open (Item.wait n ∷ []) = false
ends_open (item ∷ (next ∷ items)) = ends_open (next ∷ items)

-- "the length is the sum of the waits, plus 1 if the last entry is no WAIT", where no WAIT is of 0 seconds. (The length is the number of groups.)
some_second : (item : Item) (items : List Item) → Lasts item → 1 ≤ length (seconds (item ∷ items))
unfolding seconds
some_second (Item.entry kind) items lasts = rw (length_in_first kind (seconds items)) (omega arith)
some_second (Item.wait n) items lasts = rw (length_closes n (seconds items)) (omega arith)

pub seconds_number : (items : List Item) → All Lasts items → length (seconds items) ≡ waits_of items + cond (ends_open items) 1 0
unfolding seconds waits_of ends_open
seconds_number [] last = refl
seconds_number (Item.entry kind ∷ []) last = refl
seconds_number (Item.entry kind ∷ (next ∷ items)) last =
    length_in_first kind (seconds (next ∷ items))
    ∙ omega (arith, some_second next items last.1.0, seconds_number (next ∷ items) last.1)
seconds_number (Item.wait n ∷ []) last = length_closes n [] ∙ omega arith
seconds_number (Item.wait n ∷ (next ∷ items)) last =
    length_closes n (seconds (next ∷ items)) ∙ omega (arith, seconds_number (next ∷ items) last.1)

-- No store has a WAIT of 0 seconds (`waits_last`, WaitLaws.antt), so this is so of every written-out list.
pub written_length : (s : Store) (m : ℕ)
    → length (written_out s m) ≡ waits_of (items_of (flat s m)) + cond (ends_open (items_of (flat s m))) 1 0
unfolding written_out
written_length s m = seconds_number (items_of (flat s m)) (waits_last s m)

-- A list with every WAIT n written as n WAITs of 1.
unfoldable pub ones : List Item → List Item
ones [] = []
ones (Item.entry kind ∷ items) = Item.entry kind ∷ ones items
ones (Item.wait n ∷ items) = replicate n (Item.wait 1) ++ ones items

-- Groups joined, with a WAIT of 1 behind each of the first n.
unfoldable pub rejoined : ℕ → List (List Kind) → List Item
rejoined n [] = []
rejoined zero (g ∷ gs) = map Item.entry g ++ rejoined zero gs
rejoined (suc n) (g ∷ gs) = map Item.entry g ++ (Item.wait 1 ∷ rejoined n gs)

rejoined_first : (n : ℕ) (kind : Kind) (gs : List (List Kind)) → n ≤ length gs → rejoined n (in_first kind gs) ≡ Item.entry kind ∷ rejoined n gs
unfolding rejoined
rejoined_first zero kind [] h = refl
rejoined_first (suc n) kind [] h = absurd (omega arith)
rejoined_first zero kind (g ∷ gs) h = refl
rejoined_first (suc n) kind (g ∷ gs) h = refl

rejoined_closes : (n more : ℕ) (gs : List (List Kind)) → rejoined (n + more) (replicate n [] ++ gs) ≡ replicate n (Item.wait 1) ++ rejoined more gs
unfolding rejoined
rejoined_closes zero more gs =
    let sum : 0 + more ≡ more = omega arith in
    ap (λ k. rejoined k gs) sum
rejoined_closes (suc n) more gs =
    let sum : suc n + more ≡ suc (n + more) = omega arith in
    ap (λ k. rejoined k (replicate (suc n) [] ++ gs)) sum ∙ ap (λ l. Item.wait 1 ∷ l) (rejoined_closes n more gs)

-- As many seconds are closed as the waits sum up to.
waits_closed : (items : List Item) → waits_of items ≤ length (seconds items)
waits_closed items = rw (seconds-length items) (go (ltb 0 (last_in items)))
  where
    go : (b : Bool) → waits_of items ≤ cond b (waits_of items + 1) (waits_of items)
    go true = omega arith
    go false = omega arith

seconds-rejoined : (items : List Item) → rejoined (waits_of items) (seconds items) ≡ ones items
unfolding seconds waits_of ones rejoined
seconds-rejoined [] = refl
seconds-rejoined (Item.entry kind ∷ items) =
    rejoined_first (waits_of items) kind (seconds items) (waits_closed items) ∙ ap (λ l. Item.entry kind ∷ l) (seconds-rejoined items)
seconds-rejoined (Item.wait n ∷ items) =
    rejoined_closes n (waits_of items) (seconds items) ∙ ap (λ l. replicate n (Item.wait 1) ++ l) (seconds-rejoined items)

-- So nothing is lost or moved: the groups joined, a WAIT of 1 behind each closed second, are the list with every WAIT n written as n WAITs of 1.
pub written_rejoined : (s : Store) (m : ℕ) → rejoined (waits_of (items_of (flat s m))) (written_out s m) ≡ ones (items_of (flat s m))
unfolding written_out
written_rejoined s m = seconds-rejoined (items_of (flat s m))

-- `most_in` is the largest number of entries in any second: no second has more,
pub written_most : (s : Store) (m k : ℕ) → length (get_or (written_out s m) k []) ≤ most_in (written_out s m)
written_most s m k = most_reached (written_out s m) k

-- and where no second has more than n it is no more than n.
pub written_least : (s : Store) (m n : ℕ) → ((k : ℕ) → length (get_or (written_out s m) k []) ≤ n) → most_in (written_out s m) ≤ n
written_least s m n each = most_least (written_out s m) n each

-- So a macro that row 25 lets pass has at most 64 entries in each second.
pub written_within : (s : Store) (m : ℕ) → most_in (written_out s m) ≤ 64 → (k : ℕ) → length (get_or (written_out s m) k []) ≤ 64
written_within s m few k = omega (arith, few, written_most s m k)
