-- The group of a second, collected item by item: lists one after another, lists that are over before the second looked for, and that what is
-- collected is the group of that second.
use Prim.Native.Nat.{ℕ, zero, suc, ◌+◌, ◌*◌, ◌-◌, ◌≤◌, ◌<◌, min}
use mathlib.Core.Path.{◌≡◌, refl, sym, ap, ◌∙◌}
use mathlib.Core.List.{List, [], ◌∷◌, ◌++◌, append_assoc, append-nil}
use mathlib.Core.Bool.{Bool, true, false, cond, ◌&&◌, true≢false}
use native.Mathlib.Omega.{arith}
use lib.ListN.{length, get_or, set, take, drop, replicate, length-append, length-replicate, get_or-append, get_or-replicate}
use lib.Seq.{sets, sets-eq, length-sets, take_all, take_at, drop_at, get_or-append-add, append_snoc}
use lib.Dec.{ltb, leb}
use borrow.Author.Tests.{ltb-true, ltb-false, lt-ltb, le-ltb, leb-true, leb-false, le-leb, lt-leb}
use Rattle.wire.specs.declared.kinds.Kind.{Kind}
use Rattle.store.specs.declared.spans.Span.{Span}
use Rattle.store.specs.WrittenOut.{Item, in_first, seconds}
use Rattle.store.specs.Effects.{entry_words, group_words, shown_as}
use Rattle.store.specs.SpanSteps.{waits_of, last_in, span_of, capped_of}
use Rattle.store.specs.GroupSteps.{Cursor, cursor_with, ended, skipped, pushed, taken, waited, step, collected, over}
use Rattle.store.proofs.Seconds.{length_in_first, length_closes, seconds-length, head_in_first}

-- What a test that is known leaves.
pub at_true : {A : Type 0} (b : Bool) (x y : A) → b ≡ true → cond b x y ≡ x
at_true true x y e = refl
at_true false x y e = absurd (true≢false (sym e))

pub at_false : {A : Type 0} (b : Bool) (x y : A) → b ≡ false → cond b x y ≡ y
at_false true x y e = absurd (true≢false e)
at_false false x y e = refl

-- An entry that is taken is put behind those so far, word by word.
pub taken_put : (c : Cursor) (head first second : ℕ) → c.done ≡ false → c.left ≤ 0 → c.count < 64
    → cursor_with
    (set (set (set c.words (c.count * 3) head) (c.count * 3 + 1) first) (c.count * 3 + 2) second)
    c.left (c.count + 1) c.done
    ≡ taken c (head ∷ first ∷ second ∷ [])
taken_put c head first second fresh now few =
    let at = c.count * 3 in
    let one : at + 1 ≡ suc at = omega arith in
    let two : at + 2 ≡ suc (suc at) = omega arith in
    let here = at_false c.done _ _ fresh ∙ at_false (ltb 0 c.left) _ _ (le-ltb 0 c.left now) in
    rw (one, two) (sym (here ∙ at_false (leb 64 c.count) _ _ (lt-leb 64 c.count few)))

-- Two lists one after another.
pub collected-append : (c : Cursor) (xs ys : List Item) → collected c (xs ++ ys) ≡ collected (collected c xs) ys
unfolding collected
collected-append c [] ys = refl
collected-append c (x ∷ xs) ys = collected-append (step c x) xs ys

-- The words keep their number.
length_taken : (c : Cursor) (words : List ℕ) → length (taken c words).words ≡ length c.words
length_taken c words = go c.done (ltb 0 c.left) (leb 64 c.count)
  where
    go : (done early full : Bool)
        → length (cond done c (cond early c (cond full (ended c) (pushed c words)))).words ≡ length c.words
    go true early full = refl
    go false true full = refl
    go false false true = refl
    go false false false = length-sets c.words (c.count * 3) words

length-waited : (c : Cursor) (n : ℕ) → length (waited c n).words ≡ length c.words
length-waited c n = go c.done (leb n c.left)
  where
    go : (done passes : Bool) → length (cond done c (cond passes (skipped c n) (ended c))).words ≡ length c.words
    go true passes = refl
    go false true = refl
    go false false = refl

pub length-collected : (c : Cursor) (items : List Item) → length (collected c items).words ≡ length c.words
unfolding collected
length-collected c [] = refl
length-collected c (Item.entry kind ∷ items) = length-collected (taken c (entry_words kind)) items ∙ length_taken c (entry_words kind)
length-collected c (Item.wait n ∷ items) = length-collected (waited c n) items ∙ length-waited c n

-- A closed second stays as it is.
stays : (words : List ℕ) (left count : ℕ) (items : List Item)
    → collected (cursor_with words left count true) items ≡ cursor_with words left count true
unfolding collected
stays words left count [] = refl
stays words left count (Item.entry kind ∷ items) = stays words left count items
stays words left count (Item.wait n ∷ items) = stays words left count items

pub collected_done : (c : Cursor) (items : List Item) → c.done ≡ true → collected c items ≡ c
collected_done c items = go c.done
  where
    go : (b : Bool) → b ≡ true
        → collected (cursor_with c.words c.left c.count b) items ≡ cursor_with c.words c.left c.count b
    go true e = stays c.words c.left c.count items
    go false e = absurd (true≢false (sym e))

-- A list that is over before the second looked for only takes its waits.
skips : (words : List ℕ) (left count : ℕ) (items : List Item) → length (seconds items) ≤ left
    → collected (cursor_with words left count false) items ≡ cursor_with words (left - waits_of items) count false
unfolding collected waits_of seconds
skips words left count [] h =
    let e : left ≡ left - 0 = omega arith in
    ap (λ n. cursor_with words n count false) e
skips words left count (Item.entry kind ∷ items) h =
    let long = length_in_first kind (seconds items) in
    rw (lt-ltb 0 left (omega (arith, long))) (skips words left count items (omega (arith, long)))
skips words left count (Item.wait n ∷ items) h =
    let long = length_closes n (seconds items) in
    let e : left - n - waits_of items ≡ left - (n + waits_of items) = omega arith in
    rw (le-leb n left (omega (arith, long)))
    (skips words (left - n) count items (omega (arith, long)) ∙ ap (λ k. cursor_with words k count false) e)

-- The same by the span that a table tells.
record Past (items : List Item) (left : ℕ) : Type 0 where
  short : length (seconds items) ≤ left
  waits : waits_of items ≤ left
  whole : min 601 (waits_of items) ≡ waits_of items

over_past : (items : List Item) (left : ℕ) → over (capped_of (span_of items)) left ≡ true → Past items left
over_past items left is = go (ltb told 601) refl (ltb 0 (min 65 (last_in items))) refl is
  where
    waits : ℕ
    waits = waits_of items

    told : ℕ
    told = min 601 (waits_of items)

    lasts : {b : Bool} → ltb 0 (last_in items) ≡ b → length (seconds items) ≡ cond b (waits_of items + 1) (waits_of items)
    lasts e = seconds-length items ∙ ap (λ b. cond b (waits_of items + 1) (waits_of items)) e

    go : (known : Bool) → ltb told 601 ≡ known → (b : Bool) → ltb 0 (min 65 (last_in items)) ≡ b
        → (known && leb (cond b (told + 1) told) left) ≡ true → Past items left
    go false k b e t = absurd (true≢false (sym t))
    go true k true e t =
        let small = ltb-true told 601 k in
        let some = ltb-true 0 (min 65 (last_in items)) e in
        let low = leb-true (told + 1) left t in
        let long = lasts (lt-ltb 0 (last_in items) (omega arith)) in
        record { short = omega arith; waits = omega arith; whole = omega arith }
    go true k false e t =
        let small = ltb-true told 601 k in
        let some = ltb-false 0 (min 65 (last_in items)) e in
        let low = leb-true told left t in
        let long = lasts (le-ltb 0 (last_in items) (omega arith)) in
        record { short = omega arith; waits = omega arith; whole = omega arith }

pub collected-over : (c : Cursor) (items : List Item) (span : Span) → span ≡ capped_of (span_of items) → over span c.left ≡ true → c.done ≡ false
    → waited c span.waits ≡ collected c items
collected-over c items span told is fresh = ap (waited c) (ap (λ (a : Span). a.waits) told ∙ past.whole) ∙ go c.done fresh
  where
    past : Past items c.left
    past = over_past items c.left (ap (λ a. over a c.left) (sym told) ∙ is)

    go : (b : Bool) → b ≡ false
        → waited (cursor_with c.words c.left c.count b) (waits_of items) ≡ collected (cursor_with c.words c.left c.count b) items
    go true e = absurd (true≢false e)
    go false e =
        at_true (leb (waits_of items) c.left) _ _ (le-leb (waits_of items) c.left past.waits)
        ∙ sym (skips c.words c.left c.count items past.short)

-- A WAIT of 0 passes nothing.
pub waited_none : (c : Cursor) → waited c 0 ≡ c
waited_none c = go c.done
  where
    go : (b : Bool) → waited (cursor_with c.words c.left c.count b) 0 ≡ cursor_with c.words c.left c.count b
    go true = refl
    go false =
        let same : c.left - 0 ≡ c.left = omega arith in
        at_true (leb 0 c.left) _ _ (le-leb 0 c.left (omega arith)) ∙ ap (λ n. cursor_with c.words n c.count false) same

-- The words of so many kinds, and of one more behind them.
length_words : (ks : List Kind) → length (group_words ks) ≡ length ks * 3
unfolding group_words
length_words [] = refl
length_words (k ∷ ks) = omega (arith, length_words ks)

words_more : (ks : List Kind) (kind : Kind) → group_words (ks ++ (kind ∷ [])) ≡ group_words ks ++ entry_words kind
unfolding group_words
words_more [] kind = refl
words_more (k ∷ ks) kind = ap (λ ws. entry_words k ++ ws) (words_more ks kind)

sets_seam : (p old ys vs : List ℕ) (n : ℕ) → length p ≡ n → length old ≡ length vs → sets (p ++ (old ++ ys)) n vs ≡ (p ++ vs) ++ ys
sets_seam p old ys vs n at same =
    sets-eq vs (p ++ (old ++ ys)) n (omega (arith, length-append p (old ++ ys), length-append old ys))
    ∙ ap (λ l. (l ++ vs) ++ drop (n + length vs) (p ++ (old ++ ys))) (take_at p (old ++ ys) n at)
    ∙ ap (λ l. (p ++ vs) ++ drop (n + length vs) l) (sym (append_assoc p old ys))
    ∙ ap (λ l. (p ++ vs) ++ l) (drop_at (p ++ old) ys (n + length vs) (length-append p old ∙ omega arith))

shown_more : (g : List Kind) (kind : Kind) → length g < 64 → sets (shown_as g) (length g * 3) (entry_words kind) ≡ shown_as (g ++ (kind ∷ []))
shown_more g kind few =
    let room : 192 - length g * 3 ≡ suc (suc (suc (189 - length g * 3))) = omega arith in
    let less : 189 - length g * 3 ≡ 192 - length (g ++ (kind ∷ [])) * 3 = omega (arith, length-append g (kind ∷ [])) in
    let rest : List ℕ = replicate (189 - length g * 3) 0 in
    ap (λ n. sets (group_words g ++ replicate n 0) (length g * 3) (entry_words kind)) room
    ∙ sets_seam (group_words g) (0 ∷ 0 ∷ 0 ∷ []) rest (entry_words kind) (length g * 3) (length_words g) refl
    ∙ ap (λ l. l ++ rest) (sym (words_more g kind))
    ∙ ap (λ n. group_words (g ++ (kind ∷ [])) ++ replicate n 0) less

-- Later seconds, those behind a WAIT, and those that it makes.
get_d_later : (kind : Kind) (gs : List (List Kind)) (k : ℕ) → get_or (in_first kind gs) (suc k) [] ≡ get_or gs (suc k) []
get_d_later kind [] k = refl
get_d_later kind (g ∷ gs) k = refl

get_d_behind : (n k : ℕ) (gs : List (List Kind)) → n ≤ k → get_or (replicate n [] ++ gs) k [] ≡ get_or gs (k - n) []
get_d_behind n k gs h =
    let e : k ≡ length {A = List Kind} (replicate n []) + (k - n) = omega (arith, length-replicate {A = List Kind} n []) in
    ap (λ j. get_or (replicate n [] ++ gs) j []) e ∙ get_or-append-add (replicate n []) gs (k - n) []

get_d_within : (n k : ℕ) (gs : List (List Kind)) → k < n → get_or (replicate n [] ++ gs) k [] ≡ []
get_d_within n k gs h =
    get_or-append (replicate n []) gs [] k (omega (arith, length-replicate {A = List Kind} n [])) ∙ get_or-replicate n k [] [] h

whole_group : (g : List Kind) → length g ≤ 64 → take 64 (g ++ []) ≡ g
whole_group g h = ap (take 64) (append-nil g) ∙ take_all 64 g h

early : (words : List ℕ) (k count : ℕ) (kind : Kind) (items : List Item)
    → collected (step (cursor_with words (suc k) count false) (Item.entry kind)) items ≡ collected (cursor_with words (suc k) count false) items
early words k count kind items = ap (λ c. collected c items) (at_true (ltb 0 (suc k)) _ _ (lt-ltb 0 (suc k) (omega arith)))

-- What a cursor shows of a group.
abbrev pub Shows : Cursor → List Kind → Type 0
Shows c g = (c.words ≡ shown_as g) × (c.count ≡ length g)

-- From an open cursor, the entries so far and then those of the second looked for, at most 64.
pub collected_shows : (g : List Kind) (k : ℕ) (items : List Item) → length g ≤ 64
    → Shows (collected (cursor_with (shown_as g) k (length g) false) items) (take 64 (g ++ get_or (seconds items) k []))
unfolding collected seconds
collected_shows g k [] h = rw (whole_group g h) (refl, refl)
collected_shows g (suc k) (Item.entry kind ∷ items) h =
    rw (early (shown_as g) k (length g) kind items, get_d_later kind (seconds items) k) (collected_shows g (suc k) items h)
collected_shows g zero (Item.entry kind ∷ items) h = more (leb 64 (length g)) refl (λ a. collected_shows (g ++ (kind ∷ [])) 0 items a)
  where
    more : (b : Bool) → leb 64 (length g) ≡ b
        → (length (g ++ (kind ∷ [])) ≤ 64
        → Shows (collected (cursor_with (shown_as (g ++ (kind ∷ []))) 0 (length (g ++ (kind ∷ []))) false) items)
        (take 64 ((g ++ (kind ∷ [])) ++ get_or (seconds items) 0 [])))
        → Shows
        (collected
        (cond b (cursor_with (shown_as g) 0 (length g) true) (cursor_with (sets (shown_as g) (length g * 3) (entry_words kind)) 0 (length g + 1) false))
        items)
        (take 64 (g ++ get_or (in_first kind (seconds items)) 0 []))
    more true e rest =
        rw (
          stays (shown_as g) 0 (length g) items,
          take_at g (get_or (in_first kind (seconds items)) 0 []) 64 (omega (arith, leb-true 64 (length g) e)),
        )
        (refl, refl)
    more false e rest =
        let few = leb-false 64 (length g) e in
        let long : length (g ++ (kind ∷ [])) ≡ length g + 1 = length-append g (kind ∷ []) in
        rw (shown_more g kind few, ← long, head_in_first kind (seconds items), ← append_snoc g kind (get_or (seconds items) 0 []))
        (rest (omega arith))
collected_shows g k (Item.wait n ∷ items) h = more (leb n k) refl (collected_shows g (k - n) items h)
  where
    more : (b : Bool) → leb n k ≡ b
        → Shows (collected (cursor_with (shown_as g) (k - n) (length g) false) items) (take 64 (g ++ get_or (seconds items) (k - n) []))
        → Shows (collected (cond b (cursor_with (shown_as g) (k - n) (length g) false) (cursor_with (shown_as g) k (length g) true)) items)
        (take 64 (g ++ get_or (replicate n [] ++ seconds items) k []))
    more true e rest = rw (get_d_behind n k (seconds items) (leb-true n k e)) rest
    more false e rest =
        rw (get_d_within n k (seconds items) (leb-false n k e), whole_group g h, stays (shown_as g) k (length g) items) (refl, refl)
