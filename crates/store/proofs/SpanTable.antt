-- The table of spans: an entry of a macro by the spans below it, the entries one after another, and where the next macro starts in the pool.
use Prim.Native.Nat.{ℕ, zero, suc, ◌+◌, ◌*◌, ◌-◌, ◌≤◌, ◌<◌, min, max}
use mathlib.Core.Path.{◌≡◌, refl, sym, ap, ◌∙◌}
use mathlib.Core.List.{List, [], ◌∷◌, ◌++◌, append-nil, append_assoc}
use mathlib.Core.Bool.{Bool, true, false, cond, ◌&&◌, ◌||◌}
use native.Mathlib.Omega.{arith}
use lib.ListN.{length, get_or, set, length-set}
use lib.Seq.{get_or-set_same, get_or-set_other}
use lib.Dec.{ltb, eqb}
use borrow.Author.Tests.{ltb-true, ltb-false, lt-ltb, le-ltb, eqb-true, eqb-false, ne_eqb}
use Rattle.wire.specs.declared.kinds.Kind.{Kind}
use Rattle.wire.specs.declared.kinds.Command.{Command}
use Rattle.store.specs.declared.Store.{Store}
use Rattle.store.specs.declared.roles.Role.{Role}
use Rattle.store.specs.declared.spans.Beat.{Beat}
use Rattle.store.specs.declared.spans.Span.{Span}
use Rattle.store.specs.declared.spans.Measured.{Measured}
use Rattle.store.specs.Roles.{role_of}
use Rattle.store.specs.Pool.{is_closed, in_use, size_of, start_of, between, entries_of}
use Rattle.store.specs.WrittenOut.{Item, items_of, expand_as, expand, flat, most_in, written_out}
use Rattle.store.specs.SpanSteps.{waits_of, waited_of, first_in, last_in, most_of, span_with, span_of, no_span, entries_span, wait_span, grown}
use Rattle.store.specs.SpanSteps.{capped_of, joined_of, behind, length_of, told_span, spans_to, measured_to, TellsBelow, beat_of, beat_in}
use Rattle.store.specs.SpanSteps.{span_in, spans_from}
use Rattle.store.proofs.Flat.{items_append}
use Rattle.store.proofs.Parts.{look, part_of, parts_of, parts_are}
use Rattle.store.proofs.Seconds.{seconds-length, most_told}
use Rattle.store.proofs.SpanLaws.{span_join, capped_both, cap_last}

-- Two spans field by field; the most entries of two lists one after another, as the code works them out.
pub same_span : {a b c d a' b' c' d' : ℕ} {e e' : Bool} → a ≡ a' → b ≡ b' → c ≡ c' → d ≡ d' → e ≡ e' → span_with a b c d e ≡ span_with a' b' c' d' e'
same_span p q r s t = rw (p, q, r, s, t)

pub most_joined : (a b l f own ends most told : ℕ) → own ≡ max a b → ends ≡ min 65 (l + f) → most ≡ max own ends → told ≡ min 65 (most + 0)
    → told ≡ min 65 (max (max a b) (l + f))
most_joined a b l f own ends most told owns end both all =
    let same : most + 0 ≡ max (max a b) (min 65 (l + f)) = omega arith in
    all ∙ ap (λ n. min 65 n) same ∙ cap_last (max a b) (l + f)

-- The spans of nothing and of one item, as they are told.
none_told : no_span ≡ capped_of (span_of [])
unfolding waits_of first_in last_in most_of waited_of
none_told = refl

entry_told : (kind : Kind) → entries_span 1 ≡ capped_of (span_of (Item.entry kind ∷ []))
unfolding waits_of first_in last_in most_of waited_of
entry_told kind = refl

wait_told : (n : ℕ) → wait_span n ≡ capped_of (span_of (Item.wait n ∷ []))
unfolding waits_of first_in last_in most_of waited_of
wait_told n =
    let sum : n + 0 ≡ n = omega arith in
    rw sum (go (ltb 0 n))
  where
    go : (b : Bool) → span_with (min 601 n) 0 0 0 b ≡ span_with (min 601 n) (min 65 (cond b 0 0)) 0 0 (b || false)
    go true = refl
    go false = refl

-- By a table that tells the spans below m, an entry of macro m spans its part, and the entries together span the list.
module _ (s : Store) (m : ℕ) (table : List Span) (told : TellsBelow s m table) where
  run_told : (t : ℕ) → span_in s.closed table m (Beat.Run t) ≡ capped_of (span_of (items_of (look s m t)))
  run_told t = go (ltb t m) (is_closed s t) refl
    where
      go : (below closed : Bool) → ltb t m ≡ below
          → cond (below && closed) (get_or table t no_span) no_span ≡ capped_of (span_of (items_of (cond (below && closed) (flat s t) [])))
      go false false e = none_told
      go false true e = none_told
      go true false e = none_told
      go true true e = told t (ltb-true t m e)

  role_told : (kind : Kind) (role : Role) → role_of kind ≡ role
      → span_in s.closed table m (beat_of role) ≡ capped_of (span_of (items_of (expand_as (look s m) kind role)))
  role_told kind Role.Plain is = rw is (entry_told kind)
  role_told kind (Role.Open n) is = rw is (entry_told kind)
  role_told kind Role.Close is = rw is (entry_told kind)
  role_told kind (Role.Run t) is = run_told t
  role_told kind (Role.Wait n) is = rw is (wait_told n)
  role_told kind Role.Stop is = rw is (entry_told kind)
  role_told kind Role.Clear is = rw is (entry_told kind)

  pub span_told : (e : Command) → span_in s.closed table m (beat_in e) ≡ capped_of (span_of (items_of (part_of s m e)))
  span_told e = role_told e.kind (role_of e.kind) refl

  -- One entry behind a list.
  pub joined_told : (xs : List Item) (e : Command)
      → joined_of (capped_of (span_of xs)) (span_in s.closed table m (beat_in e)) ≡ capped_of (span_of (xs ++ items_of (part_of s m e)))
  joined_told xs e =
      ap (joined_of (capped_of (span_of xs))) (span_told e)
      ∙ capped_both (span_of xs) (span_of (items_of (part_of s m e)))
      ∙ ap capped_of (sym (span_join xs (items_of (part_of s m e))))

  pub spans_told : (xs : List Item) (es : List Command)
      → spans_from s.closed table m (capped_of (span_of xs)) es ≡ capped_of (span_of (xs ++ items_of (parts_of s m es)))
  unfolding spans_from expand
  spans_told xs [] = ap (λ l. capped_of (span_of l)) (sym (append-nil xs))
  spans_told xs (e ∷ es) =
      ap (λ sum. spans_from s.closed table m sum es) (joined_told xs e)
      ∙ spans_told (xs ++ items_of (part_of s m e)) es
      ∙ ap (λ l. capped_of (span_of l)) (append_assoc xs (items_of (part_of s m e)) (items_of (parts_of s m es)))
      ∙ ap (λ l. capped_of (span_of (xs ++ l))) (sym (items_append (part_of s m e) (parts_of s m es)))

  pub macro_span : spans_from s.closed table m no_span (entries_of s m) ≡ told_span s m
  macro_span =
      ap (λ sum. spans_from s.closed table m sum (entries_of s m)) none_told
      ∙ spans_told [] (entries_of s m)
      ∙ ap (λ ks. capped_of (span_of (items_of ks))) (sym (parts_are s m))

-- The table of the spans below n has a place for all eight macros, and tells those below n.
pub length-spans_to : (s : Store) (n : ℕ) → length (spans_to s n) ≡ 8
unfolding spans_to
length-spans_to s zero = refl
length-spans_to s (suc n) = rw length-set (length-spans_to s n)

pub spans_tell : (s : Store) (n : ℕ) → n ≤ 8 → TellsBelow s n (spans_to s n)
unfolding spans_to
spans_tell s zero h j below = absurd (omega arith)
spans_tell s (suc n) h j below = step (λ under. spans_tell s n (omega arith) j under) (eqb j n) refl
  where
    step : (j < n → get_or (spans_to s n) j no_span ≡ told_span s j)
        → (t : Bool) → eqb j n ≡ t → get_or (set (spans_to s n) n (told_span s n)) j no_span ≡ told_span s j
    step rest true e =
        rw (eqb-true j n e) (get_or-set_same (spans_to s n) n (told_span s n) no_span (omega (arith, length-spans_to s n)))
    step rest false e =
        get_or-set_other (spans_to s n) n j (told_span s n) no_span (eqb-false j n e) ∙ rest (omega (arith, eqb-false j n e))

-- The table of all eight spans tells each.
pub all_told : (s : Store) (table : List Span) → table ≡ spans_to s 8 → TellsBelow s 8 table
all_told s table is j below = rw is (spans_tell s 8 (omega arith) j below)

-- What is told of a macro: its seconds up to 601, and the most entries in one of them up to 65.
some_capped : (last : ℕ) → ltb 0 (min 65 last) ≡ ltb 0 last
some_capped last = go (ltb 0 last) refl
  where
    go : (b : Bool) → ltb 0 last ≡ b → ltb 0 (min 65 last) ≡ b
    go true e = lt-ltb 0 (min 65 last) (omega (arith, ltb-true 0 last e))
    go false e = le-ltb 0 (min 65 last) (omega (arith, ltb-false 0 last e))

seconds_capped : (b : Bool) (waits : ℕ) → min 601 (cond b (min 601 waits + 1) (min 601 waits)) ≡ min 601 (cond b (waits + 1) waits)
seconds_capped true waits = omega arith
seconds_capped false waits = omega arith

pub told_length : (s : Store) (m : ℕ) → length_of (told_span s m) ≡ min 601 (length (written_out s m))
unfolding written_out
told_length s m =
    let items = items_of (flat s m) in
    rw (some_capped (last_in items)) (seconds_capped (ltb 0 (last_in items)) (waits_of items)) ∙ ap (λ n. min 601 n) (sym (seconds-length items))

pub told_most : (s : Store) (m : ℕ) → (told_span s m).most ≡ min 65 (most_in (written_out s m))
unfolding written_out
told_most s m = ap (λ n. min 65 n) (most_told (items_of (flat s m)))

-- Where a macro starts is a small number, the counts being bytes.
size_small : (counts : List ℕ) (closed : List Bool) (opened m : ℕ) → get_or counts m 0 < 256 → size_of counts closed opened m ≤ 255
unfolding size_of
size_small counts closed opened m small = go (in_use closed opened m)
  where
    go : (used : Bool) → cond used (get_or counts m 0) 0 ≤ 255
    go true = omega arith
    go false = omega arith

pub start_small : (counts : List ℕ) (closed : List Bool) (opened m : ℕ) → ((j : ℕ) → get_or counts j 0 < 256)
    → start_of counts closed opened m ≤ m * 255
unfolding start_of
start_small counts closed opened zero small = omega arith
start_small counts closed opened (suc m) small =
    omega (arith, start_small counts closed opened m small, size_small counts closed opened m (small m))

-- The table with macro m's span added, by its entries, and where the next macro starts.
pub measured_more : (s : Store) (n m size : ℕ) (sum : Span) (below : Measured) → n ≤ 8 → m ≡ n - 1 → (n ≡ 0 → ⊥) → below ≡ measured_to s m
    → size ≡ size_of s.counts s.closed s.opened m
    → sum ≡ spans_from s.closed below.spans m no_span (between s.pool below.end size)
    → ◌≡◌ {A = Measured} (record { spans = set below.spans m sum; end = below.end + size }) (measured_to s n)
unfolding spans_to start_of entries_of
measured_more s zero m size sum below h e nonzero told sized summed = absurd (nonzero refl)
measured_more s (suc n) m size sum below h e nonzero told sized summed =
    rw (summed, sized, told, same, macro_span s n (spans_to s n) (spans_tell s n (omega arith)))
  where
    same : m ≡ n
    same = omega arith

-- Entries that are only counted are joined together: one more behind n of them makes n + 1 of them, told up to 65.
first_more : (w : Bool) (first n : ℕ) → min 65 (grown (w || false) (min 65 (grown w first n)) 1) ≡ min 65 (grown w first (min 65 (n + 1)))
first_more true first n = omega arith
first_more false first n = omega arith

last_more : (last n : ℕ) → min 65 (1 + min 65 (n + last)) ≡ min 65 (min 65 (n + 1) + last)
last_more last n = omega arith

or_none : (w : Bool) → ((w || false) || false) ≡ (w || false)
or_none true = refl
or_none false = refl

-- The most entries: a longest second of its own, or the one that goes on.
most_kept : (a z : ℕ) → 1 ≤ z → max (max a 1) z ≡ max a z
most_kept a z h = omega arith

most_capped : (y z : ℕ) → min 65 (max (min 65 y) z) ≡ min 65 (max y z)
most_capped y z = omega arith

most_on : (most x : ℕ) → min 65 (max (max most x) (min 65 x + 1)) ≡ min 65 (max most (x + 1))
most_on most x = omega arith

most_of_lem : (most last k : ℕ) → max (max most k) (last + k) ≡ max most (last + k)
most_of_lem most last k = omega arith

most_one : (most last n : ℕ) → min 65 (max most (last + min 65 (n + 1))) ≡ min 65 (max most (last + n + 1))
most_one most last n = omega arith

most_more : (most last n : ℕ)
    → min 65 (max (max (min 65 (max (max most n) (last + n))) 1) (min 65 (n + last) + 1))
    ≡ min 65 (max (max most (min 65 (n + 1))) (last + min 65 (n + 1)))
most_more most last n =
    let turn : n + last ≡ last + n = omega arith in
    let z = min 65 (last + n) + 1 in
    rw (turn, most_of_lem most last n, most_of_lem most last (min 65 (n + 1)), most_one most last n, most_kept (min 65 (max most (last + n))) z (omega arith))
    (most_capped (max most (last + n)) z ∙ most_on most (last + n))

joined_more : (a : Span) (n : ℕ) → joined_of (joined_of a (entries_span n)) (entries_span 1) ≡ joined_of a (entries_span (min 65 (n + 1)))
joined_more a n =
    let waits : min 601 (min 601 (a.waits + 0) + 0) ≡ min 601 (a.waits + 0) = omega arith in
    same_span waits (first_more a.waited a.first n) (last_more a.last n) (most_more a.most a.last n) (or_none a.waited)

pub behind_more : (a : Span) (n : ℕ) → joined_of (behind a n) (entries_span 1) ≡ behind a (min 65 (n + 1))
behind_more a zero = refl
behind_more a (suc n) =
    rw (ne_eqb (suc n) 0 (λ e. omega arith), ne_eqb (min 65 (suc n + 1)) 0 (λ e. omega arith)) (joined_more a (suc n))

-- The walk over a macro's entries: what is summed so far, the entries counted behind it, and what the entries from here on span.
module _ (closed : List Bool) (table : List Span) (m : ℕ) where
  pub sum_start : (es walked : List Command) → es ≡ walked → spans_from closed table m no_span es ≡ spans_from closed table m (behind no_span 0) walked
  sum_start es walked same = ap (spans_from closed table m no_span) same

  -- One turn leaves it: an entry that is handed over is counted, any other one joined.
  pub sum_counted : (sum : Span) (count next : ℕ) (e : Command) (es rest : List Command)
      → es ≡ e ∷ rest → Beat.Entry ≡ beat_in e → next ≡ min 65 (count + 1)
      → spans_from closed table m (behind sum count) es ≡ spans_from closed table m (behind sum next) rest
  unfolding spans_from
  sum_counted sum count next e es rest from beat counted =
      rw (from, ← beat, counted) (ap (λ span. spans_from closed table m span rest) (behind_more sum count))

  pub sum_joined : (sum held span next : Span) (count : ℕ) (beat : Beat) (e : Command) (es rest : List Command)
      → es ≡ e ∷ rest → beat ≡ beat_in e → span ≡ span_in closed table m beat → held ≡ behind sum count → next ≡ joined_of held span
      → spans_from closed table m (behind sum count) es ≡ spans_from closed table m (behind next 0) rest
  unfolding spans_from
  sum_joined sum held span next count beat e es rest from is spans holds joins = rw (from, ← is, joins, holds, spans)

  pub sum_end : (sum : Span) (es : List Command) → es ≡ [] → spans_from closed table m sum es ≡ sum
  unfolding spans_from
  sum_end sum es none = rw none
