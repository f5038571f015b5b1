-- A tally that is true of a store judges as the store's rows do, and stays true of it as accepted commands take effect.
use Prim.Native.Nat.{ℕ, ◌≤◌, ◌<◌}
use mathlib.Core.Path.{◌≡◌, refl, sym, ap, ◌∙◌, subst}
use mathlib.Core.Logic.{◌⊎◌, inl, inr}
use mathlib.Core.List.{List, [], ◌++◌}
use mathlib.Core.Bool.{Bool, true, false, cond, true≢false}
use native.Mathlib.Omega.{arith}
use lib.ListN.{length, get_or, set, length-set, get_or-eq_default, get_or-replicate}
use lib.Seq.{get_or-set_same, get_or-set_other}
use lib.Dec.{ltb, eqb}
use borrow.Author.Tests.{ltb-true, ltb-false, eqb-true, eqb-false, not-false, lt-ltb}
use Rattle.wire.specs.declared.kinds.Command.{Command}
use Rattle.wire.specs.Judge.{judge_code}
use Rattle.store.specs.declared.Store.{Store}
use Rattle.store.specs.declared.roles.Role.{Role}
use Rattle.store.specs.declared.spans.Span.{Span}
use Rattle.store.specs.declared.tally.Tally.{Tally}
use Rattle.store.specs.Roles.{role_of}
use Rattle.store.specs.Pool.{is_closed, used_in, entries_of, kept}
use Rattle.store.specs.WrittenOut.{items_of, flat, most_in, written_out}
use Rattle.store.specs.SpanSteps.{waits_of, waited_of, first_in, last_in, most_of, span_of, no_span, capped_of, joined_of, length_of, told_span, spans_to}
use Rattle.store.specs.SpanSteps.{beat_of, span_in}
use Rattle.store.specs.Checks.{permit_code}
use Rattle.store.specs.Effects.{opened_of, closed_of, cleared_of, executed_as, applied_of}
use Rattle.store.specs.TallySteps.{tally_of, store_of, open_span, takes_by, tally_code, appended_by, executed_by, tally_after, pool_after, Tallied}
use Rattle.store.proofs.Entries.{stored_as, stored_role}
use Rattle.store.proofs.Kept.{closed_entries, entries_none}
use Rattle.store.proofs.Flat.{items_append}
use Rattle.store.proofs.Parts.{part_of, none_past}
use Rattle.store.proofs.WrittenOut.{flat_is, flat_none}
use Rattle.store.proofs.SpanTable.{joined_told, length-spans_to, spans_tell, told_length, told_most}
use Rattle.store.proofs.Sound.{TargetBelow, Shaped, Good, closed_small, Extends, flat_stays, flats_stay, Passed, none_runs, InRange}
use Rattle.store.proofs.Sound.{judged_role, running_as, opened_extends, closed_extends, kept_extends, Appends, appends, applied_executed}
use Rattle.store.proofs.Sound.{executed_passed}
use Rattle.store.proofs.Running.{closed_lasts, kept-flat}
use Rattle.store.proofs.Laws.{over_capped, over_few}

-- A table has a place for each macro and tells the span of every one that is closed or open.
record Tells (s : Store) (table : List Span) : Type 0 where
  eight : length table ≡ 8
  spans : (m : ℕ) → (is_closed s m ≡ true) ⊎ (m ≡ s.opened) → get_or table m no_span ≡ told_span s m

-- A tally is true of a store by its table.
tells_of : (s : Store) (t : Tally) → Tallied s t → Tells s t.spans
tells_of s t is = record { eight = is.eight; spans = is.spans }

-- Macros with the same list span the same, and one whose list is empty spans nothing; so does a number that no macro has.
same_told : (s u : Store) (m : ℕ) → flat u m ≡ flat s m → told_span s m ≡ told_span u m
same_told s u m same = ap (λ ks. capped_of (span_of (items_of ks))) (sym same)

none_told : (s : Store) (m : ℕ) → flat s m ≡ [] → no_span ≡ told_span s m
unfolding waits_of first_in last_in most_of waited_of
none_told s m none = ap (λ ks. capped_of (span_of (items_of ks))) (sym none)

past_told : (s : Store) (table : List Span) (m : ℕ) → length s.counts ≡ 8 → length table ≡ 8 → 8 ≤ m → get_or table m no_span ≡ told_span s m
past_told s table m counts eight past =
    get_or-eq_default table no_span {n = m} (omega arith) ∙ none_told s m (none_past s m counts past)

-- A store's own tally is true of it.
pub tallied_own : (s : Store) → Shaped s → Tallied s (tally_of s)
tallied_own s shape = record { same = refl; eight = length-spans_to s 8; spans = λ m h. go m (ltb m 8) refl }
  where
    go : (m : ℕ) (b : Bool) → ltb m 8 ≡ b → get_or (spans_to s 8) m no_span ≡ told_span s m
    go m true e = spans_tell s 8 (omega arith) m (ltb-true m 8 e)
    go m false e = past_told s (spans_to s 8) m shape.counts (length-spans_to s 8) (ltb-false m 8 e)

-- The span of a new entry by a table is that by all spans below its macro: a RUN's target is closed, so its span is told.
part_told : (s : Store) (table : List Span) → Tells s table → (m : ℕ) → m ≤ 8 → (r : Role) → TargetBelow s m r
    → span_in s.closed table m (beat_of r) ≡ span_in s.closed (spans_to s m) m (beat_of r)
part_told s table tells m small Role.Plain target = refl
part_told s table tells m small (Role.Open k) target = refl
part_told s table tells m small Role.Close target = refl
part_told s table tells m small (Role.Run k) target =
    rw (lt-ltb k m target.0, target.1) (tells.spans k (inl target.1) ∙ sym (spans_tell s m small k target.0))
part_told s table tells m small (Role.Wait n) target = refl
part_told s table tells m small Role.Stop target = refl
part_told s table tells m small Role.Clear target = refl

-- What a table tells stays true, with the one place set that an accepted command changes.
module _ (s : Store) (good : Good s) (table : List Span) (tells : Tells s table) where
  -- A macro that was closed keeps its list and its place.
  closed_told : (u : Store) → Extends s u → (m : ℕ) → is_closed s m ≡ true → get_or table m no_span ≡ told_span u m
  closed_told u ext m c = tells.spans m (inl c) ∙ same_told s u m (flats_stay s u good ext m c)

  -- The open macro n alone is new; the other macros that are told are closed ones.
  set_tells : (u : Store) (n : ℕ) (span : Span) → Extends s u → u.closed ≡ s.closed → u.opened ≡ n → n < 8 → span ≡ told_span u n
      → Tells u (set table n span)
  set_tells u n span ext marks opened small own =
      record { eight = length-set table n span ∙ tells.eight; spans = λ m known. go m known (eqb m n) refl }
    where
      go : (m : ℕ) → (is_closed u m ≡ true) ⊎ (m ≡ u.opened) → (b : Bool) → eqb m n ≡ b → get_or (set table n span) m no_span ≡ told_span u m
      go m known true e = rw (eqb-true m n e) (get_or-set_same table n span no_span (omega (arith, tells.eight)) ∙ own)
      go m (inl c) false e = get_or-set_other table n m span no_span (eqb-false m n e) ∙ closed_told u ext m (rw marks at c)
      go m (inr is) false e = absurd (eqb-false m n e (is ∙ opened))

  -- OPEN: an empty macro spans nothing.
  opened_tells : (m : ℕ) → m < 8 → s.opened ≡ 255 → is_closed s m ≡ false → Tells (opened_of s m) (set table m no_span)
  opened_tells m small free u =
      set_tells (opened_of s m) m no_span (opened_extends s good.shaped m small free u) refl refl small
      (none_told (opened_of s m) m (rw (flat_is (opened_of s m) m, entries_none (opened_of s m) m count, flat_none (opened_of s m) m)))
    where
      count : get_or (set s.counts m 0) m 0 ≡ 0
      count = get_or-set_same s.counts m 0 0 (omega (arith, good.shaped.counts))

  -- An append: the open macro's span is joined with the new entry's, which is that of the entry as it is stored.
  kept_tells : (c : Command) → Appends s c
      → Tells (kept s c)
      (set table s.opened (joined_of (get_or table s.opened no_span) (span_in s.closed table s.opened (beat_of (role_of c.kind)))))
  unfolding kept
  kept_tells c a =
      set_tells (kept s c) m _ (kept_extends s good.shaped c a.small a.room good.marks.unclosed) refl refl a.small
      (joined (stored_as c) (stored_role c a.entry.allowed) (kept-flat s good c a.small a.room))
    where
      m : ℕ
      m = s.opened

      role : Role
      role = role_of c.kind

      all : List Span
      all = spans_to s m

      joined : (e : Command) → role_of e.kind ≡ role → flat (kept s c) m ≡ flat s m ++ part_of s m e
          → joined_of (get_or table m no_span) (span_in s.closed table m (beat_of role)) ≡ told_span (kept s c) m
      joined e same list =
          ap (λ span. joined_of span (span_in s.closed table m (beat_of role))) (tells.spans m (inr refl))
          ∙ ap (joined_of (told_span s m)) (part_told s table tells m (omega (arith, a.small)) role a.entry.target)
          ∙ ap (λ r. joined_of (told_span s m) (span_in s.closed all m (beat_of r))) (sym same)
          ∙ joined_told s m all (spans_tell s m (omega (arith, a.small))) (items_of (flat s m)) e
          ∙ ap (λ items. capped_of (span_of items)) (sym (items_append (flat s m) (part_of s m e)))
          ∙ ap (λ ks. capped_of (span_of (items_of ks))) (sym list)

  -- CLOSE: the open macro keeps its list and its place, and none is open.
  closed_tells : s.opened < 8 → Tells (closed_of s) table
  closed_tells small = record { eight = tells.eight; spans = go }
    where
      ext : Extends s (closed_of s)
      ext = closed_extends s good.shaped

      by : (m : ℕ) → is_closed (closed_of s) m ≡ true → (b : Bool) → eqb m s.opened ≡ b → get_or table m no_span ≡ told_span (closed_of s) m
      by m c true e =
          rw (eqb-true m s.opened e)
          (tells.spans s.opened (inr refl)
          ∙ same_told s (closed_of s) s.opened
          (flat_stays s (closed_of s) good ext s.opened
          (closed_entries s good.shaped.marks s.opened small)
          (good.sound.opened small good.marks.unclosed)))
      by m c false e =
          closed_told (closed_of s) ext m (sym (get_or-set_other s.closed s.opened m true false (eqb-false m s.opened e)) ∙ c)

      go : (m : ℕ) → (is_closed (closed_of s) m ≡ true) ⊎ (m ≡ 255) → get_or table m no_span ≡ told_span (closed_of s) m
      go m (inl c) = by m c (eqb m s.opened) refl
      go m (inr e) = past_told (closed_of s) table m good.shaped.counts tells.eight (omega arith)

  -- RUN and STOP: no list changes.
  running_tells : (running left : ℕ) → Tells (running_as s running left) table
  unfolding flat entries_of
  running_tells running left = record { eight = tells.eight; spans = tells.spans }

  -- CLEAR: no macro is closed or open.
  cleared_tells : Tells (cleared_of s) table
  cleared_tells = record { eight = tells.eight; spans = go }
    where
      go : (m : ℕ) → (is_closed (cleared_of s) m ≡ true) ⊎ (m ≡ 255) → get_or table m no_span ≡ told_span (cleared_of s) m
      go m (inl c) =
          let shape : Shaped (cleared_of s) = record { pool = good.shaped.pool; counts = refl; marks = refl } in
          absurd (true≢false (sym c ∙ get_or-replicate 8 m false false (closed_small (cleared_of s) shape m c)))
      go m (inr e) = past_told (cleared_of s) table m refl tells.eight (omega arith)

-- A store that is given by its pool and its tally, so that what the two share is the same by definition.
module _ (pool : List ℕ) (t : Tally) (tells : Tells (store_of pool t) t.spans) where
  -- Of rows 11 to 19 and 25 only 15 and 25 ask for a span, the open macro's.
  parts_code : (c : Command) → tally_code t c ≡ permit_code (store_of pool t) c
  unfolding tally_code permit_code
  parts_code c =
      let s = store_of pool t in
      let list = written_out s t.opened in
      let told : open_span t ≡ told_span s t.opened = tells.spans t.opened (inr refl) in
      let long : ltb 600 (length_of (open_span t)) ≡ ltb 600 (length list) =
      ap (λ (span : Span). ltb 600 (length_of span)) told ∙ ap (ltb 600) (told_length s t.opened) ∙ over_capped (length list) in
      let full : ltb 64 (open_span t).most ≡ ltb 64 (most_in list) =
      ap (λ (span : Span). ltb 64 span.most) told ∙ ap (ltb 64) (told_most s t.opened) ∙ over_few (most_in list) in
      rw (long, full)

  -- An executed command, by its role: only RUN asks for a length, of a closed macro, which the cap of 601 does not touch.
  executed_effect : Good (store_of pool t) → (r : Role) → Passed (store_of pool t) false r
      → store_of pool (executed_by t r) ≡ executed_as (store_of pool t) r
  executed_effect good Role.Plain h = refl
  executed_effect good (Role.Open m) h = refl
  executed_effect good Role.Close h = refl
  executed_effect good (Role.Run m) h =
      let closed = not-false (is_closed (store_of pool t) m) h.no18 in
      let most = (closed_lasts (store_of pool t) good m closed).most in
      ap (λ n. running_as (store_of pool t) m n)
      (ap length_of (tells.spans m (inl closed)) ∙ told_length (store_of pool t) m ∙ omega arith)
  executed_effect good (Role.Wait n) h = refl
  executed_effect good Role.Stop h = refl
  executed_effect good Role.Clear h = refl

  -- What the table tells after it.
  executed_tells : Good (store_of pool t) → (r : Role) → InRange r → Passed (store_of pool t) false r
      → Tells (executed_as (store_of pool t) r) (executed_by t r).spans
  executed_tells good Role.Plain range h = tells
  executed_tells good (Role.Open m) range h =
      opened_tells (store_of pool t) good t.spans tells m range (none_runs t.opened h.no12) h.no13
  executed_tells good Role.Close range h =
      closed_tells (store_of pool t) good t.spans tells (good.marks.opened (eqb-false t.opened 255 h.no11))
  executed_tells good (Role.Run m) range h = running_tells (store_of pool t) good t.spans tells m (length (written_out (store_of pool t) m))
  executed_tells good (Role.Wait n) range h = tells
  executed_tells good Role.Stop range h = running_tells (store_of pool t) good t.spans tells 255 0
  executed_tells good Role.Clear range h = cleared_tells (store_of pool t) good t.spans tells

  -- An accepted append is taken.
  taken : (c : Command) → Appends (store_of pool t) c → takes_by t ≡ true
  taken c a = rw (lt-ltb t.opened 8 a.small, lt-ltb (used_in (store_of pool t)) 192 a.room)

  -- An accepted command by its flag: its effect, and what the table tells afterwards.
  module _ (good : Good (store_of pool t)) (c : Command) (judge : judge_code c ≡ 0) (permit : permit_code (store_of pool t) c ≡ 0) where
    parts_effect : store_of (pool_after pool t c) (tally_after t c) ≡ applied_of (store_of pool t) c
    unfolding tally_after kept
    parts_effect = go c.flag refl
      where
        go : (b : Bool) → c.flag ≡ b → store_of (pool_after pool t c) (tally_after t c) ≡ applied_of (store_of pool t) c
        go true e =
            let a = appends (store_of pool t) good c e judge permit in
            rw (a.effect, e, taken c a)
        go false e =
            rw (applied_executed (store_of pool t) c e, e) (executed_effect good (role_of c.kind) (executed_passed (store_of pool t) c e permit))

    parts_tells : Tells (applied_of (store_of pool t) c) (tally_after t c).spans
    unfolding tally_after
    parts_tells = go c.flag refl
      where
        role : Role
        role = role_of c.kind

        go : (b : Bool) → c.flag ≡ b → Tells (applied_of (store_of pool t) c) (cond b (appended_by t role) (executed_by t role)).spans
        go true e =
            let a = appends (store_of pool t) good c e judge permit in
            rw (a.effect, taken c a) (kept_tells (store_of pool t) good t.spans tells c a)
        go false e =
            rw (applied_executed (store_of pool t) c e)
            (executed_tells good role (judged_role c judge) (executed_passed (store_of pool t) c e permit))

    parts_after : Tallied (applied_of (store_of pool t) c) (tally_after t c)
    parts_after =
        record {
          same = ap (λ u. store_of u.pool (tally_after t c)) (sym parts_effect) ∙ parts_effect;
          eight = parts_tells.eight;
          spans = parts_tells.spans;
        }

-- Rows 11 to 19 and 25 by a true tally are the store's.
pub tallied_code : (s : Store) (t : Tally) → Tallied s t → (c : Command) → tally_code t c ≡ permit_code s c
tallied_code s t is c =
    subst (λ u. Tells u t.spans → tally_code t c ≡ permit_code u c) is.same (λ tells. parts_code s.pool t tells c) (tells_of s t is)

-- An accepted command takes effect by the tally as it does on the store,
pub tallied_effect : (s : Store) (t : Tally) → Good s → Tallied s t → (c : Command) → judge_code c ≡ 0 → permit_code s c ≡ 0
    → store_of (pool_after s.pool t c) (tally_after t c) ≡ applied_of s c
tallied_effect s t good is c judge permit =
    subst (λ u. Tells u t.spans → Good u → permit_code u c ≡ 0 → store_of (pool_after s.pool t c) (tally_after t c) ≡ applied_of u c)
    is.same
    (λ tells good permit. parts_effect s.pool t tells good c judge permit)
    (tells_of s t is)
    good
    permit

-- and the tally is true of what it leaves.
pub tallied_after : (s : Store) (t : Tally) → Good s → Tallied s t → (c : Command) → judge_code c ≡ 0 → permit_code s c ≡ 0
    → Tallied (applied_of s c) (tally_after t c)
tallied_after s t good is c judge permit =
    subst (λ u. Tells u t.spans → Good u → permit_code u c ≡ 0 → Tallied (applied_of u c) (tally_after t c))
    is.same
    (λ tells good permit. parts_after s.pool t tells good c judge permit)
    (tells_of s t is)
    good
    permit
