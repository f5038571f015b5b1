-- A sound store as plain facts, and that every accepted command and every second keep it sound.
use Prim.Native.Nat.{ℕ, zero, suc, ◌+◌, ◌-◌, ◌≤◌, ◌<◌}
use mathlib.Core.Path.{◌≡◌, refl, sym, ap, ◌∙◌, subst}
use mathlib.Core.List.{List, [], ◌∷◌, ◌++◌}
use mathlib.Core.Bool.{Bool, true, false, cond, not, ◌&&◌, true≢false}
use native.Mathlib.Omega.{arith}
use lib.ListN.{length, get_or, set, replicate, length-set, length-replicate, get_or-eq_default, get_or-replicate}
use lib.Seq.{get_or-set_same, get_or-set_other}
use lib.Dec.{T, leb, ltb, eqb}
use borrow.Author.Tests.{ltb-true, ltb-false, leb-true, leb-false, eqb-true, eqb-false, not-true, not-false, lt-ltb, le-leb, lt-leb, eq-eqb, ne_eqb}
use Rattle.words.specs.Codes.{Check, first_of}
use Rattle.words.proofs.Tests.{both}
use Rattle.wire.specs.declared.kinds.Kind.{Kind}
use Rattle.wire.specs.declared.kinds.Command.{Command}
use Rattle.wire.specs.Judge.{judge_code}
use Rattle.store.specs.declared.Store.{Store}
use Rattle.store.specs.declared.roles.Role.{Role}
use Rattle.store.specs.Roles.{role_of}
use Rattle.store.specs.Pool.{count_of, is_closed, used_in, entries_of, kept}
use Rattle.store.specs.WrittenOut.{expand, flat, items_of, seconds, most_in, written_out}
use Rattle.store.specs.Checks.{row11, row12, row13, row14, row15, row25, row16, row17, row18, row19, permit_code, store_checks}
use Rattle.store.specs.Effects.{store_with, fresh_store, appended_of, opened_of, closed_of, started_of}
use Rattle.store.specs.Effects.{stopped_of, cleared_of, executed_as, applied_of, counted_down, after_second}
use Rattle.store.specs.Sound.{all_below, all_of, entry_holds, entries_hold, closed_holds, macro_holds, running_holds, pool_holds, store_sound}
use Rattle.store.proofs.Entries.{stored_as, stored_flag, stored_role, stored_judge}
use Rattle.store.proofs.Kept.{kept_own, kept_other, kept_used, kept-length, opened_entries, opened_used, closed_entries, closed_used}
use Rattle.store.proofs.Kept.{fresh_used, size_open, entries_length, entries_none}
use Rattle.store.proofs.Flat.{Each, TargetIn, RunsIn, flat_grown, written_same, items_append}
use Rattle.store.proofs.Parts.{part_of, parts_of, Kept, parts_are, part_run, part_kept}
use Rattle.store.proofs.Seconds.{length_closes}
use Rattle.store.proofs.WaitLaws.{seconds_longer}

-- A RUN's target is closed and below macro m; any other role has no target.
abbrev pub TargetBelow : Store → ℕ → Role → Type 0
TargetBelow s m Role.Plain = Unit
TargetBelow s m (Role.Open k) = Unit
TargetBelow s m Role.Close = Unit
TargetBelow s m (Role.Run k) = (k < m) × (is_closed s k ≡ true)
TargetBelow s m (Role.Wait n) = Unit
TargetBelow s m Role.Stop = Unit
TargetBelow s m Role.Clear = Unit

-- "each entry is a flag-1 command that passes 7 to 10 and, for a RUN, 17 and 18 as in its own macro"
pub record SoundEntry (s : Store) (m : ℕ) (e : Command) : Type 0 where
  pub flagged : e.flag ≡ true
  pub allowed : judge_code e ≡ 0
  pub target : TargetBelow s m (role_of e.kind)

-- "each closed one has 1 .. and a length of 1 to 600", and no second with more than 64 entries (02, Q-2).
pub record SoundClosed (s : Store) (m : ℕ) : Type 0 where
  pub some : 1 ≤ count_of s m
  pub lasts : 1 ≤ length (written_out s m)
  pub ends : length (written_out s m) ≤ 600
  pub few : most_in (written_out s m) ≤ 64
  pub entries : Each (SoundEntry s m) (entries_of s m)

-- "a running macro is closed with 1 to its length seconds left"
pub record SoundRunning (s : Store) : Type 0 where
  pub closed : is_closed s s.running ≡ true
  pub least : 1 ≤ s.left
  pub most : s.left ≤ length (written_out s s.running)

-- The store's part of a sound state: all macros together have at most 192 entries. A macro that is neither closed nor open is not judged.
pub record Sound (s : Store) : Type 0 where
  pub fits : used_in s ≤ 192
  pub closed : (m : ℕ) → m < 8 → is_closed s m ≡ true → SoundClosed s m
  pub opened : s.opened < 8 → is_closed s s.opened ≡ false → Each (SoundEntry s s.opened) (entries_of s s.opened)
  pub running : (s.running ≡ 255 → ⊥) → SoundRunning s

-- Two tests, both of which hold or do not.
and-true : (a b : Bool) → a ≡ true → b ≡ true → (a && b) ≡ true
and-true a b p q = rw (p, q)

-- A test of each entry and a fact of each entry.
each_of : (test : Command → Bool) (P : Command → Type 0) → ((e : Command) → test e ≡ true → P e)
    → (es : List Command) → all_of test es ≡ true → Each P es
unfolding all_of
each_of test P f [] h = tt
each_of test P f (e ∷ es) h = (f e (both (test e) (all_of test es) h).0, each_of test P f es (both (test e) (all_of test es) h).1)

of_each : (test : Command → Bool) (P : Command → Type 0) → ((e : Command) → P e → test e ≡ true)
    → (es : List Command) → Each P es → all_of test es ≡ true
unfolding all_of
of_each test P f [] h = refl
of_each test P f (e ∷ es) h = rw (f e h.0) (of_each test P f es h.1)

-- A weaker fact of each entry.
pub each_map : (P Q : Command → Type 0) → ((e : Command) → P e → Q e) → (es : List Command) → Each P es → Each Q es
each_map P Q f [] h = tt
each_map P Q f (e ∷ es) h = (f e h.0, each_map P Q f es h.1)

-- A test of every number below n and a fact of each.
pub below_of : (n : ℕ) (test : ℕ → Bool) → all_below n test ≡ true → (k : ℕ) → k < n → test k ≡ true
unfolding all_below
below_of zero test h k less = absurd (omega arith)
below_of (suc n) test h k less = go (eqb k n) refl (below_of n test (both (all_below n test) (test n) h).0 k)
  where
    go : (b : Bool) → eqb k n ≡ b → (k < n → test k ≡ true) → test k ≡ true
    go true e rest = ap test (eqb-true k n e) ∙ (both (all_below n test) (test n) h).1
    go false e rest = rest (let f : k ≡ n → ⊥ = eqb-false k n e in omega arith)

of_below : (n : ℕ) (test : ℕ → Bool) → ((k : ℕ) → k < n → test k ≡ true) → all_below n test ≡ true
unfolding all_below
of_below zero test h = refl
of_below (suc n) test h = rw (of_below n test (λ k less. h k (omega arith))) (h n (omega arith))

-- Rows 17 and 18 and the fact that they leave of a RUN's target.
target_of : (s : Store) (m : ℕ) (r : Role) → row17 true r m ≡ false → row18 r s.closed ≡ false → TargetBelow s m r
target_of s m Role.Plain below closed = tt
target_of s m (Role.Open k) below closed = tt
target_of s m Role.Close below closed = tt
target_of s m (Role.Run k) below closed = (leb-false m k below, not-false (is_closed s k) closed)
target_of s m (Role.Wait n) below closed = tt
target_of s m Role.Stop below closed = tt
target_of s m Role.Clear below closed = tt

of_target : (s : Store) (m : ℕ) (r : Role) → TargetBelow s m r → (row17 true r m ≡ false) × (row18 r s.closed ≡ false)
of_target s m Role.Plain h = (refl, refl)
of_target s m (Role.Open k) h = (refl, refl)
of_target s m Role.Close h = (refl, refl)
of_target s m (Role.Run k) h = (lt-leb m k h.0, ap not h.1)
of_target s m (Role.Wait n) h = (refl, refl)
of_target s m Role.Stop h = (refl, refl)
of_target s m Role.Clear h = (refl, refl)

-- Clause by clause, the test and the record.
entry_of : (s : Store) (m : ℕ) (e : Command) → entry_holds s.closed m e ≡ true → SoundEntry s m e
entry_of s m e h =
    let role = role_of e.kind in
    let below = row17 e.flag role m in
    let closed = row18 role s.closed in
    let h4 = both (e.flag && eqb (judge_code e) 0 && not below) (not closed) h in
    let h3 = both (e.flag && eqb (judge_code e) 0) (not below) h4.0 in
    let h2 = both e.flag (eqb (judge_code e) 0) h3.0 in
    let upward : row17 true role m ≡ false = ap (λ flag. row17 flag role m) (sym h2.0) ∙ not-true below h3.1 in
    record { flagged = h2.0; allowed = eqb-true (judge_code e) 0 h2.1; target = target_of s m role upward (not-true closed h4.1) }

of_entry : (s : Store) (m : ℕ) (e : Command) → SoundEntry s m e → entry_holds s.closed m e ≡ true
of_entry s m e h =
    let role = role_of e.kind in
    let target = of_target s m role h.target in
    let below : row17 e.flag role m ≡ false = ap (λ flag. row17 flag role m) h.flagged ∙ target.0 in
    and-true (e.flag && eqb (judge_code e) 0 && not (row17 e.flag role m)) (not (row18 role s.closed))
    (and-true (e.flag && eqb (judge_code e) 0) (not (row17 e.flag role m))
    (and-true e.flag (eqb (judge_code e) 0) h.flagged (eq-eqb (judge_code e) 0 h.allowed))
    (ap not below))
    (ap not target.1)

entries_of_lem : (s : Store) (m : ℕ) → entries_hold s m ≡ true → Each (SoundEntry s m) (entries_of s m)
entries_of_lem s m h = each_of (entry_holds s.closed m) (SoundEntry s m) (entry_of s m) (entries_of s m) h

of_entries : (s : Store) (m : ℕ) → Each (SoundEntry s m) (entries_of s m) → entries_hold s m ≡ true
of_entries s m h = of_each (entry_holds s.closed m) (SoundEntry s m) (of_entry s m) (entries_of s m) h

pub closed_of_lem : (s : Store) (m : ℕ) → closed_holds s m ≡ true → SoundClosed s m
closed_of_lem s m h =
    let n = count_of s m in
    let l = length (written_out s m) in
    let most = most_in (written_out s m) in
    let h5 = both (leb 1 n && leb 1 l && leb l 600 && leb most 64) (entries_hold s m) h in
    let h4 = both (leb 1 n && leb 1 l && leb l 600) (leb most 64) h5.0 in
    let h3 = both (leb 1 n && leb 1 l) (leb l 600) h4.0 in
    let h2 = both (leb 1 n) (leb 1 l) h3.0 in
    record {
      some = leb-true 1 n h2.0;
      lasts = leb-true 1 l h2.1;
      ends = leb-true l 600 h3.1;
      few = leb-true most 64 h4.1;
      entries = entries_of_lem s m h5.1;
    }

of_closed : (s : Store) (m : ℕ) → SoundClosed s m → closed_holds s m ≡ true
of_closed s m h =
    let n = count_of s m in
    let l = length (written_out s m) in
    let most = most_in (written_out s m) in
    rw (le-leb 1 n h.some, le-leb 1 l h.lasts, le-leb l 600 h.ends, le-leb most 64 h.few) (of_entries s m h.entries)

running_of : (s : Store) → running_holds s ≡ true → (s.running ≡ 255 → ⊥) → SoundRunning s
running_of s h busy =
    let l = length (written_out s s.running) in
    let c = is_closed s s.running in
    let p = both (c && leb 1 s.left) (leb s.left l) (rw (ne_eqb s.running 255 busy) at h) in
    let q = both c (leb 1 s.left) p.0 in
    record { closed = q.0; least = leb-true 1 s.left q.1; most = leb-true s.left l p.1 }

of_running : (s : Store) → ((s.running ≡ 255 → ⊥) → SoundRunning s) → running_holds s ≡ true
of_running s h = go (eqb s.running 255) refl
  where
    go : (b : Bool) → eqb s.running 255 ≡ b → running_holds s ≡ true
    go true e = rw e
    go false e =
        let r = h (eqb-false s.running 255 e) in
        let l = length (written_out s s.running) in
        rw (e, r.closed, le-leb 1 s.left r.least) (le-leb s.left l r.most)

-- Each macro by the marks.
macro_of : (s : Store) → Sound s → (m : ℕ) → m < 8 → macro_holds s m ≡ true
macro_of s h m small = go (is_closed s m) refl (eqb s.opened m) refl
  where
    go : (c : Bool) → is_closed s m ≡ c → (o : Bool) → eqb s.opened m ≡ o → macro_holds s m ≡ true
    go true c o e = rw c (of_closed s m (h.closed m small c))
    go false c false e = rw (c, e)
    go false c true e =
        let same : s.opened ≡ m = eqb-true s.opened m e in
        rw (c, e) (of_entries s m (subst (λ k. Each (SoundEntry s k) (entries_of s k)) same (h.opened (rw same small) (rw same c))))

-- The test and the record say the same.
pub sound_of : (s : Store) → store_sound s ≡ true → Sound s
unfolding store_sound
sound_of s h =
    let p = both (pool_holds s && all_below 8 (macro_holds s)) (running_holds s) h in
    let q = both (pool_holds s) (all_below 8 (macro_holds s)) p.0 in
    let macros : (m : ℕ) → m < 8 → macro_holds s m ≡ true = below_of 8 (macro_holds s) q.1 in
    record {
      fits = leb-true (used_in s) 192 q.0;
      closed = λ m small c. closed_of_lem s m (rw c at (macros m small));
      opened = λ small c. entries_of_lem s s.opened (rw (c, eq-eqb s.opened s.opened refl) at (macros s.opened small));
      running = running_of s p.1;
    }

pub of_sound : (s : Store) → Sound s → store_sound s ≡ true
unfolding store_sound
of_sound s h =
    and-true (pool_holds s && all_below 8 (macro_holds s)) (running_holds s)
    (and-true (pool_holds s) (all_below 8 (macro_holds s)) (le-leb (used_in s) 192 h.fits) (of_below 8 (macro_holds s) (macro_of s h)))
    (of_running s h.running)

-- What every store has by its type: a pool of three words to each of 192 entries, eight counts and eight marks.
pub record Shaped (s : Store) : Type 0 where
  pub pool : length s.pool ≡ 576
  pub counts : length s.counts ≡ 8
  pub marks : length s.closed ≡ 8

-- What the status frame's rules add.
pub record Marks (s : Store) : Type 0 where
  pub opened : (s.opened ≡ 255 → ⊥) → s.opened < 8
  pub running : (s.running ≡ 255 → ⊥) → s.running < 8
  pub unclosed : is_closed s s.opened ≡ false
  pub idle : s.running ≡ 255 → s.left ≡ 0
  pub done : s.left ≡ 0 → s.running ≡ 255
  pub most : s.left ≤ 600

-- All that a bench knows of its store.
pub record Good (s : Store) : Type 0 where
  pub shaped : Shaped s
  pub sound : Sound s
  pub marks : Marks s

-- So a bench makes it of its own test of soundness.
pub good_of : (s : Store) → Shaped s → store_sound s ≡ true → Marks s → Good s
good_of s shape sound marks = record { shaped = shape; sound = sound_of s sound; marks = marks }

-- Only the eight macros can be closed.
pub mark_small : (marks : List Bool) (m : ℕ) → length marks ≡ 8 → get_or marks m false ≡ true → m < 8
mark_small marks m eight c = go (ltb m 8) refl
  where
    go : (b : Bool) → ltb m 8 ≡ b → m < 8
    go true e = ltb-true m 8 e
    go false e = absurd (true≢false (sym c ∙ get_or-eq_default marks false (let le : 8 ≤ m = ltb-false m 8 e in omega arith)))

pub closed_small : (s : Store) → Shaped s → (m : ℕ) → is_closed s m ≡ true → m < 8
closed_small s shape m c = mark_small s.closed m shape.marks c

-- Store t has the closed macros of s, closed and with the same entries.
pub record Extends (s t : Store) : Type 0 where
  pub marks : (k : ℕ) → is_closed s k ≡ true → is_closed t k ≡ true
  pub counts : (k : ℕ) → is_closed s k ≡ true → count_of t k ≡ count_of s k
  pub entries : (k : ℕ) → is_closed s k ≡ true → entries_of t k ≡ entries_of s k

-- A store that is left as it was.
pub extends_self : (s : Store) → Extends s s
extends_self s = record { marks = λ k c. c; counts = λ k c. refl; entries = λ k c. refl }

-- The entries of a sound macro run closed ones only.
target_in : (s : Store) (m : ℕ) (r : Role) → TargetBelow s m r → TargetIn (is_closed s) r
target_in s m Role.Plain h = tt
target_in s m (Role.Open k) h = tt
target_in s m Role.Close h = tt
target_in s m (Role.Run k) h = h.1
target_in s m (Role.Wait n) h = tt
target_in s m Role.Stop h = tt
target_in s m Role.Clear h = tt

runs_in : (s : Store) (m : ℕ) (es : List Command) → Each (SoundEntry s m) es → RunsIn (is_closed s) es
runs_in s m es h =
    each_map (SoundEntry s m) (λ e. TargetIn (is_closed s) (role_of e.kind)) (λ e p. target_in s m (role_of e.kind) p.target) es h

-- 01, "closed macros stay fixed": where the closed macros are kept, so are their lists, RUNs replaced, and their written-out lists; and those of any
-- other macro whose entries are kept and sound.
module _ (s t : Store) (good : Good s) (ext : Extends s t) where
  pub flat_stays : (m : ℕ) → entries_of t m ≡ entries_of s m → Each (SoundEntry s m) (entries_of s m) → flat t m ≡ flat s m
  flat_stays m own entries =
      sym
      (flat_grown s t ext.marks (λ k c. sym (ext.entries k c))
      (λ k c. runs_in s k (entries_of s k) (good.sound.closed k (closed_small s good.shaped k c) c).entries)
      m
      (sym own)
      (runs_in s m (entries_of s m) entries))

  pub flats_stay : (m : ℕ) → is_closed s m ≡ true → flat t m ≡ flat s m
  flats_stay m c = flat_stays m (ext.entries m c) (good.sound.closed m (closed_small s good.shaped m c) c).entries

  pub list_stays : (m : ℕ) → entries_of t m ≡ entries_of s m → Each (SoundEntry s m) (entries_of s m) → written_out t m ≡ written_out s m
  list_stays m own entries = written_same t s m m (flat_stays m own entries)

  pub lists_stay : (m : ℕ) → is_closed s m ≡ true → written_out t m ≡ written_out s m
  lists_stay m c = written_same t s m m (flats_stay m c)

  -- So are the facts about its entries,
  target_stays : (m : ℕ) (r : Role) → TargetBelow s m r → TargetBelow t m r
  target_stays m Role.Plain h = tt
  target_stays m (Role.Open k) h = tt
  target_stays m Role.Close h = tt
  target_stays m (Role.Run k) h = (h.0, ext.marks k h.1)
  target_stays m (Role.Wait n) h = tt
  target_stays m Role.Stop h = tt
  target_stays m Role.Clear h = tt

  entry_stays : (m : ℕ) (e : Command) → SoundEntry s m e → SoundEntry t m e
  entry_stays m e h = record { flagged = h.flagged; allowed = h.allowed; target = target_stays m (role_of e.kind) h.target }

  entries_stay : (m : ℕ) (es : List Command) → Each (SoundEntry s m) es → Each (SoundEntry t m) es
  entries_stay m es h = each_map (SoundEntry s m) (SoundEntry t m) (entry_stays m) es h

  -- about a closed macro,
  closed_stays : (m : ℕ) → is_closed s m ≡ true → SoundClosed t m
  closed_stays m c =
      let h = good.sound.closed m (closed_small s good.shaped m c) c in
      record {
        some = rw (ext.counts m c) h.some;
        lasts = rw (lists_stay m c) h.lasts;
        ends = rw (lists_stay m c) h.ends;
        few = rw (lists_stay m c) h.few;
        entries = rw (ext.entries m c) (entries_stay m (entries_of s m) h.entries);
      }

  -- about the open macro where its entries are kept,
  open_stays : (m : ℕ) → entries_of t m ≡ entries_of s m → Each (SoundEntry s m) (entries_of s m) → Each (SoundEntry t m) (entries_of t m)
  open_stays m same h = rw same (entries_stay m (entries_of s m) h)

  -- and about the running one.
  running_stays : t.running ≡ s.running → t.left ≡ s.left → SoundRunning s → SoundRunning t
  running_stays running left h =
      let same : length (written_out t t.running) ≡ length (written_out s s.running) =
      ap (λ k. length (written_out t k)) running ∙ ap length (lists_stay s.running h.closed) in
      record {
        closed = rw running (ext.marks s.running h.closed);
        least = rw left h.least;
        most = omega (arith, h.most);
      }

-- The first row that holds gives the code: none holds where it is 0.
abbrev pub NoneDue : List Check → Type 0
NoneDue [] = Unit
NoneDue (c ∷ cs) = (c.due ≡ false) × NoneDue cs

-- Every row has a code other than 0.
abbrev pub Coded : List Check → Type 0
Coded [] = Unit
Coded (c ∷ cs) = T (not (eqb c.code 0)) × Coded cs

pub none_due : (cs : List Check) → Coded cs → first_of cs ≡ 0 → NoneDue cs
none_due [] coded h = tt
none_due (c ∷ cs) coded h = go c.due refl (none_due cs coded.1)
  where
    go : (b : Bool) → c.due ≡ b → (first_of cs ≡ 0 → NoneDue cs) → NoneDue (c ∷ cs)
    go true e rest = absurd (rw (eq-eqb c.code 0 (rw e at h)) at coded.0)
    go false e rest = (e, rest (rw e at h))

-- The number that stands for none, by the test of rows 12 and 19.
pub none_runs : (n : ℕ) → not (eqb n 255) ≡ false → n ≡ 255
none_runs n h = eqb-true n 255 (not-false (eqb n 255) h)

-- What an accepted command passed: none of rows 11 to 19 holds, nor 25.
pub record Passed (s : Store) (flag : Bool) (role : Role) : Type 0 where
  pub no11 : row11 flag role s.opened ≡ false
  pub no12 : row12 role s.opened ≡ false
  pub no13 : row13 role s.closed ≡ false
  pub no14 : row14 role (count_of s s.opened) ≡ false
  pub no15 : row15 role (length (written_out s s.opened)) ≡ false
  pub no25 : row25 role (most_in (written_out s s.opened)) ≡ false
  pub no16 : row16 flag (used_in s) ≡ false
  pub no17 : row17 flag role s.opened ≡ false
  pub no18 : row18 role s.closed ≡ false
  pub no19 : row19 flag role s.running ≡ false

pub passes : (s : Store) (c : Command) → permit_code s c ≡ 0 → Passed s c.flag (role_of c.kind)
unfolding permit_code
passes s c h =
    let none = none_due (store_checks s c) (tt, (tt, (tt, (tt, (tt, (tt, (tt, (tt, (tt, (tt, tt)))))))))) h in
    record {
      no11 = none.0;
      no12 = none.1.0;
      no13 = none.1.1.0;
      no14 = none.1.1.1.0;
      no15 = none.1.1.1.1.0;
      no25 = none.1.1.1.1.1.0;
      no16 = none.1.1.1.1.1.1.0;
      no17 = none.1.1.1.1.1.1.1.0;
      no18 = none.1.1.1.1.1.1.1.1.0;
      no19 = none.1.1.1.1.1.1.1.1.1.0;
    }

-- What rows 8 to 10 leave of a role's number.
abbrev pub InRange : Role → Type 0
InRange Role.Plain = Unit
InRange (Role.Open m) = m < 8
InRange Role.Close = Unit
InRange (Role.Run m) = m < 8
InRange (Role.Wait n) = 1 ≤ n
InRange Role.Stop = Unit
InRange Role.Clear = Unit

within : (low high value rest : ℕ) → cond (not (eqb (cond (leb low value && leb value high) 0 1) 0)) 8 rest ≡ 0 → (low ≤ value) × (value ≤ high)
within low high value rest h = go (leb low value && leb value high) refl
  where
    go : (b : Bool) → (leb low value && leb value high) ≡ b → (low ≤ value) × (value ≤ high)
    go true e =
        let p = both (leb low value) (leb value high) e in
        (leb-true low value p.0, leb-true value high p.1)
    go false e = absurd (let z : 8 ≡ 0 = rw e at h in omega arith)

judged_kind : (flag : Bool) (kind : Kind) → judge_code (record { flag = flag; kind = kind }) ≡ 0 → InRange (role_of kind)
unfolding judge_code
judged_kind flag (Kind.ImgPwr mode) h = tt
judged_kind flag (Kind.ImgRegion x y) h = tt
judged_kind flag (Kind.ImgTrack time interval) h = tt
judged_kind flag (Kind.TrkAlg mode) h = tt
judged_kind flag (Kind.TrkLoop mode) h = tt
judged_kind flag (Kind.ImgImage time interval) h = tt
judged_kind flag (Kind.TrkGoal x y) h = tt
judged_kind flag Kind.TlmFlush h = tt
judged_kind flag (Kind.FlushAuto mode) h = tt
judged_kind flag (Kind.Open number) h = omega (arith, (within 0 7 number _ h).1)
judged_kind flag Kind.Close h = tt
judged_kind flag (Kind.Run number) h = omega (arith, (within 0 7 number _ h).1)
judged_kind flag (Kind.Wait seconds) h = (within 1 600 seconds _ h).0
judged_kind flag Kind.Stop h = tt
judged_kind flag Kind.Clear h = tt

pub judged_role : (c : Command) → judge_code c ≡ 0 → InRange (role_of c.kind)
judged_role c h = judged_kind c.flag c.kind h

-- Every sound entry lasts at least a second, and so does the open macro where it has entries.
kept_lasts : (kind : Kind) (r : Role) → role_of kind ≡ r → InRange r → Kept r → 1 ≤ length (seconds (items_of (kind ∷ [])))
unfolding seconds
kept_lasts kind Role.Plain role range itself = rw role (omega arith)
kept_lasts kind (Role.Open m) role range itself = rw role (omega arith)
kept_lasts kind Role.Close role range itself = rw role (omega arith)
kept_lasts kind (Role.Run m) role range itself = absurd itself
kept_lasts kind (Role.Wait n) role range itself = rw (role, length_closes n []) (omega arith)
kept_lasts kind Role.Stop role range itself = rw role (omega arith)
kept_lasts kind Role.Clear role range itself = rw role (omega arith)

part_lasts : (s : Store) → Good s → (m : ℕ) (e : Command) (r : Role) → role_of e.kind ≡ r → InRange r → TargetBelow s m r
    → 1 ≤ length (seconds (items_of (part_of s m e)))
unfolding written_out
part_lasts s good m e Role.Plain role range target = rw (part_kept s m e Role.Plain role tt) (kept_lasts e.kind Role.Plain role range tt)
part_lasts s good m e (Role.Open k) role range target = rw (part_kept s m e (Role.Open k) role tt) (kept_lasts e.kind (Role.Open k) role range tt)
part_lasts s good m e Role.Close role range target = rw (part_kept s m e Role.Close role tt) (kept_lasts e.kind Role.Close role range tt)
part_lasts s good m e (Role.Run k) role range target =
    rw (part_run s m k e role target.0 target.1) (good.sound.closed k range target.1).lasts
part_lasts s good m e (Role.Wait n) role range target = rw (part_kept s m e (Role.Wait n) role tt) (kept_lasts e.kind (Role.Wait n) role range tt)
part_lasts s good m e Role.Stop role range target = rw (part_kept s m e Role.Stop role tt) (kept_lasts e.kind Role.Stop role range tt)
part_lasts s good m e Role.Clear role range target = rw (part_kept s m e Role.Clear role tt) (kept_lasts e.kind Role.Clear role range tt)

entries_last : (s : Store) → Good s → (m : ℕ) (es : List Command) → Each (SoundEntry s m) es → 1 ≤ length es
    → 1 ≤ length (seconds (items_of (parts_of s m es)))
unfolding expand
entries_last s good m [] h some = absurd (omega arith)
entries_last s good m (e ∷ es) h some =
    let first = part_lasts s good m e (role_of e.kind) refl (judged_role e h.0.allowed) h.0.target in
    rw (items_append (part_of s m e) (parts_of s m es))
    (omega (arith, first, seconds_longer (items_of (part_of s m e)) (items_of (parts_of s m es))))

macro_lasts : (s : Store) → Good s → s.opened < 8 → 1 ≤ count_of s s.opened → Each (SoundEntry s s.opened) (entries_of s s.opened)
    → 1 ≤ length (written_out s s.opened)
unfolding written_out
macro_lasts s good small some entries =
    let m = s.opened in
    let long = entries_length s m good.shaped.pool good.sound.fits small in
    rw (parts_are s m) (entries_last s good m (entries_of s m) entries (omega (arith, long, size_open s)))

-- No macro open, closed or running: a fresh store, and one just cleared.
good_empty : (pool : List ℕ) (running left : ℕ) → length pool ≡ 576 → running ≡ 255 → left ≡ 0
    → Good (store_with pool (replicate 8 0) (replicate 8 false) 255 running left)
good_empty pool running left long idle none =
    record {
      shaped = record { pool = long; counts = refl; marks = refl };
      sound =
          record {
            fits = rw fresh_used (omega arith);
            closed = λ m small c. absurd (true≢false (sym c ∙ get_or-replicate 8 m false false small));
            opened = λ small c. absurd (omega arith);
            running = λ busy. absurd (busy idle);
          };
      marks =
          record {
            opened = λ some. absurd (some refl);
            running = λ busy. absurd (busy idle);
            unclosed = refl;
            idle = λ e. none;
            done = λ e. idle;
            most = omega arith;
          };
    }

-- 01: "Fresh: .. no macro open, closed or running" is sound.
pub fresh_good : Good fresh_store
fresh_good = good_empty (replicate 576 0) 255 0 (length-replicate {A = ℕ} 576 0) refl refl

-- The store with another macro running, or none, and other seconds left: all that is to be shown is about these two.
abbrev pub running_as : Store → ℕ → ℕ → Store
running_as s running left = store_with s.pool s.counts s.closed s.opened running left

pub runs_extends : (s : Store) (running left : ℕ) → Extends s (running_as s running left)
unfolding entries_of
runs_extends s running left = record { marks = λ k c. c; counts = λ k c. refl; entries = λ k c. refl }

good_running : (s : Store) → Good s → (running left : ℕ) → ((running ≡ 255 → ⊥) → is_closed s running ≡ true)
    → ((running ≡ 255 → ⊥) → (1 ≤ left) × (left ≤ length (written_out s running)))
    → (running ≡ 255 → left ≡ 0) → Good (running_as s running left)
unfolding entries_of
good_running s good running left closed range none =
    record {
      shaped = record { pool = good.shaped.pool; counts = good.shaped.counts; marks = good.shaped.marks };
      sound =
          record {
            fits = good.sound.fits;
            closed = λ m small c. closed_stays s t good ext m c;
            opened = λ small c. open_stays s t good ext s.opened refl (good.sound.opened small c);
            running = λ busy.
                record {
                  closed = closed busy;
                  least = (range busy).0;
                  most = rw (lists_stay s t good ext running (closed busy)) (range busy).1;
                };
          };
      marks =
          record {
            opened = good.marks.opened;
            running = λ busy. closed_small s good.shaped running (closed busy);
            unclosed = good.marks.unclosed;
            idle = none;
            done = (go (eqb running 255) refl).0;
            most = (go (eqb running 255) refl).1;
          };
    }
  where
    t : Store
    t = running_as s running left

    ext : Extends s t
    ext = runs_extends s running left

    go : (b : Bool) → eqb running 255 ≡ b → (left ≡ 0 → running ≡ 255) × (left ≤ 600)
    go true e = (λ _. eqb-true running 255 e, omega (arith, none (eqb-true running 255 e)))
    go false e =
        let busy = eqb-false running 255 e in
        let c = closed busy in
        let ends = (good.sound.closed running (closed_small s good.shaped running c) c).ends in
        (λ z. absurd (omega (arith, (range busy).0)), omega (arith, (range busy).1))

-- STOP, and RUN of a closed macro.
pub stopped_keeps : (s : Store) → Good s → Good (stopped_of s)
stopped_keeps s good = good_running s good 255 0 (λ busy. absurd (busy refl)) (λ busy. absurd (busy refl)) (λ e. refl)

pub started_keeps : (s : Store) → Good s → (m : ℕ) → is_closed s m ≡ true → Good (started_of s m)
started_keeps s good m c =
    let small = closed_small s good.shaped m c in
    let h = good.sound.closed m small c in
    good_running s good m (length (written_out s m)) (λ busy. c) (λ busy. (h.lasts, omega arith)) (λ e. absurd (omega arith))

-- A second keeps a store sound too.
counted_keeps : (s : Store) → Good s → (s.running ≡ 255 → ⊥) → Good (counted_down s)
counted_keeps s good busy = go (eqb (s.left - 1) 0) refl
  where
    go : (b : Bool) → eqb (s.left - 1) 0 ≡ b → Good (running_as s (cond b 255 s.running) (s.left - 1))
    go true e = good_running s good 255 (s.left - 1) (λ some. absurd (some refl)) (λ some. absurd (some refl)) (λ _. eqb-true (s.left - 1) 0 e)
    go false e =
        let h = good.sound.running busy in
        let more = eqb-false (s.left - 1) 0 e in
        good_running s good s.running (s.left - 1) (λ _. h.closed) (λ _. (omega arith, omega (arith, h.most))) (λ e. absurd (busy e))

pub second_keeps : (s : Store) → Good s → Good (after_second s)
second_keeps s good = go (eqb s.running 255) refl
  where
    go : (b : Bool) → eqb s.running 255 ≡ b → Good (cond b s (counted_down s))
    go true e = good
    go false e = counted_keeps s good (eqb-false s.running 255 e)

-- CLEAR while nothing runs.
pub cleared_keeps : (s : Store) → Good s → s.running ≡ 255 → Good (cleared_of s)
cleared_keeps s good free = good_empty s.pool s.running s.left good.shaped.pool free (good.marks.idle free)

-- Other macros, and another one open, while the run stays.
marks_with : (s : Store) → Good s → (pool counts : List ℕ) (closed : List Bool) (opened : ℕ)
    → ((opened ≡ 255 → ⊥) → opened < 8) → get_or closed opened false ≡ false
    → Marks (store_with pool counts closed opened s.running s.left)
marks_with s good pool counts closed opened small unclosed =
    record {
      opened = small;
      running = good.marks.running;
      unclosed = unclosed;
      idle = good.marks.idle;
      done = good.marks.done;
      most = good.marks.most;
    }

-- A closed macro is not one that is not closed.
differs : (s : Store) (k m : ℕ) → is_closed s k ≡ true → is_closed s m ≡ false → k ≡ m → ⊥
differs s k m c u e = true≢false (sym c ∙ ap (is_closed s) e ∙ u)

-- OPEN of a macro that is not closed, while none is open.
pub opened_extends : (s : Store) → Shaped s → (m : ℕ) → m < 8 → s.opened ≡ 255 → is_closed s m ≡ false → Extends s (opened_of s m)
opened_extends s shape m small free u =
    record {
      marks = λ k c. c;
      counts = λ k c. get_or-set_other s.counts m k 0 0 (differs s k m c u);
      entries = λ k c. opened_entries s m shape.counts (omega arith) small u k (closed_small s shape k c);
    }

pub opened_keeps : (s : Store) → Good s → (m : ℕ) → m < 8 → s.opened ≡ 255 → is_closed s m ≡ false → Good (opened_of s m)
opened_keeps s good m small free u =
    record {
      shaped = record { pool = good.shaped.pool; counts = length-set s.counts m 0 ∙ good.shaped.counts; marks = good.shaped.marks };
      sound =
          record {
            fits = rw (opened_used s m good.shaped.counts (omega arith) small u) good.sound.fits;
            closed = λ k less c. closed_stays s (opened_of s m) good ext k c;
            opened = λ less c. rw none tt;
            running = λ busy. running_stays s (opened_of s m) good ext refl refl (good.sound.running busy);
          };
      marks = marks_with s good s.pool (set s.counts m 0) s.closed m (λ some. small) u;
    }
  where
    ext : Extends s (opened_of s m)
    ext = opened_extends s good.shaped m small free u

    none : entries_of (opened_of s m) m ≡ []
    none = entries_none (opened_of s m) m (get_or-set_same s.counts m 0 0 (omega (arith, good.shaped.counts)))

-- CLOSE of the open macro, which has entries, is not too long and has not too many entries in one second.
pub closed_extends : (s : Store) → Shaped s → Extends s (closed_of s)
closed_extends s shape =
    record {
      marks = λ k c. go k c (eqb k s.opened) refl;
      counts = λ k c. refl;
      entries = λ k c. closed_entries s shape.marks k (closed_small s shape k c);
    }
  where
    go : (k : ℕ) → is_closed s k ≡ true → (b : Bool) → eqb k s.opened ≡ b → is_closed (closed_of s) k ≡ true
    go k c true e =
        let same = eqb-true k s.opened e in
        let small = closed_small s shape k c in
        ap (is_closed (closed_of s)) same ∙ get_or-set_same s.closed s.opened true false (omega (arith, shape.marks))
    go k c false e = get_or-set_other s.closed s.opened k true false (eqb-false k s.opened e) ∙ c

pub closed_keeps : (s : Store) → Good s → s.opened < 8 → 1 ≤ count_of s s.opened → length (written_out s s.opened) ≤ 600
    → most_in (written_out s s.opened) ≤ 64 → Good (closed_of s)
closed_keeps s good small some short few =
    record {
      shaped = record { pool = good.shaped.pool; counts = good.shaped.counts; marks = length-set s.closed m true ∙ good.shaped.marks };
      sound =
          record {
            fits = rw (closed_used s good.shaped.marks) good.sound.fits;
            closed = λ k less c. go k c (eqb k m) refl;
            opened = λ less c. absurd (omega arith);
            running = λ busy. running_stays s t good ext refl refl (good.sound.running busy);
          };
      marks =
          marks_with s good s.pool s.counts (set s.closed m true) 255
          (λ some. absurd (some refl))
          (get_or-eq_default (set s.closed m true) false (omega (arith, length-set s.closed m true, good.shaped.marks)));
    }
  where
    m : ℕ
    m = s.opened

    t : Store
    t = closed_of s

    ext : Extends s t
    ext = closed_extends s good.shaped

    judged : Each (SoundEntry s m) (entries_of s m)
    judged = good.sound.opened small good.marks.unclosed

    stay : entries_of t m ≡ entries_of s m
    stay = closed_entries s good.shaped.marks m small

    same : written_out t m ≡ written_out s m
    same = list_stays s t good ext m stay judged

    own : SoundClosed t m
    own =
        record {
          some = some;
          lasts = rw same (macro_lasts s good small some judged);
          ends = rw same short;
          few = rw same few;
          entries = open_stays s t good ext m stay judged;
        }

    go : (k : ℕ) → is_closed t k ≡ true → (b : Bool) → eqb k m ≡ b → SoundClosed t k
    go k c true e = subst (λ j. SoundClosed t j) (sym (eqb-true k m e)) own
    go k c false e =
        closed_stays s t good ext k (sym (get_or-set_other s.closed m k true false (eqb-false k m e)) ∙ c)

-- An entry more in the open macro.
pub kept_extends : (s : Store) → Shaped s → (c : Command) → s.opened < 8 → used_in s < 192 → is_closed s s.opened ≡ false → Extends s (kept s c)
unfolding kept
kept_extends s shape c small room u =
    record {
      marks = λ k h. h;
      counts = λ k h. get_or-set_other s.counts s.opened k (count_of s s.opened + 1) 0 (differs s k s.opened h u);
      entries = λ k h. kept_other s c shape.pool shape.counts small room k (closed_small s shape k h) (differs s k s.opened h u);
    }

each_last : (P : Command → Type 0) (es : List Command) (e : Command) → Each P es → P e → Each P (es ++ (e ∷ []))
each_last P [] e h p = (p, tt)
each_last P (x ∷ es) e h p = (h.0, each_last P es e h.1 p)

-- What the pool's words say of a sound entry is sound.
stored_entry : (s : Store) (m : ℕ) (c : Command) → SoundEntry s m c → SoundEntry s m (stored_as c)
stored_entry s m c h =
    record {
      flagged = stored_flag c h.allowed ∙ h.flagged;
      allowed = stored_judge c h.allowed;
      target = subst (TargetBelow s m) (sym (stored_role c h.allowed)) h.target;
    }

kept_keeps : (s : Store) → Good s → (c : Command) → s.opened < 8 → used_in s < 192 → SoundEntry s s.opened c → Good (kept s c)
unfolding kept
kept_keeps s good c small room entry =
    record {
      shaped =
          record {
            pool = kept-length s c good.shaped.pool small room;
            counts = length-set s.counts m (count_of s m + 1) ∙ good.shaped.counts;
            marks = good.shaped.marks;
          };
      sound =
          record {
            fits = rw (kept_used s c good.shaped.counts small) (omega arith);
            closed = λ k less h. closed_stays s t good ext k h;
            opened = λ less h.
                rw (kept_own s c good.shaped.pool good.shaped.counts small room)
                (entries_stay s t good ext m (entries_of s m ++ (stored_as c ∷ []))
                (each_last (SoundEntry s m) (entries_of s m) (stored_as c) (good.sound.opened small good.marks.unclosed)
                (stored_entry s m c entry)));
            running = λ busy. running_stays s t good ext refl refl (good.sound.running busy);
          };
      marks = marks_with s good t.pool t.counts s.closed m good.marks.opened good.marks.unclosed;
    }
  where
    m : ℕ
    m = s.opened

    t : Store
    t = kept s c

    ext : Extends s t
    ext = kept_extends s good.shaped c small room good.marks.unclosed

-- "A flag-1 command is only stored, as the open macro's next entry", where one is free.
pub appended_is : (s : Store) (c : Command) → s.opened < 8 → used_in s < 192 → appended_of s c ≡ kept s c
appended_is s c small room = rw (lt-ltb s.opened 8 small, lt-ltb (used_in s) 192 room)

pub appended_keeps : (s : Store) → Good s → (c : Command) → s.opened < 8 → used_in s < 192 → SoundEntry s s.opened c → Good (appended_of s c)
appended_keeps s good c small room entry = rw (appended_is s c small room) (kept_keeps s good c small room entry)

-- A command with flag 1 is appended, one with flag 0 executed.
pub applied_flagged : (s : Store) (c : Command) → c.flag ≡ true → applied_of s c ≡ appended_of s c
unfolding applied_of
applied_flagged s c flag = ap (λ b. cond b (appended_of s c) (executed_as s (role_of c.kind))) flag

pub applied_executed : (s : Store) (c : Command) → c.flag ≡ false → applied_of s c ≡ executed_as s (role_of c.kind)
unfolding applied_of
applied_executed s c flag = ap (λ b. cond b (appended_of s c) (executed_as s (role_of c.kind))) flag

-- An accepted append: an entry is free for it, and the open macro gets it as its next one.
pub record Appends (s : Store) (c : Command) : Type 0 where
  pub small : s.opened < 8
  pub room : used_in s < 192
  pub entry : SoundEntry s s.opened c
  pub effect : applied_of s c ≡ kept s c
  pub keeps : Good (applied_of s c)

pub appends : (s : Store) → Good s → (c : Command) → c.flag ≡ true → judge_code c ≡ 0 → permit_code s c ≡ 0 → Appends s c
appends s good c flag judge permit =
    let passed : Passed s true (role_of c.kind) = subst (λ b. Passed s b (role_of c.kind)) flag (passes s c permit) in
    let small : s.opened < 8 = good.marks.opened (eqb-false s.opened 255 passed.no11) in
    let room : used_in s < 192 = leb-false 192 (used_in s) passed.no16 in
    let target : TargetBelow s s.opened (role_of c.kind) = target_of s s.opened (role_of c.kind) passed.no17 passed.no18 in
    let entry : SoundEntry s s.opened c = record { flagged = flag; allowed = judge; target = target } in
    record {
      small = small;
      room = room;
      entry = entry;
      effect = applied_flagged s c flag ∙ appended_is s c small room;
      keeps = rw (applied_flagged s c flag) (appended_keeps s good c small room entry);
    }

-- An executed command passed the rows with flag 0.
pub executed_passed : (s : Store) (c : Command) → c.flag ≡ false → permit_code s c ≡ 0 → Passed s false (role_of c.kind)
executed_passed s c e permit = subst (λ b. Passed s b (role_of c.kind)) e (passes s c permit)

-- An accepted command that is executed, by its role.
executed_keeps : (s : Store) → Good s → (r : Role) → InRange r → Passed s false r → Good (executed_as s r)
executed_keeps s good Role.Plain range h = good
executed_keeps s good (Role.Open m) range h = opened_keeps s good m range (none_runs s.opened h.no12) h.no13
executed_keeps s good Role.Close range h =
    let m = s.opened in
    let some = eqb-false (count_of s m) 0 h.no14 in
    closed_keeps s good
    (good.marks.opened (eqb-false m 255 h.no11))
    (omega arith)
    (ltb-false 600 (length (written_out s m)) h.no15)
    (ltb-false 64 (most_in (written_out s m)) h.no25)
executed_keeps s good (Role.Run m) range h = started_keeps s good m (not-false (is_closed s m) h.no18)
executed_keeps s good (Role.Wait n) range h = good
executed_keeps s good Role.Stop range h = stopped_keeps s good
executed_keeps s good Role.Clear range h =
    cleared_keeps s good (none_runs s.running h.no19)

-- An accepted command keeps a store sound, in its shape and within the status frame's rules.
pub applied_keeps : (s : Store) → Good s → (c : Command) → judge_code c ≡ 0 → permit_code s c ≡ 0 → Good (applied_of s c)
applied_keeps s good c judge permit = go c.flag refl
  where
    go : (b : Bool) → c.flag ≡ b → Good (applied_of s c)
    go true e = (appends s good c e judge permit).keeps
    go false e =
        rw (applied_executed s c e)
        (executed_keeps s good (role_of c.kind) (judged_role c judge) (executed_passed s c e permit))
