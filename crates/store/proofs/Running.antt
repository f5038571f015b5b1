-- A macro that runs: its list and its length, what commands leave of it, and what each second hands over.
use Prim.Native.Nat.{ℕ, suc, ◌-◌, ◌≤◌, ◌<◌}
use mathlib.Core.Path.{◌≡◌, refl, sym, ap, ◌∙◌}
use mathlib.Core.List.{List, [], ◌∷◌, ◌++◌}
use mathlib.Core.Bool.{Bool, true, false, cond, not, ◌&&◌, true≢false, false≢true}
use native.Mathlib.Omega.{arith}
use lib.ListN.{length, get_or}
use lib.Dec.{eqb}
use borrow.Author.Tests.{not-true, not-false, eq-eqb, ne_eqb}
use Rattle.words.proofs.Tests.{both}
use Rattle.wire.specs.declared.kinds.Kind.{Kind}
use Rattle.wire.specs.declared.kinds.Command.{Command}
use Rattle.wire.specs.Judge.{judge_code}
use Rattle.wire.proofs.RoundTrip.{Held}
use Rattle.store.specs.declared.Store.{Store}
use Rattle.store.specs.declared.roles.Role.{Role}
use Rattle.store.specs.Roles.{role_of, is_run, is_clear, number_of, is_stop}
use Rattle.store.specs.Pool.{is_closed, used_in, entries_of, kept}
use Rattle.store.specs.WrittenOut.{expand_as, expand, flat, written_out}
use Rattle.store.specs.Checks.{permit_code}
use Rattle.store.specs.Effects.{started_of, executed_as, applied_of, next_group, after_second, counted_down}
use Rattle.store.proofs.Entries.{stored_as, stored_same}
use Rattle.store.proofs.Kept.{kept_own}
use Rattle.store.proofs.Parts.{look, part_of, look_frame}
use Rattle.store.proofs.WrittenOut.{flat_is, flat_last}
use Rattle.store.proofs.Sound.{Good, Extends, extends_self, Passed, none_runs, InRange, judged_role, closed_small, lists_stay, runs_extends}
use Rattle.store.proofs.Sound.{opened_extends, closed_extends, kept_extends, Appends, appends, applied_executed, executed_passed}

-- A closed macro of a sound store lasts 1 to 600 seconds.
pub record Lasts (s : Store) (m : ℕ) : Type 0 where
  pub least : 1 ≤ length (written_out s m)
  pub most : length (written_out s m) ≤ 600

pub closed_lasts : (s : Store) → Good s → (m : ℕ) → is_closed s m ≡ true → Lasts s m
closed_lasts s good m c =
    let h = good.sound.closed m (closed_small s good.shaped m c) c in
    record { least = h.lasts; most = h.ends }

-- An executed RUN, STOP or CLEAR.
abbrev pub starts_run : Command → Bool
starts_run c = not c.flag && is_run (role_of c.kind)

abbrev pub stops_run : Command → Bool
stops_run c = not c.flag && is_stop (role_of c.kind)

abbrev pub clears_all : Command → Bool
clears_all c = not c.flag && is_clear (role_of c.kind)

-- What holds of a store after a command, by the flag: of the append, or of its role executed.
by_flag : (P : Store → Type 0) (s : Store) (c : Command) → (c.flag ≡ true → P (applied_of s c))
    → (c.flag ≡ false → P (executed_as s (role_of c.kind))) → P (applied_of s c)
by_flag P s c append execute = go c.flag refl
  where
    go : (b : Bool) → c.flag ≡ b → P (applied_of s c)
    go true e = append e
    go false e = rw (applied_executed s c e) (execute e)

-- What a test of an executed command says of its role, where it fails and where it holds.
pub executed_test : (c : Command) (b : Bool) → c.flag ≡ false → (not c.flag && b) ≡ false → b ≡ false
executed_test c b e h = rw e at h

pub executed_now : (c : Command) (b : Bool) → (not c.flag && b) ≡ true → (c.flag ≡ false) × (b ≡ true)
executed_now c b h =
    let p = both (not c.flag) b h in
    (not-true c.flag p.0, p.1)

-- From s to t a run goes on: the same macro runs, with the same seconds left of the same list.
pub record SameRun (s t : Store) : Type 0 where
  pub running : t.running ≡ s.running
  pub left : t.left ≡ s.left
  pub list : written_out t s.running ≡ written_out s s.running

-- From s, which is idle, to t a run begins: macro m, which is closed, runs, and all seconds of its list are left.
pub record Started (s : Store) (m : ℕ) (t : Store) : Type 0 where
  pub small : m < 8
  pub closed : is_closed s m ≡ true
  pub idle : s.running ≡ 255
  pub running : t.running ≡ m
  pub left : t.left ≡ length (written_out s m)
  pub list : written_out t m ≡ written_out s m

-- An executed command by its role. Every one that passed the rows, but CLEAR, keeps the closed macros.
executed_extends : (s : Store) → Good s → (r : Role) → InRange r → Passed s false r → is_clear r ≡ false → Extends s (executed_as s r)
executed_extends s good Role.Plain range h other = extends_self s
executed_extends s good (Role.Open m) range h other = opened_extends s good.shaped m range (none_runs s.opened h.no12) h.no13
executed_extends s good Role.Close range h other = closed_extends s good.shaped
executed_extends s good (Role.Run m) range h other = runs_extends s m (length (written_out s m))
executed_extends s good (Role.Wait n) range h other = extends_self s
executed_extends s good Role.Stop range h other = runs_extends s 255 0
executed_extends s good Role.Clear range h other = absurd (true≢false other)

-- Row 19: what passes while a macro runs is neither a RUN nor a CLEAR.
busy_passed : (s : Store) (r : Role) → Passed s false r → (s.running ≡ 255 → ⊥) → (is_run r ≡ false) × (is_clear r ≡ false)
busy_passed s Role.Plain h busy = (refl, refl)
busy_passed s (Role.Open m) h busy = (refl, refl)
busy_passed s Role.Close h busy = (refl, refl)
busy_passed s (Role.Run m) h busy = absurd (busy (none_runs s.running h.no19))
busy_passed s (Role.Wait n) h busy = (refl, refl)
busy_passed s Role.Stop h busy = (refl, refl)
busy_passed s Role.Clear h busy = absurd (busy (none_runs s.running h.no19))

-- Every one but RUN and STOP leaves the run.
executed_run : (s : Store) (r : Role) → is_run r ≡ false → is_stop r ≡ false
    → ((executed_as s r).running ≡ s.running) × ((executed_as s r).left ≡ s.left)
executed_run s Role.Plain run stop = (refl, refl)
executed_run s (Role.Open m) run stop = (refl, refl)
executed_run s Role.Close run stop = (refl, refl)
executed_run s (Role.Run m) run stop = absurd (true≢false run)
executed_run s (Role.Wait n) run stop = (refl, refl)
executed_run s Role.Stop run stop = absurd (true≢false stop)
executed_run s Role.Clear run stop = (refl, refl)

-- RUN of a closed macro on an idle store starts it; rows 18 and 19 let no other pass.
pub started_of_lem : (s : Store) → Good s → (m : ℕ) → is_closed s m ≡ true → s.running ≡ 255 → Started s m (started_of s m)
started_of_lem s good m c free =
    record {
      small = closed_small s good.shaped m c;
      closed = c;
      idle = free;
      running = refl;
      left = refl;
      list = lists_stay s (started_of s m) good (runs_extends s m (length (written_out s m))) m c;
    }

executed_starts : (s : Store) → Good s → (r : Role) → Passed s false r → is_run r ≡ true → Started s (number_of r) (executed_as s r)
executed_starts s good Role.Plain h run = absurd (false≢true run)
executed_starts s good (Role.Open m) h run = absurd (false≢true run)
executed_starts s good Role.Close h run = absurd (false≢true run)
executed_starts s good (Role.Run m) h run =
    started_of_lem s good m (not-false (is_closed s m) h.no18) (none_runs s.running h.no19)
executed_starts s good (Role.Wait n) h run = absurd (false≢true run)
executed_starts s good Role.Stop h run = absurd (false≢true run)
executed_starts s good Role.Clear h run = absurd (false≢true run)

-- STOP leaves the store idle,
executed_stops : (s : Store) (r : Role) → is_stop r ≡ true → (executed_as s r).running ≡ 255
executed_stops s Role.Plain stop = absurd (false≢true stop)
executed_stops s (Role.Open m) stop = absurd (false≢true stop)
executed_stops s Role.Close stop = absurd (false≢true stop)
executed_stops s (Role.Run m) stop = absurd (false≢true stop)
executed_stops s (Role.Wait n) stop = absurd (false≢true stop)
executed_stops s Role.Stop stop = refl
executed_stops s Role.Clear stop = absurd (false≢true stop)

-- and an idle store stays so under every one but RUN.
executed_idle : (s : Store) (r : Role) → is_run r ≡ false → s.running ≡ 255 → (executed_as s r).running ≡ 255
executed_idle s r run free = go (is_stop r) refl
  where
    go : (b : Bool) → is_stop r ≡ b → (executed_as s r).running ≡ 255
    go true e = executed_stops s r e
    go false e = (executed_run s r run e).0 ∙ free

-- An accepted append keeps the closed macros, and leaves the run.
kept_closed : (s : Store) → Good s → (c : Command) → Appends s c → Extends s (applied_of s c)
kept_closed s good c a = rw a.effect (kept_extends s good.shaped c a.small a.room good.marks.unclosed)

kept_run : (s : Store) (c : Command) → ((kept s c).running ≡ s.running) × ((kept s c).left ≡ s.left)
unfolding kept
kept_run s c = (refl, refl)

-- What an accepted command does to the closed macros and to the run.
module _ (s : Store) (good : Good s) (c : Command) (judge : judge_code c ≡ 0) (permit : permit_code s c ≡ 0) where
  -- "CLOSE fixes it until CLEAR": every accepted command but an executed CLEAR keeps the closed macros.
  pub applied_extends : clears_all c ≡ false → Extends s (applied_of s c)
  applied_extends other =
      by_flag (λ t. Extends s t) s c
      (λ e. kept_closed s good c (appends s good c e judge permit))
      (λ e. executed_extends s good role (judged_role c judge) (executed_passed s c e permit) (executed_test c (is_clear role) e other))
    where
      role : Role
      role = role_of c.kind

  -- So the written-out list of every closed macro is as it was.
  pub applied_lists : clears_all c ≡ false → (m : ℕ) → is_closed s m ≡ true → written_out (applied_of s c) m ≡ written_out s m
  applied_lists other m closed = lists_stay s (applied_of s c) good (applied_extends other) m closed

  -- While a macro runs, every accepted command but an executed STOP leaves the macro and its seconds,
  stays_on : (s.running ≡ 255 → ⊥) → stops_run c ≡ false → ((applied_of s c).running ≡ s.running) × ((applied_of s c).left ≡ s.left)
  stays_on busy other =
      by_flag (λ t. (t.running ≡ s.running) × (t.left ≡ s.left)) s c
      (λ e. let a = appends s good c e judge permit in rw a.effect (kept_run s c))
      (λ e. executed_run s role (busy_passed s role (executed_passed s c e permit) busy).0 (executed_test c (is_stop role) e other))
    where
      role : Role
      role = role_of c.kind

  -- none is a CLEAR,
  clears_not : (s.running ≡ 255 → ⊥) → clears_all c ≡ false
  clears_not busy = go c.flag refl
    where
      go : (b : Bool) → c.flag ≡ b → clears_all c ≡ false
      go true e = rw e
      go false e = rw e (busy_passed s (role_of c.kind) (executed_passed s c e permit) busy).1

  -- and so the run goes on.
  pub applied_runs_on : (s.running ≡ 255 → ⊥) → stops_run c ≡ false → SameRun s (applied_of s c)
  applied_runs_on busy other =
      let run = stays_on busy other in
      record { running = run.0; left = run.1; list = applied_lists (clears_not busy) s.running (good.sound.running busy).closed }

  -- An executed RUN that is accepted starts its macro, all of whose seconds are left.
  pub applied_starts : starts_run c ≡ true → Started s (number_of (role_of c.kind)) (applied_of s c)
  applied_starts run =
      let p = executed_now c (is_run (role_of c.kind)) run in
      by_flag (λ t. Started s (number_of (role_of c.kind)) t) s c
      (λ e. absurd (true≢false (sym e ∙ p.0)))
      (λ e. executed_starts s good (role_of c.kind) (executed_passed s c e permit) p.1)

  -- An executed STOP that is accepted leaves the store idle.
  pub applied_stops : stops_run c ≡ true → (applied_of s c).running ≡ 255
  applied_stops stop =
      let p = executed_now c (is_stop (role_of c.kind)) stop in
      by_flag (λ t. t.running ≡ 255) s c
      (λ e. absurd (true≢false (sym e ∙ p.0)))
      (λ e. executed_stops s (role_of c.kind) p.1)

  -- An idle store stays so under every accepted command but an executed RUN.
  pub applied_idle : starts_run c ≡ false → s.running ≡ 255 → (applied_of s c).running ≡ 255
  applied_idle other free =
      by_flag (λ t. t.running ≡ 255) s c
      (λ e. let a = appends s good c e judge permit in rw a.effect ((kept_run s c).0 ∙ free))
      (λ e. executed_idle s (role_of c.kind) (executed_test c (is_run (role_of c.kind)) e other) free)

-- An entry more in the open macro: its list, RUNs replaced, is the one before, followed by what the entry adds as it is stored.
pub kept-flat : (s : Store) → Good s → (c : Command) → s.opened < 8 → used_in s < 192
    → flat (kept s c) s.opened ≡ flat s s.opened ++ part_of s s.opened (stored_as c)
unfolding kept
kept-flat s good c small room = grown (stored_as c) (kept_own s c good.shaped.pool good.shaped.counts small room)
  where
    m : ℕ
    m = s.opened

    t : Store
    t = kept s c

    same : look t m ≡ look s m
    same = sym (look_frame s t refl (λ k h. sym ((kept_extends s good.shaped c small room good.marks.unclosed).entries k h)) m)

    grown : (e : Command) → entries_of t m ≡ entries_of s m ++ (e ∷ []) → flat t m ≡ flat s m ++ part_of s m e
    grown e own =
        flat_last t m (entries_of s m) e own
        ∙ ap (λ f. expand f (entries_of s m) ++ expand_as f e.kind (role_of e.kind)) same
        ∙ ap (λ l. l ++ part_of s m e) (sym (flat_is s m))

-- So an accepted append leaves the open macro with its list followed by what the new entry adds.
pub applied_appends : (s : Store) → Good s → (c : Command) → c.flag ≡ true → judge_code c ≡ 0 → permit_code s c ≡ 0
    → flat (applied_of s c) s.opened ≡ flat s s.opened ++ part_of s s.opened (stored_as c)
applied_appends s good c flag judge permit =
    let a = appends s good c flag judge permit in
    ap (λ t. flat t s.opened) a.effect ∙ kept-flat s good c a.small a.room

-- Every command that a program can hold is stored as it is.
pub held_appends : (s : Store) → Good s → (c : Command) → Held c → c.flag ≡ true → judge_code c ≡ 0 → permit_code s c ≡ 0
    → flat (applied_of s c) s.opened ≡ flat s s.opened ++ part_of s s.opened c
held_appends s good c held flag judge permit =
    applied_appends s good c flag judge permit ∙ ap (λ e. flat s s.opened ++ part_of s s.opened e) (stored_same c judge held)

-- A second of a run with k + 1 of L seconds left hands over group L - (k + 1), from 0, and leaves k; after the last one the store is idle.
pub record Second (s : Store) (k : ℕ) : Type 0 where
  pub handed : next_group s ≡ get_or (written_out s s.running) (length (written_out s s.running) - s.left) []
  pub left : (after_second s).left ≡ k
  pub goes_on : (k ≡ 0 → ⊥) → (after_second s).running ≡ s.running
  pub ends : k ≡ 0 → (after_second s).running ≡ 255

pub second_of : (s : Store) (k : ℕ) → (s.running ≡ 255 → ⊥) → s.left ≡ suc k → Second s k
second_of s k busy more =
    let runs = ne_eqb s.running 255 busy in
    record {
      handed = rw runs;
      left = rw runs (omega arith);
      goes_on = λ some. rw (runs, ne_eqb (s.left - 1) 0 (λ e. some (omega arith)));
      ends = λ none. rw (runs, eq-eqb (s.left - 1) 0 (omega arith));
    }

-- A second keeps the closed macros and their written-out lists.
pub second_extends : (s : Store) → Extends s (after_second s)
second_extends s = go (eqb s.running 255)
  where
    go : (b : Bool) → Extends s (cond b s (counted_down s))
    go true = extends_self s
    go false = runs_extends s (counted_down s).running (counted_down s).left

pub second_lists : (s : Store) → Good s → (m : ℕ) → is_closed s m ≡ true → written_out (after_second s) m ≡ written_out s m
second_lists s good m c = lists_stay s (after_second s) good (second_extends s) m c

-- On an idle store a second hands over nothing and changes nothing.
pub second_idle : (s : Store) → s.running ≡ 255 → (next_group s ≡ []) × (after_second s ≡ s)
second_idle s free = (rw (eq-eqb s.running 255 free), rw (eq-eqb s.running 255 free))

-- Macro m runs with the list w, of which k seconds are over and at least one is left.
pub record RunOf (m : ℕ) (w : List (List Kind)) (k : ℕ) (s : Store) : Type 0 where
  pub small : m < 8
  pub running : s.running ≡ m
  pub list : written_out s m ≡ w
  pub left : s.left ≡ length w - k
  pub going : k < length w

-- An executed RUN that is accepted starts a run of its macro's list, of which no second is over;
pub run_starts : (s : Store) → Good s → (c : Command) → judge_code c ≡ 0 → permit_code s c ≡ 0 → starts_run c ≡ true
    → RunOf (number_of (role_of c.kind)) (written_out s (number_of (role_of c.kind))) 0 (applied_of s c)
run_starts s good c judge permit run =
    let m = number_of (role_of c.kind) in
    let h = applied_starts s good c judge permit run in
    record {
      small = h.small;
      running = h.running;
      list = h.list;
      left = omega (arith, h.left);
      going = (closed_lasts s good m h.closed).least;
    }

-- every accepted command but an executed STOP leaves a run as it was;
pub run_stays : (s : Store) → Good s → (m : ℕ) (w : List (List Kind)) (k : ℕ) → RunOf m w k s
    → (c : Command) → judge_code c ≡ 0 → permit_code s c ≡ 0 → stops_run c ≡ false → RunOf m w k (applied_of s c)
run_stays s good m w k run c judge permit other =
    let h = applied_runs_on s good c judge permit (λ e. omega (arith, run.small, run.running)) other in
    record {
      small = run.small;
      running = h.running ∙ run.running;
      list = ap (written_out (applied_of s c)) (sym run.running) ∙ h.list ∙ ap (written_out s) run.running ∙ run.list;
      left = h.left ∙ run.left;
      going = run.going;
    }

-- and a second hands over group k, from 0, and leaves the run with one second more over, or, after the last one, an idle store.
pub record RunSecond (m : ℕ) (w : List (List Kind)) (k : ℕ) (s : Store) : Type 0 where
  pub handed : next_group s ≡ get_or w k []
  pub goes_on : suc k < length w → RunOf m w (suc k) (after_second s)
  pub ends : suc k ≡ length w → (after_second s).running ≡ 255

pub run_second : (s : Store) → Good s → (m : ℕ) (w : List (List Kind)) (k : ℕ) → RunOf m w k s → RunSecond m w k s
run_second s good m w k run =
    record {
      handed = h.handed ∙ ap (λ l. get_or l (length l - s.left) []) same ∙ ap (λ j. get_or w j []) (omega (arith, run.left, run.going));
      goes_on = λ more.
          record {
            small = run.small;
            running = h.goes_on (λ e. omega arith) ∙ run.running;
            list = second_lists s good m (rw run.running at (good.sound.running busy).closed) ∙ run.list;
            left = h.left ∙ omega arith;
            going = more;
          };
      ends = λ last. h.ends (omega arith);
    }
  where
    busy : s.running ≡ 255 → ⊥
    busy e = omega (arith, run.small, run.running)

    h : Second s (length w - suc k)
    h = second_of s (length w - suc k) busy (run.left ∙ omega (arith, run.going))

    same : written_out s s.running ≡ w
    same = ap (written_out s) run.running ∙ run.list
