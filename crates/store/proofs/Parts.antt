-- The parts of a macro's list, RUNs replaced: what each entry adds to it. WrittenOut.antt says in 01's words what follows.
use Prim.Native.Nat.{ℕ, ◌≤◌, ◌<◌}
use mathlib.Core.Path.{◌≡◌, refl, sym, ap, ◌∙◌, fun_ext}
use mathlib.Core.List.{List, [], ◌∷◌}
use mathlib.Core.Bool.{Bool, true, false, cond, ◌&&◌}
use native.Mathlib.Omega.{arith}
use lib.ListN.{length, get_or, get_or-eq_default}
use lib.Dec.{ltb}
use borrow.Author.Tests.{ltb-true, ltb-false, lt-ltb}
use Rattle.wire.specs.declared.kinds.Kind.{Kind}
use Rattle.wire.specs.declared.kinds.Command.{Command}
use Rattle.store.specs.declared.Store.{Store}
use Rattle.store.specs.declared.roles.Role.{Role}
use Rattle.store.specs.Roles.{role_of}
use Rattle.store.specs.Pool.{is_closed, entries_of}
use Rattle.store.specs.WrittenOut.{expand_as, expand, flat_below, flat}
use Rattle.store.proofs.Kept.{entries_none}
use Rattle.store.proofs.Flat.{look_below, flat_own, flat_fuel, flat_past, flat_frame}

-- What a RUN in macro m is replaced by: the list of its target where that is closed and below.
abbrev pub look : Store → ℕ → ℕ → List Kind
look s m t = cond (ltb t m && is_closed s t) (flat s t) []

-- What an entry, and several entries, add to the list of macro m of store s.
abbrev pub part_of : Store → ℕ → Command → List Kind
part_of s m e = expand_as (look s m) e.kind (role_of e.kind)

abbrev pub parts_of : Store → ℕ → List Command → List Kind
parts_of s m es = expand (look s m) es

look_below_lem : (s : Store) (m t : ℕ) → look_below (is_closed s) (entries_of s) m t ≡ look s m t
unfolding flat
look_below_lem s m t = go (is_closed s t) (ltb t m) refl
  where
    go : (closed below : Bool) → ltb t m ≡ below
        → cond closed (flat_below (is_closed s) (entries_of s) m t) [] ≡ cond (below && closed) (flat s t) []
    go false false e = refl
    go false true e = refl
    go true false e = rw (flat_past (is_closed s) (entries_of s) m t (ltb-false t m e))
    go true true e = rw (flat_fuel (is_closed s) (entries_of s) m t (ltb-true t m e))

pub parts_are : (s : Store) (m : ℕ) → flat s m ≡ parts_of s m (entries_of s m)
unfolding flat
parts_are s m =
    flat_own (is_closed s) (entries_of s) m
    ∙ ap (λ f. expand f (entries_of s m)) (fun_ext (look_below_lem s m))

-- In two stores that have the same closed macros a RUN is replaced alike.
pub look_frame : (s t : Store) → s.closed ≡ t.closed → ((k : ℕ) → is_closed s k ≡ true → entries_of s k ≡ entries_of t k)
    → (m : ℕ) → look s m ≡ look t m
look_frame s t marks same m = fun_ext (λ k. go k (is_closed s k) refl (ap (λ cl. get_or cl k false) (sym marks)))
  where
    none : (k : ℕ) (below : Bool) → cond (below && false) (flat s k) [] ≡ cond (below && false) (flat t k) []
    none k true = refl
    none k false = refl

    go : (k : ℕ) (b : Bool) → is_closed s k ≡ b → is_closed t k ≡ is_closed s k → look s m k ≡ look t m k
    go k true c alike = rw (alike, c, flat_frame s t marks same k (same k c))
    go k false c alike = rw (alike, c) (none k (ltb k m))

-- Every role but RUN: such an entry stands for itself, a WAIT too.
abbrev pub Kept : Role → Type 0
Kept Role.Plain = Unit
Kept (Role.Open m) = Unit
Kept Role.Close = Unit
Kept (Role.Run m) = ⊥
Kept (Role.Wait n) = Unit
Kept Role.Stop = Unit
Kept Role.Clear = Unit

-- The part of an entry by its role.
pub part_run : (s : Store) (m k : ℕ) (e : Command) → role_of e.kind ≡ Role.Run k → k < m → is_closed s k ≡ true → part_of s m e ≡ flat s k
part_run s m k e role below closed = rw (role, lt-ltb k m below, closed)

pub part_kept : (s : Store) (m : ℕ) (e : Command) (r : Role) → role_of e.kind ≡ r → Kept r → part_of s m e ≡ e.kind ∷ []
part_kept s m e Role.Plain role one = rw role
part_kept s m e (Role.Open n) role one = rw role
part_kept s m e Role.Close role one = rw role
part_kept s m e (Role.Run n) role one = absurd one
part_kept s m e (Role.Wait n) role one = rw role
part_kept s m e Role.Stop role one = rw role
part_kept s m e Role.Clear role one = rw role

-- A number that no macro has has no entries, and no seconds.
pub none_past : (s : Store) (m : ℕ) → length s.counts ≡ 8 → 8 ≤ m → flat s m ≡ []
unfolding expand
none_past s m h past = rw (parts_are, entries_none s m (get_or-eq_default s.counts 0 (omega arith)))
