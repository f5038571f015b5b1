-- What all kinds of a macro's list have, RUNs replaced: what those of its entries and of the closed macros' entries have that stand for themselves.
-- And every entry of a store is read off three words.
use Prim.Native.Nat.{ℕ, zero, suc}
use mathlib.Core.Path.{◌≡◌, refl, sym, subst}
use mathlib.Core.List.{List, [], ◌∷◌, ◌++◌, map}
use mathlib.Core.Bool.{Bool, true, false, cond}
use lib.ListN.{get_or, take, drop, replicate}
use lib.Dec.{eqb}
use borrow.Author.Tests.{eqb-true, eqb-false}
use Rattle.wire.specs.declared.kinds.Kind.{Kind}
use Rattle.wire.specs.declared.kinds.Command.{Command}
use Rattle.store.specs.declared.Store.{Store}
use Rattle.store.specs.declared.roles.Role.{Role}
use Rattle.store.specs.Roles.{role_of}
use Rattle.store.specs.Words.{command_of, commands_in}
use Rattle.store.specs.Pool.{is_closed, size_of, start_of, between, entries_of}
use Rattle.store.specs.WrittenOut.{expand_as, expand, flat_below, flat}
use Rattle.store.proofs.Flat.{Each, look_below, flat_at, flat_other}
use Rattle.store.proofs.Parts.{Kept}

-- A property of each element of a list.
abbrev pub All : {A : Type 0} → (A → Type 0) → List A → Type 0
All P [] = Unit
All P (x ∷ xs) = P x × All P xs

module _ {A : Type 0} (P : A → Type 0) where
  pub all_append : (xs ys : List A) → All P xs → All P ys → All P (xs ++ ys)
  all_append [] ys h k = k
  all_append (x ∷ xs) ys h k = (h.0, all_append xs ys h.1 k)

  pub all_replicate : (n : ℕ) (x : A) → P x → All P (replicate n x)
  all_replicate zero x h = tt
  all_replicate (suc n) x h = (h, all_replicate n x h)

  pub all_get_d : (xs : List A) (k : ℕ) (d : A) → All P xs → P d → P (get_or xs k d)
  all_get_d [] k d h p = p
  all_get_d (x ∷ xs) zero d h p = h.0
  all_get_d (x ∷ xs) (suc k) d h p = all_get_d xs k d h.1 p

pub all_map : {A B : Type 0} (P : B → Type 0) (f : A → B) (xs : List A) → All (λ x. P (f x)) xs → All P (map f xs)
all_map P f [] h = tt
all_map P f (x ∷ xs) h = (h.0, all_map P f xs h.1)

-- Every entry of a store is read off three words of its pool.
each_take : (P : Command → Type 0) (n : ℕ) (es : List Command) → Each P es → Each P (take n es)
each_take P zero es h = tt
each_take P (suc n) [] h = tt
each_take P (suc n) (e ∷ es) h = (h.0, each_take P n es h.1)

each_drop : (P : Command → Type 0) (n : ℕ) (es : List Command) → Each P es → Each P (drop n es)
each_drop P zero es h = h
each_drop P (suc n) [] h = tt
each_drop P (suc n) (e ∷ es) h = each_drop P n es h.1

module _ (P : Command → Type 0) (told : (a b c : ℕ) → P (command_of a b c)) where
  commands_each : (ws : List ℕ) → Each P (commands_in ws)
  unfolding commands_in
  commands_each [] = tt
  commands_each (a ∷ []) = tt
  commands_each (a ∷ b ∷ []) = tt
  commands_each (a ∷ b ∷ c ∷ ws) = (told a b c, commands_each ws)

  pub entries_each : (s : Store) (m : ℕ) → Each P (entries_of s m)
  unfolding entries_of between
  entries_each s m =
      let start = start_of s.counts s.closed s.opened m in
      let size = size_of s.counts s.closed s.opened m in
      let all = commands_in s.pool in
      each_take P size (drop start all) (each_drop P start all (commands_each s.pool))

-- An entry that stands for itself has the property.
abbrev pub Gives : (Kind → Type 0) → Command → Type 0
Gives P e = Kept (role_of e.kind) → P e.kind

-- So have all kinds of the lists that are made of such entries.
module _ (P : Kind → Type 0) where
  one_all : (look : ℕ → List Kind) → ((k : ℕ) → All P (look k)) → (kind : Kind) (r : Role) → (Kept r → P kind) → All P (expand_as look kind r)
  one_all look h kind Role.Plain gives = (gives tt, tt)
  one_all look h kind (Role.Open m) gives = (gives tt, tt)
  one_all look h kind Role.Close gives = (gives tt, tt)
  one_all look h kind (Role.Run m) gives = h m
  one_all look h kind (Role.Wait n) gives = (gives tt, tt)
  one_all look h kind Role.Stop gives = (gives tt, tt)
  one_all look h kind Role.Clear gives = (gives tt, tt)

  expand_all : (look : ℕ → List Kind) → ((k : ℕ) → All P (look k)) → (es : List Command) → Each (Gives P) es → All P (expand look es)
  unfolding expand
  expand_all look h [] entries = tt
  expand_all look h (e ∷ es) entries =
      all_append P (expand_as look e.kind (role_of e.kind)) (expand look es)
      (one_all look h e.kind (role_of e.kind) entries.0)
      (expand_all look h es entries.1)

  module _ (cl : ℕ → Bool) (es : ℕ → List Command) (closed : (k : ℕ) → cl k ≡ true → Each (Gives P) (es k)) where
    look_all : (n : ℕ) → ((m : ℕ) → Each (Gives P) (es m) → All P (flat_below cl es n m)) → (k : ℕ) → All P (look_below cl es n k)
    look_all n less k = go (cl k) refl
      where
        go : (b : Bool) → cl k ≡ b → All P (cond b (flat_below cl es n k) [])
        go true c = less k (closed k c)
        go false c = tt

    below_all : (n m : ℕ) → Each (Gives P) (es m) → All P (flat_below cl es n m)
    unfolding flat_below
    below_all zero m own = tt
    below_all (suc n) m own = go (eqb m n) refl (below_all n)
      where
        go : (b : Bool) → eqb m n ≡ b → ((k : ℕ) → Each (Gives P) (es k) → All P (flat_below cl es n k)) → All P (flat_below cl es (suc n) m)
        go true e less =
            subst (All P) (sym (flat_at cl es n m (eqb-true m n e))) (expand_all (look_below cl es n) (look_all n less) (es m) own)
        go false e less = subst (All P) (sym (flat_other cl es n m (eqb-false m n e))) (less m own)

  pub flat_all : (s : Store) → ((k : ℕ) → is_closed s k ≡ true → Each (Gives P) (entries_of s k))
      → (m : ℕ) → Each (Gives P) (entries_of s m) → All P (flat s m)
  unfolding flat
  flat_all s closed m own = below_all (is_closed s) (entries_of s) closed (suc m) m own
