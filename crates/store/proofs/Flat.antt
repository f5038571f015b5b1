-- Laws of a macro's list with its RUNs replaced: fuel does not matter, and what the list depends on.
use Prim.Native.Nat.{ℕ, zero, suc, ◌≤◌, ◌<◌}
use mathlib.Core.Path.{◌≡◌, refl, sym, ap, ◌∙◌, fun_ext}
use mathlib.Core.List.{List, [], ◌∷◌, ◌++◌, append_assoc}
use mathlib.Core.Bool.{Bool, true, false, cond}
use native.Mathlib.Omega.{arith}
use lib.ListN.{get_or}
use lib.Dec.{eqb}
use borrow.Author.Tests.{eq-eqb, ne_eqb, eqb-true, eqb-false}
use Rattle.wire.specs.declared.kinds.Kind.{Kind}
use Rattle.wire.specs.declared.kinds.Command.{Command}
use Rattle.store.specs.declared.Store.{Store}
use Rattle.store.specs.declared.roles.Role.{Role}
use Rattle.store.specs.Roles.{role_of}
use Rattle.store.specs.Pool.{is_closed, entries_of}
use Rattle.store.specs.WrittenOut.{expand_as, expand, flat_below, flat, item_of, items_of, seconds, written_out}

-- What `flat_below` hands an entry for a RUN's target: the target's list where it is closed.
abbrev pub look_below : (ℕ → Bool) → (ℕ → List Command) → ℕ → ℕ → List Kind
look_below cl es n k = cond (cl k) (flat_below cl es n k) []

-- One step: macro n's own list is made of its entries, and every other macro's is that of one fuel less.
module _ (cl : ℕ → Bool) (es : ℕ → List Command) where
  pub flat_at : (n m : ℕ) → m ≡ n → flat_below cl es (suc n) m ≡ expand (look_below cl es n) (es m)
  unfolding flat_below
  flat_at n m h = rw (eq-eqb m n h, flat_below) (ap (λ k. expand (look_below cl es n) (es k)) (sym h))

  pub flat_own : (m : ℕ) → flat_below cl es (suc m) m ≡ expand (look_below cl es m) (es m)
  flat_own m = flat_at m m refl

  pub flat_other : (n m : ℕ) → (m ≡ n → ⊥) → flat_below cl es (suc n) m ≡ flat_below cl es n m
  unfolding flat_below
  flat_other n m h = rw (ne_eqb m n h, flat_below)

  -- More fuel changes nothing.
  pub flat_fuel : (n m : ℕ) → m < n → flat_below cl es n m ≡ flat_below cl es (suc m) m
  flat_fuel zero m h = absurd (omega arith)
  flat_fuel (suc n) m h = go (eqb m n) refl (flat_fuel n m)
    where
      go : (b : Bool) → eqb m n ≡ b → (m < n → flat_below cl es n m ≡ flat_below cl es (suc m) m)
          → flat_below cl es (suc n) m ≡ flat_below cl es (suc m) m
      go true e less = ap (λ k. flat_below cl es (suc k) m) (sym (eqb-true m n e))
      go false e less = flat_other n m (eqb-false m n e) ∙ less (let f : m ≡ n → ⊥ = eqb-false m n e in omega arith)

  -- A macro that the fuel does not reach has no list.
  pub flat_past : (n m : ℕ) → n ≤ m → flat_below cl es n m ≡ []
  unfolding flat_below
  flat_past zero m h = refl
  flat_past (suc n) m h = flat_other n m (λ e. omega arith) ∙ flat_past n m (omega arith)

-- A property of each entry of a list.
abbrev pub Each : (Command → Type 0) → List Command → Type 0
Each P [] = Unit
Each P (e ∷ es) = P e × Each P es

-- A RUN's target is marked; any other role has no target.
abbrev pub TargetIn : (ℕ → Bool) → Role → Type 0
TargetIn cl Role.Plain = Unit
TargetIn cl (Role.Open m) = Unit
TargetIn cl Role.Close = Unit
TargetIn cl (Role.Run m) = cl m ≡ true
TargetIn cl (Role.Wait n) = Unit
TargetIn cl Role.Stop = Unit
TargetIn cl Role.Clear = Unit

abbrev pub RunsIn : (ℕ → Bool) → List Command → Type 0
RunsIn cl es = Each (λ e. TargetIn cl (role_of e.kind)) es

-- Two look-ups that agree on the marked macros give equal lists of entries that run marked ones only.
expand_as_agree : (cl : ℕ → Bool) (f g : ℕ → List Kind) → ((k : ℕ) → cl k ≡ true → f k ≡ g k)
    → (kind : Kind) (r : Role) → TargetIn cl r → expand_as f kind r ≡ expand_as g kind r
expand_as_agree cl f g h kind Role.Plain t = refl
expand_as_agree cl f g h kind (Role.Open m) t = refl
expand_as_agree cl f g h kind Role.Close t = refl
expand_as_agree cl f g h kind (Role.Run m) t = h m t
expand_as_agree cl f g h kind (Role.Wait n) t = refl
expand_as_agree cl f g h kind Role.Stop t = refl
expand_as_agree cl f g h kind Role.Clear t = refl

expand_agree : (cl : ℕ → Bool) (f g : ℕ → List Kind) → ((k : ℕ) → cl k ≡ true → f k ≡ g k)
    → (es : List Command) → RunsIn cl es → expand f es ≡ expand g es
unfolding expand
expand_agree cl f g h [] runs = refl
expand_agree cl f g h (e ∷ es) runs =
    rw (expand_as_agree cl f g h e.kind (role_of e.kind) runs.0, expand_agree cl f g h es runs.1)

-- A look-up changes with the lists of the marked macros only, and an unmarked macro may become marked unseen.
look_agree : (cl cl' : ℕ → Bool) (es es' : ℕ → List Command) (n k : ℕ) → cl k ≡ true → cl' k ≡ true
    → flat_below cl es n k ≡ flat_below cl' es' n k → look_below cl es n k ≡ look_below cl' es' n k
look_agree cl cl' es es' n k c c' e = rw (c, c') e

looks_agree : (cl : ℕ → Bool) (es es' : ℕ → List Command) (n : ℕ) → ((k : ℕ) → cl k ≡ true → flat_below cl es n k ≡ flat_below cl es' n k)
    → look_below cl es n ≡ look_below cl es' n
looks_agree cl es es' n same = fun_ext (λ k. go k (cl k) refl)
  where
    go : (k : ℕ) (b : Bool) → cl k ≡ b → look_below cl es n k ≡ look_below cl es' n k
    go k true c = look_agree cl cl es es' n k c c (same k c)
    go k false c = rw c

-- Two pairs of marks and entries: one step of fuel.
frame_step : (cl cl' : ℕ → Bool) (es es' : ℕ → List Command) (n m : ℕ) → es m ≡ es' m
    → expand (look_below cl es n) (es m) ≡ expand (look_below cl' es' n) (es m)
    → flat_below cl es n m ≡ flat_below cl' es' n m → flat_below cl es (suc n) m ≡ flat_below cl' es' (suc n) m
frame_step cl cl' es es' n m own looks less = go (eqb m n) refl
  where
    go : (b : Bool) → eqb m n ≡ b → flat_below cl es (suc n) m ≡ flat_below cl' es' (suc n) m
    go false e = flat_other cl es n m (eqb-false m n e) ∙ less ∙ sym (flat_other cl' es' n m (eqb-false m n e))
    go true e =
        flat_at cl es n m (eqb-true m n e)
        ∙ looks
        ∙ ap (expand (look_below cl' es' n)) own
        ∙ sym (flat_at cl' es' n m (eqb-true m n e))

-- The frame law: the list of macro m depends on m's own entries and on those of the closed macros alone.
module _ (cl : ℕ → Bool) (es es' : ℕ → List Command) (same : (k : ℕ) → cl k ≡ true → es k ≡ es' k) where
  pub frame : (n m : ℕ) → es m ≡ es' m → flat_below cl es n m ≡ flat_below cl es' n m
  unfolding flat_below
  frame zero m own = refl
  frame (suc n) m own =
      frame_step cl cl es es' n m own
      (ap (λ look. expand look (es m)) (looks_agree cl es es' n (λ k c. frame n k (same k c))))
      (frame n m own)

-- Marks may grow: where the closed macros, and macro m itself, run closed ones only, a mark more changes nothing.
module _ (cl cl' : ℕ → Bool) (es es' : ℕ → List Command) (same : (k : ℕ) → cl k ≡ true → es k ≡ es' k)
    (grow : (k : ℕ) → cl k ≡ true → cl' k ≡ true) (runs : (k : ℕ) → cl k ≡ true → RunsIn cl (es k)) where
  pub grown : (n m : ℕ) → es m ≡ es' m → RunsIn cl (es m) → flat_below cl es n m ≡ flat_below cl' es' n m
  unfolding flat_below
  grown zero m own inside = refl
  grown (suc n) m own inside =
      frame_step cl cl' es es' n m own
      (expand_agree cl (look_below cl es n) (look_below cl' es' n)
      (λ k c. look_agree cl cl' es es' n k c (grow k c) (grown n k (same k c) (runs k c)))
      (es m)
      inside)
      (grown n m own inside)

-- Both laws on stores: equal marks and equal entries of the closed macros, and of macro m, give m the same list, and the same written-out list.
pub flat_frame : (s t : Store) → s.closed ≡ t.closed → ((k : ℕ) → is_closed s k ≡ true → entries_of s k ≡ entries_of t k)
    → (m : ℕ) → entries_of s m ≡ entries_of t m → flat s m ≡ flat t m
unfolding flat
flat_frame s t marks same m own =
    frame (is_closed s) (entries_of s) (entries_of t) same (suc m) m own
    ∙ ap (λ cl. flat_below (λ k. get_or cl k false) (entries_of t) (suc m) m) marks

-- Marks that grow change the list of no macro that runs closed ones only.
pub flat_grown : (s t : Store) → ((k : ℕ) → is_closed s k ≡ true → is_closed t k ≡ true)
    → ((k : ℕ) → is_closed s k ≡ true → entries_of s k ≡ entries_of t k)
    → ((k : ℕ) → is_closed s k ≡ true → RunsIn (is_closed s) (entries_of s k))
    → (m : ℕ) → entries_of s m ≡ entries_of t m → RunsIn (is_closed s) (entries_of s m) → flat s m ≡ flat t m
unfolding flat
flat_grown s t grow same runs m own inside =
    grown (is_closed s) (is_closed t) (entries_of s) (entries_of t) same grow runs (suc m) m own inside

-- Macros with the same list have the same seconds.
pub written_same : (s t : Store) (m k : ℕ) → flat s m ≡ flat t k → written_out s m ≡ written_out t k
unfolding written_out
written_same s t m k same = ap (λ ks. seconds (items_of ks)) same

-- Two lists of entries one after the other, and one entry alone.
pub expand-append : (look : ℕ → List Kind) (xs ys : List Command) → expand look (xs ++ ys) ≡ expand look xs ++ expand look ys
unfolding expand
expand-append look [] ys = refl
expand-append look (x ∷ xs) ys =
    rw (expand-append look xs ys) (sym (append_assoc (expand_as look x.kind (role_of x.kind)) (expand look xs) (expand look ys)))

pub items_append : (xs ys : List Kind) → items_of (xs ++ ys) ≡ items_of xs ++ items_of ys
items_append [] ys = refl
items_append (x ∷ xs) ys = ap (λ l. item_of x ∷ l) (items_append xs ys)
