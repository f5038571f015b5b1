-- The written-out list of a macro: its entries in order, "an appended RUN is replaced by the whole written-out list of its target", and then second
-- by second: "a second hands over all entries up to the next WAIT (not itself) or the end" (02, Q-2).
use Rattle.std.specs.Prelude.{ℕ, zero, suc, max, List, [], ◌∷◌, ◌++◌, map, Bool, true, false, cond, length, replicate, eqb}
use Rattle.wire.specs.declared.kinds.Kind.{Kind}
use Rattle.wire.specs.declared.kinds.Command.{Command}
use Rattle.store.specs.declared.Store.{Store}
use Rattle.store.specs.declared.roles.Role.{Role}
use Rattle.store.specs.Roles.{role_of}
use Rattle.store.specs.Pool.{is_closed, entries_of}

-- One entry, RUNs replaced: `look` gives the list of a target.
abbrev pub expand_as : (ℕ → List Kind) → Kind → Role → List Kind
expand_as look kind Role.Plain = kind ∷ []
expand_as look kind (Role.Open m) = kind ∷ []
expand_as look kind Role.Close = kind ∷ []
expand_as look kind (Role.Run m) = look m
expand_as look kind (Role.Wait n) = kind ∷ []
expand_as look kind Role.Stop = kind ∷ []
expand_as look kind Role.Clear = kind ∷ []

-- The entries in order, RUNs replaced.
unfoldable pub expand : (ℕ → List Kind) → List Command → List Kind
expand look [] = []
expand look (e ∷ es) = expand_as look e.kind (role_of e.kind) ++ expand look es

-- The lists of the macros below n, RUNs replaced and WAITs kept: a target is a closed macro with a smaller number, so the list is finite.
-- (A RUN of any other macro is in no sound store; it would add nothing.)
unfoldable pub flat_below : (ℕ → Bool) → (ℕ → List Command) → ℕ → ℕ → List Kind
flat_below closed entries zero m = []
flat_below closed entries (suc n) m =
    elim (eqb m n) [
      | true ↦ expand (λ k. cond (closed k) (flat_below closed entries n k) []) (entries n)
      | false ↦ flat_below closed entries n m
    ]

unfoldable pub flat : Store → ℕ → List Kind
flat s m = flat_below (is_closed s) (entries_of s) (suc m) m

-- What a kind is to the seconds, once RUNs are replaced: an entry that is handed over, or a WAIT.
pub data Item : Type 0 where
  entry : Kind → Item
  wait : ℕ → Item

abbrev pub item_as : Role → Kind → Item
item_as Role.Plain kind = Item.entry kind
item_as (Role.Open m) kind = Item.entry kind
item_as Role.Close kind = Item.entry kind
item_as (Role.Run m) kind = Item.entry kind
item_as (Role.Wait n) kind = Item.wait n
item_as Role.Stop kind = Item.entry kind
item_as Role.Clear kind = Item.entry kind

abbrev pub item_of : Kind → Item
item_of kind = item_as (role_of kind) kind

abbrev pub items_of : List Kind → List Item
items_of ks = map item_of ks

-- One kind more at the front of the first second; where there is none, it makes one.
abbrev pub in_first : Kind → List (List Kind) → List (List Kind)
in_first kind [] = (kind ∷ []) ∷ []
in_first kind (group ∷ later) = (kind ∷ group) ∷ later

-- Second by second, the group of kinds that each one hands over: an entry comes first in the second of what follows it, and "WAIT n closes its second
-- and is followed by n-1 empty ones". (A WAIT of 0 is in no store; it would add nothing.)
unfoldable pub seconds : List Item → List (List Kind)
seconds [] = []
seconds (Item.entry kind ∷ items) = in_first kind (seconds items)
seconds (Item.wait n ∷ items) = replicate n [] ++ seconds items

-- The most entries that any of these seconds has.
unfoldable pub most_in : List (List Kind) → ℕ
most_in [] = 0
most_in (group ∷ later) = max (length group) (most_in later)

-- The written-out list of macro m: a group to each of its seconds.
unfoldable pub written_out : Store → ℕ → List (List Kind)
unfolding flat
written_out s m = seconds (items_of (flat s m))
