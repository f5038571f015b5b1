-- Laws of a list second by second: a list that goes on, the most entries in one of its seconds, and that every WAIT of a store lasts. WrittenOut.antt
-- says in 02's words what follows.
use Prim.Native.Nat.{ℕ, zero, suc, ◌%◌, ◌/◌, ◌≤◌}
use mathlib.Core.Path.{◌≡◌, refl}
use mathlib.Core.List.{List, [], ◌∷◌, ◌++◌}
use mathlib.Core.Bool.{Bool, true, false, cond, ◌&&◌}
use native.Mathlib.Omega.{arith}
use lib.ListN.{length, get_or}
use lib.Dec.{leb, eqb}
use borrow.Author.Tests.{leb-true, eqb-true}
use Rattle.words.proofs.Tests.{both}
use Rattle.wire.specs.declared.table.Form.{Form}
use Rattle.std.specs.Prelude.{Option, Some, None}
use Rattle.wire.specs.declared.kinds.Kind.{Kind}
use Rattle.wire.specs.Table.{row_of, rule_of}
use Rattle.wire.specs.Kind.{kind_of}
use Rattle.wire.specs.Judge.{first_bad}
use Rattle.store.specs.declared.Store.{Store}
use Rattle.store.specs.Words.{no_command, command_for}
use Rattle.store.specs.Pool.{entries_of}
use Rattle.store.specs.WrittenOut.{Item, item_of, items_of, flat, seconds, most_in}
use Rattle.store.proofs.Flat.{Each}
use Rattle.store.proofs.Contents.{All, all_map, entries_each, Gives, flat_all}
use Rattle.store.proofs.Seconds.{length_in_first, length_closes}

-- A list that goes on has no fewer seconds.
pub seconds_longer : (xs ys : List Item) → length (seconds xs) ≤ length (seconds (xs ++ ys))
unfolding seconds
seconds_longer [] ys = omega arith
seconds_longer (Item.entry kind ∷ xs) ys =
    rw (length_in_first kind (seconds xs), length_in_first kind (seconds (xs ++ ys))) (omega (arith, seconds_longer xs ys))
seconds_longer (Item.wait n ∷ xs) ys =
    rw (length_closes n (seconds xs), length_closes n (seconds (xs ++ ys))) (omega (arith, seconds_longer xs ys))

-- No second has more entries than the most, and the most is no more than what no second exceeds.
pub most_reached : (gs : List (List Kind)) (k : ℕ) → length (get_or gs k []) ≤ most_in gs
unfolding most_in
most_reached [] k = omega arith
most_reached (g ∷ gs) zero = omega arith
most_reached (g ∷ gs) (suc k) = omega (arith, most_reached gs k)

pub most_least : (gs : List (List Kind)) (n : ℕ) → ((k : ℕ) → length (get_or gs k []) ≤ n) → most_in gs ≤ n
unfolding most_in
most_least [] n each = omega arith
most_least (g ∷ gs) n each = omega (arith, each 0, most_least gs n (λ k. each (suc k)))

-- A WAIT is of 1 second or more; an entry is no WAIT.
abbrev pub Lasts : Item → Type 0
Lasts (Item.entry kind) = Unit
Lasts (Item.wait n) = 1 ≤ n

abbrev KindLasts : Kind → Type 0
KindLasts kind = Lasts (item_of kind)

-- What three words say is in range or no command, so no store has a WAIT of 0.
wait_lasts : (first second : ℕ) → first_bad (row_of Form.Wait) first second ≡ 0 → 1 ≤ first % 65536
wait_lasts first second bad = go (leb 1 first && leb first 600) refl bad
  where
    go : (b : Bool) → (leb 1 first && leb first 600) ≡ b → ◌≡◌ {A = ℕ} (cond b (cond (leb 0 second && leb second 0) 0 2) 1) 0 → 1 ≤ first % 65536
    go true e bad =
        let range = both (leb 1 first) (leb first 600) e in
        omega (arith, leb-true 1 first range.0, leb-true first 600 range.1)
    go false e bad = absurd (omega arith)

form_lasts : (form : Form) (first second : ℕ) → first_bad (row_of form) first second ≡ 0 → KindLasts (kind_of form first second)
form_lasts Form.ImgPwr first second bad = tt
form_lasts Form.ImgRegion first second bad = tt
form_lasts Form.ImgTrack first second bad = tt
form_lasts Form.TrkAlg first second bad = tt
form_lasts Form.TrkLoop first second bad = tt
form_lasts Form.ImgImage first second bad = tt
form_lasts Form.TrkGoal first second bad = tt
form_lasts Form.TlmFlush first second bad = tt
form_lasts Form.FlushAuto first second bad = tt
form_lasts Form.Open first second bad = tt
form_lasts Form.Close first second bad = tt
form_lasts Form.Run first second bad = tt
form_lasts Form.Wait first second bad = wait_lasts first second bad
form_lasts Form.Stop first second bad = tt
form_lasts Form.Clear first second bad = tt

command_lasts : (found : Option (Form × ℕ)) (flag : Bool) (first second : ℕ) → KindLasts (command_for found flag first second).kind
command_lasts None flag first second = tt
command_lasts (Some (form, words)) flag first second = go (eqb (first_bad (row_of form) first second) 0) refl
  where
    go : (b : Bool) → eqb (first_bad (row_of form) first second) 0 ≡ b
        → KindLasts (cond b (record { flag = flag; kind = kind_of form first second }) no_command).kind
    go true e = form_lasts form first second (eqb-true (first_bad (row_of form) first second) 0 e)
    go false e = tt

entries_last : (s : Store) (m : ℕ) → Each (Gives KindLasts) (entries_of s m)
entries_last s m = entries_each (Gives KindLasts) (λ a b c itself. command_lasts (rule_of (a / 2)) (eqb (a % 2) 1) b c) s m

-- So every WAIT of a list lasts.
pub waits_last : (s : Store) (m : ℕ) → All Lasts (items_of (flat s m))
waits_last s m = all_map Lasts item_of (flat s m) (flat_all KindLasts s (λ k closed. entries_last s k) m (entries_last s m))
