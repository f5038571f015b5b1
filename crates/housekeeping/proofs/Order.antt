-- Demand 2, "the one code that stands first in the order of checks", for the housekeeping frame: 47, 48 and 49 at each item in turn, then 50; writing
-- tries 24 alone. 47 to 49 stand four times among the rows of a reading, so that there a row is named by its place.
use Prim.Native.Nat.{ℕ}
use mathlib.Core.Path.{refl}
use mathlib.Core.List.{List}
use Rattle.words.specs.Codes.{first_of}
use Rattle.words.proofs.Order.{Order, order, InOrder, in_order}
use Rattle.housekeeping.specs.declared.Housekeeping.{Housekeeping}
use Rattle.housekeeping.specs.declared.Item.{Item}
use Rattle.housekeeping.specs.Answers.{item_checks, read_checks, read_code, write_checks, write_code}

-- At one item,
pub item_order : (item : Item) (s : List ℕ) → Order (item_checks item s) (first_of (item_checks item s))
item_order item s = order (item_checks item s) refl

-- and over the whole frame, the code is that of the first row that is due, and 0 exactly when none is.
pub read_order : (s : List ℕ) → InOrder (read_checks s) (read_code s)
unfolding read_code
read_order s = in_order (read_checks s) refl

-- The same of a writing.
pub write_order : (h : Housekeeping) (room : List ℕ) → Order (write_checks h room) (write_code h room)
unfolding write_code
write_order h room = order (write_checks h room) refl
