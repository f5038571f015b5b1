-- `shown` meets its contract: what `part_of` finds under the number asked for, in the list that is looked in, is what is to be shown (`Parts`).
use Prim.Native.Nat.{ℕ}
use mathlib.Core.Path.{◌≡◌, ◌∙◌}
use mathlib.Core.Bool.{Bool, true, false, cond}
use mathlib.Core.List.{List}
use lib.Dec.{eqb}
use denote.Ref.{Bor}
use borrow.Author.Tests.{eq-eqb, ne_eqb}
use Rattle.walk.specs.Shown.{start_of, command_of, shown_of, asked_of, offset_to, offset_of, slice_of, Placed}
use Rattle.walk.proofs.Parts.{looked_up}
use Rattle.walk.proofs.shown.Goals as goal

-- `part_of`'s answer r, from the slice that is looked in and under the number asked for, n.
answered : (kit pupil r : Bor (List ℕ)) (sender number n : ℕ) (two : Bool) → n ≡ asked_of kit.now pupil.now sender number → eqb sender 2 ≡ two
    → (let s = cond two pupil kit in (r.now ≡ command_of s.now n) × Placed s r (offset_to (command_of s.now n) (start_of s.now n)))
    → (r.now ≡ shown_of kit.now pupil.now sender number) × Placed (slice_of kit pupil sender) r (offset_of kit.now pupil.now sender number)
answered kit pupil r sender number n true is two (bytes, place) =
    let found = looked_up kit.now pupil.now sender number n true is two in (bytes ∙ found.0, rw (two, ← found.1) place)
answered kit pupil r sender number n false is two (bytes, place) =
    let found = looked_up kit.now pupil.now sender number n false is two in (bytes ∙ found.0, rw (two, ← found.1) place)

pub returns-then-sender-eq-PUPIL-clause-result_value : goal.returns-then-sender-eq-PUPIL-clause-result_value
returns-then-sender-eq-PUPIL-clause-result_value c =
    let start = c.args in
    let asked = c.number_asked-asked in
    (answered start.kit start.pupil c.part_of.result start.sender start.number asked.result true asked.ensures
    (eq-eqb start.sender 2 c.if-sender-eq-PUPIL.true) (c.part_of.ensures.result_value, c.part_of.ensures.placed)).0

pub returns-then-sender-eq-PUPIL-clause-placed : goal.returns-then-sender-eq-PUPIL-clause-placed
returns-then-sender-eq-PUPIL-clause-placed c =
    let start = c.args in
    let asked = c.number_asked-asked in
    (answered start.kit start.pupil c.part_of.result start.sender start.number asked.result true asked.ensures
    (eq-eqb start.sender 2 c.if-sender-eq-PUPIL.true) (c.part_of.ensures.result_value, c.part_of.ensures.placed)).1

pub returns-else-sender-eq-PUPIL-clause-result_value : goal.returns-else-sender-eq-PUPIL-clause-result_value
returns-else-sender-eq-PUPIL-clause-result_value c =
    let start = c.args in
    let asked = c.number_asked-asked in
    (answered start.kit start.pupil c.part_of-else-sender-eq-PUPIL.result start.sender start.number asked.result false asked.ensures
    (ne_eqb start.sender 2 c.if-sender-eq-PUPIL.false) (c.part_of-else-sender-eq-PUPIL.ensures.result_value, c.part_of-else-sender-eq-PUPIL.ensures.placed)).0

pub returns-else-sender-eq-PUPIL-clause-placed : goal.returns-else-sender-eq-PUPIL-clause-placed
returns-else-sender-eq-PUPIL-clause-placed c =
    let start = c.args in
    let asked = c.number_asked-asked in
    (answered start.kit start.pupil c.part_of-else-sender-eq-PUPIL.result start.sender start.number asked.result false asked.ensures
    (ne_eqb start.sender 2 c.if-sender-eq-PUPIL.false) (c.part_of-else-sender-eq-PUPIL.ensures.result_value, c.part_of-else-sender-eq-PUPIL.ensures.placed)).1
