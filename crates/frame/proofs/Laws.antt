-- What the rules of the status frame say, as plain facts, and that these facts are all of them.
use Prim.Native.Nat.{ℕ, ◌≤◌, ◌<◌, ◌^◌}
use mathlib.Core.Path.{◌≡◌, refl, sym, ◌∙◌}
use mathlib.Core.Logic.{◌⊎◌, inl, inr}
use mathlib.Core.Bool.{Bool, true, false, cond, not, beq, ◌&&◌, ◌||◌, false≢true}
use native.Mathlib.Omega.{arith}
use lib.Dec.{leb, ltb, eqb}
use borrow.Author.Tests.{lt-ltb, le-leb, eq-eqb, ne_eqb, ltb-true, leb-true, eqb-true, eqb-false, not-true}
use Rattle.words.proofs.Tests.{both}
use Rattle.wire.specs.declared.table.Form.{Form}
use Rattle.wire.specs.Table.{row_of}
use Rattle.wire.specs.Judge.{first_bad}
use Rattle.frame.specs.declared.Frame.{Frame}
use Rattle.frame.specs.declared.Pace.{Pace}
use Rattle.frame.specs.Rules.{intervals_hold, ranges_hold, macro_or_none, numbers_hold, left_holds, marked, marks_hold, frame_rule}

-- A frame that a program can hold: each field is below its width.
pub record HeldPace (p : Pace) : Type 0 where
  pub time : p.time < 2 ^ 16
  pub interval : p.interval < 2 ^ 16
  pub count : p.count < 2 ^ 16

pub record Held (f : Frame) : Type 0 where
  pub image : HeldPace f.image
  pub track : HeldPace f.track
  pub x : f.x < 2 ^ 16
  pub y : f.y < 2 ^ 16
  pub xgoal : f.xgoal < 2 ^ 32
  pub ygoal : f.ygoal < 2 ^ 32
  pub algorithm : f.algorithm < 2 ^ 8
  pub flushes : f.flushes < 2 ^ 8
  pub running : f.running < 2 ^ 8
  pub opened : f.opened < 2 ^ 8
  pub left : f.left < 2 ^ 16
  pub closed : f.closed < 2 ^ 8

-- What `frame_rule` says of the fields.
pub record Ruled (f : Frame) : Type 0 where
  pub image_interval : 1 ≤ f.image.interval
  pub track_interval : 1 ≤ f.track.interval
  pub x : f.x ≤ 1023
  pub y : f.y ≤ 1023
  pub goal : first_bad (row_of Form.TrkGoal) f.xgoal f.ygoal ≡ 0
  pub algorithm : f.algorithm ≤ 2
  pub running : (f.running < 8) ⊎ (f.running ≡ 255)
  pub opened : (f.opened < 8) ⊎ (f.opened ≡ 255)
  pub idle_ended : f.running ≡ 255 → f.left ≡ 0
  pub ended_idle : f.left ≡ 0 → f.running ≡ 255
  pub left : f.left ≤ 600
  pub running_marked : f.running < 8 → marked f.closed f.running ≡ true
  pub opened_unmarked : marked f.closed f.opened ≡ false

-- One of two tests holds.
either : (a b : Bool) → (a || b) ≡ true → (a ≡ true) ⊎ (b ≡ true)
either true b e = inl refl
either false b e = inr e

same : (a b : Bool) → beq a b ≡ true → a ≡ b
same true true e = refl
same true false e = absurd (false≢true e)
same false true e = absurd (false≢true e)
same false false e = refl

same_refl : (a : Bool) → beq a a ≡ true
same_refl true = refl
same_refl false = refl

-- No argument is bad exactly when both are within their limits.
within : (a b : Bool) → ◌≡◌ {A = ℕ} (cond a (cond b 0 2) 1) 0 → (a ≡ true) × (b ≡ true)
within true true e = (refl, refl)
within true false e = absurd (omega arith)
within false b e = absurd (omega arith)

pub region_within : (x y : ℕ) → first_bad (row_of Form.ImgRegion) x y ≡ 0 → (x ≤ 1023) × (y ≤ 1023)
region_within x y e =
    let parts = within (leb 0 x && leb x 1023) (leb 0 y && leb y 1023) e in (
      leb-true x 1023 (both (leb 0 x) (leb x 1023) parts.0).1,
      leb-true y 1023 (both (leb 0 y) (leb y 1023) parts.1).1,
    )

pub within_region : (x y : ℕ) → x ≤ 1023 → y ≤ 1023 → first_bad (row_of Form.ImgRegion) x y ≡ 0
within_region x y hx hy = simp (le-leb 0 x (omega arith), le-leb 0 y (omega arith), le-leb x 1023 hx, le-leb y 1023 hy)

pub mode_within : (mode : ℕ) → first_bad (row_of Form.TrkAlg) mode 0 ≡ 0 → mode ≤ 2
mode_within mode e = leb-true mode 2 (both (leb 0 mode) (leb mode 2) (within (leb 0 mode && leb mode 2) true e).0).1

pub within_mode : (mode : ℕ) → mode ≤ 2 → first_bad (row_of Form.TrkAlg) mode 0 ≡ 0
within_mode mode h = simp (le-leb 0 mode (omega arith), le-leb mode 2 h)

-- A macro's number, or none.
number : (m : ℕ) → macro_or_none m ≡ true → (m < 8) ⊎ (m ≡ 255)
number m e = go (either (ltb m 8) (eqb m 255) e)
  where
    go : (ltb m 8 ≡ true) ⊎ (eqb m 255 ≡ true) → (m < 8) ⊎ (m ≡ 255)
    go (inl t) = inl (ltb-true m 8 t)
    go (inr t) = inr (eqb-true m 255 t)

number_back : (m : ℕ) → (m < 8) ⊎ (m ≡ 255) → macro_or_none m ≡ true
number_back m (inl h) = simp (lt-ltb m 8 h)
number_back m (inr h) = rw h

-- Two tests for equality that go together.
exactly : (a b c d : ℕ) → eqb a b ≡ eqb c d → a ≡ b → c ≡ d
exactly a b c d e h = eqb-true c d (sym e ∙ eq-eqb a b h)

together : (a b c d : ℕ) → (a ≡ b → c ≡ d) → (c ≡ d → a ≡ b) → eqb a b ≡ eqb c d
together a b c d on back = go (eqb c d) refl
  where
    go : (t : Bool) → eqb c d ≡ t → eqb a b ≡ t
    go true e = eq-eqb a b (back (eqb-true c d e))
    go false e = ne_eqb a b (λ h. eqb-false c d e (on h))

-- The running macro's mark.
mark_of : (closed running : ℕ) → (eqb running 255 || marked closed running) ≡ true → running < 8 → marked closed running ≡ true
mark_of closed running e h =
    let busy : eqb running 255 ≡ false = ne_eqb running 255 (λ idle. absurd (omega arith)) in
    simp busy at e

mark_back : (closed running : ℕ) → (running < 8) ⊎ (running ≡ 255) → (running < 8 → marked closed running ≡ true)
    → (eqb running 255 || marked closed running) ≡ true
mark_back closed running (inl h) mark =
    let busy : eqb running 255 ≡ false = ne_eqb running 255 (λ idle. absurd (omega arith)) in
    simp (busy, mark h)
mark_back closed running (inr h) mark = simp (eq-eqb running 255 h)

-- A frame that obeys the rules: the facts.
pub ruled : (f : Frame) → frame_rule f ≡ true → Ruled f
unfolding frame_rule
ruled f e =
    let to_marks = both (intervals_hold f && ranges_hold f && numbers_hold f && left_holds f) (marks_hold f) e in
    let to_left = both (intervals_hold f && ranges_hold f && numbers_hold f) (left_holds f) to_marks.0 in
    let to_numbers = both (intervals_hold f && ranges_hold f) (numbers_hold f) to_left.0 in
    let to_ranges = both (intervals_hold f) (ranges_hold f) to_numbers.0 in
    let intervals = both (leb 1 f.image.interval) (leb 1 f.track.interval) to_ranges.0 in
    let region = eqb (first_bad (row_of Form.ImgRegion) f.x f.y) 0 in
    let goal = eqb (first_bad (row_of Form.TrkGoal) f.xgoal f.ygoal) 0 in
    let mode = eqb (first_bad (row_of Form.TrkAlg) f.algorithm 0) 0 in
    let ranges = both (region && goal) mode to_ranges.1 in
    let places = both region goal ranges.0 in
    let at = region_within f.x f.y (eqb-true (first_bad (row_of Form.ImgRegion) f.x f.y) 0 places.0) in
    let numbers = both (macro_or_none f.running) (macro_or_none f.opened) to_numbers.1 in
    let lefts = both (beq (eqb f.left 0) (eqb f.running 255)) (leb f.left 600) to_left.1 in
    let ends : eqb f.left 0 ≡ eqb f.running 255 = same (eqb f.left 0) (eqb f.running 255) lefts.0 in
    let marks = both (eqb f.running 255 || marked f.closed f.running) (not (marked f.closed f.opened)) to_marks.1 in
    record {
      image_interval = leb-true 1 f.image.interval intervals.0;
      track_interval = leb-true 1 f.track.interval intervals.1;
      x = at.0;
      y = at.1;
      goal = eqb-true (first_bad (row_of Form.TrkGoal) f.xgoal f.ygoal) 0 places.1;
      algorithm = mode_within f.algorithm (eqb-true (first_bad (row_of Form.TrkAlg) f.algorithm 0) 0 ranges.1);
      running = number f.running numbers.0;
      opened = number f.opened numbers.1;
      idle_ended = exactly f.running 255 f.left 0 (sym ends);
      ended_idle = exactly f.left 0 f.running 255 ends;
      left = leb-true f.left 600 lefts.1;
      running_marked = mark_of f.closed f.running marks.0;
      opened_unmarked = not-true (marked f.closed f.opened) marks.1;
    }

-- And the facts give the rules.
pub obeyed : (f : Frame) → Ruled f → frame_rule f ≡ true
unfolding frame_rule
obeyed f r =
    let intervals : intervals_hold f ≡ true =
    simp (le-leb 1 f.image.interval r.image_interval, le-leb 1 f.track.interval r.track_interval)
    in
    let region : eqb (first_bad (row_of Form.ImgRegion) f.x f.y) 0 ≡ true =
    eq-eqb (first_bad (row_of Form.ImgRegion) f.x f.y) 0 (within_region f.x f.y r.x r.y)
    in
    let goal : eqb (first_bad (row_of Form.TrkGoal) f.xgoal f.ygoal) 0 ≡ true = eq-eqb (first_bad (row_of Form.TrkGoal) f.xgoal f.ygoal) 0 r.goal in
    let mode : eqb (first_bad (row_of Form.TrkAlg) f.algorithm 0) 0 ≡ true =
    eq-eqb (first_bad (row_of Form.TrkAlg) f.algorithm 0) 0 (within_mode f.algorithm r.algorithm)
    in
    let numbers : numbers_hold f ≡ true = simp (number_back f.running r.running, number_back f.opened r.opened) in
    let ends : eqb f.left 0 ≡ eqb f.running 255 = together f.left 0 f.running 255 r.ended_idle r.idle_ended in
    let lefts : left_holds f ≡ true = rw (ends, same_refl (eqb f.running 255), le-leb f.left 600 r.left) in
    let marks : marks_hold f ≡ true = simp (mark_back f.closed f.running r.running r.running_marked, r.opened_unmarked) in
    simp (intervals, region, goal, mode, numbers, lefts, marks)
