-- 01, "The reader demands": one definition to a rule on the fields of a frame, and all of them together. A bench is sound only where its
-- own fields obey them too.
use Rattle.std.specs.Prelude.{ℕ, ◌/◌, ◌%◌, ◌^◌, Bool, not, ◌&&◌, ◌||◌, leb, ltb, eqb}
use Rattle.std.specs.Bool.{beq}
use Rattle.wire.specs.declared.table.Form.{Form}
use Rattle.wire.specs.Table.{row_of}
use Rattle.wire.specs.Judge.{first_bad}
use Rattle.frame.specs.declared.Frame.{Frame}

-- "intervals at least 1"
abbrev pub intervals_hold : Frame → Bool
intervals_hold f = leb 1 f.image.interval && leb 1 f.track.interval

-- "X and Y, goal and algorithm in range": the limits of the commands that set them.
abbrev pub ranges_hold : Frame → Bool
ranges_hold f =
    eqb (first_bad (row_of Form.ImgRegion) f.x f.y) 0
    && eqb (first_bad (row_of Form.TrkGoal) f.xgoal f.ygoal) 0
    && eqb (first_bad (row_of Form.TrkAlg) f.algorithm 0) 0

-- A macro's number, or 255 for none.
abbrev pub macro_or_none : ℕ → Bool
macro_or_none m = ltb m 8 || eqb m 255

-- "bytes 26 and 27 each 0-7 or 255"
abbrev pub numbers_hold : Frame → Bool
numbers_hold f = macro_or_none f.running && macro_or_none f.opened

-- "seconds left 0 exactly when byte 26 is 255 and never above 600"
abbrev pub left_holds : Frame → Bool
left_holds f = beq (eqb f.left 0) (eqb f.running 255) && leb f.left 600

-- Bit m of a byte of marks.
abbrev pub marked : ℕ → ℕ → Bool
marked marks m = ltb m 8 && eqb (marks / 2 ^ m % 2) 1

-- "the running macro's bit set, the open one's not set"
abbrev pub marks_hold : Frame → Bool
marks_hold f = (eqb f.running 255 || marked f.closed f.running) && not (marked f.closed f.opened)

-- Every rule on the fields.
unfoldable pub frame_rule : Frame → Bool
frame_rule f = intervals_hold f && ranges_hold f && numbers_hold f && left_holds f && marks_hold f
