-- Demand 2, "Commands .. can be written as well as read, and come back equal", of what the two calls answer; and that a refused writing touches
-- nothing.
use Prim.Native.Nat.{ℕ, ◌*◌, ◌≤◌}
use mathlib.Core.Path.{◌≡◌, sym, ap, ◌∙◌}
use mathlib.Core.Logic.{◌≢◌}
use mathlib.Core.List.{List, [], ◌∷◌, ◌++◌}
use mathlib.Core.Bool.{true, cond}
use native.Mathlib.Omega.{arith}
use lib.ListN.{length, take, drop}
use lib.Seq.{length-take-le}
use borrow.Author.Tests.{ne_eqb, le-leb, not-false}
use Rattle.words.specs.BigEndian.{has_room, written}
use Rattle.words.proofs.Order.{NoneDue, none_due}
use Rattle.words.proofs.Front.{Bytes}
use Rattle.wire.specs.declared.kinds.Command.{Command}
use Rattle.wire.specs.Judge.{plain, arg_checks, judge_code}
use Rattle.wire.specs.Read.{length_of, command_in, read_code, read_of}
use Rattle.wire.specs.Write.{command_bytes, write_checks, write_code, wrote_at, room_after}
use Rattle.wire.specs.Steps.{wrote_allowed}
use Rattle.wire.proofs.Order.{write_order}
use Rattle.wire.proofs.Writes.{allowed}
use Rattle.wire.proofs.Answers.{reaches}
use Rattle.wire.proofs.Local.{reached}
use Rattle.wire.proofs.RoundTrip.{Held, read_back, read_allowed, written_back}

-- Where `write_command` gave 0, `read_command` of the room afterwards gives the command back with code 0. (`Held`: a command that a program can
-- hold.)
pub write_then_read : (c : Command) → Held c → (room : List ℕ) → write_code c room ≡ 0
    → read_of (room_after c room) ≡ record { told = plain 0; taken = c ∷ [] }
unfolding judge_code
write_then_read c held room e =
    let rows : NoneDue (write_checks c room) = (write_order c room).accepted.0 e in
    let judged : judge_code c ≡ 0 = none_due (arg_checks c) (rows.0, (rows.1.0, (rows.1.1.0, tt))) in
    let fits : has_room (command_bytes c) room ≡ true = not-false (has_room (command_bytes c) room) rows.1.1.1.0 in
    let stands : written (command_bytes c) room ≡ command_bytes c ++ drop (length (command_bytes c)) room = simp fits in
    ap read_of (sym (allowed c room (sym judged)).1 ∙ stands) ∙ read_back c (drop (length (command_bytes c)) room) held judged

-- Where `read_command` gave 0, `write_command` of what it read gives 0 in any room that has the command's 4L bytes: it puts the bytes there that were
-- read, and touches no other.
pub read_then_write : (s : List ℕ) → Bytes s → read_code s ≡ 0 → (room : List ℕ) → length_of s * 4 ≤ length room
    → (wrote_at (command_in s (length_of s)) room ≡ record { told = plain 0; bytes = length_of s * 4 })
    × (room_after (command_in s (length_of s)) room ≡ take (length_of s * 4) s ++ drop (length_of s * 4) room)
read_then_write s bytes read room h =
    let c = command_in s (length_of s) in
    let back : command_bytes c ≡ take (length_of s * 4) s = written_back s bytes read in
    let passes = reached s (λ e. omega arith) (λ e. omega arith) (λ e. omega arith) in
    let long : length (command_bytes c) ≡ length_of s * 4 = ap length back ∙ length-take-le (length_of s * 4) s (reaches s passes).whole in
    let fits : has_room (command_bytes c) room ≡ true = le-leb (length (command_bytes c)) (length room) (omega (arith, long)) in
    let told : wrote_allowed c room ≡ record { told = plain 0; bytes = length_of s * 4 } = rw (fits, long) in
    let stands : written (command_bytes c) room ≡ take (length_of s * 4) s ++ drop (length_of s * 4) room = rw (fits, long, back) in
    let both = allowed c room (sym (read_allowed s read)) in
    (sym both.0 ∙ told, sym both.1 ∙ stands)

-- Where `write_command` refused, the room is as it was.
pub refused_leaves : (c : Command) (room : List ℕ) → write_code c room ≢ 0 → room_after c room ≡ room
unfolding room_after
refused_leaves c room h = ap (λ accepted. cond accepted (written (command_bytes c) room) room) (ne_eqb (write_code c room) 0 h)
