-- What a reading that took a command or a status frame says, and that what was read is written again as the bytes that it was read from.
use Prim.Native.Nat.{ℕ, ◌*◌, ◌≤◌}
use mathlib.Core.Path.{◌≡◌, ap}
use mathlib.Core.List.{List, [], ◌∷◌, ◌++◌}
use mathlib.Core.Bool.{cond}
use lib.ListN.{length, take, drop}
use lib.Dec.{eqb}
use Rattle.words.proofs.Front.{Bytes}
use Rattle.wire.specs.declared.kinds.Command.{Command}
use Rattle.std.specs.Prelude.{Ok}
use Rattle.wire.specs.Judge.{plain}
use Rattle.wire.specs.Read.{Answer, answer_of, length_of, read_code, read_of, said}
use Rattle.wire.specs.Write.{wrote_at, room_after}
use Rattle.wire.proofs.Calls as commands
use Rattle.frame.specs.declared.Frame.{Frame}
use Rattle.frame.specs.Bytes.{frame_at}
use Rattle.frame.specs.Answers as answers
use Rattle.frame.proofs.Answers.{taken_as}
use Rattle.frame.proofs.Calls as frames

-- A reading that took a command found no row due, and took the command that the bytes say.
pub command_read : (s : List ℕ) (c : Command) → read_of s ≡ answer_of (Ok c) → (read_code s ≡ 0) × (said s ≡ c)
unfolding read_of
command_read s c read =
    let none : read_code s ≡ 0 = ap (λ (a : Answer). a.told.code) read in
    let both : cond (eqb (read_code s) 0) (said s ∷ []) [] ≡ c ∷ [] = ap (λ (a : Answer). a.taken) read in
    let one : said s ∷ [] ≡ c ∷ [] = rw none at both in
    (none, cc)

-- Written again it fills its 4L bytes with those that it was read from, and touches no other.
pub command_again : (s : List ℕ) → Bytes s → (c : Command) → read_of s ≡ answer_of (Ok c) → (room : List ℕ) → length_of s * 4 ≤ length room
    → (wrote_at c room ≡ record { told = plain 0; bytes = length_of s * 4 })
    × (room_after c room ≡ take (length_of s * 4) s ++ drop (length_of s * 4) room)
command_again s bytes c read room enough =
    let says = command_read s c read in
    rw says.1 at (commands.read_then_write s bytes says.0 room enough)

-- The same of a status frame.
frame_read : (s : List ℕ) (f : Frame) → answers.read_of s ≡ taken_as f → (answers.read_code s ≡ 0) × (frame_at s ≡ f)
unfolding answers.read_of
frame_read s f read =
    let none : answers.read_code s ≡ 0 = ap (λ (a : answers.Answer). a.code) read in
    let both : cond (eqb (answers.read_code s) 0) (frame_at s ∷ []) [] ≡ f ∷ [] = ap (λ (a : answers.Answer). a.taken) read in
    let one : frame_at s ∷ [] ≡ f ∷ [] = rw none at both in
    (none, cc)

pub frame_again : (s : List ℕ) → Bytes s → (f : Frame) → answers.read_of s ≡ taken_as f → (room : List ℕ) → 32 ≤ length room
    → (answers.write_code f room ≡ 0) × (answers.room_after f room ≡ s ++ drop 32 room)
frame_again s bytes f read room enough =
    let says = frame_read s f read in
    rw says.1 at (frames.read_then_write s bytes says.0 room enough)
