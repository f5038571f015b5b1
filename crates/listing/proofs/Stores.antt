-- What a writer of text puts, answers and leaves, with room and without.
use Prim.Native.Nat.{ℕ, ◌+◌, ◌≤◌, ◌<◌}
use mathlib.Core.Path.{◌≡◌, sym, ap, ◌∙◌}
use mathlib.Core.List.{List}
use native.Mathlib.Omega.{arith}
use lib.ListN.{length}
use lib.Seq.{sets}
use borrow.Author.Tests.{le-leb, lt-leb}
use Rattle.words.specs.BigEndian.{written}
use Rattle.words.specs.Text.{stored_at, place_after}
use Rattle.words.proofs.Laws.{without_room, sets-written}
use Rattle.words.proofs.Stores.{Laid, laid_first}
use Rattle.listing.specs.Answer.{answer_for}

-- What is said has room and is put: so it is laid down.
pub put_said : (said bytes : List ℕ) (from : ℕ) (room₀ room : List ℕ) (at : ℕ) → said ≡ bytes → from + length said ≤ length room₀
    → (at ≡ place_after bytes from room₀) × (room ≡ stored_at bytes from room₀)
    → (at ≡ from + length said) × (room ≡ sets room₀ from said)
put_said said bytes from room₀ room at is fits put =
    let laid = laid_first bytes from room₀ room at (omega (arith, ap length is)) put.0 put.1 in
    rw is (laid.place, laid.stored)

-- Bytes laid down from the front on are what a writer with room answers and leaves.
pub laid_all : {bytes room₀ room : List ℕ} {at : ℕ} → Laid room₀ 0 bytes room at → length bytes ≤ length room₀
    → (record { code = 0; bytes = at } ≡ answer_for bytes room₀) × (room ≡ written bytes room₀)
laid_all {bytes} {room₀} {room} {at} laid fits =
    let long : at ≡ length bytes = omega (arith, laid.place) in
    (simp (le-leb _ _ fits, long), laid.stored ∙ sets-written bytes room₀ fits)

-- What a writer without room answers and leaves.
pub no_answer : (bytes room : List ℕ) → length room < length bytes
    → (record { code = 24; bytes = 0 } ≡ answer_for bytes room) × (room ≡ written bytes room)
no_answer bytes room short = (simp (lt-leb _ _ short), sym (without_room bytes room short))
