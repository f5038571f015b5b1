-- Laws of big-endian numbers: what a reader sees past the end, of a list that goes on, and of bytes that were written.
use Prim.Native.Nat.{ℕ, suc, ◌+◌, ◌*◌, ◌-◌, ◌≤◌, ◌<◌}
use mathlib.Core.Path.{◌≡◌, refl, sym, ap, ◌∙◌}
use mathlib.Core.Logic.{◌≢◌}
use mathlib.Core.List.{List, [], ◌∷◌, ◌++◌, append_assoc, append-nil}
use mathlib.Core.Bool.{Bool, true, false, cond}
use native.Mathlib.Omega.{arith}
use native.Mathlib.Nat.{add-zero}
use native.Mathlib.Numerals.{add-one}
use lib.ListN.{length, get_or, set, take, drop, length-append, length-drop, length-set, drop_of_length-le, get_or-eq_default, get_or-append}
use lib.Seq.{sets, sets-eq, take-suc, drop-drop, take_all, take_at, drop_at, take-length, length-take-le}
use borrow.Author.Tests.{le-leb, lt-leb}
use borrow.Rule.Slice.PartMut.{put_mid}
use Rattle.words.specs.BigEndian.{byte_at, half_at, word_at, word_bytes, bytes_of, has_room, written}

-- Past the end every number reads as 0.
pub byte_past : (s : List ℕ) (i : ℕ) → length s ≤ i → byte_at s i ≡ 0
byte_past s i h = get_or-eq_default s 0 h

pub half_past : (s : List ℕ) (i : ℕ) → length s ≤ i → half_at s i ≡ 0
half_past s i h = omega (arith, byte_past s i h, byte_past s (i + 1) (omega arith))

pub word_past : (s : List ℕ) (i : ℕ) → length s ≤ i → word_at s i ≡ 0
word_past s i h = omega (arith, half_past s i h, half_past s (i + 2) (omega arith))

-- A number that lies whole in a list is the same where the list goes on.
pub byte_on : (s t : List ℕ) (i : ℕ) → i < length s → byte_at (s ++ t) i ≡ byte_at s i
byte_on s t i h = get_or-append s t 0 i h

pub half_on : (s t : List ℕ) (i : ℕ) → i + 2 ≤ length s → half_at (s ++ t) i ≡ half_at s i
half_on s t i h = rw (byte_on s t i (omega arith), byte_on s t (i + 1) (omega arith))

pub word_on : (s t : List ℕ) (i : ℕ) → i + 4 ≤ length s → word_at (s ++ t) i ≡ word_at s i
word_on s t i h = rw (half_on s t i (omega arith), half_on s t (i + 2) (omega arith))

-- The bytes of n numbers are 4n.
pub length-bytes_of : (ws : List ℕ) → length (bytes_of ws) ≡ 4 * length ws
unfolding bytes_of
length-bytes_of [] = refl
length-bytes_of (w ∷ ws) = omega (arith, length-bytes_of ws)

pub bytes_of-append : (vs ws : List ℕ) → bytes_of (vs ++ ws) ≡ bytes_of vs ++ bytes_of ws
unfolding bytes_of
bytes_of-append [] ws = refl
bytes_of-append (v ∷ vs) ws = ap (λ l. word_bytes v ++ l) (bytes_of-append vs ws)

-- A writer with room leaves its bytes and then the rest; one without leaves all as it was.
pub with_room : (bytes room : List ℕ) → length bytes ≤ length room → written bytes room ≡ bytes ++ drop (length bytes) room
with_room bytes room h = simp (le-leb _ _ h)

pub without_room : (bytes room : List ℕ) → length room < length bytes → written bytes room ≡ room
without_room bytes room h = simp (lt-leb _ _ h)

pub unwritten : (bytes room : List ℕ) → has_room bytes room ≢ true → written bytes room ≡ room
unwritten bytes room none = go (has_room bytes room) none
  where
    go : (fits : Bool) → fits ≢ true → cond fits (bytes ++ drop (length bytes) room) room ≡ room
    go true none = absurd (none refl)
    go false none = refl

-- Bytes stored one after another from a place on: more of them behind, one more, and that all of them, from the front on, are what a writer with room
-- leaves.
pub sets-append : (room : List ℕ) (p : ℕ) (xs ys : List ℕ) → sets (sets room p xs) (p + length xs) ys ≡ sets room p (xs ++ ys)
sets-append room p [] ys = rw add-zero
sets-append room p (x ∷ xs) ys =
    let place : p + suc (length xs) ≡ suc p + length xs = omega arith in
    rw place (sets-append (set room p x) (suc p) xs ys)

sets_next : (bytes room : List ℕ) (p i at : ℕ) → at ≡ p + i → i < length bytes
    → set (sets room p (take i bytes)) at (get_or bytes i 0) ≡ sets room p (take (i + 1) bytes)
sets_next bytes room p i at is more =
    let place : p + length (take i bytes) ≡ at = omega (arith, length-take-le i bytes (omega arith)) in
    rw (add-one, take-suc bytes i 0 more) (rw place at (sets-append room p (take i bytes) (get_or bytes i 0 ∷ [])))

pub sets-written : (bytes room : List ℕ) → length bytes ≤ length room → sets room 0 bytes ≡ written bytes room
sets-written bytes room fits =
    let front : 0 + length bytes ≡ length bytes = omega arith in
    sets-eq bytes room 0 (omega arith) ∙ rw (front, with_room bytes room fits)

-- A loop that stores bytes, or other numbers, one at a time: the first i of them are stored from place p on.
pub record Storing (bytes room₀ room : List ℕ) (p i : ℕ) : Type 0 where
  pub within : i ≤ length bytes
  pub fits : p + length bytes ≤ length room₀
  pub same : length room ≡ length room₀
  pub stored : room ≡ sets room₀ p (take i bytes)

pub none_stored : (bytes room : List ℕ) (p : ℕ) → p + length bytes ≤ length room → Storing bytes room room p 0
none_stored bytes room p fits = record { within = omega arith; fits = fits; same = refl; stored = refl }

module _ (bytes room₀ room : List ℕ) (p i : ℕ) (so_far : Storing bytes room₀ room p i) where
  pub one_stored : (at : ℕ) → at ≡ p + i → i < length bytes → Storing bytes room₀ (set room at (get_or bytes i 0)) p (i + 1)
  one_stored at is more =
      record {
        within = omega arith;
        fits = so_far.fits;
        same = length-set room at (get_or bytes i 0) ∙ so_far.same;
        stored = ap (λ l. set l at (get_or bytes i 0)) so_far.stored ∙ sets_next bytes room₀ p i at is more;
      }

  pub all_stored : length bytes ≤ i → room ≡ sets room₀ p bytes
  all_stored end =
      let all : i ≡ length bytes = omega (arith, so_far.within) in
      so_far.stored ∙ rw (all, take-length bytes)

-- What a writer does to the part of a room that begins at p, said of the whole room.
pub part_written : (p : ℕ) (bytes room part : List ℕ) → p ≤ length room
    → part ≡ written bytes (take (length room - p) (drop p room))
    → put_mid p (length room - p) room part ≡ take p room ++ written bytes (drop p room)
part_written p bytes room part h e =
    let whole : take (length room - p) (drop p room) ≡ drop p room = take_all (length room - p) (drop p room) (omega (arith, length-drop p room)) in
    let none : drop (length room - p) (drop p room) ≡ [] = drop_of_length-le (drop p room) {i = length room - p} (omega (arith, length-drop p room)) in
    rw (e, whole, none, append-nil)

-- The first i numbers at the front, and the rest of the room behind them, are as long as the room.
pub whole : (ws room : List ℕ) (i : ℕ) → i ≤ length ws → length ws * 4 ≤ length room → length (bytes_of (take i ws) ++ drop (i * 4) room) ≡ length room
whole ws room i h f =
    length-append (bytes_of (take i ws)) _
    ∙ omega (arith, length-bytes_of (take i ws), length-take-le i ws h, length-drop (i * 4) room)

-- One turn of a writer of several numbers: the first i stand at the front, and the next one is written behind them.
module _ (ws room₀ room part : List ℕ) (i : ℕ) (more : i < length ws) (fits : length ws * 4 ≤ length room₀)
    (front : room ≡ bytes_of (take i ws) ++ drop (i * 4) room₀)
    (put : part ≡ written (word_bytes (get_or ws i 0)) (take (length room - i * 4) (drop (i * 4) room))) where
  length_front : length (bytes_of (take i ws)) ≡ i * 4
  length_front = omega (arith, length-bytes_of (take i ws), length-take-le i ws (omega arith))

  length_kept : length room ≡ length room₀
  length_kept = ap length front ∙ whole ws room₀ i (omega arith) fits

  next_word : bytes_of (take (i + 1) ws) ≡ bytes_of (take i ws) ++ word_bytes (get_or ws i 0)
  unfolding bytes_of
  next_word = rw (add-one, take-suc ws i 0 more, bytes_of-append)

  pub turn : put_mid (i * 4) (length room - i * 4) room part ≡ bytes_of (take (i + 1) ws) ++ drop ((i + 1) * 4) room₀
  turn =
      part_written (i * 4) (word_bytes (get_or ws i 0)) room part (omega (arith, length_kept)) put
      ∙ rw (
        front,
        take_at (bytes_of (take i ws)) (drop (i * 4) room₀) (i * 4) length_front,
        drop_at (bytes_of (take i ws)) (drop (i * 4) room₀) (i * 4) length_front,
        with_room (word_bytes (get_or ws i 0)) (drop (i * 4) room₀) (omega (arith, length-drop (i * 4) room₀)),
        next_word,
        drop-drop,
        append_assoc,
      )
      (ap (λ n. bytes_of (take i ws) ++ (word_bytes (get_or ws i 0) ++ drop n room₀)) (places i))
    where
      places : (i : ℕ) → i * 4 + 4 ≡ (i + 1) * 4
      places i = omega arith

-- What can be taken back is told apart: where a function has a left inverse, equal values come from equal arguments.
pub one_to_one : {A B : Type 0} (f : A → B) (g : B → A) → ((a : A) → g (f a) ≡ a) → (a b : A) → f a ≡ f b → a ≡ b
one_to_one f g back a b e = sym (back a) ∙ ap g e ∙ back b
