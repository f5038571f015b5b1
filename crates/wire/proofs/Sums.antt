-- Words read back from their bytes, and a command's words with their XOR behind them.
use Prim.Native.Nat.{ℕ, zero, suc, ◌+◌, ◌*◌, ◌<◌, ◌≤◌}
use mathlib.Core.Path.{◌≡◌, refl, ◌∙◌}
use mathlib.Core.List.{List, [], ◌∷◌, ◌++◌, append-nil}
use native.Mathlib.Omega.{arith}
use lib.ListN.{length, get_or}
use lib.Seq.{get_or-append-add}
use lib.Bits.{bit_xor}
use Rattle.words.specs.BigEndian.{byte_at, word_at, word_bytes, bytes_of}
use Rattle.words.proofs.Laws.{bytes_of-append}
use Rattle.wire.specs.Read.{sum_of}
use Rattle.wire.specs.Write.{closed}

-- The word at the front of its bytes, and one further back: the same as in what follows the first word.
word_front : (w : ℕ) (t : List ℕ) → word_at (word_bytes w ++ t) 0 ≡ w
word_front w t = omega arith

byte_behind : (w : ℕ) (t : List ℕ) (i k : ℕ) → k ≡ 4 + i → byte_at (word_bytes w ++ t) k ≡ byte_at t i
byte_behind w t i k e = rw e (get_or-append-add (word_bytes w) t i 0)

word_behind : (w : ℕ) (t : List ℕ) (i : ℕ) → word_at (word_bytes w ++ t) (suc i * 4) ≡ word_at t (i * 4)
word_behind w t i =
    rw (
      byte_behind w t (i * 4) (suc i * 4) (omega arith),
      byte_behind w t (i * 4 + 1) (suc i * 4 + 1) (omega arith),
      byte_behind w t (i * 4 + 2) (suc i * 4 + 2) (omega arith),
      byte_behind w t (i * 4 + 2 + 1) (suc i * 4 + 2 + 1) (omega arith),
    )

-- The i-th word is read back, whatever follows.
pub word_back : (ws t : List ℕ) (i : ℕ) → i < length ws → word_at (bytes_of ws ++ t) (i * 4) ≡ get_or ws i 0
unfolding bytes_of
word_back [] t i h = absurd (omega arith)
word_back (w ∷ ws) t zero h = word_front w (bytes_of ws ++ t)
word_back (w ∷ ws) t (suc i) h = word_behind w (bytes_of ws ++ t) i ∙ word_back ws t i (omega arith)

-- The XOR of the first n words of a list.
unfoldable pub xor_of : List ℕ → ℕ → ℕ
xor_of ws zero = 0
xor_of ws (suc n) = bit_xor (xor_of ws n) (get_or ws n 0)

-- It is the sum that a reader finds in their bytes, whatever follows.
pub sum_back : (ws t : List ℕ) (n : ℕ) → n ≤ length ws → sum_of (bytes_of ws ++ t) n ≡ xor_of ws n
unfolding sum_of xor_of
sum_back ws t zero h = refl
sum_back ws t (suc n) h = rw (sum_back ws t n (omega arith), word_back ws t n h)

-- So words with their XOR behind them are closed.
pub closed_words : (ws : List ℕ) → closed ws ≡ bytes_of (ws ++ xor_of ws (length ws) ∷ [])
unfolding closed bytes_of
closed_words ws = rw (bytes_of-append, ← sum_back ws [] (length ws) (omega arith), append-nil)
