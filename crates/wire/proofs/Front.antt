-- Words at the front of some bytes: those that were written are read back; and the word that closes a command.
use Prim.Native.Nat.{ℕ, zero, suc, ◌+◌, ◌*◌, ◌/◌, ◌%◌, ◌≤◌, ◌<◌}
use mathlib.Core.Path.{◌≡◌, refl, sym, ap, ◌∙◌}
use mathlib.Core.List.{List, [], ◌∷◌, ◌++◌, append_assoc}
use mathlib.Core.Bool.{Bool, true, false}
use native.Mathlib.Omega.{arith}
use lib.ListN.{length, take, drop, length-append, take-append-drop}
use lib.Seq.{length-take-le, get_or-append_seam}
use lib.Dec.{leb}
use borrow.Author.Tests.{le-leb, lt-leb, leb-true, leb-false}
use Rattle.words.specs.BigEndian.{half_at, word_at, word_bytes, bytes_of}
use Rattle.words.proofs.Laws.{length-bytes_of, bytes_of-append}
use Rattle.words.proofs.Front.{Bytes, front_words, front_made}
use Rattle.wire.specs.Read.{sum_of}
use Rattle.wire.specs.Write.{head_of, closed}
use Rattle.wire.proofs.Local.{sum_on}
use Rattle.wire.proofs.Sums.{word_back}

-- The first word's halves.
pub high_half : (w : ℕ) (ws t : List ℕ) → half_at (bytes_of (w ∷ ws) ++ t) 0 ≡ w / 65536
unfolding bytes_of
high_half w ws t = omega arith

pub low_half : (w : ℕ) (ws t : List ℕ) → half_at (bytes_of (w ∷ ws) ++ t) 2 ≡ w % 65536
unfolding bytes_of
low_half w ws t = omega arith

-- The first word says its opcode, flag and length, and is made of them.
pub opcode_back : (opcode : ℕ) (flag : Bool) (words : ℕ) → words < 32768 → head_of opcode flag words / 65536 ≡ opcode
opcode_back opcode false words h = omega arith
opcode_back opcode true words h = omega arith

pub flag_back : (opcode : ℕ) (flag : Bool) (words : ℕ) → words < 32768 → leb 32768 (head_of opcode flag words % 65536) ≡ flag
flag_back opcode false words h = lt-leb 32768 (head_of opcode false words % 65536) (omega arith)
flag_back opcode true words h = le-leb 32768 (head_of opcode true words % 65536) (omega arith)

pub length_back : (opcode : ℕ) (flag : Bool) (words : ℕ) → words < 32768 → head_of opcode flag words % 65536 % 32768 ≡ words
length_back opcode false words h = omega arith
length_back opcode true words h = omega arith

pub head_made : (high low : ℕ) → low < 65536 → head_of high (leb 32768 low) (low % 32768) ≡ high * 65536 + low
head_made high low h = go (leb 32768 low) refl
  where
    go : (b : Bool) → leb 32768 low ≡ b → head_of high b (low % 32768) ≡ high * 65536 + low
    go true is = omega (arith, leb-true 32768 low is)
    go false is = omega (arith, leb-false 32768 low is)

-- Words and behind them their sum, as one list of words.
abbrev pub summed : List ℕ → List ℕ
summed ws = ws ++ (sum_of (bytes_of ws) (length ws) ∷ [])

pub closed-summed : (ws : List ℕ) → closed ws ≡ bytes_of (summed ws)
unfolding closed bytes_of
closed-summed ws = sym (bytes_of-append ws (sum_of (bytes_of ws) (length ws) ∷ []))

-- The last word of what was written is the sum of those before it.
pub sum_closed : (ws t : List ℕ) → sum_of (closed ws ++ t) (length ws) ≡ word_at (closed ws ++ t) (length ws * 4)
unfolding closed
sum_closed ws t =
    let sum = sum_of (bytes_of ws) (length ws) in
    let before : sum_of (closed ws ++ t) (length ws) ≡ sum =
    ap (λ l. sum_of l (length ws)) (append_assoc (bytes_of ws) (word_bytes sum) t)
    ∙ sum_on (bytes_of ws) (word_bytes sum ++ t) (length ws) (omega (arith, length-bytes_of ws)) in
    let last : word_at (closed ws ++ t) (length ws * 4) ≡ sum =
    ap (λ l. word_at (l ++ t) (length ws * 4)) (closed-summed ws)
    ∙ word_back (summed ws) t (length ws) (omega (arith, length-append ws (sum ∷ [])))
    ∙ get_or-append_seam ws sum [] 0 in
    before ∙ sym last

-- Where the last word is the sum of those before it, closing the words before it gives all of the bytes back.
pub closed_front : (s : List ℕ) (n : ℕ) → Bytes s → suc n * 4 ≤ length s → sum_of s n ≡ word_at s (n * 4) → closed (front_words s n) ≡ take (suc n * 4) s
unfolding closed bytes_of
closed_front s n bytes h last =
    let own : take (n * 4) s ++ drop (n * 4) s ≡ s = take-append-drop (n * 4) s in
    let same : sum_of (bytes_of (front_words s n)) (length (front_words s n)) ≡ word_at s (n * 4) =
    rw (front_made s n bytes (omega arith), length_front s n)
    (sym (sum_on (take (n * 4) s) (drop (n * 4) s) n (omega (arith, length-take-le (n * 4) s (omega arith)))) ∙ ap (λ l. sum_of l n) own ∙ last) in
    ap (λ w. bytes_of (front_words s n) ++ word_bytes w) same
    ∙ sym (bytes_of-append (front_words s n) (word_at s (n * 4) ∷ [])) ∙ front_made s (suc n) bytes h
  where
    length_front : (s : List ℕ) (n : ℕ) → length (front_words s n) ≡ n
    length_front s zero = refl
    length_front s (suc n) = omega (arith, length-append (front_words s n) (word_at s (n * 4) ∷ []), length_front s n)
