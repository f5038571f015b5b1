-- Words and single bytes at the front of some bytes: what was read there is written back.
use Prim.Native.Nat.{ℕ, zero, suc, ◌+◌, ◌*◌, ◌/◌, ◌%◌, ◌≤◌, ◌<◌}
use mathlib.Core.Path.{◌≡◌, refl, sym, ap, ◌∙◌}
use mathlib.Core.List.{List, [], ◌∷◌, ◌++◌}
use native.Mathlib.Nat.{add_assoc, add-zero}
use native.Mathlib.Omega.{arith}
use lib.ListN.{length, get_or, take, drop, length-drop}
use lib.Seq.{take-add, take-suc, get_or-drop}
use Rattle.words.specs.BigEndian.{byte_at, word_at, word_bytes, bytes_of}
use Rattle.words.proofs.Laws.{bytes_of-append}

-- A list of bytes: each is below 256.
abbrev pub Bytes : List ℕ → Type 0
Bytes s = (i : ℕ) → get_or s i 0 < 256

-- A number's bytes make the number again.
pub half_back : (v : ℕ) → v / 256 * 256 + v % 256 ≡ v
half_back v = omega arith

pub word_back : (v : ℕ) → v / 65536 * 65536 + v % 65536 ≡ v
word_back v = omega arith

-- Four bytes that were read as a word are its bytes.
four : (u : List ℕ) → 4 ≤ length u → take 4 u ≡ byte_at u 0 ∷ byte_at u 1 ∷ byte_at u 2 ∷ byte_at u 3 ∷ []
four [] h = absurd (omega arith)
four (a ∷ []) h = absurd (omega arith)
four (a ∷ b ∷ []) h = absurd (omega arith)
four (a ∷ b ∷ c ∷ []) h = absurd (omega arith)
four (a ∷ b ∷ c ∷ d ∷ u) h = refl

pub bytes_back : (a b c d : ℕ) → a < 256 → b < 256 → c < 256 → d < 256 → word_bytes ((a * 256 + b) * 65536 + (c * 256 + d)) ≡ a ∷ b ∷ c ∷ d ∷ []
bytes_back a b c d ha hb hc hd =
    let v = (a * 256 + b) * 65536 + (c * 256 + d) in
    let e1 : v / 65536 / 256 ≡ a = omega arith in
    let e2 : v / 65536 % 256 ≡ b = omega arith in
    let e3 : v % 65536 / 256 ≡ c = omega arith in
    let e4 : v % 65536 % 256 ≡ d = omega arith in
    rw (e1, e2, e3, e4)

word_made : (s : List ℕ) (i : ℕ) → Bytes s → i + 4 ≤ length s → word_bytes (word_at s i) ≡ take 4 (drop i s)
word_made s i bytes h =
    bytes_back (byte_at s i) (byte_at s (i + 1)) (byte_at s (i + 2)) (byte_at s (i + 2 + 1)) (bytes i) (bytes (i + 1)) (bytes (i + 2)) (bytes (i + 2 + 1))
    ∙ sym (four (drop i s) (omega (arith, length-drop i s))
    ∙ rw (get_or-drop i s 0 0, get_or-drop i s 1 0, get_or-drop i s 2 0, get_or-drop i s 3 0, add-zero, add_assoc i 2 1))

-- The first n words of some bytes.
abbrev pub front_words : List ℕ → ℕ → List ℕ
front_words s zero = []
front_words s (suc n) = front_words s n ++ (word_at s (n * 4) ∷ [])

-- Bytes that were read as words are the bytes of those words.
pub front_made : (s : List ℕ) (n : ℕ) → Bytes s → n * 4 ≤ length s → bytes_of (front_words s n) ≡ take (n * 4) s
unfolding bytes_of
front_made s zero bytes h = refl
front_made s (suc n) bytes h =
    bytes_of-append (front_words s n) (word_at s (n * 4) ∷ [])
    ∙ rw (front_made s n bytes (omega arith)) (ap (λ l. take (n * 4) s ++ l) (word_made s (n * 4) bytes (omega arith)))
    ∙ sym (take-add (n * 4) 4 s) ∙ ap (λ k. take k s) (places n)
  where
    places : (n : ℕ) → n * 4 + 4 ≡ suc n * 4
    places n = omega arith

-- The first n bytes, one by one.
abbrev pub front_bytes : List ℕ → ℕ → List ℕ
front_bytes s zero = []
front_bytes s (suc n) = front_bytes s n ++ (byte_at s n ∷ [])

pub front_bytes_lem : (s : List ℕ) (n : ℕ) → n ≤ length s → front_bytes s n ≡ take n s
front_bytes_lem s zero h = refl
front_bytes_lem s (suc n) h = ap (λ l. l ++ (byte_at s n ∷ [])) (front_bytes_lem s n (omega arith)) ∙ sym (take-suc s n 0 h)
