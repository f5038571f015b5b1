-- The laws behind the words at the front of a frame and the zeros behind them.
use Rattle.std.proofs.Common.{◌≡◌, ℕ, zero, suc, ◌+◌, ◌%◌, ◌<◌, ◌≤◌, ◌==◌, Bool, true, false, cond, ◌&&◌, List, [], ◌∷◌, length, take, drop, replicate, eqb-true, length-take-le, ◌*◌, ◌-◌, sym, refl, ap, ap₂, ◌∙◌, arith, length-drop, get_or-drop}
use lib.Seq.{take_all}
use Rattle.words.proofs.Tests.{both}
use Rattle.std.specs.List.{fold, list_all}
use Rattle.words.specs.BigEndian.{byte_at}
use Rattle.valve.specs.Frame.{word_no, words_in, total, checksum, all_zero}

-- A sum that wraps at each word is the sum that wraps at the end.
fold_wrapping : (ws : List ℕ) (sum : ℕ) → sum < 65536 → fold (λ sum word. (sum + word) % 65536) sum ws ≡ (sum + total ws) % 65536
fold_wrapping [] sum small = omega (arith, small)
fold_wrapping (w ∷ ws) sum small = fold_wrapping ws ((sum + w) % 65536) (omega arith) ∙ omega arith

pub checksum-fold : (ws : List ℕ) → fold (λ sum word. (sum + word) % 65536) 0 ws ≡ checksum ws
checksum-fold ws = fold_wrapping ws 0 (omega arith) ∙ omega arith

-- A word further on is one of the bytes behind the first two.
pub word_on : (a b : ℕ) (s : List ℕ) (i : ℕ) → word_no (a ∷ b ∷ s) (suc i) ≡ word_no s i
word_on a b s i =
    let high : suc i * 2 ≡ suc (suc (i * 2)) = omega arith in
    let low : suc i * 2 + 1 ≡ suc (suc (i * 2 + 1)) = omega arith in
    ap₂ (λ x y. byte_at (a ∷ b ∷ s) x * 256 + byte_at (a ∷ b ∷ s) y) high low

pub words_on : (a b : ℕ) (s : List ℕ) (i n : ℕ) → words_in (a ∷ b ∷ s) (suc i) n ≡ words_in s i n
words_on a b s i zero = refl
words_on a b s i (suc n) = ap₂ (λ x xs. x ∷ xs) (word_on a b s i) (words_on a b s (suc i) n)

-- So are words so many words further on.
word_behind : (s : List ℕ) (k i : ℕ) → word_no (drop (k * 2) s) i ≡ word_no s (k + i)
word_behind s k i =
    let high : k * 2 + i * 2 ≡ (k + i) * 2 = omega arith in
    let low : k * 2 + (i * 2 + 1) ≡ (k + i) * 2 + 1 = omega arith in
    rw (get_or-drop (k * 2) s (i * 2) 0, get_or-drop (k * 2) s (i * 2 + 1) 0, high, low)

words_behind : (s : List ℕ) (k i n : ℕ) → words_in (drop (k * 2) s) i n ≡ words_in s (k + i) n
words_behind s k i zero = refl
words_behind s k i (suc n) =
    let next : k + suc i ≡ suc (k + i) = omega arith in
    ap₂ ◌∷◌ (word_behind s k i) (words_behind s k (suc i) n ∙ ap (λ j. words_in s j n) next)

-- Each of the words behind the first six is zero exactly when each of their bytes is.
zero_pair : (a b : ℕ) → (a * 256 + b == 0) ≡ (a == 0 && b == 0)
zero_pair a b = grind arith

and_assoc : (x y z : Bool) → (x && (y && z)) ≡ ((x && y) && z)
and_assoc true y z = refl
and_assoc false y z = refl

words_zero : (n : ℕ) (t : List ℕ) → length t ≡ n * 2 → list_all (λ byte. byte == 0) t ≡ all_zero (words_in t 0 n)
words_zero zero [] long = refl
words_zero zero (a ∷ t) long = absurd (omega arith)
words_zero (suc n) [] long = absurd (omega arith)
words_zero (suc n) (a ∷ []) long = absurd (omega arith)
words_zero (suc n) (a ∷ b ∷ t) long =
    ap (λ rest. a == 0 && (b == 0 && rest)) (words_zero n t (omega arith) ∙ ap all_zero (sym (words_on a b t 0 n)))
    ∙ and_assoc (a == 0) (b == 0) (all_zero (words_in (a ∷ b ∷ t) 1 n))
    ∙ ap (λ first. first && all_zero (words_in (a ∷ b ∷ t) 1 n)) (sym (zero_pair a b))

rest_of : (s : List ℕ) → length s ≡ 64 → list_all (λ byte. byte == 0) (take (length s - 12) (drop 12 s)) ≡ all_zero (words_in s 6 26)
rest_of s long =
    ap (list_all (λ byte. byte == 0)) (take_all (length s - 12) (drop 12 s) (omega (arith, length-drop 12 s)))
    ∙ words_zero 26 (drop 12 s) (omega (arith, long, length-drop 12 s)) ∙ ap all_zero (words_behind s 6 0 26)

-- So the rest is zeros exactly when its words are zero.
zeros_are : (bytes : List ℕ) → list_all (λ byte. byte == 0) bytes ≡ true → bytes ≡ replicate (length bytes) 0
zeros_are [] all = refl
zeros_are (b ∷ bytes) all =
    let parts = both (b == 0) (list_all (λ byte. byte == 0) bytes) all in
    ap₂ ◌∷◌ (eqb-true b 0 parts.0) (zeros_are bytes parts.1)

abbrev pub rest_bytes : List ℕ → List ℕ
rest_bytes s = take (length s - 12) (drop 12 s)

pub rest_zero : (s : List ℕ) → length s ≡ 64 → rest_bytes s ≡ replicate 52 0 → all_zero (words_in s 6 26) ≡ true
rest_zero s long is = sym (rest_of s long) ∙ ap (list_all (λ byte. byte == 0)) is

pub rest_not_zero : (s : List ℕ) → length s ≡ 64 → (rest_bytes s ≡ replicate 52 0 → ⊥) → all_zero (words_in s 6 26) ≡ false
rest_not_zero s long differ = go (list_all (λ byte. byte == 0) (rest_bytes s)) refl
  where
    go : (b : Bool) → list_all (λ byte. byte == 0) (rest_bytes s) ≡ b → all_zero (words_in s 6 26) ≡ false
    go true all =
        let size : length (rest_bytes s) ≡ 52 = length-take-le (length s - 12) (drop 12 s) (omega (arith, length-drop 12 s)) ∙ omega (arith, long) in
        absurd (differ (zeros_are (rest_bytes s) all ∙ ap (λ n. replicate n 0) size))
    go false some = sym (rest_of s long) ∙ some

-- A flag is no more than its bit.
pub flag_most : (set : Bool) (bit : ℕ) → cond set bit 0 ≤ bit
flag_most true bit = omega arith
flag_most false bit = omega arith
