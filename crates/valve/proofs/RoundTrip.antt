-- The valve's frames can be written as well as read, and come back equal; and no other bytes read as the same frame.
use Rattle.std.proofs.Common.{◌≡◌, ℕ, zero, suc, ◌+◌, ◌*◌, ◌/◌, ◌%◌, ◌<◌, Bool, true, false, cond, eqb, List, [], ◌∷◌, ◌++◌, length, get_or, sym, refl, ap, ◌∙◌, ap₂, arith, eqb-true}
use borrow.Author.Tests.{eqb-false}
use Rattle.words.specs.BigEndian.{half_bytes}
use Rattle.words.proofs.Front.{Bytes, half_back}
use Rattle.valve.specs.declared.Act.{Act}
use Rattle.valve.specs.declared.Frame.{Frame}
use Rattle.valve.specs.Frame.{word_no, words_in, bytes_of, checksum, all_zero, head_of, summed_words, front_words, zeros, bytes_with, frame_bytes, framed, frame_at}
use Rattle.valve.specs.Answers.{Answer, read_code, read_of}
use Rattle.valve.proofs.Fronts.{word_on, words_on}
use Rattle.valve.proofs.Accepted.{Accepted, accepted}
use Rattle.valve.proofs.Answers.{taken_as, bytes_length, asking}

-- Words that were written are read again, each at its place, and so many of them from a place on.
word_back : (ws : List ℕ) (i : ℕ) → word_no (bytes_of ws) i ≡ get_or ws i 0
word_back [] i = refl
word_back (w ∷ ws) zero = half_back w
word_back (w ∷ ws) (suc i) = word_on (w / 256) (w % 256) (bytes_of ws) i ∙ word_back ws i

abbrev part_of : List ℕ → ℕ → ℕ → List ℕ
part_of ws i zero = []
part_of ws i (suc n) = get_or ws i 0 ∷ part_of ws (suc i) n

words_back : (ws : List ℕ) (i n : ℕ) → words_in (bytes_of ws) i n ≡ part_of ws i n
words_back ws i zero = refl
words_back ws i (suc n) = ap₂ (λ x xs. x ∷ xs) (word_back ws i) (words_back ws (suc i) n)

-- Word 0 keeps identifier and flags.
head_known : (ocpl quiet : Bool) → (cond ocpl 32768 0 + cond quiet 16384 0 + 14) % 16384 ≡ 14
head_known true true = refl
head_known true false = refl
head_known false true = refl
head_known false false = refl

head_back : (ocpl quiet : Bool) (act : Act)
    → framed (cond ocpl 32768 0 + cond quiet 16384 0 + 14) act ≡ record { ocpl = ocpl; quiet = quiet; act = act }
head_back true true act = refl
head_back true false act = refl
head_back false true act = refl
head_back false false act = refl

-- The words of a frame.
abbrev words_of : Frame → List ℕ
words_of f = front_words (head_of f) f.act ++ zeros 26

-- What is written of a frame is read as that frame.
module _ (ocpl quiet : Bool) where
  abbrev with : Act → Frame
  with act = record { ocpl = ocpl; quiet = quiet; act = act }

  back : (act : Act) → read_of (frame_bytes (with act)) ≡ taken_as (with act)
  unfolding bytes_with
  back Act.Arm =
      let words = words_of (with Act.Arm) in
      let s = bytes_of words in
      let head = word_back words 0 in
      sym (
      asking s (bytes_length (head_of (with Act.Arm)) Act.Arm) (word_back words 5 ∙ ap checksum (sym (words_back words 0 5)))
      (ap (λ w. w % 16384) head ∙ head_known ocpl quiet) (ap all_zero (words_back words 6 26)) Act.Arm (words_back words 1 4)
      )
      ∙ ap (λ w. taken_as (framed w Act.Arm)) head ∙ ap taken_as (head_back ocpl quiet Act.Arm)
  back (Act.Fire code) =
      let words = words_of (with (Act.Fire code)) in
      let s = bytes_of words in
      let head = word_back words 0 in
      sym (
      asking s (bytes_length (head_of (with (Act.Fire code))) (Act.Fire code)) (word_back words 5 ∙ ap checksum (sym (words_back words 0 5)))
      (ap (λ w. w % 16384) head ∙ head_known ocpl quiet) (ap all_zero (words_back words 6 26)) (Act.Fire code) (words_back words 1 4)
      )
      ∙ ap (λ w. taken_as (framed w (Act.Fire code))) head ∙ ap taken_as (head_back ocpl quiet (Act.Fire code))

pub read_written : (f : Frame) → read_of (frame_bytes f) ≡ taken_as f
read_written f = back f.ocpl f.quiet f.act

-- Bytes that were read as words are the bytes of those words.
pair_again : (a b : ℕ) → a < 256 → b < 256 → half_bytes (a * 256 + b) ≡ a ∷ b ∷ []
pair_again a b ha hb =
    let high : (a * 256 + b) / 256 ≡ a = omega arith in
    let low : (a * 256 + b) % 256 ≡ b = omega arith in
    rw (high, low)

bytes_again : (n : ℕ) (s : List ℕ) → Bytes s → length s ≡ n * 2 → bytes_of (words_in s 0 n) ≡ s
bytes_again zero [] bytes size = refl
bytes_again zero (a ∷ s) bytes size = absurd (omega arith)
bytes_again (suc n) [] bytes size = absurd (omega arith)
bytes_again (suc n) (a ∷ []) bytes size = absurd (omega arith)
bytes_again (suc n) (a ∷ b ∷ s) bytes size =
    ap₂ (λ xs ys. xs ++ ys) (pair_again a b (bytes 0) (bytes 1))
    (ap bytes_of (words_on a b s 0 n) ∙ bytes_again n s (λ i. bytes (suc (suc i))) (omega arith))

-- Word 0 is made again of its flags.
head_again : (w : ℕ) (act : Act) → w < 65536 → w % 16384 ≡ 14 → head_of (framed w act) ≡ w
head_again w act small known = go (eqb (w / 32768) 1) refl (eqb (w / 16384 % 2) 1) refl
  where
    go : (ocpl : Bool) → eqb (w / 32768) 1 ≡ ocpl → (quiet : Bool) → eqb (w / 16384 % 2) 1 ≡ quiet → cond ocpl 32768 0 + cond quiet 16384 0 + 14 ≡ w
    go true o true q = omega (arith, eqb-true (w / 32768) 1 o, eqb-true (w / 16384 % 2) 1 q, small, known)
    go true o false q = omega (arith, eqb-true (w / 32768) 1 o, eqb-false (w / 16384 % 2) 1 q, small, known)
    go false o true q = omega (arith, eqb-false (w / 32768) 1 o, eqb-true (w / 16384 % 2) 1 q, small, known)
    go false o false q = omega (arith, eqb-false (w / 32768) 1 o, eqb-false (w / 16384 % 2) 1 q, small, known)

-- Writing the frame that was read gives the bytes again.
words_again : (s : List ℕ) → Bytes s → Accepted s → words_of (frame_at s) ≡ words_in s 0 32
words_again s bytes known =
    let head : head_of (frame_at s) ≡ word_no s 0 = head_again (word_no s 0) (frame_at s).act (omega (arith, bytes 0, bytes 1)) known.known in
    let summed : summed_words (head_of (frame_at s)) (frame_at s).act ≡ words_in s 0 5 = ap₂ (λ x xs. x ∷ xs) head (sym known.asks) in
    let sum : checksum (summed_words (head_of (frame_at s)) (frame_at s).act) ≡ word_no s 5 = ap checksum summed ∙ sym known.sum in
    let front : front_words (head_of (frame_at s)) (frame_at s).act ≡ words_in s 0 6 = ap₂ (λ xs x. xs ++ (x ∷ [])) summed sum in
    ap₂ (λ xs ys. xs ++ ys) front (sym known.rest)

pub written_read : (s : List ℕ) → Bytes s → read_code s ≡ 0 → frame_bytes (frame_at s) ≡ s
unfolding bytes_with
written_read s bytes e =
    let known = accepted s e in
    ap bytes_of (words_again s bytes known) ∙ bytes_again 32 s bytes known.size

-- So no other bytes read as that frame.
pub no_other : (s : List ℕ) → Bytes s → (f : Frame) → read_of s ≡ taken_as f → s ≡ frame_bytes f
unfolding read_of
no_other s bytes f read =
    let code : read_code s ≡ 0 = ap (λ (a : Answer). a.code) read in
    let shown : read_of s ≡ taken_as (frame_at s) = rw code in
    let same : frame_at s ≡ f = ap (λ (a : Answer). get_or a.taken 0 f) (sym shown ∙ read) in
    sym (written_read s bytes code) ∙ ap frame_bytes same
