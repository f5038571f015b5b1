-- 02, Q-7, the frame: "32 words of 16 bits; the low 14 bits of word 0 are the identifier, 0x000e here, above them two flags. Word 5 is the sum of words 0 to
-- 4, modulo 65536." (004, the telecommand of the single-shot valve.)
use Rattle.std.specs.Prelude.{ℕ, zero, suc, ◌+◌, ◌*◌, ◌/◌, ◌%◌, Bool, true, false, cond, ◌&&◌, List, [], ◌∷◌, ◌++◌, ◌==◌}
use Rattle.words.specs.BigEndian.{half_at, half_bytes}
use Rattle.valve.specs.declared.Act.{Act}
use Rattle.valve.specs.declared.Frame.{Frame}

-- Word i of a frame: two bytes, the high one first.
abbrev pub word_no : List ℕ → ℕ → ℕ
word_no s i = half_at s (i * 2)

-- So many words, from word i on.
abbrev pub words_in : List ℕ → ℕ → ℕ → List ℕ
words_in s i zero = []
words_in s i (suc n) = word_no s i ∷ words_in s (suc i) n

-- The bytes of words, one after another.
abbrev pub bytes_of : List ℕ → List ℕ
bytes_of [] = []
bytes_of (w ∷ ws) = half_bytes w ++ bytes_of ws

-- Words added up,
abbrev pub total : List ℕ → ℕ
total [] = 0
total (w ∷ ws) = w + total ws

-- and what is left of that in 16 bits.
abbrev pub checksum : List ℕ → ℕ
checksum ws = total ws % 65536

-- So many words that are zero; is each of some words zero?
abbrev pub zeros : ℕ → List ℕ
zeros zero = []
zeros (suc n) = 0 ∷ zeros n

abbrev pub all_zero : List ℕ → Bool
all_zero [] = true
all_zero (w ∷ ws) = w == 0 && all_zero ws

-- Are these words those?
abbrev pub same : List ℕ → List ℕ → Bool
same [] [] = true
same [] (v ∷ vs) = false
same (w ∷ ws) [] = false
same (w ∷ ws) (v ∷ vs) = w == v && same ws vs

-- "Arming has word 1 0xffff and word 2 0x0001, words 3 and 4 zero. Firing has word 3 0xffff and word 4 0x1810, words 1 and 2 zero": words 1 to 4 of each,
-- the firing code as it may be.
abbrev pub act_words : Act → List ℕ
act_words Act.Arm = 65535 ∷ 1 ∷ 0 ∷ 0 ∷ []
act_words (Act.Fire code) = 0 ∷ 0 ∷ 65535 ∷ code ∷ []

-- The identifier, 0x000e, and the right firing code, 0x1810.
abbrev pub identifier : ℕ
identifier = 14

abbrev pub firing_code : ℕ
firing_code = 6160

-- Word 0: the flags are bits 15 and 14, above the identifier.
abbrev pub head_of : Frame → ℕ
head_of f = cond f.ocpl 32768 0 + cond f.quiet 16384 0 + identifier

-- The words of a frame by its word 0 and its act: those that are summed up, the sum behind them, and zeros; and its 64 bytes.
abbrev pub summed_words : ℕ → Act → List ℕ
summed_words head act = head ∷ act_words act

abbrev pub front_words : ℕ → Act → List ℕ
front_words head act = summed_words head act ++ (checksum (summed_words head act) ∷ [])

unfoldable pub bytes_with : ℕ → Act → List ℕ
bytes_with head act = bytes_of (front_words head act ++ zeros 26)

abbrev pub frame_bytes : Frame → List ℕ
frame_bytes f = bytes_with (head_of f) f.act

-- Do words 1 to 4 of these bytes arm, or fire with whichever code?
abbrev pub arms : List ℕ → Bool
arms s = same (words_in s 1 4) (act_words Act.Arm)

abbrev pub fires : List ℕ → Bool
fires s = same (words_in s 1 4) (act_words (Act.Fire (word_no s 4)))

-- A frame by its word 0 and what it asks,
abbrev pub framed : ℕ → Act → Frame
framed head act = record { ocpl = (head / 32768 == 1); quiet = (head / 16384 % 2 == 1); act = act }

-- and the one that such bytes say.
abbrev pub frame_at : List ℕ → Frame
frame_at s = framed (word_no s 0) (cond (arms s) Act.Arm (Act.Fire (word_no s 4)))
