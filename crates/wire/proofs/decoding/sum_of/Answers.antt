-- `sum_of` meets its contract: up to three words one by one, and else a loop.
use Prim.Native.Nat.{ℕ}
use mathlib.Core.Path.{◌≡◌, refl, sym, ap, ◌∙◌}
use mathlib.Core.List.{List}
use native.Mathlib.Numerals.{add-one}
use lib.Bits.{bit_xor, xor_zero_l}
use borrow.Author.Rules.{rules}
use Rattle.words.specs.BigEndian.{word_at}
use Rattle.wire.specs.Read.{sum_of}
use Rattle.wire.proofs.decoding.sum_of.Goals as goal

-- The sums of one, two and three words.
one_word : (s : List ℕ) → sum_of s 1 ≡ word_at s 0
unfolding sum_of
one_word s = xor_zero_l (word_at s 0)

two_words : (s : List ℕ) → sum_of s 2 ≡ bit_xor (word_at s 0) (word_at s 4)
unfolding sum_of
two_words s = ap (λ w. bit_xor w (word_at s 4)) (one_word s)

three_words : (s : List ℕ) → sum_of s 3 ≡ bit_xor (bit_xor (word_at s 0) (word_at s 4)) (word_at s 8)
unfolding sum_of
three_words s = ap (λ w. bit_xor w (word_at s 8)) (two_words s)

pub returns-in-1 : goal.returns-in-1
returns-in-1 c =
    let s = c.args.s.now in
    c.word_at.ensures ∙ sym (one_word s) ∙ ap (sum_of s) (sym c.in-1.is)

pub returns-in-2 : goal.returns-in-2
returns-in-2 c =
    let s = c.args.s.now in
    rw (c.word_at-in-2-2.ensures, c.word_at-in-2.ensures) (sym (two_words s) ∙ ap (sum_of s) (sym c.in-2.is))

pub returns-in-3 : goal.returns-in-3
returns-in-3 c =
    let s = c.args.s.now in
    rw (c.word_at-in-3-3.ensures, c.word_at-in-3-2.ensures, c.word_at-in-3.ensures)
    (sym (three_words s) ∙ ap (sum_of s) (sym c.in-3.is))

pub loop-i-init : goal.loop-i-init
unfolding sum_of
loop-i-init c = (search rules, refl)

pub loop-i-preserved : goal.loop-i-preserved
unfolding sum_of
loop-i-preserved c =
    let at = c.loop-i in
    (search rules, rw (add-one at.i, at.invariant.1, c.word_at-sum.ensures))
