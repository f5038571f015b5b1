-- `put_digits` meets its contract. The invariant: what is left of the number, put before the place that was reached, gives what the whole number gives.
use Prim.Native.Nat.{ℕ, ◌+◌, ◌-◌, ◌/◌, ◌^◌, ◌≤◌, ◌<◌}
use mathlib.Core.Path.{◌≡◌, sym, ap, ◌∙◌}
use mathlib.Core.List.{List, [], ◌∷◌}
use native.Mathlib.Omega.{arith}
use lib.ListN.{length, set, length-set}
use lib.Seq.{sets}
use Rattle.words.specs.Text.{decimal}
use Rattle.words.proofs.Laws.{sets-append}
use Rattle.words.proofs.Decimal.{digit_of, decimal_one, decimal_more, length-decimal_more, digits_some}
use Rattle.words.proofs.Stores.{set_before}
use Rattle.words.proofs.putting.put_digits.Invariants.{ending_at}
use Rattle.words.proofs.putting.put_digits.Goals as goal

put_more : (room : List ℕ) (end n : ℕ) → 10 ≤ n → n < 2 ^ 32 → length (decimal n) ≤ end
    → ending_at (set room (end - 1) (digit_of n)) (end - 1) (n / 10) ≡ ending_at room end n
put_more room end n more small fits =
    let tenth = decimal (n / 10) in
    let long = length-decimal_more n more small in
    let from : end - 1 - length tenth ≡ end - length (decimal n) = omega (arith, long) in
    let last : end - 1 ≡ end - length (decimal n) + length tenth = omega (arith, long) in
    ap (λ p. sets (set room (end - 1) (digit_of n)) p tenth) from
    ∙ set_before room (end - length (decimal n)) tenth (end - 1) (digit_of n) (omega arith)
    ∙ ap (λ q. set (sets room (end - length (decimal n)) tenth) q (digit_of n)) last
    ∙ sets-append room (end - length (decimal n)) tenth (digit_of n ∷ [])
    ∙ ap (sets room (end - length (decimal n))) (sym (decimal_more n more small))

-- A number of one digit, and one of more: its last digit, and its tenth before that.
put_one : (room : List ℕ) (end n : ℕ) → n < 10 → set room (end - 1) (digit_of n) ≡ ending_at room end n
put_one room end n one = rw (decimal_one n one)

pub overflow_sub-behind : goal.overflow_sub-behind
overflow_sub-behind c = omega (arith, digits_some c.loop-left.left, c.loop-left.invariant.fits)

pub bounds-room-behind : goal.bounds-room-behind
bounds-room-behind c =
    let at = c.loop-left in
    omega (arith, digits_some at.left, at.invariant.fits, at.invariant.within)

pub loop-left-preserved : goal.loop-left-preserved
loop-left-preserved c =
    let at = c.loop-left in
    let more = c.loop-left-test.true in
    let digit = c.last_digit.ensures in
    record {
      small = omega (arith, at.invariant.small);
      fits = omega (arith, length-decimal_more at.left more at.invariant.small, at.invariant.fits);
      within = rw length-set (omega (arith, at.invariant.within));
      same = length-set at.room (at.behind - 1) c.last_digit.result ∙ at.invariant.same;
      whole = ap (λ d. ending_at (set at.room (at.behind - 1) d) (at.behind - 1) (at.left / 10)) digit
          ∙ put_more at.room at.behind at.left more at.invariant.small at.invariant.fits
          ∙ at.invariant.whole;
    }

pub overflow_sub-room : goal.overflow_sub-room
overflow_sub-room c =
    let at = c.loop-left in
    omega (arith, digits_some at.left, at.invariant.fits)

pub bounds-room-behind-2 : goal.bounds-room-behind-2
bounds-room-behind-2 c =
    let at = c.loop-left in
    omega (arith, digits_some at.left, at.invariant.fits, at.invariant.within)

pub returns : goal.returns
returns c =
    let at = c.loop-left in
    ap (set at.room (at.behind - 1)) c.last_digit-2.ensures
    ∙ put_one at.room at.behind at.left c.loop-left-test.false
    ∙ at.invariant.whole
