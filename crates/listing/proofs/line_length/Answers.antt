-- `line_length` meets its contract: a line is as long as its five fields with what stands behind each.
use Prim.Native.Nat.{◌+◌, ◌≤◌}
use native.Mathlib.Omega.{arith}
use lib.ListN.{length}
use Rattle.words.specs.Text.{decimal}
use Rattle.words.proofs.Decimal.{digits_few}
use Rattle.listing.specs.declared.Fields.{Fields}
use Rattle.listing.specs.Text.{blank, line_feed, name_of}
use Rattle.listing.proofs.Decimal.{length-ended}
use Rattle.listing.proofs.Lines.{name_few, length_line}
use Rattle.listing.proofs.line_length.Goals as goal

-- The sum is small, so that each sum on the way is.
small : (f : Fields)
    → length (name_of f.sender) + length (decimal f.number) + length (decimal f.code) + length (decimal f.par) + length (decimal f.value) ≤ 51
small f =
    omega (
      arith,
      name_few f.sender,
      digits_few 10 f.number,
      digits_few 10 f.code,
      digits_few 10 f.par,
      digits_few 10 f.value,
    )

pub overflow_add-result : goal.overflow_add-result
overflow_add-result c = omega (arith, small c.args.fields)

pub overflow_add-result-2 : goal.overflow_add-result-2
overflow_add-result-2 c = omega (arith, small c.args.fields)

pub overflow_add-result-3 : goal.overflow_add-result-3
overflow_add-result-3 c = omega (arith, small c.args.fields)

pub overflow_add-result-4 : goal.overflow_add-result-4
overflow_add-result-4 c = omega (arith, small c.args.fields)

pub overflow_add-result-5 : goal.overflow_add-result-5
overflow_add-result-5 c = omega (arith, small c.args.fields)

pub returns : goal.returns
returns c =
    let f = c.args.fields in
    rw (length_line f)
    (omega (
      arith,
      length-ended f.number blank,
      length-ended f.code blank,
      length-ended f.par blank,
      length-ended f.value line_feed,
    ))
