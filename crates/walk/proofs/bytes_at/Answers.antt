-- `bytes_at` meets its contract, by `Parts`: the bytes between a command's first byte and the next command's are its own.
use mathlib.Core.Path.{refl}
use native.Mathlib.Omega.{arith}
use Rattle.walk.proofs.Turns.{CommandAt, command_at}
use Rattle.walk.proofs.Parts.{offset_here}
use Rattle.walk.proofs.bytes_at.Goals as goal

pub overflow_add-end : goal.overflow_add-end
overflow_add-end c =
    let here : CommandAt c.args.s.now c.args.at c.span.result = let start = c.args in
    command_at start.s.now start.at c.span.result c.if-at-s.true c.span.ensures in
    omega (arith, here)

pub slice_bounds-result-end : goal.slice_bounds-result-end
slice_bounds-result-end c =
    let here : CommandAt c.args.s.now c.args.at c.span.result = let start = c.args in
    command_at start.s.now start.at c.span.result c.if-at-s.true c.span.ensures in
    omega (arith, here)

pub returns-then-at-s-clause-placed : goal.returns-then-at-s-clause-placed
returns-then-at-s-clause-placed c =
    let here : CommandAt c.args.s.now c.args.at c.span.result = let start = c.args in
    command_at start.s.now start.at c.span.result c.if-at-s.true c.span.ensures in
    let start = c.args in
    let n = c.span.result in
    record { block = refl; start = omega (arith, offset_here start.s.now start.at n here) }
