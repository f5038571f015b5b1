-- `put_lines` meets its contract: after so many turns the lines of so many stretches are laid down.
use Prim.Native.Nat.{◌+◌, ◌/◌}
use mathlib.Core.Path.{◌≡◌, refl, ap, ◌∙◌}
use native.Mathlib.Omega.{arith}
use native.Mathlib.Numerals.{add-one}
use lib.ListN.{length}
use lib.Seq.{sets}
use Rattle.words.proofs.Stores.{laid_fits, laid_more}
use Rattle.rescue_list.specs.Steps.{line_with, lines_to}
use Rattle.rescue_list.proofs.Lines.{line_at, line_fits}
use Rattle.rescue_list.proofs.put_lines.Goals as goal

pub loop-place-init : goal.loop-place-init
unfolding lines_to
loop-place-init c =
    record {
      laid = record { place = omega arith; stored = refl };
      within = omega arith;
      bytes = λ i. omega (arith, c.type_inv.table i);
      enough = c.requires;
    }

pub put_line-at-requires : goal.put_line-at-requires
put_line-at-requires c =
    let line_read : line_with c.half_at-start.result c.half_at-size.result ≡ line_at c.args.table.now c.loop-place.place = rw (c.half_at-start.ensures, c.half_at-size.ensures) in
    let at = c.loop-place in
    let table = c.args.table.now in
    let room = line_fits table at.invariant.bytes at.place (length table / 4) _ (omega arith) at.invariant.enough in
    let fits = laid_fits at.invariant.laid (line_at table at.place) room in
    omega (arith, fits, ap length line_read)

pub loop-place-preserved : goal.loop-place-preserved
unfolding lines_to
loop-place-preserved c =
    let line_read : line_with c.half_at-start.result c.half_at-size.result ≡ line_at c.args.table.now c.loop-place.place = rw (c.half_at-start.ensures, c.half_at-size.ensures) in
    let at = c.loop-place in
    let table = c.args.table.now in
    let put = c.put_line-at in
    let read = line_read in
    let next = put.ensures.value ∙ ap (λ l. at.at + length l) read in
    let stored = put.ensures.room_after ∙ ap (sets at.room at.at) read in
    record {
      laid = rw add-one (laid_more at.invariant.laid (line_at table at.place) put.new.room put.result next stored);
      within = omega arith;
      bytes = at.invariant.bytes;
      enough = at.invariant.enough;
    }
