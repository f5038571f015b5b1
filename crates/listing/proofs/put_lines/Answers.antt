-- `put_lines` meets its contract: after so many turns the lines of so many records are laid down.
use Prim.Native.Nat.{◌/◌}
use mathlib.Core.Path.{refl, ap}
use native.Mathlib.Omega.{arith}
use native.Mathlib.Numerals.{add-one}
use lib.ListN.{length}
use Rattle.words.proofs.Stores.{laid_fits, laid_more}
use Rattle.report.specs.Record.{record_length}
use Rattle.listing.specs.Text.{line_of, line_at, lines_to}
use Rattle.listing.proofs.Lines.{lines_within}
use Rattle.listing.proofs.put_lines.Goals as goal

pub loop-place-init : goal.loop-place-init
unfolding lines_to
loop-place-init c = record { laid = record { place = omega arith; stored = refl }; within = omega arith; fits = c.requires }

pub put_line-at-requires : goal.put_line-at-requires
put_line-at-requires c =
    let at = c.loop-place in
    let records = c.args.records.now in
    let room = lines_within records at.place (length records / record_length) (omega arith) in
    rw c.fields_at.ensures (laid_fits at.invariant.laid (line_at records at.place) (omega (arith, at.invariant.fits, room)))

pub loop-place-preserved : goal.loop-place-preserved
unfolding lines_to
loop-place-preserved c =
    let at = c.loop-place in
    let records = c.args.records.now in
    let put = c.put_line-at in
    let line = line_at records at.place in
    let read = ap line_of c.fields_at.ensures in
    record {
      laid = rw add-one (laid_more at.invariant.laid line put.new.room put.result (rw read at put.ensures.value) (rw read at put.ensures.room_after));
      within = omega arith;
      fits = at.invariant.fits;
    }
