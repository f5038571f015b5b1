-- `fits` meets its contract: what is left of the room, the header and the lines so far are the room.
use Prim.Native.Nat.{◌/◌}
use mathlib.Core.Path.{◌≡◌, sym, ap, ◌∙◌}
use native.Mathlib.Omega.{arith}
use native.Mathlib.Numerals.{add-one}
use lib.ListN.{length}
use borrow.Author.Tests.{le-leb, lt-leb}
use Rattle.report.specs.Record.{record_length}
use Rattle.listing.specs.Text.{line_of, line_at, lines_to}
use Rattle.listing.proofs.Lines.{length_lines, lines_within, length_text}
use Rattle.listing.proofs.fits.Goals as goal

pub returns-then-room-lt-HEADER : goal.returns-then-room-lt-HEADER
returns-then-room-lt-HEADER c =
    let start = c.args in
    sym (lt-leb _ start.room (omega (arith, length_text start.records.now, c.if-room-lt-HEADER.true)))

pub loop-line-init : goal.loop-line-init
unfolding lines_to
loop-line-init c = record { within = omega arith; parts = omega arith }

pub returns-then-left-length : goal.returns-then-left-length
returns-then-left-length c =
    let long : c.line_length-length.result ≡ length (line_at c.args.records.now c.loop-line.line) = c.line_length-length.ensures ∙ ap (λ f. length (line_of f)) c.fields_at.ensures in
    let start = c.args in
    let records = start.records.now in
    let within = lines_within records c.loop-line.line (length records / record_length) (omega arith) in
    sym (lt-leb _ start.room (omega (arith, c.loop-line.invariant, length_text records, within, long)))

pub loop-line-preserved : goal.loop-line-preserved
loop-line-preserved c =
    let long : c.line_length-length.result ≡ length (line_at c.args.records.now c.loop-line.line) = c.line_length-length.ensures ∙ ap (λ f. length (line_of f)) c.fields_at.ensures in
    let records = c.args.records.now in
    record {
      within = omega arith;
      parts = rw add-one (omega (arith, c.loop-line.invariant.parts, length_lines records c.loop-line.line, long));
    }

pub returns : goal.returns
returns c =
    let start = c.args in
    let at = c.loop-line in
    let all : at.line ≡ length start.records.now / record_length = omega (arith, at.invariant.within) in
    sym (le-leb _ start.room (omega (arith, length_text start.records.now, rw all at at.invariant.parts)))
