-- `put_report` meets its contract: where there is room for the text, the header is laid down and the lines behind it; where there is none, nothing
-- was touched.
use Prim.Native.Nat.{ℕ, ◌+◌, ◌≤◌}
use mathlib.Core.Path.{◌≡◌, sym, ap, ◌∙◌}
use native.Mathlib.Omega.{arith}
use lib.ListN.{length}
use borrow.Author.Tests.{leb-true, not-false}
use Rattle.words.proofs.Stores.{Laid, laid_first, laid_fits, laid_more}
use Rattle.listing.specs.Text.{header_line, lines_of, report_text}
use Rattle.listing.proofs.Lines.{length_text, text_short}
use Rattle.listing.proofs.Stores.{laid_all}
use mathlib.Core.Bool.{not}
use mathlib.Core.List.{List}
use lib.Seq.{sets}
use Rattle.words.specs.Text.{place_after, stored_at}
use Rattle.listing.proofs.put_report.Goals as goal

-- The header is laid down, and the lines have room behind it and are laid down there.
module _ (records room₀ : List ℕ) (fits : length (report_text records) ≤ length room₀) {room₁ : List ℕ} {at₁ : ℕ}
    (put : (at₁ ≡ place_after header_line 0 room₀) × (room₁ ≡ stored_at header_line 0 room₀)) where
  header : Laid room₀ 0 header_line room₁ at₁
  header = laid_first header_line 0 room₀ room₁ at₁ (omega (arith, length_text records)) put.0 put.1

  lines_fit : at₁ + length (lines_of records) ≤ length room₁
  lines_fit = laid_fits header (lines_of records) (omega (arith, length_text records))

  text_laid : {room₂ : List ℕ} {at₂ : ℕ} → (at₂ ≡ at₁ + length (lines_of records)) × (room₂ ≡ sets room₁ at₁ (lines_of records))
      → Laid room₀ 0 (report_text records) room₂ at₂
  unfolding report_text
  text_laid {room₂} {at₂} lines = laid_more header (lines_of records) room₂ at₂ lines.0 lines.1

pub returns-then-not-fits-clause-records_len_bound : goal.returns-then-not-fits-clause-records_len_bound
returns-then-not-fits-clause-records_len_bound c = text_short c.args.records.now (λ i. omega (arith, c.type_inv.records i))

pub put_lines-requires : goal.put_lines-requires
put_lines-requires c =
    let fits = leb-true _ _ (sym c.fits.ensures ∙ not-false _ (ap not c.if-not-fits.false)) in
    lines_fit c.args.records.now c.args.room.now fits (c.put_at-at.ensures.value, c.put_at-at.ensures.room_after)

pub returns-clause-result_value : goal.returns-clause-result_value
returns-clause-result_value c =
    let fits = leb-true _ _ (sym c.fits.ensures ∙ not-false _ (ap not c.if-not-fits.false)) in
    let all = text_laid c.args.records.now c.args.room.now fits (c.put_at-at.ensures.value, c.put_at-at.ensures.room_after)
    (c.put_lines.ensures.value, c.put_lines.ensures.room_after) in
    let told = laid_all all fits in
    told.0

pub returns-clause-room_after : goal.returns-clause-room_after
returns-clause-room_after c =
    let fits = leb-true _ _ (sym c.fits.ensures ∙ not-false _ (ap not c.if-not-fits.false)) in
    let all = text_laid c.args.records.now c.args.room.now fits (c.put_at-at.ensures.value, c.put_at-at.ensures.room_after)
    (c.put_lines.ensures.value, c.put_lines.ensures.room_after) in
    let told = laid_all all fits in
    told.1

pub returns-clause-records_len_bound : goal.returns-clause-records_len_bound
returns-clause-records_len_bound c = text_short c.args.records.now (λ i. omega (arith, c.type_inv.records i))
