-- `put_stretch` meets its contract: start and length, two bytes each, are the bytes of the stretch.
use mathlib.Core.Path.{ap, ◌∙◌}
use Rattle.words.specs.Text.{place_after, stored_at}
use Rattle.rescue.proofs.Turns.{nothing_skipped, both_numbers}
use Rattle.rescue.proofs.put_stretch.Goals as goal

pub returns-then-run-eq0-clause-value : goal.returns-then-run-eq0-clause-value
returns-then-run-eq0-clause-value c = (nothing_skipped _ _ _ _ c.if-run-eq0.true).0

pub returns-then-run-eq0-clause-table_after : goal.returns-then-run-eq0-clause-table_after
returns-then-run-eq0-clause-table_after c = (nothing_skipped _ _ _ _ c.if-run-eq0.true).1

pub returns-clause-value : goal.returns-clause-value
returns-clause-value c =
    let bytes = both_numbers c.args.end c.args.run _ _ c.if-run-eq0.false c.requires.run_le_end c.requires.end_bound c.to_be_bytes.ensures c.to_be_bytes-2.ensures in
    c.put_at.ensures.value ∙ ap (λ l. place_after l c.args.pos c.args.table.now) bytes

pub returns-clause-table_after : goal.returns-clause-table_after
returns-clause-table_after c =
    let bytes = both_numbers c.args.end c.args.run _ _ c.if-run-eq0.false c.requires.run_le_end c.requires.end_bound c.to_be_bytes.ensures c.to_be_bytes-2.ensures in
    c.put_at.ensures.room_after ∙ ap (λ l. stored_at l c.args.pos c.args.table.now) bytes
