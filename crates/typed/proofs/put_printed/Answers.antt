-- `put_printed` meets its contract: what is found of the run says which text is printed (`Printed`), the writer of that text was called, and it had
-- room.
use Prim.Native.Nat.{◌+◌, ◌*◌, ◌≤◌}
use mathlib.Core.Path.{◌≡◌, sym, ap, ◌∙◌}
use native.Mathlib.Omega.{arith}
use lib.ListN.{length, take}
use Rattle.report.specs.Record.{record_length}
use Rattle.bench.specs.Typed.{typed_found, typed_ran_of, typed_of}
use Rattle.listing.specs.declared.refusals.Numbered.{Numbered}
use Rattle.listing.specs.Text.{report_text}
use Rattle.listing.specs.Refusal.{refusal_line}
use Rattle.listing.proofs.Lines.{put_front}
use Rattle.typed.specs.Printed.{printed}
use Rattle.typed.proofs.Printed.{records_room, records_room_long, found_in, refused_some, none_found, prints_refusal, prints_report, records_long, records_fit, records_front}
use Rattle.typed.proofs.put_printed.Goals as goal

pub returns-in-Err : goal.returns-in-Err
unfolding typed_of
returns-in-Err c =
    let typed = c.args.typed.now in
    let bench = c.fresh-bench in
    let kit = c.kit_list-kit in
    let run = c.run_typed-ran in
    let put = c.put_refusal in
    let line = refusal_line Numbered.Lines c.finding_of-found.result in
    let told = sym (ap (typed_ran_of bench.result) c.in-Err.is) ∙ run.ensures.result_value in
    let found : c.finding_of-found.result ≡ typed_found bench.result kit.result typed records_room =
    c.finding_of-found.ensures ∙ found_in bench.result run.result ∙ ap (λ t. t.found) run.ensures.result_value in
    let wanted =
    ap (refusal_line Numbered.Lines) found
    ∙ prints_refusal bench.result kit.result typed records_room bench.ensures kit.ensures records_room_long
    (refused_some bench.result kit.result typed records_room c.in-Err.field-0 told) in
    let fits : length line ≤ length c.args.room.now = omega (arith, put.ensures.found_len_bound, c.requires) in
    let whole =
    put_front put.result c.unwrap_or.result line (printed typed) c.args.room.now put.new.room wanted fits c.unwrap_or.ensures put.ensures.result_value
    put.ensures.room_after in
    record { value = whole.0; room_after = whole.1 }

pub slice_bounds-records-end : goal.slice_bounds-records-end
slice_bounds-records-end c =
    let bench = c.fresh-bench.result in
    let kit = c.kit_list-kit.result in
    let run = c.run_typed-ran in
    let told = sym (ap (typed_ran_of bench) c.in-Ok.is) ∙ run.ensures.result_value in
    omega (
      arith,
      run.auto.room,
      records_room_long,
      records_long bench kit c.args.typed.now records_room c.in-Ok.ran told,
      records_fit bench kit c.args.typed.now records_room c.in-Ok.ran told,
    )

pub slice_bounds-put_report-end : goal.slice_bounds-put_report-end
slice_bounds-put_report-end c =
    let bench = c.fresh-bench.result in
    let kit = c.kit_list-kit.result in
    let run = c.run_typed-ran in
    let told = sym (ap (typed_ran_of bench) c.in-Ok.is) ∙ run.ensures.result_value in
    sym
    (ap length (records_front bench kit c.args.typed.now records_room c.in-Ok.ran told run.new.room run.ensures.room_after)
    ∙ records_long bench kit c.args.typed.now records_room c.in-Ok.ran told)

pub returns-in-Ok : goal.returns-in-Ok
returns-in-Ok c =
    let typed = c.args.typed.now in
    let bench = c.fresh-bench in
    let kit = c.kit_list-kit in
    let run = c.run_typed-ran in
    let put = c.put_report in
    let ran = c.in-Ok.ran in
    let records = take ((ran.kit + ran.pupil) * record_length) run.new.room in
    let told = sym (ap (typed_ran_of bench.result) c.in-Ok.is) ∙ run.ensures.result_value in
    let front = records_front bench.result kit.result typed records_room ran told run.new.room run.ensures.room_after in
    let wanted =
    ap report_text front
    ∙ prints_report bench.result kit.result typed records_room bench.ensures kit.ensures records_room_long
    (none_found bench.result kit.result typed records_room ran told) in
    let few = records_fit bench.result kit.result typed records_room ran told in
    let fits : length (report_text records) ≤ length c.args.room.now =
    omega (arith, put.ensures.records_len_bound, ap length front, few, c.requires) in
    let whole =
    put_front put.result c.unwrap_or-in-Ok.result (report_text records) (printed typed) c.args.room.now put.new.room wanted fits c.unwrap_or-in-Ok.ensures
    put.ensures.result_value put.ensures.room_after in
    record { value = whole.0; room_after = whole.1 }
