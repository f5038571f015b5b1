-- `put_printed` meets its contract: the run's answer says which text is printed (`Printed`), the writer of that text was called, and it had room.
use Prim.Native.Nat.{◌+◌, ◌*◌, ◌≤◌}
use mathlib.Core.Path.{sym, ap, ◌∙◌}
use native.Mathlib.Omega.{arith}
use lib.ListN.{length, take}
use Rattle.report.specs.Record.{record_length}
use Rattle.bench.specs.Run.{ran_of}
use Rattle.listing.specs.declared.refusals.Numbered.{Numbered}
use Rattle.listing.specs.Text.{report_text}
use Rattle.listing.specs.Refusal.{refusal_line}
use Rattle.listing.proofs.Lines.{put_front}
use Rattle.list.specs.Printed.{refusal, printed}
use Rattle.list.proofs.Printed.{records_room, records_room_long, coded, prints_refusal, prints_report, refused_some, accepted, records_long, records_fit, records_front}
use Rattle.list.proofs.put_printed.Goals as goal

pub returns-in-Err : goal.returns-in-Err
returns-in-Err c =
    let pupil = c.args.pupil.now in
    let bench = c.fresh-bench in
    let kit = c.kit_list-kit in
    let run = c.run-ran in
    let put = c.put_refusal in
    let line = refusal_line Numbered.Lines c.of_whole.result in
    let told = sym (ap (ran_of bench.result) c.in-Err.is) ∙ run.ensures.result_value in
    let code = c.code_of-code.ensures ∙ coded bench.result run.result ∙ ap (λ t. t.code) run.ensures.result_value in
    let wanted =
    ap (refusal_line Numbered.Lines) c.of_whole.ensures ∙ ap refusal code
    ∙ prints_refusal bench.result kit.result pupil records_room bench.ensures kit.ensures records_room_long
    (refused_some bench.result kit.result pupil records_room c.in-Err.field-0 told) in
    let fits : length line ≤ length c.args.text.now = omega (arith, put.ensures.found_len_bound, c.requires) in
    let whole =
    put_front put.result c.unwrap_or.result line (printed pupil) c.args.text.now put.new.room wanted fits c.unwrap_or.ensures put.ensures.result_value
    put.ensures.room_after in
    record { value = whole.0; text_after = whole.1 }

pub slice_bounds-records-end : goal.slice_bounds-records-end
slice_bounds-records-end c =
    let bench = c.fresh-bench.result in
    let kit = c.kit_list-kit.result in
    let run = c.run-ran in
    let told = sym (ap (ran_of bench) c.in-Ok.is) ∙ run.ensures.result_value in
    omega (
      arith,
      run.auto.room,
      records_room_long,
      records_long bench kit c.args.pupil.now records_room c.in-Ok.ran told,
      records_fit bench kit c.args.pupil.now records_room c.in-Ok.ran told,
    )

pub slice_bounds-put_report-end : goal.slice_bounds-put_report-end
slice_bounds-put_report-end c =
    let bench = c.fresh-bench.result in
    let kit = c.kit_list-kit.result in
    let run = c.run-ran in
    let told = sym (ap (ran_of bench) c.in-Ok.is) ∙ run.ensures.result_value in
    sym
    (ap length (records_front bench kit c.args.pupil.now records_room c.in-Ok.ran told run.new.room run.ensures.room_after)
    ∙ records_long bench kit c.args.pupil.now records_room c.in-Ok.ran told)

pub returns-in-Ok : goal.returns-in-Ok
returns-in-Ok c =
    let pupil = c.args.pupil.now in
    let bench = c.fresh-bench in
    let kit = c.kit_list-kit in
    let run = c.run-ran in
    let put = c.put_report in
    let ran = c.in-Ok.ran in
    let records = take ((ran.kit + ran.pupil) * record_length) run.new.room in
    let told = sym (ap (ran_of bench.result) c.in-Ok.is) ∙ run.ensures.result_value in
    let front = records_front bench.result kit.result pupil records_room ran told run.new.room run.ensures.room_after in
    let wanted =
    ap report_text front
    ∙ prints_report bench.result kit.result pupil records_room bench.ensures kit.ensures records_room_long
    (accepted bench.result kit.result pupil records_room ran told) in
    let few = records_fit bench.result kit.result pupil records_room ran told in
    let fits : length (report_text records) ≤ length c.args.text.now =
    omega (arith, put.ensures.records_len_bound, ap length front, few, c.requires) in
    let whole =
    put_front put.result c.unwrap_or-in-Ok.result (report_text records) (printed pupil) c.args.text.now put.new.room wanted fits c.unwrap_or-in-Ok.ensures
    put.ensures.result_value put.ensures.room_after in
    record { value = whole.0; text_after = whole.1 }
