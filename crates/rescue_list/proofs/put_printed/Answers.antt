-- `put_printed` meets its contract: what the rescue answered and left says what is written (`Printed`), and there was room.
use Prim.Native.Nat.{ℕ, ◌≤◌, ◌<◌}
use mathlib.Core.Path.{◌≡◌, sym, ap, ◌∙◌}
use mathlib.Core.List.{List}
use native.Mathlib.Omega.{arith}
use lib.ListN.{length, replicate, length-replicate}
use lib.Seq.{length-take-le}
use Rattle.std.specs.Prelude.{Ok, Err}
use Rattle.text.specs.Findings.{finding}
use Rattle.rescue.specs.declared.Refusal.{Refusal}
use Rattle.rescue.specs.declared.Rescued.{Rescued}
use Rattle.rescue.specs.Answers.{refusal_code, answer_of, rescue_code, table_size, rescued_as}
use Rattle.rescue.proofs.Calls.{answered_code}
use Rattle.listing.specs.declared.refusals.Numbered.{Numbered}
use Rattle.listing.specs.Refusal.{refusal_line}
use Rattle.listing.proofs.Lines.{put_front}
use Rattle.rescue_list.specs.Printed.{noted}
use Rattle.rescue_list.proofs.Printed.{refused_long, long_printed, long_room, long_noted}
use Rattle.rescue_list.proofs.Printed.{kept_printed, kept_room, table_few, filled_lines, filled_room}
use Rattle.rescue_list.proofs.put_printed.Goals as goal

abbrev table : List ℕ
table = replicate 1824 0

table_long : 1824 ≤ length table
table_long = omega (arith, length-replicate {A = ℕ} 1824 0)

-- A refusal of a rescue into rooms of these lengths: the list is too long.
some_code : (refusal : Refusal) → 0 < refusal_code refusal
some_code Refusal.TooLong = omega arith
some_code Refusal.NoRoom = omega arith

module _ (s room : List ℕ) where
  refused_with : (refusal : Refusal) → answer_of (Err refusal) ≡ rescued_as s room table → refusal_code refusal ≡ rescue_code s room table
  refused_with refusal told = ap (λ a. a.code) told ∙ answered_code s room table

  only_long : 4096 ≤ length room → (refusal : Refusal) → answer_of (Err refusal) ≡ rescued_as s room table → 4096 < length s
  only_long enough refusal told =
      refused_long s room table enough table_long (λ none. omega (arith, some_code refusal, refused_with refusal told, none))

  taken_with : (done : Rescued) → answer_of (Ok done) ≡ rescued_as s room table → rescue_code s room table ≡ 0
  taken_with done told = sym (ap (λ a. a.code) told ∙ answered_code s room table)

pub returns-in-Err : goal.returns-in-Err
returns-in-Err c =
    let s : List ℕ = c.args.list.now in
    let room : List ℕ = c.args.room.now in
    let told = sym (ap answer_of c.in-Err.is) ∙ c.rescue.ensures.result_value in
    let long = only_long s room c.requires.in_bounds c.in-Err.refusal told in
    let line = refusal_line Numbered.Commands (finding c.plain-told.result 0) in
    let coded = c.code.ensures ∙ refused_with s room c.in-Err.refusal told in
    let wanted = ap (λ t. refusal_line Numbered.Commands (finding t 0)) c.plain-told.ensures ∙ long_noted s room table long c.code.result coded in
    let put = c.put_refusal in
    let fits : length line ≤ length c.args.notes.now = omega (arith, put.ensures.found_len_bound, c.requires.in_bounds_2) in
    let noting =
    put_front put.result c.unwrap_or.result line (noted s) c.args.notes.now put.new.room wanted fits c.unwrap_or.ensures put.ensures.result_value
    put.ensures.room_after in
    record {
      printed_value = sym (ap length (long_printed s room table long));
      noted_value = noting.0;
      room_after = c.rescue.ensures.room_after ∙ long_room s room table long;
      notes_after = noting.1;
    }

pub slice_bounds-put_lines-end : goal.slice_bounds-put_lines-end
slice_bounds-put_lines-end c =
    let s : List ℕ = c.args.list.now in
    let room : List ℕ = c.args.room.now in
    let told = sym (ap answer_of c.in-Ok.is) ∙ c.rescue.ensures.result_value in
    let code = taken_with s room c.in-Ok.done told in
    let size = c.table.ensures ∙ ap (λ a. table_size a.stretches) told in
    let left = c.rescue.ensures.table_after in
    let few = table_few s room table code c.table.result size c.rescue.new.table left in
    let within : c.table.result ≤ length c.rescue.new.table = omega (arith, few, c.rescue.auto.table, table_long) in
    sym (length-take-le _ _ within)

pub returns-in-Ok : goal.returns-in-Ok
returns-in-Ok c =
    let s : List ℕ = c.args.list.now in
    let room : List ℕ = c.args.room.now in
    let told = sym (ap answer_of c.in-Ok.is) ∙ c.rescue.ensures.result_value in
    let code = taken_with s room c.in-Ok.done told in
    let size = c.table.ensures ∙ ap (λ a. table_size a.stretches) told in
    let left = c.rescue.ensures.table_after in
    record {
      printed_value = ap (λ a. a.kept) told ∙ kept_printed s room table code;
      noted_value = c.put_lines.ensures.value ∙ ap length (filled_lines s room table code c.table.result size c.rescue.new.table left);
      room_after = c.rescue.ensures.room_after ∙ kept_room s room table code;
      notes_after = filled_room s room table code c.table.result size c.rescue.new.table left c.args.notes.now c.put_lines.new.room
          c.requires.in_bounds_2 c.put_lines.ensures.room_after;
    }
