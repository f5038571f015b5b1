-- What a crate above the bench has to name from below it: codes and their order, commands as they are read and judged, what is told of them, the bytes
-- of a record, groups, and of the macros what demand 3 speaks of. Nothing is defined here; each name stands where its definition is.
pub use Rattle.words.specs.Codes.{Check, ◌when◌, first_of, answer_code}
pub use Rattle.words.specs.BigEndian.{byte_at, word_at}
pub use Rattle.wire.specs.declared.kinds.Kind.{Kind}
pub use Rattle.wire.specs.declared.kinds.Command.{Command}
pub use Rattle.wire.specs.declared.kinds.Parts.{Parts}
pub use Rattle.wire.specs.declared.judging.Stray.{Stray}
pub use Rattle.wire.specs.declared.judging.Refusal.{Refusal}
pub use Rattle.wire.specs.declared.judging.Told.{Told}
pub use Rattle.wire.specs.Judge.{no_stray, plain, told_of, told_by, told_for, told_judged, judge_code, judged}
pub use Rattle.wire.specs.Read.{Answer, answer_of, answer_for, said_parts, said, read_checks, span_of}
unfoldable pub use Rattle.wire.specs.Read.{read_code, read_of}
pub use Rattle.report.specs.Record.{record_bytes}
pub use Rattle.store.specs.declared.Unsound.{Unsound}
pub use Rattle.store.specs.Effects.{group_of, kinds_in}
pub use Rattle.store.specs.Roles.{is_run, is_stop}
pub use Rattle.store.specs.Pool.{is_closed}
pub use Rattle.store.specs.WrittenOut.{written_out}
