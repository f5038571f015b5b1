-- The laws from below that a crate above the bench rests on: of tests, of codes and their order, of refusals and of reading. Nothing is proved here.
pub use Rattle.words.proofs.Tests.{both, neither, fails, holds}
pub use Rattle.words.proofs.Laws.{one_to_one}
pub use Rattle.words.proofs.FirstOf.{Coded, first_append}
pub use Rattle.words.proofs.Order.{NoneDue, Order, order, apart, lacks, lacks_on}
pub use Rattle.wire.proofs.Answers.{refusal_code}
pub use Rattle.wire.proofs.Unique.{refusal_of}
pub use Rattle.wire.proofs.RoundTrip.{read_allowed}
