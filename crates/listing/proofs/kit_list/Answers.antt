-- `kit_list` meets its contract: the words that are put are those of the four commands with their sums, which antt computes.
use Rattle.words.specs.BigEndian.{bytes_of}
use Rattle.wire.specs.Read.{sum_of}
use Rattle.wire.specs.Write.{command_bytes}
use Rattle.listing.specs.Kit.{kit_bytes}
use Rattle.listing.proofs.kit_list.Goals as goal

pub returns : goal.returns
unfolding kit_bytes command_bytes bytes_of sum_of
returns c = c.put_words.ensures.room_after
