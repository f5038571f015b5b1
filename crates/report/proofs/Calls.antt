-- What `put_record` leaves where it refuses.
use Prim.Native.Nat.{ℕ}
use mathlib.Core.Path.{◌≡◌}
use mathlib.Core.Logic.{◌≢◌}
use mathlib.Core.List.{List}
use Rattle.words.specs.BigEndian.{written}
use Rattle.words.proofs.Laws.{unwritten}
use Rattle.report.specs.Record.{record_bytes, put_code}

-- Where `put_record` refused, the room is as it was.
pub refused_leaves : (sender code par number value : ℕ) (room : List ℕ) → put_code (record_bytes sender code par number value) room ≢ 0
    → written (record_bytes sender code par number value) room ≡ room
refused_leaves sender code par number value room h = unwritten (record_bytes sender code par number value) room (λ fits. h (rw fits))
