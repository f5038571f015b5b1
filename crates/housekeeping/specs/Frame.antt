-- 02, Q-11: "tag (1 byte), length (1 byte), value, big-endian. One frame holds, in this order, 0x12 last received number (4 bytes), 0x13 last failed
-- number (4), 0x14 its code (1) and 0x15 free slots (1)".
use Rattle.std.specs.Prelude.{ℕ, ◌+◌, List, [], ◌∷◌, ◌++◌}
use Rattle.words.specs.BigEndian.{byte_at, word_at, word_bytes}
use Rattle.housekeeping.specs.declared.Housekeeping.{Housekeeping}
use Rattle.housekeeping.specs.declared.Item.{Item}
use Rattle.housekeeping.specs.declared.Row.{Row}

-- The table: where each item begins, its tag, and how many bytes its value has.
abbrev pub row_of : Item → Row
row_of Item.Received = record { at = 0; tag = 18; size = 4 }
row_of Item.Failed = record { at = 6; tag = 19; size = 4 }
row_of Item.Code = record { at = 12; tag = 20; size = 1 }
row_of Item.Free = record { at = 15; tag = 21; size = 1 }

-- An item's value stands behind its tag and its length; what it takes ends behind that.
abbrev pub value_at : Item → ℕ
value_at item = (row_of item).at + 2

abbrev pub end_of : Item → ℕ
end_of item = value_at item + (row_of item).size

-- An item as bytes.
abbrev pub item_bytes : Item → List ℕ → List ℕ
item_bytes item value = (row_of item).tag ∷ (row_of item).size ∷ value

-- The 18 bytes of a frame.
abbrev pub frame_bytes : Housekeeping → List ℕ
frame_bytes h =
    item_bytes Item.Received (word_bytes h.received)
    ++ item_bytes Item.Failed (word_bytes h.failed)
    ++ item_bytes Item.Code (h.code ∷ [])
    ++ item_bytes Item.Free (h.free ∷ [])

-- The four numbers that such bytes say.
abbrev pub frame_at : List ℕ → Housekeeping
frame_at s =
    record {
      received = word_at s (value_at Item.Received);
      failed = word_at s (value_at Item.Failed);
      code = byte_at s (value_at Item.Code);
      free = byte_at s (value_at Item.Free);
    }
