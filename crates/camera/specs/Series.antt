-- A series of images: how one starts, and what one second does to it.
use Rattle.std.specs.Prelude.{ℕ, ◌+◌, ◌-◌, ◌%◌, Bool, cond, ◌&&◌, ◌||◌, ◌==◌, nat_le}
use Rattle.camera.specs.declared.Series.{Series}

abbrev pub series_with : ℕ → ℕ → ℕ → ℕ → Series
series_with time interval next count = record { time = time; interval = interval; next = next; count = count }

-- "Fresh: all numbers zero, both intervals 1"
abbrev pub fresh_series : Series
fresh_series = series_with 0 1 0 0

-- "IMAGE sets time T, interval I and "next" to 1, superseding an earlier series"
abbrev pub started_of : Series → ℕ → ℕ → Series
started_of s time interval = series_with time interval 1 s.count

-- "take 1 from next; if it is 0, one more image is counted (16 bits, wraps) and next becomes I"
abbrev pub counted_of : Series → Series
counted_of s =
    cond (s.next - 1 == 0)
    (series_with s.time s.interval s.interval ((s.count + 1) % 65536))
    (series_with s.time s.interval (s.next - 1) s.count)

-- "then time falls by 1 unless it is 65535, which means for ever"
abbrev pub time_after : ℕ → ℕ
time_after time = cond (time == 65535) 65535 (time - 1)

abbrev pub fallen_of : Series → Series
fallen_of s = series_with (time_after s.time) s.interval s.next s.count

-- One second of "each series with time above 0".
unfoldable pub second_of : Series → Series
second_of s = cond (s.time == 0) s (fallen_of (counted_of s))

-- Soundness: "next is from 1 to the interval wherever a time is above 0".
abbrev pub next_holds : Series → Bool
next_holds s = s.time == 0 || (nat_le 1 s.next && nat_le s.next s.interval)
