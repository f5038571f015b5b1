-- 02, Q-8: how many pictures a series has taken after some seconds, as pupils work it out on paper, and what has become of it by then. All is counted
-- from the moment when IMAGE or TRACK took effect.
use Rattle.std.specs.Prelude.{ℕ, ◌+◌, ◌-◌, ◌*◌, ◌/◌, ◌%◌, min, cond, ◌==◌}
use Rattle.camera.specs.declared.Series.{Series}
use Rattle.camera.specs.Series.{series_with}

-- "the smaller of k and T (k alone where T is 65535)"
abbrev pub counted_seconds : ℕ → ℕ → ℕ
counted_seconds time seconds = cond (time == 65535) seconds (min seconds time)

-- "divided by I and rounded up": one more where something is left over. An interval of 0, which no command can bring, counts no picture.
abbrev pub rounded_up : ℕ → ℕ → ℕ
rounded_up n interval = cond (interval == 0) 0 (cond (n % interval == 0) (n / interval) (n / interval + 1))

-- Time, interval, seconds: the pictures of so many seconds.
abbrev pub pictures_of : ℕ → ℕ → ℕ → ℕ
pictures_of time interval seconds = rounded_up (counted_seconds time seconds) interval

-- The time that is left.
abbrev pub time_left : ℕ → ℕ → ℕ
time_left time seconds = cond (time == 65535) 65535 (time - seconds)

-- After p pictures the next one comes in second p I + 1 of those that count: it is so many seconds away.
abbrev pub next_after : ℕ → ℕ → ℕ → ℕ
next_after time interval seconds = pictures_of time interval seconds * interval + 1 - counted_seconds time seconds

-- The whole series: the pictures are added "to the count, modulo 65536".
abbrev pub series_at : Series → ℕ → ℕ → ℕ → Series
series_at s time interval seconds =
    series_with (time_left time seconds) interval (next_after time interval seconds) ((s.count + pictures_of time interval seconds) % 65536)
