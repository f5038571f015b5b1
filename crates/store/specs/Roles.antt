-- What a kind means to the macro store. The nine plain kinds are one role: they are only kept and handed over.
use Rattle.std.specs.Prelude.{ℕ, Bool, true, false}
use Rattle.wire.specs.declared.kinds.Kind.{Kind}
use Rattle.store.specs.declared.roles.Role.{Role}

abbrev pub role_of : Kind → Role
role_of (Kind.ImgPwr mode) = Role.Plain
role_of (Kind.ImgRegion x y) = Role.Plain
role_of (Kind.ImgTrack time interval) = Role.Plain
role_of (Kind.TrkAlg mode) = Role.Plain
role_of (Kind.TrkLoop mode) = Role.Plain
role_of (Kind.ImgImage time interval) = Role.Plain
role_of (Kind.TrkGoal x y) = Role.Plain
role_of Kind.TlmFlush = Role.Plain
role_of (Kind.FlushAuto mode) = Role.Plain
role_of (Kind.Open number) = Role.Open number
role_of Kind.Close = Role.Close
role_of (Kind.Run number) = Role.Run number
role_of (Kind.Wait seconds) = Role.Wait seconds
role_of Kind.Stop = Role.Stop
role_of Kind.Clear = Role.Clear

abbrev pub is_plain : Role → Bool
is_plain Role.Plain = true
is_plain (Role.Open m) = false
is_plain Role.Close = false
is_plain (Role.Run m) = false
is_plain (Role.Wait n) = false
is_plain Role.Stop = false
is_plain Role.Clear = false

abbrev pub is_open : Role → Bool
is_open Role.Plain = false
is_open (Role.Open m) = true
is_open Role.Close = false
is_open (Role.Run m) = false
is_open (Role.Wait n) = false
is_open Role.Stop = false
is_open Role.Clear = false

abbrev pub is_close : Role → Bool
is_close Role.Plain = false
is_close (Role.Open m) = false
is_close Role.Close = true
is_close (Role.Run m) = false
is_close (Role.Wait n) = false
is_close Role.Stop = false
is_close Role.Clear = false

abbrev pub is_run : Role → Bool
is_run Role.Plain = false
is_run (Role.Open m) = false
is_run Role.Close = false
is_run (Role.Run m) = true
is_run (Role.Wait n) = false
is_run Role.Stop = false
is_run Role.Clear = false

abbrev pub is_stop : Role → Bool
is_stop Role.Plain = false
is_stop (Role.Open m) = false
is_stop Role.Close = false
is_stop (Role.Run m) = false
is_stop (Role.Wait n) = false
is_stop Role.Stop = true
is_stop Role.Clear = false

abbrev pub is_clear : Role → Bool
is_clear Role.Plain = false
is_clear (Role.Open m) = false
is_clear Role.Close = false
is_clear (Role.Run m) = false
is_clear (Role.Wait n) = false
is_clear Role.Stop = false
is_clear Role.Clear = true

-- The macro that OPEN or RUN names.
abbrev pub number_of : Role → ℕ
number_of Role.Plain = 0
number_of (Role.Open m) = m
number_of Role.Close = 0
number_of (Role.Run m) = m
number_of (Role.Wait n) = 0
number_of Role.Stop = 0
number_of Role.Clear = 0
