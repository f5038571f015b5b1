-- A decoded command as a form and two numbers: 01, "one kind out of fifteen with its own arguments".
use Rattle.std.specs.Prelude.{ℕ, ◌%◌}
use Rattle.std.specs.Float.{binary32}
use Rattle.std.specs.Float.Ieee.{of_bits, to_bits}
use Rattle.wire.specs.declared.table.Form.{Form}
use Rattle.wire.specs.declared.kinds.Kind.{Kind}
use Rattle.wire.specs.declared.kinds.Parts.{Parts}

abbrev pub parts_with : Form → ℕ → ℕ → Parts
parts_with form first second = record { form = form; first = first; second = second }

-- A kind taken apart: its form and its arguments, a goal's by their bits; 0 where there is no such argument.
abbrev pub parts_of : Kind → Parts
parts_of (Kind.ImgPwr mode) = parts_with Form.ImgPwr mode 0
parts_of (Kind.ImgRegion x y) = parts_with Form.ImgRegion x y
parts_of (Kind.ImgTrack time interval) = parts_with Form.ImgTrack time interval
parts_of (Kind.TrkAlg mode) = parts_with Form.TrkAlg mode 0
parts_of (Kind.TrkLoop mode) = parts_with Form.TrkLoop mode 0
parts_of (Kind.ImgImage time interval) = parts_with Form.ImgImage time interval
parts_of (Kind.TrkGoal x y) = parts_with Form.TrkGoal (to_bits binary32 x) (to_bits binary32 y)
parts_of Kind.TlmFlush = parts_with Form.TlmFlush 0 0
parts_of (Kind.FlushAuto mode) = parts_with Form.FlushAuto mode 0
parts_of (Kind.Open number) = parts_with Form.Open number 0
parts_of Kind.Close = parts_with Form.Close 0 0
parts_of (Kind.Run number) = parts_with Form.Run number 0
parts_of (Kind.Wait seconds) = parts_with Form.Wait seconds 0
parts_of Kind.Stop = parts_with Form.Stop 0 0
parts_of Kind.Clear = parts_with Form.Clear 0 0

-- A kind put together: each argument cut to its field's width, a goal the single with these bits.
abbrev pub kind_of : Form → ℕ → ℕ → Kind
kind_of Form.ImgPwr first second = Kind.ImgPwr (first % 256)
kind_of Form.ImgRegion first second = Kind.ImgRegion (first % 65536) (second % 65536)
kind_of Form.ImgTrack first second = Kind.ImgTrack (first % 65536) (second % 65536)
kind_of Form.TrkAlg first second = Kind.TrkAlg (first % 256)
kind_of Form.TrkLoop first second = Kind.TrkLoop (first % 256)
kind_of Form.ImgImage first second = Kind.ImgImage (first % 65536) (second % 65536)
kind_of Form.TrkGoal first second = Kind.TrkGoal (of_bits binary32 first) (of_bits binary32 second)
kind_of Form.TlmFlush first second = Kind.TlmFlush
kind_of Form.FlushAuto first second = Kind.FlushAuto (first % 256)
kind_of Form.Open first second = Kind.Open (first % 256)
kind_of Form.Close first second = Kind.Close
kind_of Form.Run first second = Kind.Run (first % 256)
kind_of Form.Wait first second = Kind.Wait (first % 65536)
kind_of Form.Stop first second = Kind.Stop
kind_of Form.Clear first second = Kind.Clear
