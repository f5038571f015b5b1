-- 01, "Examples on each side of a line": all of the starred cases, of single commands, of series and of macros, as one list under one claim; and a
-- typed list.
use Prim.Native.Nat.{ℕ, zero, suc, ◌-◌}
use Prim.Native.String.{String}
use mathlib.Core.Path.{◌≡◌, refl}
use mathlib.Core.List.{List, [], ◌∷◌, ◌++◌}
use mathlib.Core.Bool.{Bool, true, false}
use lib.ListN.{length, replicate}
use lib.IntN.{pos, negsuc}
use lib.Ieee.{Float, nan, fin, of_bits, to_bits}
use Rattle.words.specs.BigEndian.{bytes_of}
use Rattle.words.specs.Text.{ascii}
use Rattle.wire.specs.declared.table.Form.{Form}
use Rattle.wire.specs.declared.kinds.Kind.{Kind}
use Rattle.wire.specs.declared.judging.Stray.{Stray}
use Rattle.wire.specs.Judge.{stray_with, no_stray, told_with, plain, judge_code}
use Rattle.wire.specs.Read.{sum_of, read_of, span_of}
use Rattle.wire.specs.Write.{command_bytes, list_bytes}
use Rattle.frame.specs.Rules.{frame_rule}
use Rattle.camera.specs.declared.Camera.{Camera}
use Rattle.camera.specs.Series.{fresh_series, series_with, second_of}
use Rattle.camera.specs.Camera.{fresh_camera, with_series, with_region, with_goal, with_modes, with_flushes}
use Rattle.walk.specs.Walk.{rests}
use Rattle.report.specs.Record.{record_bytes}
use Rattle.text.specs.Split.{lines_of, words_of, same_text}
use Rattle.text.specs.Number.{digits_in, whole_of}
use Rattle.text.specs.Names.{form_named}
use Rattle.text.specs.Line.{typed_as, line_of}
use Rattle.text.specs.Assemble.{commands_in, numbers_in}
use Rattle.store.specs.Words.{head_of, inserted}
use Rattle.store.specs.Words.{commands_in as entries_in}
use Rattle.store.specs.Pool.{size_of, start_of, between, entries_of, kept}
use Rattle.store.specs.WrittenOut.{expand, flat_below, flat, seconds, most_in, written_out}
use Rattle.store.specs.Effects.{store_with, fresh_store, applied_of}
use Rattle.store.specs.Sound.{all_below, all_of, store_sound}
use Rattle.report.specs.Latest.{no_latest}
use Rattle.bench.specs.declared.Bench.{Bench}
use Rattle.bench.specs.Status.{fresh_bench, bench_sound}
use Rattle.bench.specs.Carry.{carry_out, taken, carry_out_bytes}
use Rattle.bench.specs.Second.{SecondTold, second_at}
use Rattle.bench.specs.Run.{run_rests}
use Rattle.bench.specs.Typed.{typed_report}
use Rattle.bench.specs.Events.{Event, bytes, after}

-- What a case is: commands are given as their 32-bit words.
pub data Case : Type 0 where
  -- after some commands (none: a fresh bench) a command: its words, its flag and kind, then its code and the whole bench that it leaves
  command : List (List ℕ) → List ℕ → Bool → Kind → ℕ → Bench → Case
  -- words that are refused as they are read, with this code and what is told of the number; a fresh bench stays fresh
  misread : List ℕ → ℕ → Stray → Case
  -- a decoded command that a fresh bench answers with this code and what is told of the number, and the whole bench that it leaves
  decoded : Kind → ℕ → Stray → Bench → Case
  -- after these commands: the count of images as each second ends
  counts : List (List ℕ) → List ℕ → Case
  -- after these commands: the length of macro m
  lasts : List (List ℕ) → ℕ → ℕ → Case
  -- after these commands: what each second hands over
  hands : List (List ℕ) → List (List Kind) → Case
  -- after these commands: the running macro, 255 for none, and the seconds left, as each second ends
  runs : List (List ℕ) → List ℕ → List ℕ → Case
  -- a typed list on a fresh bench, with no kit's list before it: the records
  typed : String → List ℕ → Case

-- A fresh bench to which these commands were given, as bytes.
abbrev given : List (List ℕ) → List Event
given [] = []
given (words ∷ rest) = bytes (bytes_of words) ∷ given rest

abbrev bench_of : List (List ℕ) → Bench
bench_of commands = after fresh_bench (given commands)

-- What the next n seconds tell.
abbrev told : {A : Type 0} → (SecondTold → A) → Bench → ℕ → List A
told show b zero = []
told show b (suc n) = show (second_at b) ∷ told show (second_at b).bench n

-- What a case claims.
abbrev pub Claim : Case → Type 0
Claim (command before words flag kind code bench) =
    (read_of (bytes_of words) ≡ record { told = plain 0; taken = record { flag = flag; kind = kind } ∷ [] })
    × (command_bytes (record { flag = flag; kind = kind }) ≡ bytes_of words)
    × (carry_out_bytes (bench_of before) (bytes_of words) ≡ record { told = plain code; bench = bench })
Claim (misread words code stray) =
    (read_of (bytes_of words) ≡ record { told = told_with code stray; taken = [] })
    × (carry_out_bytes fresh_bench (bytes_of words) ≡ record { told = told_with code stray; bench = fresh_bench })
Claim (decoded kind code stray bench) =
    carry_out fresh_bench (record { flag = false; kind = kind }) ≡ record { told = told_with code stray; bench = bench }
Claim (counts commands images) = told (λ s. s.bench.camera.image.count) (bench_of commands) (length images) ≡ images
Claim (lasts commands m seconds) = length (written_out (bench_of commands).store m) ≡ seconds
Claim (hands commands kinds) = told (λ s. s.handed) (bench_of commands) (length kinds) ≡ kinds
Claim (runs commands running left) =
    (told (λ s. s.bench.store.running) (bench_of commands) (length running) ≡ running)
    × (told (λ s. s.bench.store.left) (bench_of commands) (length left) ≡ left)
Claim (typed text records) = typed_report fresh_bench [] (ascii text) ≡ records

abbrev pub Holds : List Case → Type 0
Holds [] = Unit {0}
Holds (c ∷ cs) = Claim c × Holds cs

-- The singles 0, 511.5 and 1024, and the one just below 1024.
abbrev nought : Float
nought = fin false 0 (pos 0)

abbrev half : Float
half = fin false 1023 (negsuc 0)

abbrev limit : Float
limit = fin false 1 (pos 10)

abbrev below : Float
below = fin false 0xffffff (negsuc 13)

-- A bench that is fresh but for its camera, and one that is fresh but for the words at the front of its pool, the number of entries in each macro,
-- and the open macro.
abbrev showing : Camera → Bench
showing camera = record { camera = camera; store = fresh_store; latest = no_latest }

abbrev holding : List ℕ → List ℕ → ℕ → Bench
holding words sizes opened =
    record {
      camera = fresh_camera;
      store = store_with (words ++ replicate (576 - length words) 0) sizes (replicate 8 false) opened 255 0;
      latest = no_latest;
    }

-- Power on, and the camera that it leaves; image, 5 s, every 2 s.
abbrev power_on : List ℕ
power_on = 0x01140003 ∷ 0x01000000 ∷ 0x00140003 ∷ []

abbrev lit : Camera
lit = with_modes fresh_camera true false false 0

abbrev image : List ℕ
image = 0x01500003 ∷ 0x00050002 ∷ 0x01550001 ∷ []

-- OPEN 3.
abbrev open3 : List ℕ
open3 = 0x7f010003 ∷ 0x03000000 ∷ 0x7c010003 ∷ []

-- The two macros of the last example, and RUN 1.
abbrev macros : List (List ℕ)
macros =
    -- OPEN 0; appended FLUSH, WAIT 2; CLOSE
    (0x7f010003 ∷ 0x00000000 ∷ 0x7f010003 ∷ [])
    ∷ (0x015a8002 ∷ 0x015a8002 ∷ [])
    ∷ (0x7f048003 ∷ 0x00020000 ∷ 0x7f068003 ∷ [])
    ∷ (0x7f020002 ∷ 0x7f020002 ∷ [])
    -- OPEN 1; appended RUN 0, power off, RUN 0; CLOSE
    ∷ (0x7f010003 ∷ 0x01000000 ∷ 0x7e010003 ∷ [])
    ∷ (0x7f038003 ∷ 0x00000000 ∷ 0x7f038003 ∷ [])
    ∷ (0x01148003 ∷ 0x00000000 ∷ 0x01148003 ∷ [])
    ∷ (0x7f038003 ∷ 0x00000000 ∷ 0x7f038003 ∷ [])
    ∷ (0x7f020002 ∷ 0x7f020002 ∷ [])
    -- RUN 1
    ∷ (0x7f030003 ∷ 0x01000000 ∷ 0x7e030003 ∷ [])
    ∷ []

-- OPEN 0; appended WAIT 600, FLUSH.
abbrev long : List (List ℕ)
long =
    (0x7f010003 ∷ 0x00000000 ∷ 0x7f010003 ∷ [])
    ∷ (0x7f048003 ∷ 0x02580000 ∷ 0x7d5c8003 ∷ [])
    ∷ (0x015a8002 ∷ 0x015a8002 ∷ [])
    ∷ []

abbrev pub cases : List Case
cases =
    -- 015a0002 015a0002: FLUSH, code 0. With flag: 015a8002 015a8002, code 11 on a fresh bench.
    command [] (0x015a0002 ∷ 0x015a0002 ∷ []) false Kind.TlmFlush 0 (showing (with_flushes fresh_camera 1))
    ∷ command [] (0x015a8002 ∷ 0x015a8002 ∷ []) true Kind.TlmFlush 11 fresh_bench
    -- 01140003 01000000 00140003: power on.
    ∷ command [] power_on false (Kind.ImgPwr 1) 0 (showing lit)
    -- 01170003 02000100 03170103: region 512, 256.
    ∷ command [] (0x01170003 ∷ 0x02000100 ∷ 0x03170103 ∷ []) false (Kind.ImgRegion 512 256) 0 (showing (with_region fresh_camera 512 256))
    -- 01500003 00050002 01550001: image, 5 s, every 2 s. Images come in seconds 1, 3 and 5. ("01's image case now has power on": 02, Q-3.)
    ∷ command (power_on ∷ []) image false (Kind.ImgImage 5 2) 0 (showing (with_series lit (series_with 5 2 1 0) fresh_series))
    ∷ counts (power_on ∷ image ∷ []) (1 ∷ 1 ∷ 2 ∷ 2 ∷ 3 ∷ 3 ∷ 3 ∷ [])
    -- Q-3: the same image on a fresh bench, whose power is off.
    ∷ command [] image false (Kind.ImgImage 5 2) 26 fresh_bench
    -- 01500003 00050000 01550003: code 8, parameter 2. ("the value found and the lowest and highest allowed": 02, Q-6.)
    ∷ misread (0x01500003 ∷ 0x00050000 ∷ 0x01550003 ∷ []) 8 (stray_with 2 0 1 65535)
    -- 01530004 43ffc000 00000000 42acc004: goal 511.5, 0.
    ∷ command [] (0x01530004 ∷ 0x43ffc000 ∷ 0x00000000 ∷ 0x42acc004 ∷ []) false (Kind.TrkGoal half nought) 0
    (showing (with_goal fresh_camera 0x43ffc000 0))
    -- Goal bits 447fffff allowed, 44800000 and 7fc00000 not. (Q-6: "For goals all three are bits, the ends 0 and 0x447fffff.")
    ∷ command [] (0x01530004 ∷ 0x447fffff ∷ 0x447fffff ∷ 0x01530004 ∷ []) false (Kind.TrkGoal below below) 0
    (showing (with_goal fresh_camera 0x447fffff 0x447fffff))
    ∷ misread (0x01530004 ∷ 0x44800000 ∷ 0x00000000 ∷ 0x45d30004 ∷ []) 8 (stray_with 1 0x44800000 0 0x447fffff)
    ∷ misread (0x01530004 ∷ 0x00000000 ∷ 0x44800000 ∷ 0x45d30004 ∷ []) 8 (stray_with 2 0x44800000 0 0x447fffff)
    ∷ misread (0x01530004 ∷ 0x7fc00000 ∷ 0x00000000 ∷ 0x7e930004 ∷ []) 8 (stray_with 1 0x7fc00000 0 0x447fffff)
    ∷ misread (0x01530004 ∷ 0x00000000 ∷ 0x7fc00000 ∷ 0x7e930004 ∷ []) 8 (stray_with 2 0x7fc00000 0 0x447fffff)
    -- Q-6: another not-a-number, told bit for bit; decoded, each is told as 7fc00000.
    ∷ misread (0x01530004 ∷ 0x7f800001 ∷ 0x00000000 ∷ 0x7ed30005 ∷ []) 8 (stray_with 1 0x7f800001 0 0x447fffff)
    ∷ decoded (Kind.TrkGoal below below) 0 no_stray (showing (with_goal fresh_camera 0x447fffff 0x447fffff))
    ∷ decoded (Kind.TrkGoal limit nought) 8 (stray_with 1 0x44800000 0 0x447fffff) fresh_bench
    ∷ decoded (Kind.TrkGoal nought nan) 8 (stray_with 2 0x7fc00000 0 0x447fffff) fresh_bench
    -- 7f010003 03000000 7c010003: OPEN 3. 7f048003 00020000 7f068003: appended WAIT 2.
    -- (OPEN 3 opens macro 3. WAIT 2 is refused where none is open, and behind OPEN 3 it is stored as macro 3's first entry. Nothing else changes.)
    ∷ command [] open3 false (Kind.Open 3) 0 (holding [] (replicate 8 0) 3)
    ∷ command [] (0x7f048003 ∷ 0x00020000 ∷ 0x7f068003 ∷ []) true (Kind.Wait 2) 11 fresh_bench
    ∷ command (open3 ∷ []) (0x7f048003 ∷ 0x00020000 ∷ 0x7f068003 ∷ []) true (Kind.Wait 2) 0
    (holding (head_of Form.Wait true ∷ 2 ∷ 0 ∷ []) (0 ∷ 0 ∷ 0 ∷ 1 ∷ 0 ∷ 0 ∷ 0 ∷ 0 ∷ []) 3)
    -- The two macros, as 02, Q-2 has them. Macro 0 is FLUSH, WAIT 2: length 2.
    ∷ lasts macros 0 2
    -- Macro 1 is RUN 0, power off, RUN 0: length 4, "with power off and the second FLUSH both in second 3".
    ∷ lasts macros 1 4
    ∷ hands macros ((Kind.TlmFlush ∷ []) ∷ [] ∷ (Kind.ImgPwr 0 ∷ Kind.TlmFlush ∷ []) ∷ [] ∷ [] ∷ [])
    ∷ runs macros (1 ∷ 1 ∷ 1 ∷ 255 ∷ 255 ∷ []) (3 ∷ 2 ∷ 1 ∷ 0 ∷ 0 ∷ [])
    -- "WAIT 600 with a FLUSH after it still has 601": its CLOSE gets 15. (The macro is macro 0, and stays open.)
    ∷ lasts long 0 601
    ∷ command long (0x7f020002 ∷ 0x7f020002 ∷ []) false Kind.Close 15
    (holding (head_of Form.Wait true ∷ 600 ∷ 0 ∷ head_of Form.TlmFlush true ∷ 0 ∷ 0 ∷ []) (2 ∷ 0 ∷ 0 ∷ 0 ∷ 0 ∷ 0 ∷ 0 ∷ 0 ∷ []) 0)
    -- Q-1: "Empty lines and lines that begin with `#` carry no command but are counted." (No macro is open, so the append on line 4 gets 11.)
    ∷ typed "# my first list\nimg_region 512 256\n\n+tlm_flush\n" (record_bytes 2 0 0 2 0 ++ record_bytes 2 11 0 4 0)
    ∷ []

-- One proof beside the others.
infixr 3 ◌also◌
abbrev ◌also◌ : {A B : Type 0} → A → B → A × B
a also b = (a, b)

pub cases_hold : Holds cases
unfolding bytes_of read_of sum_of command_bytes judge_code of_bits to_bits frame_rule second_of inserted entries_in size_of start_of between entries_of kept
    expand flat_below flat seconds most_in written_out applied_of all_below all_of store_sound bench_sound carry_out carry_out_bytes second_at lines_of words_of same_text
    digits_in whole_of form_named typed_as line_of commands_in numbers_in list_bytes span_of rests taken run_rests
cases_hold =
    (refl, refl, refl)
    also (refl, refl, refl)
    also (refl, refl, refl)
    also (refl, refl, refl)
    also (refl, refl, refl)
    also refl
    also (refl, refl, refl)
    also (refl, refl)
    also (refl, refl, refl)
    also (refl, refl, refl)
    also (refl, refl)
    also (refl, refl)
    also (refl, refl)
    also (refl, refl)
    also (refl, refl)
    also refl
    also refl
    also refl
    also (refl, refl, refl)
    also (refl, refl, refl)
    also (refl, refl, refl)
    also refl
    also refl
    also refl
    also (refl, refl)
    also refl
    also (refl, refl, refl)
    also refl
    also tt
