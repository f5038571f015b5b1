-- What the calls answer, taken together: a refusal leaves the room; "listing and then assembling gives the same bytes"; and what was assembled is listed
-- and assembled again to the same bytes.
use Prim.Native.Nat.{ℕ, ◌*◌, ◌≤◌}
use mathlib.Core.Path.{◌≡◌, refl, ap, subst}
use mathlib.Core.Logic.{◌≢◌}
use mathlib.Core.List.{List, [], ◌∷◌, ◌++◌, map}
use mathlib.Core.Bool.{Bool, true, false, not}
use native.Mathlib.Omega.{arith}
use lib.ListN.{length, take, drop, length-append}
use lib.Seq.{take_at}
use lib.Dec.{ltb}
use borrow.Author.Tests.{le-leb, le-ltb, leb-true, ltb-false, ne_eqb}
use Rattle.words.specs.BigEndian.{has_room}
use Rattle.words.specs.Codes.{◌when◌}
use Rattle.words.proofs.Laws.{with_room}
use Rattle.words.proofs.Front.{Bytes}
use Rattle.wire.specs.declared.kinds.Command.{Command}
use Rattle.wire.specs.Read.{said}
use Rattle.wire.specs.Write.{command_bytes, list_bytes}
use Rattle.walk.specs.Walk.{rests}
use Rattle.text.specs.Findings.{nothing, whole, first_found, Outcome, outcome}
use Rattle.text.specs.Split.{lines_of}
use Rattle.text.specs.Assemble.{commands_of, bytes_in, bad_line, assemble_findings, assembled_as, room_after}
use Rattle.text.specs.Lister.{line_text, list_text, text_of, list_findings, listed_as, listed_room}
use Rattle.text.proofs.Found.{Silent, silent_found, found_silent, whole_silent}
use Rattle.text.proofs.Allowed.{AllAllowed}
use Rattle.text.proofs.Saying.{AllSay, commands_say}
use Rattle.text.proofs.Assembled.{commands_allowed, rests-said, assembled_passes}
use Rattle.text.proofs.Putting.{line_short}
use Rattle.text.proofs.Printed.{Listed, list_fine, bytes_back}
use Rattle.text.proofs.Takes.{Takes, takes, all_said, all_listed, bytes_said}

-- A refused call leaves the whole room as it was.
pub refused_assembling : (text room : List ℕ) → (assembled_as text room).found.told.code ≢ 0 → room_after text room ≡ room
unfolding room_after
refused_assembling text room refused = rw (ne_eqb (assembled_as text room).found.told.code 0 refused)

pub refused_listing : (raw room : List ℕ) → (listed_as raw room).found.told.code ≢ 0 → listed_room raw room ≡ room
unfolding listed_room
refused_listing raw room refused = rw (ne_eqb (listed_as raw room).found.told.code 0 refused)

-- A text is at most twice as long as the list that it is of.
pub text_short : (cs : List Command) → Listed cs → length (list_text cs) ≤ 2 * length (list_bytes cs)
unfolding list_text list_bytes
text_short [] listed = omega arith
text_short (c ∷ cs) listed =
    omega (
      arith,
      length-append (line_text c) (10 ∷ list_text cs),
      length-append (line_text c) (10 ∷ []),
      length-append (command_bytes c) (list_bytes cs),
      line_short c listed.0.0,
      text_short cs listed.1,
    )

-- Where nothing is found, the answer is the number of bytes, and the bytes stand at the front of the room.
listed_done : (raw room : List ℕ) → Takes raw room
    → (listed_as raw room ≡ outcome nothing (length (text_of raw))) × (listed_room raw room ≡ text_of raw ++ drop (length (text_of raw)) room)
unfolding listed_as listed_room
listed_done raw room t =
    let none : first_found (list_findings raw room) ≡ nothing =
    silent_found (list_findings raw room) (found_silent (list_findings raw room) ((takes raw room).1 t)) in
    rw none (refl, with_room (text_of raw) room t.fits)

module _ (text room : List ℕ) (short : length text ≤ 32768) (good : bad_line text ≡ nothing) (list : length (bytes_in text) ≤ 4096)
    (fits : length (bytes_in text) ≤ length room) where
  assembled_done : (assembled_as text room ≡ outcome nothing (length (bytes_in text)))
      × (room_after text room ≡ bytes_in text ++ drop (length (bytes_in text)) room)
  unfolding room_after first_found
  assembled_done =
      rw (le-ltb 32768 (length text) short, good, le-ltb 4096 (length (bytes_in text)) list, le-leb (length (bytes_in text)) (length room) fits)
      (refl, refl)

-- The text in a room, and the list in a room.
abbrev pub text_in : List ℕ → List ℕ → List ℕ
text_in raw room = take (listed_as raw room).bytes (listed_room raw room)

abbrev pub list_in : List ℕ → List ℕ → List ℕ
list_in text room = take (assembled_as text room).bytes (room_after text room)

text_is : (raw room : List ℕ) → Takes raw room → text_in raw room ≡ text_of raw
text_is raw room t =
    let done = listed_done raw room t in
    rw (done.0, done.1) (take_at (text_of raw) (drop (length (text_of raw)) room) (length (text_of raw)) refl)

-- A text of commands that can be listed assembles to their bytes.
module _ (cs : List Command) (listed : Listed cs) (room : List ℕ) where
  again : length (list_bytes cs) ≤ 4096 → length (list_bytes cs) ≤ length room
      → (assembled_as (list_text cs) room ≡ outcome nothing (length (list_bytes cs)))
      × (room_after (list_text cs) room ≡ list_bytes cs ++ drop (length (list_bytes cs)) room)
  again short fits =
      let same = bytes_back cs listed in
      subst (λ bytes. (assembled_as (list_text cs) room ≡ outcome nothing (length bytes)) × (room_after (list_text cs) room ≡ bytes ++ drop (length bytes) room))
      same
      (assembled_done (list_text cs) room (omega (arith, text_short cs listed)) (list_fine 1 cs listed) (omega (arith, ap length same))
      (omega (arith, ap length same)))

-- "listing and then assembling gives the same bytes": for every list that the lister takes, and any room that has so many bytes.
pub listed_assembled : (raw room room' : List ℕ) → Bytes raw → (listed_as raw room).found.told.code ≡ 0 → length raw ≤ length room'
    → (assembled_as (text_in raw room) room' ≡ outcome nothing (length raw)) × (room_after (text_in raw room) room' ≡ raw ++ drop (length raw) room')
listed_assembled raw room room' bytes done fits =
    let t = (takes raw room).0 done in
    let same : list_bytes (map said (rests raw)) ≡ raw = bytes_said raw bytes t.read in
    let listed = all_listed (rests raw) t.read t.said in
    rw (text_is raw room t)
    (rw same at (again (map said (rests raw)) listed room' (omega (arith, t.short, ap length same)) (omega (arith, ap length same))))

-- A text whose lines gave a list: that list stands at the front of the room, and is not too long.
module _ (text room : List ℕ) (done : (assembled_as text room).found.told.code ≡ 0) where
  silent : Silent (assemble_findings text room)
  unfolding assembled_as
  silent = found_silent (assemble_findings text room) done

  assembled_short : length (bytes_in text) ≤ 4096
  assembled_short =
      ltb-false 4096 (length (bytes_in text)) (whole_silent 20 (ltb 4096 (length (bytes_in text))) (λ e. omega arith) silent.1.1.0)

  assembled_fits : length (bytes_in text) ≤ length room
  assembled_fits = leb-true (length (bytes_in text)) (length room) (go (has_room (bytes_in text) room) silent.1.1.1.0)
    where
      go : (b : Bool) → (whole (24 when not b)).told.code ≡ 0 → b ≡ true
      go true e = refl
      go false e = absurd (omega arith)

  list_is : list_in text room ≡ bytes_in text
  unfolding assembled_as room_after
  list_is =
      rw (silent_found (assemble_findings text room) silent, with_room (bytes_in text) room assembled_fits)
      (take_at (bytes_in text) (drop (length (bytes_in text)) room) (length (bytes_in text)) refl)

commands_listed : (cs : List Command) → AllAllowed cs → AllSay cs → Listed cs
commands_listed [] allowed says = tt
commands_listed (c ∷ cs) allowed says = ((allowed.0.0, allowed.0.1, says.0), commands_listed cs allowed.1 says.1)

-- What the assembler gives, the lister takes into any room of twice its length, and its text assembles to the same bytes.
pub assembled_again : (text room room₁ room₂ : List ℕ) → (assembled_as text room).found.told.code ≡ 0
    → 2 * length (list_in text room) ≤ length room₁ → length (list_in text room) ≤ length room₂
    → (let raw = list_in text room in
    ((listed_as raw room₁).found ≡ nothing)
    × (assembled_as (text_in raw room₁) room₂ ≡ outcome nothing (length raw))
    × (room_after (text_in raw room₁) room₂ ≡ raw ++ drop (length raw) room₂))
assembled_again text room room₁ room₂ done roomy fits =
    let cs = commands_of text in
    let listed = commands_listed cs (commands_allowed (lines_of text)) (commands_say (lines_of text)) in
    let same : list_in text room ≡ bytes_in text = list_is text room done in
    let short : length (bytes_in text) ≤ 4096 = assembled_short text room done in
    let text_same : text_of (bytes_in text) ≡ list_text cs = ap list_text (rests-said cs (commands_allowed (lines_of text))) in
    let t : Takes (bytes_in text) room₁ =
    record {
      short = short;
      read = assembled_passes text;
      said = all_said cs (commands_allowed (lines_of text)) (commands_say (lines_of text));
      fits = omega (arith, ap length text_same, text_short cs listed, ap length same);
    } in
    let back = again cs listed room₂ short (omega (arith, ap length same)) in
    rw (same, text_is (bytes_in text) room₁ t, text_same) (ap (λ (o : Outcome). o.found) (listed_done (bytes_in text) room₁ t).0, back.0, back.1)
