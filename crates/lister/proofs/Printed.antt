-- What the lister writes, of the meanings: the text of every list that passes has room in 8,192 bytes, and so what is to be written stands at the
-- front of them.
use Prim.Native.Nat.{ℕ, ◌≤◌}
use mathlib.Core.Path.{◌≡◌, refl, ap}
use mathlib.Core.List.{List, map}
use mathlib.Core.Bool.{true, cond, not}
use native.Mathlib.Omega.{arith}
use lib.ListN.{length}
use lib.Dec.{eqb}
use borrow.Author.Tests.{le-leb}
use Rattle.words.specs.BigEndian.{has_room, written}
use Rattle.words.specs.Codes.{◌when◌}
use Rattle.words.proofs.Front.{Bytes}
use Rattle.wire.specs.Read.{said}
use Rattle.walk.specs.Walk.{rests}
use Rattle.text.specs.Findings.{whole, first_found, outcome_for}
use Rattle.text.specs.Lister.{text_of, raw_findings, list_findings, listed_as, listed_room}
use Rattle.text.proofs.Found.{found_silent, silent_found}
use Rattle.text.proofs.Takes.{Takes, takes, all_listed, bytes_said}
use Rattle.text.proofs.Calls.{text_short}
use Rattle.lister.specs.Printed.{found}

-- A list that passes is taken into any room that its text has room in, as into one of that very length.
taken : (raw : List ℕ) → (found raw).told.code ≡ 0 → Takes raw (text_of raw)
unfolding listed_as
taken raw none =
    let passed = found_silent (raw_findings raw) none in
    let room_for : has_room (text_of raw) (text_of raw) ≡ true = le-leb (length (text_of raw)) (length (text_of raw)) (omega arith) in
    let last : (whole (24 when not (has_room (text_of raw) (text_of raw)))).told.code ≡ 0 = ap (λ b. (whole (24 when not b)).told.code) room_for in
    (takes raw (text_of raw)).0 (ap (λ f. f.told.code) (silent_found (list_findings raw (text_of raw)) (passed.0, (passed.1.0, (last, tt)))))

module _ (raw room : List ℕ) where
  pub fits : Bytes raw → 8192 ≤ length room → (found raw).told.code ≡ 0 → length (text_of raw) ≤ length room
  fits bytes enough none =
      let t = taken raw none in
      let whole_list = ap length (bytes_said raw bytes t.read) in
      omega (arith, t.short, text_short (map said (rests raw)) (all_listed (rests raw) t.read t.said), whole_list)

  pub answered : listed_as raw room ≡ outcome_for (first_found (list_findings raw room)) (length (text_of raw))
  unfolding listed_as
  answered = refl

  pub stays : listed_room raw room ≡ cond (eqb (first_found (list_findings raw room)).told.code 0) (written (text_of raw) room) room
  unfolding listed_room listed_as
  stays = refl
