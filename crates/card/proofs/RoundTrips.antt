-- 02, Q-4, of the calls: "the way out and back gives the same bytes, and no two lists share a stored form"; and no list has two. What a call wrote is what
-- stands at the front of its room, as many bytes as it says.
use Prim.Native.Nat.{ℕ, suc, ◌^◌, ◌≤◌, ◌<◌}
use mathlib.Core.Path.{◌≡◌, refl, sym, ap, ◌∙◌}
use mathlib.Core.List.{List, [], ◌∷◌, ◌++◌}
use mathlib.Core.Bool.{Bool, true, false, cond}
use native.Mathlib.Omega.{arith}
use lib.ListN.{length, take, drop, length-append}
use lib.Seq.{take_all, take_at}
use lib.Dec.{ltb, eqb}
use borrow.Author.Tests.{eq-eqb, eqb-true, eqb-false, le-leb, le-ltb, leb-true, ltb-false, not-false}
use Rattle.words.specs.BigEndian.{has_room}
use Rattle.words.specs.Codes.{Check, first_of}
use Rattle.words.proofs.Front.{Bytes}
use Rattle.words.proofs.Order.{order}
use Rattle.wire.specs.declared.kinds.Command.{Command}
use Rattle.wire.specs.Judge.{plain}
use Rattle.wire.specs.Read.{read_of}
use Rattle.wire.specs.Write.{list_bytes}
use Rattle.walk.specs.Walk.{rests}
use Rattle.card.specs.List.{stored_bytes, Said, said, bad, onto, stored_says, next_told, raw_from, raw_says}
use Rattle.card.specs.Answers.{answer, Result, refused_as, put_unless, too_small, stored_by, to_card, end_checks, raw_by, from_card}
use Rattle.card.proofs.Lists.{listed, listed_back, raw_listed, raw_back, raw_few, not_bad, said_same}
use Rattle.card.proofs.Coded.{CodedSaid, stored_coded, raw_coded}

-- What a call wrote: so many bytes from the front of its room.
abbrev pub moved : Result → List ℕ
moved r = take r.answer.bytes r.room

abbrev pub Taken : Result → Type 0
Taken r = r.answer.told.code ≡ 0

-- What a call leaves that wrote these bytes.
abbrev pub done : List ℕ → List ℕ → Result
done bytes room = record { answer = answer (plain 0) 0 (length bytes); room = bytes ++ drop (length bytes) room }

pub moved-done : (bytes room : List ℕ) → moved (done bytes room) ≡ bytes
moved-done bytes room = take_at bytes (drop (length bytes) room) (length bytes) refl

put_taken : (checks : List Check) (bytes room : List ℕ) → Taken (put_unless checks bytes room)
    → (first_of checks ≡ 0) × (put_unless checks bytes room ≡ done bytes room)
put_taken checks bytes room e = go (eqb (first_of checks) 0) refl e
  where
    go : (b : Bool) → eqb (first_of checks) 0 ≡ b → Taken (cond b (done bytes room) (refused_as (plain (first_of checks)) 0 room))
        → (first_of checks ≡ 0) × (cond b (done bytes room) (refused_as (plain (first_of checks)) 0 room) ≡ done bytes room)
    go true is e = (eqb-true (first_of checks) 0 is, refl)
    go false is e = absurd (eqb-false (first_of checks) 0 is e)

-- Demand 1: a call that is refused leaves every byte of its room as it was.
put_leaves : (checks : List Check) (bytes room : List ℕ) → (Taken (put_unless checks bytes room) → ⊥) → (put_unless checks bytes room).room ≡ room
put_leaves checks bytes room h = go (eqb (first_of checks) 0) h
  where
    go : (b : Bool) → (Taken (cond b (done bytes room) (refused_as (plain (first_of checks)) 0 room)) → ⊥)
        → (cond b (done bytes room) (refused_as (plain (first_of checks)) 0 room)).room ≡ room
    go true h = absurd (h refl)
    go false h = refl

pub to_card_leaves : (s room : List ℕ) → (Taken (to_card s room) → ⊥) → (to_card s room).room ≡ room
unfolding to_card
to_card_leaves s room h = go (ltb 4096 (length s)) (raw_says s) h
  where
    go : (b : Bool) (x : Said) → (Taken (cond b (refused_as (plain 20) 0 room) (stored_by x room)) → ⊥)
        → (cond b (refused_as (plain 20) 0 room) (stored_by x room)).room ≡ room
    go true x h = refl
    go false (bad number told) h = refl
    go false (said cs end) h = put_leaves (too_small (stored_bytes cs) room ∷ []) (stored_bytes cs) room h

pub from_card_leaves : (s room : List ℕ) → (Taken (from_card s room) → ⊥) → (from_card s room).room ≡ room
unfolding from_card
from_card_leaves s room h = go (stored_says s) h
  where
    go : (x : Said) → (Taken (raw_by (length s) x room) → ⊥) → (raw_by (length s) x room).room ≡ room
    go (bad number told) h = refl
    go (said cs end) h = put_leaves (end_checks (length s) cs end room) (list_bytes cs) room h

-- A raw list that was stored: its commands, and what the call left.
pub record ToCard (s room : List ℕ) : Type 0 where
  pub cs : List Command
  pub short : length s ≤ 4096
  pub says : raw_says s ≡ said cs 0
  pub fits : length (stored_bytes cs) ≤ length room
  pub is : to_card s room ≡ done (stored_bytes cs) room

raw_end : (number : ℕ) (rs : List (List ℕ)) (cs : List Command) (end : ℕ) → raw_from number rs ≡ said cs end → end ≡ 0
unfolding raw_from
raw_end number [] cs end e = sym (said_same e).1
raw_end number (r ∷ rs) cs end e = go (read_of r).taken (raw_from (suc number) rs) refl e (λ ds e. raw_end (suc number) rs ds end e)
  where
    inner : (c : Command) (x : Said) → onto c x ≡ said cs end → ((ds : List Command) → x ≡ said ds end → end ≡ 0) → end ≡ 0
    inner c (said ds m) e rest = rest ds (ap (said ds) (said_same e).1)
    inner c (bad n told) e rest = absurd (not_bad n told cs end e)

    go : (t : List Command) (x : Said) → raw_from (suc number) rs ≡ x → next_told (read_of r).told t number x ≡ said cs end
        → ((ds : List Command) → raw_from (suc number) rs ≡ said ds end → end ≡ 0) → end ≡ 0
    go [] x is e rest = absurd (not_bad number (read_of r).told cs end e)
    go (c ∷ others) x is e rest = inner c x e (λ ds f. rest ds (is ∙ f))

pub to_card-Taken : (s room : List ℕ) → Taken (to_card s room) → ToCard s room
unfolding to_card raw_says
to_card-Taken s room e = go (ltb 4096 (length s)) refl e
  where
    inner : (x : Said) → raw_says s ≡ x → CodedSaid x → ltb 4096 (length s) ≡ false → Taken (stored_by x room) → ToCard s room
    inner (bad number told) is coded short e = absurd (coded e)
    inner (said cs end) is coded short e =
        let p = put_taken (too_small (stored_bytes cs) room ∷ []) (stored_bytes cs) room e in
        let none = (order (too_small (stored_bytes cs) room ∷ []) refl).accepted.0 p.0 in
        let ends : raw_says s ≡ said cs 0 = is ∙ ap (said cs) (raw_end 1 (rests s) cs end is) in
        record {
          cs = cs;
          short = ltb-false 4096 (length s) short;
          says = ends;
          fits = leb-true (length (stored_bytes cs)) (length room) (not-false (has_room (stored_bytes cs) room) none.0);
          is = rw (short, is) p.1;
        }

    go : (b : Bool) → ltb 4096 (length s) ≡ b → Taken (cond b (refused_as (plain 20) 0 room) (stored_by (raw_says s) room)) → ToCard s room
    go true is e = absurd (omega arith)
    go false is e = inner (raw_says s) refl (raw_coded 1 (rests s)) is e

pub to_card-done : (s room : List ℕ) (cs : List Command) → length s ≤ 4096 → raw_says s ≡ said cs 0 → length (stored_bytes cs) ≤ length room
    → to_card s room ≡ done (stored_bytes cs) room
unfolding to_card
to_card-done s room cs short says fits = rw (le-ltb 4096 (length s) short, says, le-leb (length (stored_bytes cs)) (length room) fits)

-- A stored list that was taken.
pub record FromCard (s room : List ℕ) : Type 0 where
  pub cs : List Command
  pub says : stored_says s ≡ said cs (length s)
  pub short : length (list_bytes cs) ≤ 4096
  pub fits : length (list_bytes cs) ≤ length room
  pub is : from_card s room ≡ done (list_bytes cs) room

pub from_card-Taken : (s room : List ℕ) → Taken (from_card s room) → FromCard s room
unfolding from_card
from_card-Taken s room e = go (stored_says s) refl (stored_coded s) e
  where
    go : (x : Said) → stored_says s ≡ x → CodedSaid x → Taken (raw_by (length s) x room) → FromCard s room
    go (bad number told) is coded e = absurd (coded e)
    go (said cs end) is coded e =
        let p = put_taken (end_checks (length s) cs end room) (list_bytes cs) room e in
        let none = (order (end_checks (length s) cs end room) refl).accepted.0 p.0 in
        let whole : end ≡ length s = eqb-true end (length s) (not-false (eqb end (length s)) none.0) in
        record {
          cs = cs;
          says = is ∙ ap (said cs) whole;
          short = ltb-false 4096 (length (list_bytes cs)) none.1.0;
          fits = leb-true (length (list_bytes cs)) (length room) (not-false (has_room (list_bytes cs) room) none.1.1.0);
          is = rw is p.1;
        }

pub from_card-done : (s room : List ℕ) (cs : List Command) → stored_says s ≡ said cs (length s) → length (list_bytes cs) ≤ 4096
    → length (list_bytes cs) ≤ length room
    → from_card s room ≡ done (list_bytes cs) room
unfolding from_card
from_card-done s room cs says short fits =
    rw (says, eq-eqb (length s) (length s) refl, le-ltb 4096 (length (list_bytes cs)) short, le-leb (length (list_bytes cs)) (length room) fits)

-- Raw, stored, raw: what was stored is taken, and gives the same bytes wherever there is room for them.
pub raw_stored_raw : (s room after : List ℕ) → Bytes s → Taken (to_card s room) → length s ≤ length after
    → from_card (moved (to_card s room)) after ≡ done s after
raw_stored_raw s room after bytes e large =
    let t = to_card-Taken s room e in
    let raw = raw_listed s t.cs 0 bytes t.says in
    let few : length t.cs < 2 ^ 32 = omega (arith, raw_few t.cs, ap length raw.same, t.short) in
    let stored : moved (to_card s room) ≡ stored_bytes t.cs = ap moved t.is ∙ moved-done (stored_bytes t.cs) room in
    let short : length (list_bytes t.cs) ≤ 4096 = omega (arith, ap length raw.same, t.short) in
    let fits : length (list_bytes t.cs) ≤ length after = omega (arith, ap length raw.same) in
    ap (λ l. from_card l after) stored
    ∙ from_card-done (stored_bytes t.cs) after t.cs (listed_back t.cs raw.good few) short fits
    ∙ ap (λ l. done l after) raw.same

-- Stored, raw, stored.
pub stored_raw_stored : (s room after : List ℕ) → Bytes s → Taken (from_card s room) → length s ≤ length after
    → to_card (moved (from_card s room)) after ≡ done s after
unfolding raw_says
stored_raw_stored s room after bytes e large =
    let t = from_card-Taken s room e in
    let l = listed s t.cs (length s) bytes t.says in
    let all : stored_bytes t.cs ≡ s = l.same ∙ take_all (length s) s (omega arith) in
    let raw : moved (from_card s room) ≡ list_bytes t.cs = ap moved t.is ∙ moved-done (list_bytes t.cs) room in
    let fits : length (stored_bytes t.cs) ≤ length after = omega (arith, ap length all) in
    ap (λ k. to_card k after) raw
    ∙ to_card-done (list_bytes t.cs) after t.cs t.short (raw_back t.cs l.good 1) fits
    ∙ ap (λ k. done k after) all

-- No two lists share a stored form.
pub no_shared_form : (s u room other : List ℕ) → Bytes s → Bytes u → Taken (to_card s room) → Taken (to_card u other)
    → moved (to_card s room) ≡ moved (to_card u other) → s ≡ u
no_shared_form s u room other bs bu es eu same =
    let back = raw_stored_raw s room (s ++ u) bs es (omega (arith, length-append s u)) in
    let again = raw_stored_raw u other (s ++ u) bu eu (omega (arith, length-append s u)) in
    sym (moved-done s (s ++ u)) ∙ ap moved (sym back ∙ ap (λ l. from_card l (s ++ u)) same ∙ again) ∙ moved-done u (s ++ u)

-- And no list has two: two stored lists that are taken as the same raw list are the same.
pub no_two_forms : (s u room other : List ℕ) → Bytes s → Bytes u → Taken (from_card s room) → Taken (from_card u other)
    → moved (from_card s room) ≡ moved (from_card u other) → s ≡ u
no_two_forms s u room other bs bu es eu same =
    let back = stored_raw_stored s room (s ++ u) bs es (omega (arith, length-append s u)) in
    let again = stored_raw_stored u other (s ++ u) bu eu (omega (arith, length-append s u)) in
    sym (moved-done s (s ++ u)) ∙ ap moved (sym back ∙ ap (λ l. to_card l (s ++ u)) same ∙ again) ∙ moved-done u (s ++ u)
