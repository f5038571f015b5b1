-- "The lister takes a list exactly when each command passes 1 to 10 and its goals can be said (and the room suffices)"; what it writes has one line to a
-- command and no leading zero; and what it took is the list of what it writes.
use Prim.Native.Nat.{ℕ, zero, suc, ◌/◌, ◌%◌, ◌^◌, ◌≤◌, ◌<◌}
use mathlib.Core.Path.{◌≡◌, refl, sym, ap, ◌∙◌}
use mathlib.Core.Logic.{◌↔◌}
use mathlib.Core.List.{List, [], ◌∷◌, ◌++◌, map, append-nil}
use mathlib.Core.Bool.{Bool, true, false, cond, not}
use native.Mathlib.Omega.{arith}
use lib.ListN.{length, get_or, take, length-drop, take-append-drop}
use lib.Dec.{ltb}
use borrow.Author.Tests.{le-leb, leb-true, le-ltb, ltb-false}
use Rattle.words.specs.BigEndian.{byte_at, has_room}
use Rattle.words.specs.Text.{ascii, decimal_in, decimal}
use Rattle.words.specs.Codes.{◌when◌}
use Rattle.words.proofs.Decimal.{no_leading_zero}
use Rattle.words.proofs.Tests.{both}
use Rattle.words.proofs.Front.{Bytes}
use Rattle.wire.specs.declared.table.Layout.{Layout}
use Rattle.wire.specs.declared.kinds.Command.{Command}
use Rattle.wire.specs.Table.{row_of}
use Rattle.wire.specs.Kind.{parts_of}
use Rattle.wire.specs.Read.{said, span_of, length_of}
use Rattle.wire.specs.Write.{list_bytes}
use Rattle.wire.proofs.Layouts.{Within}
use Rattle.wire.proofs.RoundTrip.{held_within, read_held, read_allowed, written_back}
use Rattle.walk.specs.Walk.{rests}
use Rattle.walk.proofs.Rests.{behind, rests_none, rests_more}
use Rattle.text.specs.declared.findings.Finding.{Finding}
use Rattle.text.specs.Split.{space, lines_of}
use Rattle.text.specs.Number.{is_digit}
use Rattle.text.specs.Goal.{quarters_in}
use Rattle.text.specs.Findings.{whole}
use Rattle.text.specs.Lister.{fraction, said_text, arguments_text, line_text, list_text, text_of, is_said, sayable, can_say, command_findings, list_findings, listed_as}
use Rattle.text.proofs.Goals.{back_and_there}
use Rattle.text.proofs.Found.{Silent, found_silent, silent_found, whole_silent}
use Rattle.text.proofs.Allowed.{AllAllowed}
use Rattle.text.proofs.Saying.{Says, Sayable, CanSay, AllSay}
use Rattle.text.proofs.Printed.{Listed, one_line, lines_cons}
use Rattle.text.proofs.Assembled.{AllRead, rests_listed, said_listed}
use Rattle.text.proofs.Listing.{told_when, bytes_drop, read_spans}
use Rattle.std.specs.Prelude.{Option, Some, None}

-- The goals of each command can be said.
abbrev pub AllSaid : List (List ℕ) → Type 0
AllSaid [] = Unit {0}
AllSaid (r ∷ rs) = (can_say (said r) ≡ true) × AllSaid rs

-- A list that the lister takes, into a room.
pub record Takes (raw room : List ℕ) : Type 0 where
  pub short : length raw ≤ 4096
  pub read : AllRead (rests raw)
  pub said : AllSaid (rests raw)
  pub fits : length (text_of raw) ≤ length room

-- Nothing is found at any command exactly where each passes 1 to 10 and its goals can be said.
silent_all : (n : ℕ) (rs : List (List ℕ)) → Silent (command_findings n rs) → AllRead rs × AllSaid rs
unfolding command_findings
silent_all n [] silent = (tt, tt)
silent_all n (r ∷ rs) silent =
    let here = (told_when r).0 silent.0 in
    let others = silent_all (suc n) rs silent.1 in
    ((here.0, others.0), (here.1, others.1))

all_silent : (n : ℕ) (rs : List (List ℕ)) → AllRead rs → AllSaid rs → Silent (command_findings n rs)
unfolding command_findings
all_silent n [] read says = tt
all_silent n (r ∷ rs) read says = ((told_when r).1 (read.0, says.0), all_silent (suc n) rs read.1 says.1)

-- Code 0 exactly for these lists and rooms.
pub takes : (raw room : List ℕ) → ((listed_as raw room).found.told.code ≡ 0) ↔ Takes raw room
unfolding listed_as
takes raw room = (there, back)
  where
    code : Finding → ℕ
    code f = f.told.code

    yes : (b : Bool) → not b ≡ false → b ≡ true
    yes true e = refl
    yes false e = sym e

    there : (listed_as raw room).found.told.code ≡ 0 → Takes raw room
    there e =
        let silent = found_silent _ e in
        let each = silent_all 1 (rests raw) (found_silent (command_findings 1 (rests raw)) silent.1.0) in
        record {
          short = ltb-false 4096 (length raw) (whole_silent 20 (ltb 4096 (length raw)) (λ z. omega arith) silent.0);
          read = each.0;
          said = each.1;
          fits =
              leb-true (length (text_of raw)) (length room)
              (yes (has_room (text_of raw) room) (whole_silent 24 (not (has_room (text_of raw) room)) (λ z. omega arith) silent.1.1.0));
        }

    back : Takes raw room → (listed_as raw room).found.told.code ≡ 0
    back t =
        let long : (whole (20 when ltb 4096 (length raw))).told.code ≡ 0 = rw (le-ltb 4096 (length raw) t.short) in
        let none = silent_found (command_findings 1 (rests raw)) (all_silent 1 (rests raw) t.read t.said) in
        let room_left : (whole (24 when not (has_room (text_of raw) room))).told.code ≡ 0 = rw (le-leb (length (text_of raw)) (length room) t.fits) in
        ap code (silent_found (list_findings raw room) (long, (ap code none, (room_left, tt))))

-- What can be said has its quarters.
says_one : (bits : ℕ) → is_said (quarters_in bits) ≡ true → Says bits
says_one bits e = go (quarters_in bits) refl e
  where
    go : (q : Option ℕ) → quarters_in bits ≡ q → is_said q ≡ true → Says bits
    go (Some q) is e = record { quarters = q; said = is }
    go None is e = absurd (let z : ◌≡◌ {A = ℕ} 0 1 = cc in omega arith)

says_all : (l : Layout) (first second : ℕ) → sayable l first second ≡ true → Sayable l first second
says_all Layout.Bare first second e = tt
says_all Layout.Byte first second e = tt
says_all Layout.Half first second e = tt
says_all Layout.Halves first second e = tt
says_all Layout.Singles first second e =
    let says = both (is_said (quarters_in first)) (is_said (quarters_in second)) e in
    (says_one first says.0, says_one second says.1)

can_say_lem : (c : Command) → can_say c ≡ true → CanSay c
can_say_lem c e = says_all (row_of (parts_of c.kind).form).layout (parts_of c.kind).first (parts_of c.kind).second e

-- And the other way round.
one_said : (bits : ℕ) → Says bits → is_said (quarters_in bits) ≡ true
one_said bits says = rw says.said

all_sayable : (l : Layout) (first second : ℕ) → Sayable l first second → sayable l first second ≡ true
all_sayable Layout.Bare first second says = refl
all_sayable Layout.Byte first second says = refl
all_sayable Layout.Half first second says = refl
all_sayable Layout.Halves first second says = refl
all_sayable Layout.Singles first second says = rw (one_said first says.0, one_said second says.1)

say_can : (c : Command) → CanSay c → can_say c ≡ true
say_can c says = all_sayable (row_of (parts_of c.kind).form).layout (parts_of c.kind).first (parts_of c.kind).second says

-- The commands that a list was made of, as each finds the list, can be said.
pub all_said : (cs : List Command) → AllAllowed cs → AllSay cs → AllSaid (rests (list_bytes cs))
unfolding list_bytes
all_said [] allowed says = rw rests_none tt
all_said (c ∷ cs) allowed says =
    rw (rests_listed c cs)
    (ap can_say (said_listed c cs allowed.0.0 allowed.0.1) ∙ say_can c says.0, all_said cs allowed.1 says.1)

pub all_listed : (rs : List (List ℕ)) → AllRead rs → AllSaid rs → Listed (map said rs)
all_listed [] read says = tt
all_listed (r ∷ rs) read says =
    ((read_held r (length_of r), read_allowed r read.0, can_say_lem (said r) says.0), all_listed rs read.1 says.1)

-- "one line to a command".
lines_counted : (cs : List Command) → Listed cs → length (lines_of (list_text cs)) ≡ length cs
unfolding list_text lines_of
lines_counted [] listed = refl
lines_counted (c ∷ cs) listed =
    ap length (lines_cons (line_text c) (list_text cs) (one_line c listed.0.2)) ∙ ap suc (lines_counted cs listed.1)

as_many : (rs : List (List ℕ)) → length (map said rs) ≡ length rs
as_many [] = refl
as_many (r ∷ rs) = ap suc (as_many rs)

pub line_each : (raw room : List ℕ) → Takes raw room → length (lines_of (text_of raw)) ≡ length (rests raw)
line_each raw room t = lines_counted (map said (rests raw)) (all_listed (rests raw) t.read t.said) ∙ as_many (rests raw)

-- A list of commands that were all read is their bytes one after another.
bytes_in : (n : ℕ) (raw : List ℕ) → length raw ≤ n → Bytes raw → AllRead (rests raw) → list_bytes (map said (rests raw)) ≡ raw
unfolding list_bytes
bytes_in zero [] few bytes read = ap (λ rs. list_bytes (map said rs)) rests_none
bytes_in zero (b ∷ raw) few bytes read = absurd (omega arith)
bytes_in (suc n) [] few bytes read = ap (λ rs. list_bytes (map said rs)) rests_none
bytes_in (suc n) (b ∷ raw) few bytes read =
    let s = b ∷ raw in
    let next = rests_more s (omega arith) in
    let all : AllRead (s ∷ rests (behind s)) = rw next at read in
    let spans = read_spans s all.0 in
    ap (λ rs. list_bytes (map said rs)) next
    ∙ rw (written_back s bytes all.0, ← spans.0)
    (ap (λ l. take (span_of s) s ++ l)
    (bytes_in n (behind s) (omega (arith, length-drop (span_of s) s, spans.1)) (bytes_drop (span_of s) s bytes) all.1)
    ∙ take-append-drop (span_of s) s)

pub bytes_said : (raw : List ℕ) → Bytes raw → AllRead (rests raw) → list_bytes (map said (rests raw)) ≡ raw
bytes_said raw bytes read = bytes_in (length raw) raw (omega arith) bytes read

-- A number has no leading zero: a zero at its front has no digit behind it.
abbrev pub NoLeadingZero : List ℕ → Type 0
NoLeadingZero number = byte_at number 0 ≡ 48 → is_digit (byte_at number 1) ≡ false

abbrev pub NoneLeads : List (List ℕ) → Type 0
NoneLeads [] = Unit {0}
NoneLeads (n ∷ ns) = NoLeadingZero n × NoneLeads ns

-- The numbers that the lister writes behind a name, and how they stand there.
abbrev pub numbers_text : Layout → ℕ → ℕ → List (List ℕ)
numbers_text Layout.Bare first second = []
numbers_text Layout.Byte first second = decimal first ∷ []
numbers_text Layout.Half first second = decimal first ∷ []
numbers_text Layout.Halves first second = decimal first ∷ decimal second ∷ []
numbers_text Layout.Singles first second = said_text (quarters_in first) ∷ said_text (quarters_in second) ∷ []

abbrev pub spaced : List (List ℕ) → List ℕ
spaced [] = []
spaced (n ∷ ns) = space ∷ (n ++ spaced ns)

pub numbers_are : (l : Layout) (first second : ℕ) → arguments_text l first second ≡ spaced (numbers_text l first second)
numbers_are Layout.Bare first second = refl
numbers_are Layout.Byte first second = ap (λ l. space ∷ l) (sym (append-nil (decimal first)))
numbers_are Layout.Half first second = ap (λ l. space ∷ l) (sym (append-nil (decimal first)))
numbers_are Layout.Halves first second = ap (λ l. space ∷ (decimal first ++ space ∷ l)) (sym (append-nil (decimal second)))
numbers_are Layout.Singles first second =
    ap (λ l. space ∷ (said_text (quarters_in first) ++ space ∷ l)) (sym (append-nil (said_text (quarters_in second))))

-- Digits of a number and what is no digit behind them.
leads : (n : ℕ) (ys : List ℕ) → n < 2 ^ 32 → is_digit (byte_at ys 0) ≡ false → NoLeadingZero (decimal n ++ ys)
unfolding decimal_in
leads zero ys small plain = λ e. plain
leads (suc n) ys small plain = λ e. absurd (front (decimal (suc n)) (no_leading_zero (suc n) small (omega arith)) e)
  where
    front : (xs : List ℕ) → 48 < get_or xs 0 0 → byte_at (xs ++ ys) 0 ≡ 48 → ⊥
    front [] large e = omega arith
    front (x ∷ xs) large e = omega arith

number_leads : (n : ℕ) → n < 2 ^ 32 → NoLeadingZero (decimal n)
number_leads n small = rw (append-nil (decimal n)) at (leads n [] small refl)

goal_leads : (bits : ℕ) → NoLeadingZero (said_text (quarters_in bits))
goal_leads bits = go (quarters_in bits) refl
  where
    dot : (a b c : Bool) → is_digit (byte_at (cond a [] (cond b (ascii ".25") (cond c (ascii ".5") (ascii ".75")))) 0) ≡ false
    dot true b c = refl
    dot false true c = refl
    dot false false true = refl
    dot false false false = refl

    go : (q : Option ℕ) → quarters_in bits ≡ q → NoLeadingZero (said_text q)
    go (Some q) is = leads (q / 4) (fraction (q % 4)) (omega (arith, (back_and_there bits q is).1)) (dot (ltb (q % 4) 1) (ltb (q % 4) 2) (ltb (q % 4) 3))
    go None is = λ e. refl

layout_leads : (l : Layout) (first second : ℕ) → Within l first second → NoneLeads (numbers_text l first second)
layout_leads Layout.Bare first second within = tt
layout_leads Layout.Byte first second within = (number_leads first (omega arith), tt)
layout_leads Layout.Half first second within = (number_leads first (omega arith), tt)
layout_leads Layout.Halves first second within = (number_leads first (omega (arith, within.0)), (number_leads second (omega (arith, within.1)), tt))
layout_leads Layout.Singles first second within = (goal_leads first, (goal_leads second, tt))

-- "what the lister writes has no leading zero": of the command at the front of any bytes.
pub no_zeros : (s : List ℕ)
    → (let parts = parts_of (said s).kind in NoneLeads (numbers_text (row_of parts.form).layout parts.first parts.second))
no_zeros s =
    let parts = parts_of (said s).kind in
    layout_leads (row_of parts.form).layout parts.first parts.second (held_within (said s).kind (read_held s (length_of s)))
