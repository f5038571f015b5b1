-- One command: what is written is read back, whatever follows; and what is taken is allowed, and written back as the bytes that it was taken from.
use Prim.Native.Nat.{ℕ, ◌+◌, ◌-◌, ◌^◌, ◌≤◌, ◌<◌}
use mathlib.Core.Path.{◌≡◌, refl, sym, ap, subst, ◌∙◌}
use mathlib.Core.List.{List, [], ◌∷◌, ◌++◌, append_assoc, append-nil}
use mathlib.Core.Bool.{Bool, true, false, cond, not, ◌&&◌, ◌||◌}
use native.Mathlib.Omega.{arith}
use native.Mathlib.Nat.{add-zero}
use lib.ListN.{length, take, drop, length-append, length-drop}
use lib.Seq.{drop-drop, drop-append_seam, get_or-drop, take-add}
use lib.Dec.{leb, ltb, eqb}
use borrow.Author.Tests.{lt-ltb, leb-true, ltb-true, ltb-false, eqb-true, eqb-false}
use Rattle.words.specs.Codes.{◌when◌}
use Rattle.words.proofs.Front.{Bytes}
use Rattle.words.proofs.Order.{NoneDue, none_due, order}
use Rattle.words.proofs.Tests.{both}
use Rattle.wire.specs.declared.table.Form.{Form}
use Rattle.wire.specs.declared.table.Layout.{Layout}
use Rattle.wire.specs.declared.table.Row.{Row}
use Rattle.std.specs.Prelude.{Option, Some, None}
use Rattle.wire.specs.declared.kinds.Command.{Command}
use Rattle.wire.specs.declared.kinds.Parts.{Parts}
use Rattle.wire.specs.Table.{row_of, rule_of, arguments_of}
use Rattle.wire.specs.Kind.{parts_with, parts_of, kind_of}
use Rattle.wire.specs.Judge.{stray_with, told_with, plain, in_limits, flag_checks, bad_in, judge_code}
use Rattle.wire.specs.Write.{flag_bit}
use Rattle.wire.proofs.Order.{judge_order}
use Rattle.wire.proofs.Layouts.{Within, form_found, found_form}
use Rattle.wire.proofs.Ranges.{in_range_parts, in_range_judge}
use Rattle.wire.proofs.RoundTrip.{Held, held_within, held_made, kind_held}
use Rattle.card.specs.Reading.{Got, got, refused, and_then, passing}
use Rattle.card.specs.Number.{number_bytes, number_in, number_at}
use Rattle.card.specs.Command.{arguments_in, numbers_in, numbers_bytes, stored_command, argument_at, arguments_at, flag_at, flagged, behind_opcode, found_at, command_at}
use Rattle.card.proofs.Readings.{not_refused, got_same, had, passed}
use Rattle.card.proofs.Groups.{took, number_back, number_written}

-- A number that stands at a place is read there, and the rest stands behind it.
module _ (s : List ℕ) (at v : ℕ) (t : List ℕ) (there : drop at s ≡ number_bytes v ++ t) where
  pub number_there : v < 2 ^ 32 → number_at s at ≡ got v (at + length (number_bytes v))
  number_there small = ap (λ l. number_in l at) there ∙ number_back v at t small

  pub rest_there : drop (at + length (number_bytes v)) s ≡ t
  rest_there = sym (drop-drop (length (number_bytes v)) at s) ∙ ap (drop (length (number_bytes v))) there ∙ drop-append_seam (number_bytes v) t

-- Rows 8 to 10 that passed, one by one.
record Fine (row : Row) (flag : Bool) (first second : ℕ) : Type 0 where
  one : in_limits row.layout row.low1 row.high1 first ≡ true
  two : in_limits row.layout row.low2 row.high2 second ≡ true
  flags : NoneDue (flag_checks row.flags flag)

both_in : (a b : Bool) → not (eqb (cond a (cond b 0 2) 1) 0) ≡ false → (a ≡ true) × (b ≡ true)
both_in true true e = (refl, refl)
both_in true false e = absurd (let z : ◌≡◌ {A = ℕ} 0 1 = cc in omega arith)
both_in false b e = absurd (let z : ◌≡◌ {A = ℕ} 0 1 = cc in omega arith)

fine : (c : Command) → judge_code c ≡ 0 → Fine (row_of (parts_of c.kind).form) c.flag (parts_of c.kind).first (parts_of c.kind).second
fine c allowed =
    let parts = parts_of c.kind in
    let row = row_of (parts_of c.kind).form in
    let rows = (judge_order c).accepted.0 allowed in
    let both_in_limits = both_in (in_limits row.layout row.low1 row.high1 parts.first) (in_limits row.layout row.low2 row.high2 parts.second)
    rows.0 in
    record { one = both_in_limits.0; two = both_in_limits.1; flags = rows.1 }

-- Numbers within limits of 32 bits are of 32 bits themselves.
limits_small : (layout : Layout) (low high v : ℕ) → high < 2 ^ 32 → in_limits layout low high v ≡ true → v < 2 ^ 32
limits_small layout low high v most e = go layout e
  where
    between : (leb low v && leb v high) ≡ true → v < 2 ^ 32
    between h = omega (arith, leb-true v high (both (leb low v) (leb v high) h).1)

    minus : (m : Bool) → eqb v 0x80000000 ≡ m → (m || (leb low v && leb v high)) ≡ true → v < 2 ^ 32
    minus true is h = omega (arith, eqb-true v 0x80000000 is)
    minus false is h = between h

    go : (l : Layout) → in_limits l low high v ≡ true → v < 2 ^ 32
    go Layout.Bare h = between h
    go Layout.Byte h = between h
    go Layout.Half h = between h
    go Layout.Halves h = between h
    go Layout.Singles h = minus (eqb v 0x80000000) refl h

-- The table's own numbers are of 32 bits.
row_small : (form : Form) → ((row_of form).opcode < 2 ^ 32) × ((row_of form).high1 < 2 ^ 32) × ((row_of form).high2 < 2 ^ 32)
row_small Form.ImgPwr = (omega arith, omega arith, omega arith)
row_small Form.ImgRegion = (omega arith, omega arith, omega arith)
row_small Form.ImgTrack = (omega arith, omega arith, omega arith)
row_small Form.TrkAlg = (omega arith, omega arith, omega arith)
row_small Form.TrkLoop = (omega arith, omega arith, omega arith)
row_small Form.ImgImage = (omega arith, omega arith, omega arith)
row_small Form.TrkGoal = (omega arith, omega arith, omega arith)
row_small Form.TlmFlush = (omega arith, omega arith, omega arith)
row_small Form.FlushAuto = (omega arith, omega arith, omega arith)
row_small Form.Open = (omega arith, omega arith, omega arith)
row_small Form.Close = (omega arith, omega arith, omega arith)
row_small Form.Run = (omega arith, omega arith, omega arith)
row_small Form.Wait = (omega arith, omega arith, omega arith)
row_small Form.Stop = (omega arith, omega arith, omega arith)
row_small Form.Clear = (omega arith, omega arith, omega arith)

-- Where a layout has no such argument, the number is 0.
record Missing (many first second : ℕ) : Type 0 where
  one : ltb many 1 ≡ true → first ≡ 0
  two : ltb many 2 ≡ true → second ≡ 0

missing : (layout : Layout) (first second : ℕ) → Within layout first second → Missing (arguments_of layout) first second
missing Layout.Bare first second h = record { one = λ e. h.0; two = λ e. h.1 }
missing Layout.Byte first second h = record { one = λ e. absurd (let z : ◌≡◌ {A = ℕ} 0 1 = cc in omega arith); two = λ e. h.1 }
missing Layout.Half first second h = record { one = λ e. absurd (let z : ◌≡◌ {A = ℕ} 0 1 = cc in omega arith); two = λ e. h.1 }
missing Layout.Halves first second h =
    record { one = λ e. absurd (let z : ◌≡◌ {A = ℕ} 0 1 = cc in omega arith); two = λ e. absurd (let z : ◌≡◌ {A = ℕ} 0 1 = cc in omega arith) }
missing Layout.Singles first second h =
    record { one = λ e. absurd (let z : ◌≡◌ {A = ℕ} 0 1 = cc in omega arith); two = λ e. absurd (let z : ◌≡◌ {A = ℕ} 0 1 = cc in omega arith) }

-- One argument.
module _ (s : List ℕ) (at : ℕ) (layout : Layout) (par low high : ℕ) where
  abbrev judged : ℕ → ℕ → Got ℕ
  judged value end = cond (in_limits layout low high value) (got value end) (refused (told_with 8 (stray_with par value low high)))

  argument_none : ltb (arguments_of layout) par ≡ true → argument_at s at layout par low high ≡ got 0 at
  unfolding argument_at
  argument_none none = rw none

  argument_there : ltb (arguments_of layout) par ≡ false → (v end : ℕ) → number_at s at ≡ got v end → in_limits layout low high v ≡ true
      → argument_at s at layout par low high ≡ got v end
  unfolding argument_at
  argument_there some v end is fits =
      ap (λ b. cond b (got 0 at) (and_then (number_at s at) judged)) some
      ∙ ap (λ x. and_then x judged) is
      ∙ ap (λ b. cond b (got v end) (refused (told_with 8 (stray_with par v low high)))) fits

  -- And one that was had.
  record Argument (v end : ℕ) : Type 0 where
    read : ltb (arguments_of layout) par ≡ false → (number_at s at ≡ got v end) × (in_limits layout low high v ≡ true)
    none : ltb (arguments_of layout) par ≡ true → (v ≡ 0) × (end ≡ at)

  argument_had : (v end : ℕ) → argument_at s at layout par low high ≡ got v end → Argument v end
  unfolding argument_at
  argument_had v end e = go (ltb (arguments_of layout) par) refl e
    where
      in_range : (value place : ℕ) (b : Bool) → in_limits layout low high value ≡ b
          → cond b (got value place) (refused (told_with 8 (stray_with par value low high))) ≡ got v end
          → (got value place ≡ got v end) × (in_limits layout low high value ≡ true)
      in_range value place true is e = (e, is)
      in_range value place false is e = absurd (not_refused (told_with 8 (stray_with par value low high)) v end e)

      go : (b : Bool) → ltb (arguments_of layout) par ≡ b → cond b (got 0 at) (and_then (number_at s at) judged) ≡ got v end → Argument v end
      go true is e =
          let same = got_same e in
          record { read = λ f. absurd (let z : ◌≡◌ {A = ℕ} 0 1 = cc in omega arith); none = λ f. (sym same.0, sym same.1) }
      go false is e =
          let h = had (number_at s at) judged v end e in
          let r = in_range h.value h.place (in_limits layout low high h.value) refl h.led in
          let same = got_same r.0 in
          record {
            read = λ f. (h.is ∙ r.0, ap (in_limits layout low high) (sym same.0) ∙ r.1);
            none = λ f. absurd
                (let z : ◌≡◌ {A = ℕ} 0 1 = cc in omega arith);
          }

-- Both arguments of a form, from behind the flag.
module _ (s : List ℕ) (form : Form) (first second : ℕ) (t : List ℕ) where
  abbrev row : Row
  row = row_of form

  abbrev many : ℕ
  many = arguments_of (row_of form).layout

  abbrev secondly : ℕ → ℕ → Got Parts
  secondly one next = and_then (argument_at s next row.layout 2 row.low2 row.high2) (λ two end. got (parts_with form one two) end)

  both_had : (at next end : ℕ) → argument_at s at row.layout 1 row.low1 row.high1 ≡ got first next
      → argument_at s next row.layout 2 row.low2 row.high2 ≡ got second end → arguments_at s at form ≡ got (parts_with form first second) end
  unfolding arguments_at
  both_had at next end one two = ap (λ x. and_then x secondly) one ∙ ap (λ x. and_then x (λ v end. got (parts_with form first v) end)) two

  arguments_back : (flag : Bool) → Fine row flag first second → Missing many first second → (at : ℕ)
      → drop at s ≡ numbers_bytes (arguments_in many first second) ++ t
      → arguments_at s at form ≡ got (parts_with form first second) (at + length (numbers_bytes (arguments_in many first second)))
  unfolding numbers_bytes
  arguments_back flag ok gone at there = go (ltb many 1) (ltb many 2) refl refl there
    where
      one_small : first < 2 ^ 32
      one_small = limits_small row.layout row.low1 row.high1 first (row_small form).1 ok.one

      two_small : second < 2 ^ 32
      two_small = limits_small row.layout row.low2 row.high2 second (row_small form).2 ok.two

      no_second : (next : ℕ) → ltb many 2 ≡ true → argument_at s next row.layout 2 row.low2 row.high2 ≡ got second next
      no_second next is = argument_none s next row.layout 2 row.low2 row.high2 is ∙ ap (λ v. got v next) (sym (gone.two is))

      go : (a b : Bool) → ltb many 1 ≡ a → ltb many 2 ≡ b → drop at s ≡ numbers_bytes (cond a [] (first ∷ cond b [] (second ∷ []))) ++ t
          → arguments_at s at form ≡ got (parts_with form first second) (at + length (numbers_bytes (cond a [] (first ∷ cond b [] (second ∷ [])))))
      go true b ia ib there =
          let fewer : ltb many 2 ≡ true = lt-ltb many 2 (omega (arith, ltb-true many 1 ia)) in
          both_had at at at (argument_none s at row.layout 1 row.low1 row.high1 ia ∙ ap (λ v. got v at) (sym (gone.one ia))) (no_second at fewer)
          ∙ ap (got (parts_with form first second)) (sym (add-zero at))
      go false true ia ib there =
          let here : drop at s ≡ number_bytes first ++ t = there ∙ ap (λ l. l ++ t) (append-nil (number_bytes first)) in
          let next = at + length (number_bytes first) in
          both_had at next next (argument_there s at row.layout 1 row.low1 row.high1 ia first next (number_there s at first t here one_small)
          ok.one) (no_second next ib)
          ∙ ap (λ l. got (parts_with form first second) (at + length l)) (sym (append-nil (number_bytes first)))
      go false false ia ib there =
          let rest = number_bytes second ++ [] in
          let here : drop at s ≡ number_bytes first ++ (rest ++ t) = there ∙ append_assoc (number_bytes first) rest t in
          let next = at + length (number_bytes first) in
          let end = next + length (number_bytes second) in
          let behind : drop next s ≡ number_bytes second ++ t = rest_there s at first (rest ++ t) here ∙ ap (λ l. l ++ t) (append-nil (number_bytes second)) in
          let place : end ≡ at + length (number_bytes first ++ rest) =
          omega (arith, length-append (number_bytes first) rest, ap length (append-nil (number_bytes second))) in
          both_had at next end (argument_there s at row.layout 1 row.low1 row.high1 ia first next
          (number_there s at first (rest ++ t) here one_small) ok.one)
          (argument_there s next row.layout 2 row.low2 row.high2 ib second end (number_there s next second t behind two_small) ok.two)
          ∙ ap (got (parts_with form first second)) place

flag_bit_lem : (flag : Bool) → (ltb 1 (flag_bit flag) ≡ false) × (eqb (flag_bit flag) 1 ≡ flag) × (flag_bit flag < 2 ^ 32)
flag_bit_lem true = (refl, refl, omega arith)
flag_bit_lem false = (refl, refl, omega arith)

-- A flag, and what its rule lets pass.
flag_there : (s : List ℕ) (at end : ℕ) (flag : Bool) → number_at s at ≡ got (flag_bit flag) end → flag_at s at ≡ got (flag_bit flag) end
unfolding flag_at
flag_there s at end flag is =
    ap (λ x. and_then x (λ v e. passing (38 when ltb 1 v ∷ []) (got v e))) is ∙ rw (flag_bit_lem flag).0

flagged_fine : (flag : Bool) (parts : Parts) (end : ℕ) → NoneDue (flag_checks (row_of parts.form).flags flag)
    → flagged flag parts end ≡ got (record { flag = flag; kind = kind_of parts.form parts.first parts.second }) end
unfolding flagged
flagged_fine flag parts end none =
    ap (λ k. cond (eqb k 0) (got (record { flag = flag; kind = kind_of parts.form parts.first parts.second }) end) (refused (plain k)))
    (none_due (flag_checks (row_of parts.form).flags flag) none)

-- A command that is allowed is read back from its stored form, whatever follows.
pub command_back : (s : List ℕ) (at : ℕ) (c : Command) (t : List ℕ) → Held c → judge_code c ≡ 0 → drop at s ≡ stored_command c ++ t
    → command_at s at ≡ got c (at + length (stored_command c))
unfolding command_at behind_opcode stored_command numbers_bytes
command_back s at c t held allowed there =
    let parts = parts_of c.kind in
    let row = row_of (parts_of c.kind).form in
    let op = number_bytes (row_of (parts_of c.kind).form).opcode in
    let bit = number_bytes (flag_bit c.flag) in
    let args = numbers_bytes (arguments_in (arguments_of (row_of (parts_of c.kind).form).layout) (parts_of c.kind).first (parts_of c.kind).second) in
    let all : drop at s ≡ op ++ (bit ++ (args ++ t)) = there ∙ append_assoc op (bit ++ args) t ∙ ap (λ l. op ++ l) (append_assoc bit args t) in
    let behind = rest_there s at row.opcode (bit ++ (args ++ t)) all in
    let flag_place = at + length op in
    let args_place = at + length op + length bit in
    let end = at + length op + length bit + length args in
    let made : record { flag = c.flag; kind = kind_of parts.form parts.first parts.second } ≡ c = ap (λ k. record { flag = c.flag; kind = k })
    (held_made c.kind held) in
    let place : end ≡ at + length (op ++ (bit ++ args)) = omega (arith, length-append op (bit ++ args), length-append bit args) in
    let ok = fine c allowed in
    ap (λ x. and_then x (λ opcode next. found_at s next (rule_of opcode))) (number_there s at row.opcode (bit ++ (args ++ t)) all (row_small parts.form).0)
    ∙ ap (found_at s flag_place) (form_found parts.form)
    ∙ ap (λ x. and_then x (λ flag next. and_then (arguments_at s next parts.form) (λ p e. flagged (eqb flag 1) p e)))
    (flag_there s flag_place args_place c.flag (number_there s flag_place (flag_bit c.flag) (args ++ t) behind (flag_bit_lem c.flag).2))
    ∙ ap (λ b. and_then (arguments_at s args_place parts.form) (λ p e. flagged b p e)) (flag_bit_lem c.flag).1
    ∙ ap (λ x. and_then x (λ p e. flagged c.flag p e))
    (arguments_back s parts.form parts.first parts.second t c.flag ok
    (missing row.layout parts.first parts.second (held_within c.kind held)) args_place
    (rest_there s flag_place (flag_bit c.flag) (args ++ t) behind))
    ∙ flagged_fine c.flag (parts_with parts.form parts.first parts.second) end ok.flags
    ∙ ap (λ d. got d end) made
    ∙ ap (got c) place

-- Numbers that fill the bytes between two places.
record Fills (s : List ℕ) (at end : ℕ) (vs : List ℕ) : Type 0 where
  order : at ≤ end
  within : end ≤ length s
  bytes : numbers_bytes vs ≡ take (end - at) (drop at s)

fills_none : (s : List ℕ) (at end : ℕ) → at ≤ length s → end ≡ at → Fills s at end []
unfolding numbers_bytes
fills_none s at end h e =
    let none : end - at ≡ 0 = omega arith in
    record { order = omega arith; within = omega arith; bytes = rw none }

pub drop_bytes : (s : List ℕ) (at : ℕ) → Bytes s → Bytes (drop at s)
drop_bytes s at bytes i = rw (get_or-drop at s i 0) (bytes (at + i))

-- A number that was taken at a place.
pub record TakenNumber (s : List ℕ) (at v end : ℕ) : Type 0 where
  pub moves : at < end
  pub within : end ≤ length s
  pub small : v < 2 ^ 32

pub taken_number : (s : List ℕ) (at v end : ℕ) → number_at s at ≡ got v end → TakenNumber s at v end
taken_number s at v end is =
    let t = took (drop at s) at v end is in
    record {
      moves = omega (arith, t.place);
      within = omega (arith, t.place, t.ends, length-drop at s);
      small = t.small;
    }

fills_more : (s : List ℕ) (at v next end : ℕ) (vs : List ℕ) → Bytes s → number_at s at ≡ got v next → Fills s next end vs → Fills s at end (v ∷ vs)
unfolding numbers_bytes
fills_more s at v next end vs bytes is rest =
    let t = taken_number s at v next is in
    let split : end - at ≡ (next - at) + (end - next) = omega (arith, rest.order, t.moves) in
    let place : at + (next - at) ≡ next = omega (arith, t.moves) in
    record {
      order = omega (arith, rest.order, t.moves);
      within = rest.within;
      bytes =
          rw (
            split,
            take-add (next - at) (end - next) (drop at s),
            drop-drop (next - at) at s,
            place,
            ← number_written (drop at s) at v next
                (drop_bytes s at bytes) is,
          )
          (ap (λ l. number_bytes v ++ l) rest.bytes);
    }

-- What is missing is within its limits.
none_in : (form : Form) → (ltb (arguments_of (row_of form).layout) 1 ≡ true → in_limits (row_of form).layout (row_of form).low1 (row_of form).high1 0 ≡ true)
    × (ltb (arguments_of (row_of form).layout) 2 ≡ true → in_limits (row_of form).layout (row_of form).low2 (row_of form).high2 0 ≡ true)
none_in Form.ImgPwr = (λ e. refl, λ e. refl)
none_in Form.ImgRegion = (λ e. refl, λ e. refl)
none_in Form.ImgTrack = (λ e. refl, λ e. absurd (let z : ◌≡◌ {A = ℕ} 0 1 = cc in omega arith))
none_in Form.TrkAlg = (λ e. refl, λ e. refl)
none_in Form.TrkLoop = (λ e. refl, λ e. refl)
none_in Form.ImgImage = (λ e. refl, λ e. absurd (let z : ◌≡◌ {A = ℕ} 0 1 = cc in omega arith))
none_in Form.TrkGoal = (λ e. refl, λ e. refl)
none_in Form.TlmFlush = (λ e. refl, λ e. refl)
none_in Form.FlushAuto = (λ e. refl, λ e. refl)
none_in Form.Open = (λ e. refl, λ e. refl)
none_in Form.Close = (λ e. refl, λ e. refl)
none_in Form.Run = (λ e. refl, λ e. refl)
none_in Form.Wait = (λ e. absurd (let z : ◌≡◌ {A = ℕ} 0 1 = cc in omega arith), λ e. refl)
none_in Form.Stop = (λ e. refl, λ e. refl)
none_in Form.Clear = (λ e. refl, λ e. refl)

-- Arguments that were had: their limits, and the bytes that they fill.
record Arguments (s : List ℕ) (at : ℕ) (form : Form) (parts : Parts) (end : ℕ) : Type 0 where
  first : ℕ
  second : ℕ
  are : parts ≡ parts_with form first second
  one : in_limits (row_of form).layout (row_of form).low1 (row_of form).high1 first ≡ true
  two : in_limits (row_of form).layout (row_of form).low2 (row_of form).high2 second ≡ true
  fills : Fills s at end (arguments_in (arguments_of (row_of form).layout) first second)

module _ (s : List ℕ) (bytes : Bytes s) (at : ℕ) (form : Form) (within : at ≤ length s) where
  abbrev own : Row
  own = row_of form

  abbrev lot : ℕ
  lot = arguments_of (row_of form).layout

  arguments_had : (parts : Parts) (end : ℕ) → arguments_at s at form ≡ got parts end → Arguments s at form parts end
  unfolding arguments_at
  arguments_had parts end e =
      let h = had (argument_at s at own.layout 1 own.low1 own.high1)
      (λ one next. and_then (argument_at s next own.layout 2 own.low2 own.high2) (λ two end. got (parts_with form one two) end)) parts end e in
      let g = had (argument_at s h.place own.layout 2 own.low2 own.high2) (λ two end. got (parts_with form h.value two) end) parts end h.led in
      let same = got_same g.led in
      let a = argument_had s at own.layout 1 own.low1 own.high1 h.value h.place h.is in
      let b = argument_had s h.place own.layout 2 own.low2 own.high2 g.value g.place g.is in
      go (ltb lot 1) (ltb lot 2) refl refl h.value h.place g.value g.place a b (sym same.0) (sym same.1)
    where
      go : (x y : Bool) → ltb lot 1 ≡ x → ltb lot 2 ≡ y → (first next second last : ℕ)
          → Argument s at own.layout 1 own.low1 own.high1 first next → Argument s next own.layout 2 own.low2 own.high2 second last
          → parts ≡ parts_with form first second → end ≡ last → Arguments s at form parts end
      go true true ix iy first next second last a b are last_is =
          let one = a.none ix in
          let two = b.none iy in
          record {
            first = first;
            second = second;
            are = are;
            one = rw one.0 ((none_in form).0 ix);
            two = rw two.0 ((none_in form).1 iy);
            fills = rw ix (fills_none s at end within (omega (arith, one.1, two.1)));
          }
      go true false ix iy first next second last a b are last_is = absurd (omega (arith, ltb-true lot 1 ix, ltb-false lot 2 iy))
      go false true ix iy first next second last a b are last_is =
          let one = a.read ix in
          let two = b.none iy in
          let t = taken_number s at first next one.0 in
          record {
            first = first;
            second = second;
            are = are;
            one = one.1;
            two = rw two.0 ((none_in form).1 iy);
            fills = rw (ix, iy) (fills_more s at first next end [] bytes one.0 (fills_none s next end t.within (omega (arith, two.1))));
          }
      go false false ix iy first next second last a b are last_is =
          let one = a.read ix in
          let two = b.read iy in
          let t = taken_number s next second last two.0 in
          record {
            first = first;
            second = second;
            are = are;
            one = one.1;
            two = two.1;
            fills = rw (ix, iy) (fills_more s at first next end (second ∷ []) bytes one.0
                (fills_more s next second last end [] bytes two.0 (fills_none s last end t.within last_is)));
          }

-- A command that is taken.
pub record TakenCommand (s : List ℕ) (at : ℕ) (c : Command) (end : ℕ) : Type 0 where
  pub allowed : judge_code c ≡ 0
  pub held : Held c
  pub moves : at < end
  pub within : end ≤ length s
  pub same : stored_command c ≡ take (end - at) (drop at s)

bit_back : (v : ℕ) → v ≤ 1 → flag_bit (eqb v 1) ≡ v
bit_back v h = go (eqb v 1) refl
  where
    go : (b : Bool) → eqb v 1 ≡ b → flag_bit b ≡ v
    go true is = sym (eqb-true v 1 is)
    go false is = omega (arith, eqb-false v 1 is)

module _ (s : List ℕ) (bytes : Bytes s) (at : ℕ) (c : Command) (end : ℕ) where
  -- From the opcode's form on.
  known_taken : (form : Form) (words opcode next : ℕ) → number_at s at ≡ got opcode next → rule_of opcode ≡ Some (form, words)
      → behind_opcode s next form ≡ got c end → TakenCommand s at c end
  unfolding behind_opcode flag_at flagged stored_command
  known_taken form words opcode next is known e =
      let f = had (flag_at s next) (λ flag place. and_then (arguments_at s place form) (λ parts last. flagged (eqb flag 1) parts last)) c end e in
      let n = had (number_at s next) (λ flag place. passing (38 when ltb 1 flag ∷ []) (got flag place)) f.value f.place f.is in
      let q = passed (38 when ltb 1 n.value ∷ []) (got n.value n.place) f.value f.place n.led in
      let bit : ltb 1 n.value ≡ false = ((order (38 when ltb 1 n.value ∷ []) refl).accepted.0 q.0).0 in
      let flag : number_at s next ≡ got f.value f.place = n.is ∙ q.1 in
      let low : f.value ≤ 1 = omega (arith, (got_same q.1).0, ltb-false 1 n.value bit) in
      let g = had (arguments_at s f.place form) (λ parts last. flagged (eqb f.value 1) parts last) c end f.led in
      let t = taken_number s next f.value f.place flag in
      let args = arguments_had s bytes f.place form t.within g.value g.place g.is in
      finish f.value f.place low flag g.place args.first args.second args.one args.two args.fills
      (ap (λ parts. flagged (eqb f.value 1) parts g.place) (sym args.are) ∙ g.led)
    where
      finish : (bit place : ℕ) → bit ≤ 1 → number_at s next ≡ got bit place → (last first second : ℕ)
          → in_limits (row_of form).layout (row_of form).low1 (row_of form).high1 first ≡ true
          → in_limits (row_of form).layout (row_of form).low2 (row_of form).high2 second ≡ true
          → Fills s place last (arguments_in (arguments_of (row_of form).layout) first second)
          → flagged (eqb bit 1) (parts_with form first second) last ≡ got c end → TakenCommand s at c end
      finish bit place low flag last first second one two fills e =
          let p = passed (flag_checks (row_of form).flags (eqb bit 1)) (got (record { flag = eqb bit 1; kind = kind_of form first second }) last) c end e in
          let same = got_same p.1 in
          let good : bad_in (parts_with form first second) ≡ 0 = rw (one, two) in
          let parts = in_range_parts form first second good in
          let named = found_form opcode form words known in
          let all = fills_more s at opcode next last (bit ∷ arguments_in (arguments_of (row_of form).layout) first second) bytes is
          (fills_more s next bit place last (arguments_in (arguments_of (row_of form).layout) first second) bytes flag fills) in
          let o = taken_number s at opcode next is in
          subst (λ d. TakenCommand s at d end) same.0
          (subst (λ m. TakenCommand s at (record { flag = eqb bit 1; kind = kind_of form first second }) m) same.1 (record {
            allowed = in_range_judge form (eqb bit 1) first second good ∙ rw good p.0;
            held = kind_held form first second;
            moves = omega (arith, o.moves, all.order, last_behind o fills (taken_number s next bit place flag));
            within = all.within;
            same = ap (λ (q : Parts). numbers_bytes (numbers_in (eqb bit 1) q)) parts
                ∙ ap (λ o. numbers_bytes (o ∷ flag_bit (eqb bit 1) ∷ arguments_in (arguments_of (row_of form).layout) first second)) (sym named.0)
                ∙ ap (λ f. numbers_bytes (opcode ∷ f ∷ arguments_in (arguments_of (row_of form).layout) first second)) (bit_back bit low)
                ∙ all.bytes;
          }))
        where
          last_behind : TakenNumber s at opcode next → Fills s place last (arguments_in (arguments_of (row_of form).layout) first second)
              → TakenNumber s next bit place → at < last
          last_behind o fills t = omega (arith, o.moves, t.moves, fills.order)

  pub taken_command : command_at s at ≡ got c end → TakenCommand s at c end
  unfolding command_at
  taken_command e =
      let h = had (number_at s at) (λ opcode next. found_at s next (rule_of opcode)) c end e in
      go (rule_of h.value) h.value h.place h.is refl h.led
    where
      go : (found : Option (Form × ℕ)) (opcode next : ℕ) → number_at s at ≡ got opcode next → rule_of opcode ≡ found → found_at s next found ≡ got c end
          → TakenCommand s at c end
      go None opcode next is which e = absurd (not_refused (plain 5) c end e)
      go (Some (form, words)) opcode next is which e = known_taken form words opcode next is which e
