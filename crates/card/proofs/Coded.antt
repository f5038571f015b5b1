-- What is refused has a code: no answer that refuses says 0.
use Prim.Native.Nat.{ℕ, zero, suc, ◌+◌}
use mathlib.Core.Path.{◌≡◌, refl}
use mathlib.Core.Logic.{◌≢◌}
use mathlib.Core.List.{List, [], ◌∷◌}
use mathlib.Core.Bool.{Bool, true, false, cond, not}
use native.Mathlib.Omega.{arith}
use lib.ListN.{drop}
use lib.Dec.{ltb, eqb}
use borrow.Author.Tests.{eqb-false}
use Rattle.words.specs.Codes.{Check, ◌when◌, first_of}
use Rattle.std.specs.Prelude.{Option, Some, None}
use Rattle.wire.specs.declared.table.Form.{Form}
use Rattle.wire.specs.declared.table.Layout.{Layout}
use Rattle.wire.specs.declared.kinds.Command.{Command}
use Rattle.wire.specs.declared.kinds.Parts.{Parts}
use Rattle.wire.specs.Table.{row_of, rule_of, arguments_of}
use Rattle.wire.specs.Kind.{kind_of}
use Rattle.wire.specs.Judge.{plain, stray_with, told_with, in_limits, flag_checks}
use Rattle.wire.specs.Read.{read_code, read_of, said as said_by}
use Rattle.card.specs.Reading.{Got, got, refused, and_then, passing}
use Rattle.card.specs.Number.{run_of, said_in, number_checks, number_in, number_at}
use Rattle.card.specs.Command.{argument_at, arguments_at, flag_at, flagged, behind_opcode, found_at, command_at}
use Rattle.card.specs.List.{Said, said, bad, onto, next_said, said_from, first_at, count_at, head_then, stored_says, next_told, raw_from}

-- What is told of bytes that are refused has a code.
abbrev pub Coded : {A : Type 0} → Got A → Type 0
Coded (got a end) = Unit
Coded (refused told) = told.code ≢ 0

passing_coded : {A : Type 0} (checks : List Check) (x : Got A) → Coded x → Coded (passing checks x)
passing_coded checks x h = go (eqb (first_of checks) 0) refl
  where
    go : (b : Bool) → eqb (first_of checks) 0 ≡ b → Coded (cond b x (refused (plain (first_of checks))))
    go true is = h
    go false is = eqb-false (first_of checks) 0 is

then_coded : {A B : Type 0} (x : Got A) (next : A → ℕ → Got B) → Coded x → ((a : A) (end : ℕ) → Coded (next a end)) → Coded (and_then x next)
then_coded (got a end) next h rest = rest a end
then_coded (refused told) next h rest = h

number_coded : (s : List ℕ) (at : ℕ) → Coded (number_at s at)
unfolding number_in
number_coded s at = passing_coded (number_checks (drop at s)) (got (said_in (drop at s)) (at + (run_of (drop at s) + 1))) tt

argument_coded : (s : List ℕ) (at : ℕ) (layout : Layout) (par low high : ℕ) → Coded (argument_at s at layout par low high)
unfolding argument_at
argument_coded s at layout par low high = go (ltb (arguments_of layout) par)
  where
    judged : (value end : ℕ) (b : Bool) → Coded (cond b (got value end) (refused (told_with 8 (stray_with par value low high))))
    judged value end true = tt
    judged value end false = λ e. omega arith

    go : (b : Bool)
        → Coded (cond b (got 0 at) (and_then (number_at s at)
        (λ value end. cond (in_limits layout low high value) (got value end) (refused (told_with 8 (stray_with par value low high))))))
    go true = tt
    go false =
        then_coded (number_at s at) (λ value end. cond (in_limits layout low high value) (got value end) (refused (told_with 8 (stray_with par value low high))))
        (number_coded s at) (λ value end. judged value end (in_limits layout low high value))

arguments_coded : (s : List ℕ) (at : ℕ) (form : Form) → Coded (arguments_at s at form)
unfolding arguments_at
arguments_coded s at form =
    let row = row_of form in
    then_coded (argument_at s at row.layout 1 row.low1 row.high1) _ (argument_coded s at row.layout 1 row.low1 row.high1)
    (λ first next. then_coded (argument_at s next row.layout 2 row.low2 row.high2) _ (argument_coded s next row.layout 2 row.low2 row.high2)
    (λ second end. tt))

flagged_coded : (flag : ℕ) (parts : Parts) (end : ℕ) → Coded (flagged (eqb flag 1) parts end)
unfolding flagged
flagged_coded flag parts end =
    passing_coded (flag_checks (row_of parts.form).flags (eqb flag 1))
    (got (record { flag = eqb flag 1; kind = kind_of parts.form parts.first parts.second }) end) tt

command_coded : (s : List ℕ) (at : ℕ) → Coded (command_at s at)
unfolding command_at behind_opcode flag_at
command_coded s at = then_coded (number_at s at) _ (number_coded s at) (λ opcode next. found next (rule_of opcode))
  where
    found : (next : ℕ) (rule : Option (Form × ℕ)) → Coded (found_at s next rule)
    found next None = λ e. omega arith
    found next (Some (form, words)) =
        then_coded (flag_at s next) _ (then_coded (number_at s next) _ (number_coded s next)
        (λ flag end. passing_coded (38 when ltb 1 flag ∷ []) (got flag end) tt))
        (λ flag place. then_coded (arguments_at s place form) _ (arguments_coded s place form) (λ parts end. flagged_coded flag parts end))

-- The same of what is said of a list.
abbrev pub CodedSaid : Said → Type 0
CodedSaid (said cs end) = Unit
CodedSaid (bad number told) = told.code ≢ 0

onto_coded : (c : Command) (x : Said) → CodedSaid x → CodedSaid (onto c x)
onto_coded c (said cs end) h = tt
onto_coded c (bad number told) h = h

from_coded : (count number : ℕ) (s : List ℕ) (at : ℕ) → CodedSaid (said_from count number s at)
unfolding said_from
from_coded zero number s at = tt
from_coded (suc k) number s at = go (command_at s at) (command_coded s at) (λ end. from_coded k (suc number) s end)
  where
    go : (x : Got Command) → Coded x → ((end : ℕ) → CodedSaid (said_from k (suc number) s end))
        → CodedSaid (next_said x number (λ end. said_from k (suc number) s end))
    go (got c end) h rest = onto_coded c (said_from k (suc number) s end) (rest end)
    go (refused told) h rest = h

pub stored_coded : (s : List ℕ) → CodedSaid (stored_says s)
unfolding stored_says count_at first_at
stored_coded s =
    go (count_at s)
    (then_coded (first_at s) _ (then_coded (number_at s 0) _ (number_coded s 0)
    (λ first end. passing_coded (36 when not (eqb first 1) ∷ []) (got first end) tt)) (λ first next. number_coded s next))
  where
    go : (x : Got ℕ) → Coded x → CodedSaid (head_then x (λ count at. said_from count 1 s at))
    go (got count at) h = from_coded count 1 s at
    go (refused told) h = h

pub raw_coded : (number : ℕ) (rs : List (List ℕ)) → CodedSaid (raw_from number rs)
unfolding raw_from read_of
raw_coded number [] = tt
raw_coded number (r ∷ rs) = go (eqb (read_code r) 0) refl (raw_coded (suc number) rs)
  where
    go : (b : Bool) → eqb (read_code r) 0 ≡ b → CodedSaid (raw_from (suc number) rs)
        → CodedSaid (next_told (read_of r).told (cond b (said_by r ∷ []) []) number (raw_from (suc number) rs))
    go true is h = onto_coded (said_by r) (raw_from (suc number) rs) h
    go false is h = eqb-false (read_code r) 0 is
