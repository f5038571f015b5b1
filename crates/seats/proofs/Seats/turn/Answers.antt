-- `Seats::turn` meets its contract: the seats' own rules, then the seat that is next, if any.
use Rattle.std.proofs.Common.{◌≡◌, ◌<◌, ◌≤◌, cond, ap, ◌∙◌, arith, rules}
use Rattle.std.specs.Prelude.{Err}
use Rattle.bench.proofs.Exports.{fails, holds}
use Rattle.seats.specs.State.{next_of}
use Rattle.seats.specs.Turn.{turned_of, stays}
use Rattle.seats.proofs.States.{bad_rules, rules_parts, next_waits, turn_unsound, turn_idle, turn_served}
use mathlib.Core.Bool.{not}
use Rattle.seats.proofs.Seats.turn.Goals as goal

pub returns-then-not-obeys : goal.returns-then-not-obeys
returns-then-not-obeys c = turn_unsound _ (bad_rules _ (fails c.obeys.ensures (ap not c.if-not-obeys.true)))

pub next_waiting-requires : goal.next_waiting-requires
next_waiting-requires c = (rules_parts c.args.self (holds c.obeys.ensures (ap not c.if-not-obeys.false))).last

pub serve-requires : goal.serve-requires
serve-requires c =
    let s = c.args.self in
    let some : next_of s < 4 = rw (← c.in-Some.ensures.seat_value) c.in-Some.ensures.one_of_four in
    (c.in-Some.ensures.one_of_four, rw c.in-Some.ensures.seat_value (next_waits s.queues s.last some))

pub returns-in_err-record-in-Some : goal.returns-in_err-record-in-Some
returns-in_err-record-in-Some c =
    let s = c.args.self in
    let kept = holds c.obeys.ensures (ap not c.if-not-obeys.false) in
    let some : next_of s < 4 = rw (← c.in-Some.ensures.seat_value) c.in-Some.ensures.one_of_four in
    let is : c.from_residual.result ≡ Err c.in_err-record-in-Some.field-0.0 = search rules in
    ap (turned_of s) is ∙ c.in_err-record-in-Some.ensures ∙ rw c.in-Some.ensures.seat_value (turn_served s kept some)

pub returns-in_ok-record-in-Some : goal.returns-in_ok-record-in-Some
returns-in_ok-record-in-Some c =
    let s = c.args.self in
    let kept = holds c.obeys.ensures (ap not c.if-not-obeys.false) in
    let some : next_of s < 4 = rw (← c.in-Some.ensures.seat_value) c.in-Some.ensures.one_of_four in
    c.in_ok-record-in-Some.ensures ∙ rw c.in-Some.ensures.seat_value (turn_served s kept some)

pub returns-in-None : goal.returns-in-None
returns-in-None c =
    let s = c.args.self in
    let none : 4 ≤ next_of s = omega (arith, c.in-None.ensures.seat_value) in
    ap (λ t. cond t (stays 0 s) (stays 27 s)) c.if-is_sound.ensures ∙ turn_idle s (holds c.obeys.ensures (ap not c.if-not-obeys.false)) none

pub returns-in-None-2 : goal.returns-in-None-2
returns-in-None-2 c =
    let s = c.args.self in
    let none : 4 ≤ next_of s = omega (arith, c.in-None.ensures.seat_value) in
    ap (λ t. cond t (stays 0 s) (stays 27 s)) c.if-is_sound.ensures ∙ turn_idle s (holds c.obeys.ensures (ap not c.if-not-obeys.false)) none
