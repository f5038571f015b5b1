-- `start_of` meets its contract: the walk's answer to `nth` is the rest that begins there.
use Prim.Native.Nat.{ℕ, ◌-◌}
use mathlib.Core.Path.{◌≡◌, sym, ap, ◌∙◌}
use mathlib.Core.List.{List}
use mathlib.Core.Bool.{cond}
use lib.ListN.{length}
use borrow.Author.Tests.{ne_eqb}
use Rattle.std.specs.Option.{option_map}
use Rattle.std.proofs.lemmas.Iterator.Consumers.{nth_from_yields_List, YieldsList-from_first}
use Rattle.walk.specs.Walk.{start_after, rests}
use Rattle.walk.specs.Shown.{start_of}
use Rattle.walk.proofs.Turns.{nth_start, nth_none}
use Rattle.walk.proofs.start_of.Goals as goal

-- Command `number` begins where the walk finds the command behind the first `number` less 1.
by_walk : (s : List ℕ) (number : ℕ) → (number ≡ 0 → ⊥) → start_of s number ≡ start_after s (number - 1)
by_walk s number some = ap (λ b. cond b (length s) (start_after s (number - 1))) (ne_eqb number 0 some)

pub overflow_sub-result : goal.overflow_sub-result
overflow_sub-result c =
    let got = nth_from_yields_List c.nth.result c.nth.new.self (c.args.number - 1) c.nth.ensures.ran
    (YieldsList-from_first (λ x. x.now) (λ s. rests s.left.now) (rests c.args.s.now) (ap (λ x. rests x.now) c.new.ensures)) in
    (nth_start c.args.s.now (c.args.number - 1) c.in-Some.rest.now (sym got ∙ ap (option_map (λ x. x.now)) c.in-Some.is)).0

pub returns-in-Some : goal.returns-in-Some
returns-in-Some c =
    let got = nth_from_yields_List c.nth.result c.nth.new.self (c.args.number - 1) c.nth.ensures.ran
    (YieldsList-from_first (λ x. x.now) (λ s. rests s.left.now) (rests c.args.s.now) (ap (λ x. rests x.now) c.new.ensures)) in
    (nth_start c.args.s.now (c.args.number - 1) c.in-Some.rest.now (sym got ∙ ap (option_map (λ x. x.now)) c.in-Some.is)).1
    ∙ sym (by_walk c.args.s.now c.args.number (λ z. c.if-number-eq0.false z))

pub returns-in-None : goal.returns-in-None
returns-in-None c =
    let got = nth_from_yields_List c.nth.result c.nth.new.self (c.args.number - 1) c.nth.ensures.ran
    (YieldsList-from_first (λ x. x.now) (λ s. rests s.left.now) (rests c.args.s.now) (ap (λ x. rests x.now) c.new.ensures)) in
    nth_none c.args.s.now (c.args.number - 1) (sym got ∙ ap (option_map (λ x. x.now)) c.in-None.is)
    ∙ sym (by_walk c.args.s.now c.args.number (λ z. c.if-number-eq0.false z))
