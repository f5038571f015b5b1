-- For the safety officer: a fired valve was armed earlier. Whatever is sent to a fresh valve, it is fired at the end exactly when there is a place at which an
-- arming frame was accepted, and a later one at which a firing frame with the right code was; and a valve that was fired stays fired.
use Rattle.std.proofs.Common.{◌≡◌, ℕ, suc, Bool, true, false, eqb, ◌≢◌, ◌⊎◌, ◌↔◌, List, [], ◌∷◌, ◌++◌, take, drop, sym, refl, ap, ◌∙◌, subst, inl, inr, true≢false, arith, take-append-drop, eqb-true}
use borrow.Author.Tests.{eqb-false, not-false}
use Rattle.words.proofs.Order.{NoneDue}
use Rattle.valve.specs.declared.Act.{Act}
use Rattle.valve.specs.declared.state.Valve.{Valve}
use Rattle.valve.specs.Frame.{words_in, act_words, frame_at}
use Rattle.valve.specs.State.{fresh_valve, status_of, act_checks, left_by, carry_code, carry_out}
use Rattle.valve.specs.History.{sent, Turned, FiredAt, ArmedThenFired}
use Rattle.valve.proofs.Accepted.{carried}
use Rattle.valve.proofs.Calls.{refused_carrying}

-- One frame: an accepted one leaves what its act comes to.
accepted_leaves : (v : Valve) (s : List ℕ) → carry_code v s ≡ 0 → (carry_out v s).valve ≡ left_by v (frame_at s).act
unfolding carry_out
accepted_leaves v s accepted = rw accepted

-- So the valve is as it was, or the frame was accepted and asks for an act.
record Done (v : Valve) (s : List ℕ) (act : Act) : Type 0 where
  code : carry_code v s ≡ 0
  says : words_in s 1 4 ≡ act_words act
  allowed : NoneDue (act_checks v act)
  left : (carry_out v s).valve ≡ left_by v act

done : (v : Valve) (s : List ℕ) → ((carry_out v s).valve ≡ v) ⊎ Done v s (frame_at s).act
done v s = go (eqb (carry_code v s) 0) refl
  where
    go : (b : Bool) → eqb (carry_code v s) 0 ≡ b → ((carry_out v s).valve ≡ v) ⊎ Done v s (frame_at s).act
    go true e =
        let code = eqb-true (carry_code v s) 0 e in
        let known = carried v s code in
        inr (record { code = code; says = known.0.asks; allowed = known.1; left = accepted_leaves v s code })
    go false e = inl (refused_carrying v s (eqb-false (carry_code v s) 0 e))

-- What one frame can make of a safe valve, of an armed one and of a fired one.
record Turns (v : Valve) (s : List ℕ) (words : List ℕ) (became : Valve) : Type 0 where
  code : carry_code v s ≡ 0
  says : words_in s 1 4 ≡ words
  left : (carry_out v s).valve ≡ became

of_safe : (s : List ℕ) → ((carry_out Valve.Safe s).valve ≡ Valve.Safe) ⊎ Turns Valve.Safe s (act_words Act.Arm) Valve.Armed
of_safe s = go (frame_at s).act (done Valve.Safe s)
  where
    go : (act : Act) → ((carry_out Valve.Safe s).valve ≡ Valve.Safe) ⊎ Done Valve.Safe s act
        → ((carry_out Valve.Safe s).valve ≡ Valve.Safe) ⊎ Turns Valve.Safe s (act_words Act.Arm) Valve.Armed
    go act (inl same) = inl same
    go Act.Arm (inr d) = inr (record { code = d.code; says = d.says; left = d.left })
    go (Act.Fire code) (inr d) = absurd (true≢false d.allowed.0)

of_armed : (s : List ℕ) → ((carry_out Valve.Armed s).valve ≡ Valve.Armed) ⊎ Turns Valve.Armed s (act_words (Act.Fire 6160)) Valve.Fired
of_armed s = go (frame_at s).act (done Valve.Armed s)
  where
    go : (act : Act) → ((carry_out Valve.Armed s).valve ≡ Valve.Armed) ⊎ Done Valve.Armed s act
        → ((carry_out Valve.Armed s).valve ≡ Valve.Armed) ⊎ Turns Valve.Armed s (act_words (Act.Fire 6160)) Valve.Fired
    go act (inl same) = inl same
    go Act.Arm (inr d) = inl d.left
    go (Act.Fire code) (inr d) =
        let right : code ≡ 6160 = eqb-true code 6160 (not-false (eqb code 6160) d.allowed.1.0) in
        inr (record { code = d.code; says = d.says ∙ ap (λ n. act_words (Act.Fire n)) right; left = d.left })

of_fired : (s : List ℕ) → (carry_out Valve.Fired s).valve ≡ Valve.Fired
of_fired s = go (frame_at s).act (done Valve.Fired s)
  where
    go : (act : Act) → ((carry_out Valve.Fired s).valve ≡ Valve.Fired) ⊎ Done Valve.Fired s act → (carry_out Valve.Fired s).valve ≡ Valve.Fired
    go act (inl same) = same
    go Act.Arm (inr d) = d.left
    go (Act.Fire code) (inr d) = d.left

-- A valve that was fired stays fired, whatever is sent to it.
pub stays_fired : (frames : List (List ℕ)) → sent Valve.Fired frames ≡ Valve.Fired
stays_fired [] = refl
stays_fired (s ∷ ss) = ap (λ v. sent v ss) (of_fired s) ∙ stays_fired ss

-- A place of the later frames is one further on among all of them.
further : {v : Valve} {s : List ℕ} {ss : List (List ℕ)} {i : ℕ} {words : List ℕ} {was became : Valve}
    → Turned (carry_out v s).valve ss i words was became → Turned v (s ∷ ss) (suc i) words was became
further t = record { sent_there = omega (arith, t.sent_there); says = t.says; accepted = t.accepted; before = t.before; after = t.after }

-- The first frame is at place 0.
here : {v : Valve} {s : List ℕ} {ss : List (List ℕ)} {words : List ℕ} {became : Valve} → Turns v s words became → Turned v (s ∷ ss) 0 words v became
here t = record { sent_there = omega arith; says = t.says; accepted = t.code; before = refl; after = t.left }

-- The states are three.
apart : (x y : Valve) → status_of x ≢ status_of y → x ≢ y
apart x y differ same = differ (ap status_of same)

-- An armed valve that is fired at the end was fired at some place,
record Fires (v : Valve) (frames : List (List ℕ)) : Type 0 where
  firing : ℕ
  fired : FiredAt v frames firing

armed_first : (s : List ℕ) (ss : List (List ℕ)) → ((carry_out Valve.Armed s).valve ≡ Valve.Armed) ⊎ Turns Valve.Armed s (act_words (Act.Fire 6160)) Valve.Fired
    → sent Valve.Armed (s ∷ ss) ≡ Valve.Fired → (sent Valve.Armed ss ≡ Valve.Fired → Fires Valve.Armed ss) → Fires Valve.Armed (s ∷ ss)
armed_first s ss (inl same) e rest =
    let later = subst (λ v. Fires v ss) (sym same) (rest (ap (λ v. sent v ss) (sym same) ∙ e)) in
    record { firing = suc later.firing; fired = further later.fired }
armed_first s ss (inr turns) e rest = record { firing = 0; fired = here turns }

from_armed : (frames : List (List ℕ)) → sent Valve.Armed frames ≡ Valve.Fired → Fires Valve.Armed frames
from_armed [] e = absurd (apart Valve.Armed Valve.Fired (λ z. omega arith) e)
from_armed (s ∷ ss) e = armed_first s ss (of_armed s) e (from_armed ss)

-- and a safe one was armed before that.
safe_first : (s : List ℕ) (ss : List (List ℕ)) → ((carry_out Valve.Safe s).valve ≡ Valve.Safe) ⊎ Turns Valve.Safe s (act_words Act.Arm) Valve.Armed
    → sent Valve.Safe (s ∷ ss) ≡ Valve.Fired → (sent Valve.Safe ss ≡ Valve.Fired → ArmedThenFired Valve.Safe ss) → ArmedThenFired Valve.Safe (s ∷ ss)
safe_first s ss (inl same) e rest =
    let later = subst (λ v. ArmedThenFired v ss) (sym same) (rest (ap (λ v. sent v ss) (sym same) ∙ e)) in
    record {
      arming = suc later.arming;
      firing = suc later.firing;
      earlier = omega (arith, later.earlier);
      armed = further later.armed;
      fired = further later.fired;
    }
safe_first s ss (inr turns) e rest =
    let later = subst (λ v. Fires v ss) (sym turns.left) (from_armed ss (ap (λ v. sent v ss) (sym turns.left) ∙ e)) in
    record { arming = 0; firing = suc later.firing; earlier = omega arith; armed = here turns; fired = further later.fired }

-- A fired valve was armed earlier.
pub fired_was_armed : (frames : List (List ℕ)) → sent fresh_valve frames ≡ Valve.Fired → ArmedThenFired fresh_valve frames
fired_was_armed [] e = absurd (apart Valve.Safe Valve.Fired (λ z. omega arith) e)
fired_was_armed (s ∷ ss) e = safe_first s ss (of_safe s) e (fired_was_armed ss)

-- Conversely, a valve that was armed and then fired is fired at the end: nothing that is sent behind that changes it.
sent-append : (v : Valve) (xs ys : List (List ℕ)) → sent v (xs ++ ys) ≡ sent (sent v xs) ys
sent-append v [] ys = refl
sent-append v (x ∷ xs) ys = sent-append (carry_out v x).valve xs ys

pub fired_for_good : (v : Valve) (frames : List (List ℕ)) (i : ℕ) → sent v (take i frames) ≡ Valve.Fired → sent v frames ≡ Valve.Fired
fired_for_good v frames i e =
    ap (sent v) (sym (take-append-drop i frames)) ∙ sent-append v (take i frames) (drop i frames)
    ∙ ap (λ w. sent w (drop i frames)) e ∙ stays_fired (drop i frames)

pub fired_exactly : (frames : List (List ℕ)) → (sent fresh_valve frames ≡ Valve.Fired) ↔ ArmedThenFired fresh_valve frames
fired_exactly frames = (fired_was_armed frames, λ h. fired_for_good fresh_valve frames (suc h.firing) h.fired.after)
