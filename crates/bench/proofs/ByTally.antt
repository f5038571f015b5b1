-- On a sound bench, what is decided by its power and the tally of its macros is what carrying out says; and the tally stays true of the bench.
use Prim.Native.Nat.{ℕ}
use mathlib.Core.Path.{◌≡◌, refl, sym, ap, ◌∙◌, subst}
use mathlib.Core.List.{List, ◌++◌}
use mathlib.Core.Bool.{Bool, true, false, cond}
use lib.Dec.{eqb}
use borrow.Author.Tests.{eqb-true}
use Rattle.words.specs.Codes.{Check, first_of}
use Rattle.words.proofs.FirstOf.{Coded, first_append}
use Rattle.wire.specs.declared.kinds.Command.{Command}
use Rattle.wire.specs.declared.judging.Told.{Told}
use Rattle.wire.specs.Judge.{told_for, arg_checks}
use Rattle.wire.specs.Read.{answer_for, read_checks, said_parts, said}
use Rattle.wire.specs.Kind.{parts_of}
use Rattle.wire.specs.declared.kinds.Parts.{Parts}
use Rattle.store.specs.declared.Store.{Store}
use Rattle.store.specs.declared.tally.Tally.{Tally}
use Rattle.store.specs.Checks.{permit_code}
use Rattle.store.specs.TallySteps.{tally_code, Tallied}
use Rattle.store.proofs.Tallies.{tallied_code, tallied_effect, tallied_after}
use Rattle.bench.specs.declared.Bench.{Bench}
use Rattle.bench.specs.Carry.{row26, camera_after, state_checks, command_checks, outcome_for, carry_out, bytes_checks, taken, carry_out_bytes}
use Rattle.bench.specs.Steps.{behind_checks, decided_by, decided_in, tally_by, carried_by}
use Rattle.bench.proofs.Outcomes.{judge_coded, read_coded, judge_then, carry_code_lem, sound_bytes}
use Rattle.bench.proofs.Sound.{GoodBench, Accepted, good_store, judge_accepted, read_accepted}

module _ (b : Bench) (t : Tally) (good : GoodBench b) (is : Tallied b.store t) where
  abbrev power : Bool
  power = b.camera.power

  -- The rows of power and tally behind others tell the code that those of the bench tell there.
  same_behind : (c : Command) → first_of (behind_checks power t c) ≡ first_of (state_checks b c)
  unfolding tally_code permit_code
  same_behind c = ap (λ n. cond (row26 power c.flag c.kind) 26 n) (tallied_code b.store t is c)

  same_code : (c : Command) (rows : List Check) → Coded rows → first_of (rows ++ behind_checks power t c) ≡ first_of (rows ++ state_checks b c)
  same_code c rows coded =
      first_append rows (behind_checks power t c) coded
      ∙ ap (λ n. cond (eqb (first_of rows) 0) n (first_of rows)) (same_behind c)
      ∙ sym (first_append rows (state_checks b c) coded)

  -- Where code 0 says that a command is accepted, the answer with a code leads to the outcome with that code,
  module _ (parts : Parts) (c : Command) (code : ℕ) (accepted : code ≡ 0 → Accepted b c) where
    carried_for : carried_by b t (answer_for code parts c) ≡ outcome_for code parts b c
    carried_for = go (eqb code 0) refl
      where
        told : Told
        told = told_for code parts

        go : (none : Bool) → eqb code 0 ≡ none → carried_by b t (answer_for code parts c) ≡ outcome_for code parts b c
        go true e =
            let passed = accepted (eqb-true code 0 e) in
            rw e
            (ap (λ (s : Store). record { told = told; bench = record { camera = camera_after b.camera c; store = s; latest = b.latest } })
            (tallied_effect b.store t (good_store b good) is c passed.judge passed.permit))
        go false e = rw e

    -- and the tally is true of what that leaves.
    tallied_for : Tallied (outcome_for code parts b c).bench.store (tally_by t (answer_for code parts c).taken)
    tallied_for = go (eqb code 0) refl
      where
        go : (none : Bool) → eqb code 0 ≡ none → Tallied (outcome_for code parts b c).bench.store (tally_by t (answer_for code parts c).taken)
        go true e =
            let passed = accepted (eqb-true code 0 e) in
            rw e (tallied_after b.store t (good_store b good) is c passed.judge passed.permit)
        go false e = rw e is

  -- A decoded command,
  pub carried_by_lem : (c : Command) → carried_by b t (decided_by power t c) ≡ carry_out b c
  unfolding decided_by carry_out
  carried_by_lem c =
      let parts = parts_of c.kind in
      ap (λ n. carried_by b t (answer_for n parts c)) (same_code c (arg_checks c) (judge_coded c))
      ∙ carried_for parts c (first_of (command_checks b c)) (judge_accepted b c)
      ∙ ap (λ n. outcome_for n parts b c) (judge_then b c ∙ sym (carry_code_lem b c good.sound))

  -- the command at the front of some bytes,
  pub taken_by : (s : List ℕ) → carried_by b t (decided_in power t s) ≡ taken b s
  unfolding decided_in taken
  taken_by s =
      ap (λ n. carried_by b t (answer_for n (said_parts s) (said s))) (same_code (said s) (read_checks s) (read_coded s))
      ∙ carried_for (said_parts s) (said s) (first_of (bytes_checks b s)) (read_accepted b s)

  pub carried_bytes_by : (s : List ℕ) → carried_by b t (decided_in power t s) ≡ carry_out_bytes b s
  carried_bytes_by s = taken_by s ∙ sound_bytes b s good.sound

  -- after which the tally is true of the bench again.
  pub taken_tallied : (s : List ℕ) → Tallied (taken b s).bench.store (tally_by t (decided_in power t s).taken)
  unfolding decided_in taken
  taken_tallied s =
      subst (λ n. Tallied (taken b s).bench.store (tally_by t (answer_for n (said_parts s) (said s)).taken))
      (sym (same_code (said s) (read_checks s) (read_coded s)))
      (tallied_for (said_parts s) (said s) (first_of (bytes_checks b s)) (read_accepted b s))
