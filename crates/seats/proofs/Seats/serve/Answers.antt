-- `Seats::serve` meets its contract: the code that carrying out gives tells whether the bench is sound.
use Rattle.std.proofs.Common.{sym, ap, ◌∙◌}
use Rattle.bench.specs.Exports.{Told}
use Rattle.bench.specs.Carry.{Outcome, outcome_of}
use Rattle.seats.proofs.States.{told_outcome, told_unsound, told_sound}
use Rattle.seats.proofs.Seats.serve.Goals as goal

pub returns-then-code-eq-UNSOUND : goal.returns-then-code-eq-UNSOUND
returns-then-code-eq-UNSOUND c =
    let carried = c.carry_out-carried in
    let told = c.told_of-code.ensures ∙ sym (told_outcome c.args.self.now.bench carried.result) ∙ ap (λ (o : Outcome). o.told) carried.ensures in
    rw (told_unsound _ _ (sym (ap (λ (t : Told). t.code) told) ∙ c.if-code-eq-UNSOUND.true))

pub returns-in-Ok : goal.returns-in-Ok
returns-in-Ok c =
    let carried = c.carry_out-carried in
    let told = c.told_of-code.ensures ∙ sym (told_outcome c.args.self.now.bench carried.result) ∙ ap (λ (o : Outcome). o.told) carried.ensures in
    let sound = told_sound _ _ (λ e. c.if-code-eq-UNSOUND.false (ap (λ (t : Told). t.code) told ∙ e)) in
    let left = ap (λ (o : Outcome). o.bench) (ap (outcome_of c.args.self.now.bench) (sym c.in-Ok.is) ∙ carried.ensures) in
    rw (sound, c.record_of-record.ensures, told, left, c.first_number.ensures, c.leave.ensures)

pub returns-in_default : goal.returns-in_default
returns-in_default c =
    let carried = c.carry_out-carried in
    let told = c.told_of-code.ensures ∙ sym (told_outcome c.args.self.now.bench carried.result) ∙ ap (λ (o : Outcome). o.told) carried.ensures in
    let sound = told_sound _ _ (λ e. c.if-code-eq-UNSOUND.false (ap (λ (t : Told). t.code) told ∙ e)) in
    let left = ap (λ (o : Outcome). o.bench) (ap (outcome_of c.args.self.now.bench) (sym c.in_default.is) ∙ carried.ensures) in
    rw (sound, c.record_of-record.ensures, told, ← left, c.first_number.ensures, c.leave.ensures)
