-- `deciding::permitted` meets its contract: what is dark is refused, else what the tally denies; what it grants is accepted.
use mathlib.Core.Path.{◌≡◌, refl, sym, ap, ◌∙◌}
use mathlib.Core.Bool.{Bool, true, false, not}
use borrow.Author.Rules.{rules}
use borrow.Author.Tests.{not-false}
use Rattle.std.specs.Prelude.{Err}
use Rattle.wire.specs.declared.kinds.Kind.{Kind}
use Rattle.camera.specs.Camera.{dark}
use Rattle.bench.specs.declared.Rejection.{Rejection}
use Rattle.bench.specs.Carry.{row26}
use Rattle.bench.specs.Steps.{decision_of}
use Rattle.bench.proofs.Dark.{on_lit}
use Rattle.bench.proofs.Decisions.{in_dark, denied, granted}
use Rattle.bench.proofs.deciding.permitted.Goals.{else-not-power-via-else-not-power, else-not-power-via-then-not-power+else-not-command, else-not-power-via-then-not-power+then-not-command+else-is_dark}
use Rattle.bench.proofs.deciding.permitted.Goals as goal

-- Row 26 holds of an executed command that is dark;
due : (power flag : Bool) (k : Kind) → not flag ≡ true → dark power k ≡ true → row26 power flag k ≡ true
due power flag k executed is = rw (executed, is)

-- it does not where the power is on, where the command is appended, or where it is not dark.
with_power : (power flag : Bool) (k : Kind) → power ≡ true → row26 power flag k ≡ false
with_power power true k on = refl
with_power power false k on = on_lit power k on

appended : (power flag : Bool) (k : Kind) → flag ≡ true → row26 power flag k ≡ false
appended power flag k is = rw is

not_dark : (power flag : Bool) (k : Kind) → dark power k ≡ false → row26 power flag k ≡ false
not_dark power true k is = refl
not_dark power false k is = is

pub returns-then-is_dark : goal.returns-then-is_dark
returns-then-is_dark c =
    let start = c.args in
    in_dark start.power start.tally start.command
    (due start.power start.command.flag start.command.kind c.if-not-command.true (sym c.is_dark.ensures ∙ c.if-is_dark.true))

pub returns-in_err-permits : goal.returns-in_err-permits
returns-in_err-permits c =
    let lit : row26 c.args.power c.args.command.flag c.args.command.kind ≡ false = let power = c.args.power in
    let flag = c.args.command.flag in
    let kind = c.args.command.kind in
    elim c.else-not-power.branch [ else-not-power-via-then-not-power+then-not-command+else-is_dark w ↦ not_dark power flag kind (sym w.is_dark.ensures ∙ w.if-is_dark.false) | else-not-power-via-then-not-power+else-not-command w ↦ appended power flag kind (not-false flag w.if-not-command.false) | else-not-power-via-else-not-power w ↦ with_power power flag kind (not-false power (ap not w.if-not-power.false)) ] in
    let start = c.args in
    let is : c.from_residual.result ≡ Err (Rejection.Denied c.in_err-permits.field-0.0) = search rules in
    ap decision_of is ∙ denied start.power start.tally start.command lit _ c.in_err-permits.ensures

pub returns : goal.returns
returns c =
    let lit : row26 c.args.power c.args.command.flag c.args.command.kind ≡ false = let power = c.args.power in
    let flag = c.args.command.flag in
    let kind = c.args.command.kind in
    elim c.else-not-power.branch [ else-not-power-via-then-not-power+then-not-command+else-is_dark w ↦ not_dark power flag kind (sym w.is_dark.ensures ∙ w.if-is_dark.false) | else-not-power-via-then-not-power+else-not-command w ↦ appended power flag kind (not-false flag w.if-not-command.false) | else-not-power-via-else-not-power w ↦ with_power power flag kind (not-false power (ap not w.if-not-power.false)) ] in
    let start = c.args in
    granted start.power start.tally start.command lit c.in_ok-permits.ensures
