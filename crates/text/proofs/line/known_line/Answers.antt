-- `known_line` meets its contract.
use Rattle.std.proofs.Common.{rules}
use Rattle.std.specs.Prelude.{None, Some, Err}
use mathlib.Core.Path.{◌≡◌, refl, sym, ◌∙◌}
use Rattle.text.specs.declared.findings.Fault.{Fault}
use Rattle.text.proofs.Lines.{wrong_spaces, right_spaces}
use Rattle.text.proofs.line.known_line.Goals as goal

pub returns-then-spaces-arguments_of : goal.returns-then-spaces-arguments_of
returns-then-spaces-arguments_of c =
    wrong_spaces _ _ _ _ _ _ _ _ _ _ _ c.row_of-layout.ensures
    c.requires c.behind-arguments.ensures
    c.front-one.ensures c.behind-others.ensures c.front-two.ensures
    c.spaces_of-spaces.ensures c.arguments_of.ensures c.if-spaces-arguments_of.true

pub returns-in_err-first : goal.returns-in_err-first
returns-in_err-first c =
    let is : c.from_residual.result ≡ Err Fault.Malformed = search rules in
    rw is (right_spaces _ _ _ _ _ _ _ _ _ _ _ c.row_of-layout.ensures
    c.requires c.behind-arguments.ensures
    c.front-one.ensures c.behind-others.ensures c.front-two.ensures
    c.spaces_of-spaces.ensures c.arguments_of.ensures c.if-spaces-arguments_of.false None _
    (sym c.in_err-first.ensures.ok_part ∙ c.first_of.ensures) refl)

pub returns-in_err-second : goal.returns-in_err-second
returns-in_err-second c =
    let is : c.from_residual-in_err-second.result ≡ Err Fault.Malformed = search rules in
    rw is (right_spaces _ _ _ _ _ _ _ _ _ _ _ c.row_of-layout.ensures
    c.requires c.behind-arguments.ensures
    c.front-one.ensures c.behind-others.ensures c.front-two.ensures
    c.spaces_of-spaces.ensures c.arguments_of.ensures c.if-spaces-arguments_of.false (Some c.in_ok-first.first) None
    (sym c.in_ok-first.ensures.ok_part ∙ c.first_of.ensures) (sym c.in_err-second.ensures.ok_part ∙ c.second_of.ensures))

pub returns : goal.returns
returns c =
    c.judged_line.ensures
    ∙ right_spaces _ _ _ _ _ _ _ _ _ _ _ c.row_of-layout.ensures
    c.requires c.behind-arguments.ensures
    c.front-one.ensures c.behind-others.ensures c.front-two.ensures
    c.spaces_of-spaces.ensures c.arguments_of.ensures c.if-spaces-arguments_of.false (Some c.in_ok-first.first) (Some c.in_ok-second.second)
    (sym c.in_ok-first.ensures.ok_part ∙ c.first_of.ensures) (sym c.in_ok-second.ensures.ok_part ∙ c.second_of.ensures)
