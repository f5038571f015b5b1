-- `typed_line` meets its contract.
use Rattle.std.proofs.Common.{rules}
use Rattle.std.specs.Prelude.{None, Some, Err}
use mathlib.Core.Path.{◌≡◌, sym, ap, ◌∙◌}
use lib.ListN.{length}
use lib.Seq.{length-take-le}
use Rattle.text.specs.declared.findings.Fault.{Fault}
use Rattle.text.proofs.Marks.{run_within}
use Rattle.text.proofs.Lines.{by_name}
use Rattle.text.proofs.line.typed_line.Goals as goal

pub known_line-requires : goal.known_line-requires
known_line-requires c = ap length c.front-name.ensures ∙ length-take-le _ _ (run_within _ _)

pub returns-in_err-form : goal.returns-in_err-form
returns-in_err-form c =
    let is : c.from_residual.result ≡ Err Fault.UnknownName = search rules in
    rw is (by_name _ _ _ None c.front-name.ensures (sym c.in_err-form.ensures.ok_part ∙ c.form_named.ensures))

pub returns : goal.returns
returns c =
    c.known_line.ensures
    ∙ by_name _ _ _ (Some c.in_ok-form.form) c.front-name.ensures (sym c.in_ok-form.ensures.ok_part ∙ c.form_named.ensures)
