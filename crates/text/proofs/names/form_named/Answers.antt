-- `form_named` meets its contract, by the laws of `Naming`.
use mathlib.Core.Path.{sym, ◌∙◌}
use Rattle.wire.specs.declared.table.Form.{Form}
use Rattle.text.proofs.Naming.{searched_none, searched_found, searched_on, searched_all}
use Rattle.text.proofs.names.form_named.Goals as goal

pub loop-form-init : goal.loop-form-init
loop-form-init c = searched_none _

pub returns-then-same : goal.returns-then-same
returns-then-same c = searched_found _ _ _ c.loop-form.invariant Form.ImgPwr c.loop-form-test.true _ c.name_of.ensures (sym c.same.ensures ∙ c.if-same.true)

pub loop-form-preserved : goal.loop-form-preserved
loop-form-preserved c = searched_on _ _ _ c.loop-form.invariant Form.ImgPwr c.loop-form-test.true _ c.name_of.ensures (sym c.same.ensures ∙ c.if-same.false)

pub returns : goal.returns
returns c = searched_all _ _ _ c.loop-form.invariant c.loop-form-test.false
