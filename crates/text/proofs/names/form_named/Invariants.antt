-- `form_named` meets its contract: no form before those that are left has the name.
use Rattle.text.proofs.Naming.{Searched}
use Rattle.text.proofs.names.form_named.Given as goal

abbrev pub invariant-loop-form : goal.invariant-loop-form
invariant-loop-form l = Searched l.name l.form-items l.form-index
