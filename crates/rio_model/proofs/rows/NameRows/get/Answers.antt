use Rattle.rio_model.proofs.Common.{ap, ◌∙◌, get}
use Rattle.rio_model.proofs.NameOrder.{name_get-from_entries}
use Rattle.rio_model.proofs.rows.NameRows.get.Goals as goal

pub loop-row-init : goal.loop-row-init
loop-row-init c = ap (λ m. get m (c.args.dir.0, c.args.name.now)) c.as_slice-row-items.ensures ∙ name_get-from_entries _ _
