use Rattle.rio_model.proofs.Common.{ap, ◌∙◌, get, get-from_entries, nat_cmp_total}
use Rattle.rio_model.proofs.rows.NodeRows.get.Goals as goal

pub loop-row-init : goal.loop-row-init
loop-row-init c = ap (λ m. get m c.args.ino.0) c.as_slice-row-items.ensures ∙ get-from_entries nat_cmp_total _ _
