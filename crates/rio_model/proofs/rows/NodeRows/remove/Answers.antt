use Rattle.rio_model.proofs.Common.{ap, ◌∙◌, not, from_entries, remove, nat_cmp, eq_by_cmp}
use Rattle.std.proofs.Common.{rules}
use Rattle.std.proofs.lemmas.Fn.{filter_same}
use Rattle.rio_model.specs.Nodes.{node_entries}
use Rattle.rio_model.specs.declared.rows.NodeRow.{NodeRow}
use Rattle.rio_model.proofs.RowsGone.{nodes_without}
use Rattle.rio_model.proofs.rows.NodeRows.remove.Goals as goal

pub returns : goal.returns
returns c =
    ap (λ rs. from_entries (node_entries rs)) (filter_same _ (λ (r : NodeRow). not (eq_by_cmp nat_cmp c.args.ino.0 r.ino.0)) _ (λ x b f' k. search rules) _ _ c.retain.ensures.filtered)
    ∙ nodes_without c.args.ino.0 _
    ∙ ap (λ m. remove m c.args.ino.0) c.self.view_is
