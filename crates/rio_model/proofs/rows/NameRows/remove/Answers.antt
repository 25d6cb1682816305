use Rattle.rio_model.proofs.Common.{ap, ◌∙◌, not, from_entries, remove, eq_by_cmp}
use Rattle.std.proofs.Common.{rules}
use Rattle.std.proofs.lemmas.Fn.{filter_same}
use Rattle.rio_model.specs.Names.{name_cmp, row_entry, row_entries}
use Rattle.rio_model.specs.declared.rows.NameRow.{NameRow}
use Rattle.rio_model.proofs.RowsGone.{names_without}
use Rattle.rio_model.proofs.rows.NameRows.remove.Goals as goal

pub returns : goal.returns
returns c =
    ap (λ rs. from_entries (row_entries rs)) (filter_same _ (λ (r : NameRow). not (eq_by_cmp name_cmp (c.args.dir.0, c.args.name.now) (row_entry r).0)) _ (λ x b f' k. search rules) _ _ c.retain.ensures.filtered)
    ∙ names_without (c.args.dir.0, c.args.name.now) _
    ∙ ap (λ m. remove m (c.args.dir.0, c.args.name.now)) c.self.view_is
