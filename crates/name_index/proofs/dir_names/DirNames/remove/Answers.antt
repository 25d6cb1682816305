use Rattle.std.proofs.Common.{None, ap, ◌∙◌}
use Rattle.std.specs.Prelude.{string_bytes}
use Rattle.std.specs.FinMap.{from_entries, remove}
use Rattle.std.proofs.lemmas.Map.Text.{hash_map_updates_text}
use Rattle.name_index.specs.Rows.{rows_by}
use Rattle.name_index.proofs.RowMaps.{row_removed}
use Rattle.name_index.proofs.dir_names.DirNames.remove.Goals as goal

pub returns-clause-ok : goal.returns-clause-ok
returns-clause-ok c =
    let old = c.self.inside.rows in
    let new = c.swap_remove.new.self in
    let text = c.in-Ok.text.now in
    row_removed string_bytes old.entries new.entries text (hash_map_updates_text text old new None c.swap_remove.ensures.updates)
    ∙ ap (λ n. remove (from_entries (rows_by string_bytes old.entries)) n) c.in-Ok.ensures.cases.0
    ∙ ap (λ m. remove m c.args.name.now) c.self.view_is
