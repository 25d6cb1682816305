use Rattle.std.proofs.Common.{Some, sym, ap, ◌∙◌}
use Rattle.std.specs.Prelude.{string_bytes}
use Rattle.std.specs.FinMap.{from_entries, insert}
use Rattle.std.proofs.lemmas.Map.Text.{hash_map_updates_text}
use Rattle.name_index.specs.Rows.{rows_by}
use Rattle.name_index.proofs.RowMaps.{ok_of, row_put}
use Rattle.name_index.proofs.dir_names.DirNames.put.Goals as goal

pub returns-clause-ok : goal.returns-clause-ok
returns-clause-ok c =
    let old = c.self.inside.rows in
    let new = c.insert-added.new.self in
    let key = string_bytes c.in-Ok-from_str.key in
    let i = c.args.ino.0 in
    row_put string_bytes old.entries new.entries key i (hash_map_updates_text key old new (Some i) (ok_of c.insert-added.result _ (sym c.is_err.ensures.value ∙ c.if-is_err.false) c.insert-added.ensures.updates))
    ∙ ap (λ n. insert (from_entries (rows_by string_bytes old.entries)) n i) (c.in-Ok-from_str.ensures.ok ∙ c.in-Ok.ensures.cases.0)
    ∙ ap (λ m. insert m c.args.name.now i) c.self.view_is
