use Rattle.std.proofs.Common.{sym, ap, ◌∙◌}
use Rattle.std.specs.Prelude.{string_bytes}
use Rattle.std.specs.FinMap.{get}
use Rattle.std.specs.Map.{lookup}
use Rattle.std.specs.Str.{bytes_eq}
use Rattle.name_index.proofs.RowMaps.{get_row}
use Rattle.name_index.proofs.dir_names.DirNames.find.Goals as goal

pub returns-in_default-get_full : goal.returns-in_default-get_full
returns-in_default-get_full c =
    let rows = c.self.inside.rows.entries in
    let name = c.args.name.now in
    ap (λ m. get m name) (sym c.self.view_is) ∙ get_row string_bytes rows name ∙ ap (λ n. lookup (λ k. bytes_eq n (string_bytes k)) rows) (sym c.in-Ok.ensures.cases.0) ∙ sym c.in_default-get_full.ensures.value

pub returns : goal.returns
returns c =
    let rows = c.self.inside.rows.entries in
    let name = c.args.name.now in
    ap (λ m. get m name) (sym c.self.view_is) ∙ get_row string_bytes rows name ∙ ap (λ n. lookup (λ k. bytes_eq n (string_bytes k)) rows) (sym c.in-Ok.ensures.cases.0) ∙ sym c.in-Some.ensures.value
