use Rattle.std.specs.List.{each_same}
use Rattle.rio_model.proofs.Copies.{name_row_same}
use Rattle.rio_model.proofs.rows.NameRowClone.clone.Goals as goal

pub returns : goal.returns
returns c = record { cases = name_row_same c.args.self.now _ (each_same _ _ c.in_ok-name.ensures.cases) }
