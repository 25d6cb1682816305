use Rattle.rio_model.proofs.Common.{ap, ◌∙◌}
use Rattle.std.specs.Str.{bytes_eq}
use Rattle.rio_model.proofs.NameOrder.{name_tied_in}
use Rattle.rio_model.proofs.rows.NameRow.is_at.Goals as goal

pub returns-then-dir-self : goal.returns-then-dir-self
returns-then-dir-self c =
    name_tied_in c.args.dir.0 c.args.self.now.dir.0 c.args.name.now c.args.self.now.name c.eq.result c.if-dir-self.true (c.eq.ensures ∙ ap (λ name. bytes_eq c.args.name.now name) c.as_slice.ensures)
