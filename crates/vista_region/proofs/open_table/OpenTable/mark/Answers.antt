use Rattle.vista_region.proofs.Common.{◌∙◌, ap}
use Rattle.vista_region.specs.Marks.{mark_of}
use Rattle.vista_region.proofs.MarkRows.{mark_is}
use Rattle.vista_region.proofs.open_table.OpenTable.mark.Goals as goal

pub returns : goal.returns
returns c = c.copied.ensures ∙ c.get.ensures.value ∙ mark_is c.self.inside.txns.entries c.args.i.0 ∙ ap (λ ms. mark_of ms c.args.i.0) c.self.view_is
