use Rattle.vista_region.proofs.Common.{None, ◌∙◌, sym, ap}
use Rattle.vista_region.specs.Marks.{set_mark}
use Rattle.vista_region.proofs.MarkRows.{mark_is, removed}
use Rattle.vista_region.proofs.open_table.OpenTable.close.Goals as goal

pub returns-clause-rows : goal.returns-clause-rows
returns-clause-rows c = c.shift_remove.ensures.entries ∙ removed c.self.inside.txns.entries c.args.i.0 ∙ ap (λ ms. set_mark ms c.args.i.0 None) c.self.view_is

pub returns-clause-gone : goal.returns-clause-gone
returns-clause-gone c = sym (mark_is c.shift_remove.new.self.entries c.args.i.0) ∙ c.shift_remove.ensures.updates.1
