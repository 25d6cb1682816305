use Rattle.vista_region.proofs.Common.{Bool, Some, true, ◌≡◌, ◌∙◌, subst, sym, ap}
use Rattle.vista_region.specs.Marks.{mark_of, set_mark}
use Rattle.vista_region.proofs.MarkRows.{doomed}
use Rattle.vista_region.proofs.open_table.OpenTable.doom.Goals as goal

pub returns : goal.returns
returns c = doomed c.insert-was.result c.self.inside.txns.entries c.insert-was.new.self.entries c.args.i.0 (subst (λ ms. (b : Bool) × (mark_of ms c.args.i.0 ≡ Some b)) (sym c.self.view_is) c.requires.some) c.insert-was.ensures.entries c.insert-was.ensures.absent ∙ ap (λ ms. set_mark ms c.args.i.0 (Some true)) c.self.view_is
