use Rattle.vista_region.proofs.Common.{false, sym, subst, ◌∙◌, ◌≡◌, None, Some}
use Rattle.vista_region.specs.Marks.{Marks, mark_of, set_mark}
use Rattle.vista_region.proofs.MarkRows.{began}
use Rattle.vista_region.proofs.open_table.OpenTable.begin.Goals as goal

pub returns-clause-ok : goal.returns-clause-ok
returns-clause-ok c = subst (λ (ms : Marks). (mark_of ms c.args.i.0 ≡ None) × (c.insert-added.new.self.entries ≡ set_mark ms c.args.i.0 (Some false))) c.self.view_is (began c.insert-added.result c.mark.result c.self.inside.txns.entries c.insert-added.new.self.entries c.args.i.0 (subst (λ (ms : Marks). c.mark.result ≡ mark_of ms c.args.i.0) (sym c.self.view_is) c.mark.ensures) (sym c.is_some.ensures ∙ c.if-is_some.false) (sym c.is_err.ensures.value ∙ c.if-is_err.false) c.insert-added.ensures.entries)
