use Rattle.std.proofs.Common.{◌∙◌, ap, refl, sym}
use Rattle.rio_base.specs.Machine.{Contents}
use Rattle.registry.specs.declared.entry.Entry.{Entry}
use Rattle.rio_model.specs.Registry.{shadow_at}
use Rattle.rio_base.specs.Rules.{true_false}
use Rattle.rio_base.proofs.MachineRules.{ends_err, ends_then}
use Rattle.rio_model.proofs.CoverStands.{same_names_trans}
use Rattle.shadow_pages.proofs.Exits.{at_err, ends_told, keeps_same, not_ok, same_names, stores_entry}
use Rattle.shadow_pages.proofs.Shadows.{keeps_given, names_set, other_shadow}
use Rattle.shadow_pages.proofs.Steps.{keeps_then, layout_now, stores_trans}
use Rattle.shadow_pages.proofs.shadowing.shadow.Goals as goal

pub fill_shadow-requires-clause-can : goal.fill_shadow-requires-clause-can
fill_shadow-requires-clause-can g c = record { valid = c.requires.valid; metadata = c.requires.metadata; bare = c.requires.bare; from = c.requires.from; to = c.requires.to; free = c.requires.free }

pub set_shadow-requires-clause-can : goal.set_shadow-requires-clause-can
set_shadow-requires-clause-can g c = record { layout = layout_now _ _ c.in_ok-fill_shadow.ensures.coherent; closed = c.in_ok-fill_shadow.ensures.stores.closed; entry = c.in_ok-fill_shadow.ensures.can.valid.within }

-- ---- no shadow is filled

pub returns-in_err-fill_shadow-clause-given : goal.returns-in_err-fill_shadow-clause-given
returns-in_err-fill_shadow-clause-given g c = not_ok _ c.from_residual.result c.from_residual.ensures.0

pub returns-in_err-fill_shadow-clause-cut : goal.returns-in_err-fill_shadow-clause-cut
returns-in_err-fill_shadow-clause-cut g c = at_err c.from_residual.result c.from_residual.ensures.0 (c.in_err-fill_shadow.ensures.shadows c.args.k c.requires.valid.within)

pub returns-in_err-fill_shadow-clause-others : goal.returns-in_err-fill_shadow-clause-others
returns-in_err-fill_shadow-clause-others g c = λ j ne less. c.in_err-fill_shadow.ensures.shadows j less

pub returns-in_err-fill_shadow-clause-ends : goal.returns-in_err-fill_shadow-clause-ends
returns-in_err-fill_shadow-clause-ends g c = ends_told _ _ _ _ refl c.from_residual.ensures.0 c.in_err-fill_shadow.ensures.ends

-- ---- it is filled and not given

pub returns-in_err-set_shadow-clause-keeps : goal.returns-in_err-set_shadow-clause-keeps
returns-in_err-set_shadow-clause-keeps g c = keeps_then _ _ _ c.in_ok-fill_shadow.ensures.keeps (keeps_same _ _ c.in_err-set_shadow.ensures.same)

pub returns-in_err-set_shadow-clause-given : goal.returns-in_err-set_shadow-clause-given
returns-in_err-set_shadow-clause-given g c = not_ok _ c.from_residual-in_err-set_shadow.result c.from_residual-in_err-set_shadow.ensures.0

pub returns-in_err-set_shadow-clause-cut : goal.returns-in_err-set_shadow-clause-cut
returns-in_err-set_shadow-clause-cut g c = at_err c.from_residual-in_err-set_shadow.result c.from_residual-in_err-set_shadow.ensures.0 (ap (λ (x : Contents). shadow_at x.words c.args.k) c.in_err-set_shadow.ensures.same ∙ c.in_ok-fill_shadow.ensures.shadows c.args.k c.requires.valid.within)

pub returns-in_err-set_shadow-clause-others : goal.returns-in_err-set_shadow-clause-others
returns-in_err-set_shadow-clause-others g c = λ j ne less. ap (λ (x : Contents). shadow_at x.words j) c.in_err-set_shadow.ensures.same ∙ c.in_ok-fill_shadow.ensures.shadows j less

pub returns-in_err-set_shadow-clause-names : goal.returns-in_err-set_shadow-clause-names
returns-in_err-set_shadow-clause-names g c = same_names_trans _ _ _ c.in_ok-fill_shadow.ensures.names (same_names _ _ c.in_err-set_shadow.ensures.same)

pub returns-in_err-set_shadow-clause-rest : goal.returns-in_err-set_shadow-clause-rest
returns-in_err-set_shadow-clause-rest g c = (stores_trans _ _ _ c.in_ok-fill_shadow.ensures.stores (stores_entry _ _ _ _ _ _ c.in_ok-fill_shadow.ensures.stores.closed c.in_err-set_shadow.ensures.changes)).rest

pub returns-in_err-set_shadow-clause-lasts : goal.returns-in_err-set_shadow-clause-lasts
returns-in_err-set_shadow-clause-lasts g c = (stores_trans _ _ _ c.in_ok-fill_shadow.ensures.stores (stores_entry _ _ _ _ _ _ c.in_ok-fill_shadow.ensures.stores.closed c.in_err-set_shadow.ensures.changes)).lasts

pub returns-in_err-set_shadow-clause-ends : goal.returns-in_err-set_shadow-clause-ends
returns-in_err-set_shadow-clause-ends g c = ends_err _ _ _ _ _ refl c.from_residual-in_err-set_shadow.ensures.0 c.in_ok-fill_shadow.ensures.ends.steps c.in_err-set_shadow.ensures.changes.ends

-- ---- it is given

pub returns-clause-keeps : goal.returns-clause-keeps
returns-clause-keeps g c = keeps_then _ _ _ c.in_ok-fill_shadow.ensures.keeps (keeps_given c.args.k c.args.s _ _ c.in_ok-set_shadow.ensures.changes.rest c.in_ok-fill_shadow.ensures.can c.in_ok-fill_shadow.ensures.copied c.in_ok-set_shadow.ensures.changes.one_entry c.in_ok-set_shadow.ensures.entry)

pub returns-clause-given : goal.returns-clause-given
returns-clause-given g c = ap (λ (x : Entry). x.shadow) c.in_ok-set_shadow.ensures.entry

pub returns-clause-others : goal.returns-clause-others
returns-clause-others g c = λ j ne less. other_shadow c.args.k j _ _ c.in_ok-set_shadow.ensures.changes.one_entry ne ∙ c.in_ok-fill_shadow.ensures.shadows j less

pub returns-clause-names : goal.returns-clause-names
returns-clause-names g c = same_names_trans _ _ _ c.in_ok-fill_shadow.ensures.names (names_set c.args.k c.args.s _ _ c.in_ok-set_shadow.ensures.changes.one_entry c.in_ok-set_shadow.ensures.entry)

pub returns-clause-rest : goal.returns-clause-rest
returns-clause-rest g c = (stores_trans _ _ _ c.in_ok-fill_shadow.ensures.stores (stores_entry _ _ _ _ _ _ c.in_ok-fill_shadow.ensures.stores.closed c.in_ok-set_shadow.ensures.changes)).rest

pub returns-clause-lasts : goal.returns-clause-lasts
returns-clause-lasts g c = (stores_trans _ _ _ c.in_ok-fill_shadow.ensures.stores (stores_entry _ _ _ _ _ _ c.in_ok-fill_shadow.ensures.stores.closed c.in_ok-set_shadow.ensures.changes)).lasts

pub returns-clause-ends : goal.returns-clause-ends
returns-clause-ends g c = ends_then _ _ _ _ _ (λ e. true_false (sym e)) c.in_ok-fill_shadow.ensures.ends c.in_ok-set_shadow.ensures.changes.ends
