use Rattle.rio_model.proofs.CoverSteps.{keeps_clear, keeps_refl}
use Rattle.rio_model.proofs.HeldEntries.{held_same}
use Rattle.registry.specs.declared.entry.Entry.{Entry}
use Rattle.registry.proofs.Retags.{retagged}
use Rattle.std.proofs.Common.{ap, refl, subst, sym}
use Rattle.rio_base.specs.Machine.{Contents}
use Rattle.rio_model.specs.Cover.{Keeps}
use Rattle.write_back.proofs.Exits.{at_err, not_ok, step_stopped}
use Rattle.write_back.proofs.cleaning.drop_entry.Goals as goal

pub returns-clause-keeps : goal.returns-clause-keeps
returns-clause-keeps g c = keeps_clear _ c.args.k _ _ c.requires.coherent (c.in_ok-clear.ensures.changes.rest) c.requires.valid c.requires.clean (retagged c.args.k 0 _ _ c.in_ok-clear.ensures.changes.one_entry c.in_ok-clear.ensures.entry)

pub returns-in_err-clear-clause-keeps : goal.returns-in_err-clear-clause-keeps
returns-in_err-clear-clause-keeps g c = subst (λ m. Keeps (g.M.Machine.contents c.args.m.now) m) (sym c.in_err-clear.ensures.same) (keeps_refl (g.M.Machine.contents c.args.m.now))

pub returns-in_err-clear-clause-same : goal.returns-in_err-clear-clause-same
returns-in_err-clear-clause-same g c = at_err c.from_residual.result c.from_residual.ensures.0 (ap (λ (m : Contents). m.words) c.in_err-clear.ensures.same)

pub returns-in_err-clear-clause-ends : goal.returns-in_err-clear-clause-ends
returns-in_err-clear-clause-ends g c = step_stopped (g.M.Machine.run c.args.m.now) (g.M.Machine.run c.clear.new.m) _ _ refl c.from_residual.ensures.0 c.in_err-clear.ensures.changes.ends

pub returns-in_err-clear-clause-gone : goal.returns-in_err-clear-clause-gone
returns-in_err-clear-clause-gone g c = not_ok _ c.from_residual.result c.from_residual.ensures.0

pub returns-in_err-clear-clause-held : goal.returns-in_err-clear-clause-held
returns-in_err-clear-clause-held g c = at_err c.from_residual.result c.from_residual.ensures.0 (held_same c.args.k _ _ (ap (λ (m : Contents). m.words) c.in_err-clear.ensures.same))

pub returns-clause-gone : goal.returns-clause-gone
returns-clause-gone g c = ap (λ (x : Entry). x.tag) c.in_ok-clear.ensures.entry
