use Rattle.registry.proofs.Retags.{retagged}
use Rattle.rio_model.proofs.CoverSteps.{keeps_refl}
use Rattle.rio_model.proofs.HeldEntries.{held_same}
use Rattle.write_back.proofs.Settled.{keeps_settled}
use Rattle.std.proofs.Common.{ap, refl, subst, sym}
use Rattle.rio_base.specs.Machine.{Contents}
use Rattle.rio_model.specs.Cover.{Keeps}
use Rattle.write_back.proofs.Exits.{at_err, not_ok, step_stopped}
use Rattle.write_back.proofs.Steps.{layout_now}
use Rattle.write_back.proofs.cleaning.mark_clean.Goals as goal

pub returns-clause-keeps : goal.returns-clause-keeps
returns-clause-keeps g c = keeps_settled c.args.k _ _ (c.in_ok-set_clean.ensures.changes.rest) c.requires.valid c.requires.bare c.requires.written c.requires.synced (retagged c.args.k _ _ _ c.in_ok-set_clean.ensures.changes.one_entry c.in_ok-set_clean.ensures.entry)

pub returns-in_err-set_clean-clause-keeps : goal.returns-in_err-set_clean-clause-keeps
returns-in_err-set_clean-clause-keeps g c = subst (λ m. Keeps (g.M.Machine.contents c.args.m.now) m) (sym c.in_err-set_clean.ensures.same) (keeps_refl (g.M.Machine.contents c.args.m.now))

pub returns-in_err-set_clean-clause-same : goal.returns-in_err-set_clean-clause-same
returns-in_err-set_clean-clause-same g c = at_err c.from_residual.result c.from_residual.ensures.0 (ap (λ (m : Contents). m.words) c.in_err-set_clean.ensures.same)

pub returns-in_err-set_clean-clause-ends : goal.returns-in_err-set_clean-clause-ends
returns-in_err-set_clean-clause-ends g c = step_stopped (g.M.Machine.run c.args.m.now) (g.M.Machine.run c.set_clean.new.m) _ _ refl c.from_residual.ensures.0 c.in_err-set_clean.ensures.changes.ends

pub returns-in_err-set_clean-clause-cleaned : goal.returns-in_err-set_clean-clause-cleaned
returns-in_err-set_clean-clause-cleaned g c = not_ok _ c.from_residual.result c.from_residual.ensures.0

pub returns-in_err-set_clean-clause-held : goal.returns-in_err-set_clean-clause-held
returns-in_err-set_clean-clause-held g c = held_same c.args.k _ _ (ap (λ (m : Contents). m.words) c.in_err-set_clean.ensures.same)

pub set_clean-requires-clause-can : goal.set_clean-requires-clause-can
set_clean-requires-clause-can g c = record { layout = layout_now _ _ c.requires.coherent; closed = c.requires.closed; entry = c.requires.valid.within }
