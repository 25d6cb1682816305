use Rattle.std.proofs.Common.{◌∙◌, Err, ap}
use Rattle.std.proofs.lemmas.Result.{err_from_is_err_and}
use Rattle.rio_base.proofs.MachineRules.{never}
use Rattle.rio_base.specs.declared.failures.VolFail.TheVariants.{Stopped}
use Rattle.rio_model.specs.Standing.{stale_block}
use Rattle.rio_model.proofs.RebootSteps.{endures_trans, endures_widened}
use Rattle.page_restore.proofs.ClearTurns.{rest_then}
use Rattle.page_restore.proofs.Steps.{image_next, phase_then, phase_told}
use Rattle.page_restore.proofs.Exits.{not_ok}
use Rattle.page_restore.proofs.restoring.empty_registry.Goals as goal

pub shut_gate-requires-clause-image : goal.shut_gate-requires-clause-image
shut_gate-requires-clause-image g c = image_next (stale_block c.args.marks.now (g.M.Machine.contents c.args.m.now).words) _ _ _ _ _ _ c.requires.image c.clear_entries.ensures.endures c.clear_entries.ensures.ends

pub returns-in_err-shut_gate-clause-endures : goal.returns-in_err-shut_gate-clause-endures
returns-in_err-shut_gate-clause-endures g c = endures_trans _ _ _ _ c.clear_entries.ensures.endures (endures_widened (stale_block c.args.marks.now (g.M.Machine.contents c.args.m.now).words) _ _ c.shut_gate.ensures.endures)

pub returns-in_err-shut_gate-clause-rest : goal.returns-in_err-shut_gate-clause-rest
returns-in_err-shut_gate-clause-rest g c = rest_then (g.M.Machine.contents c.args.m.now) (g.M.Machine.contents c.clear_entries.new.m) (g.M.Machine.contents c.shut_gate.new.m) c.clear_entries.ensures.rest c.shut_gate.ensures.rest

pub returns-in_err-shut_gate-clause-ends : goal.returns-in_err-shut_gate-clause-ends
returns-in_err-shut_gate-clause-ends g c =
    let p = err_from_is_err_and c.from_residual-in_err-shut_gate.result c.from_residual-in_err-shut_gate.ensures.1 in
    phase_told _ _ _ _ _ _ (p.1 ∙ ap Err p.2) (phase_then _ _ _ _ _ _ _ _ _ _ (never _ Stopped) c.in_ok-clear_entries.ensures.ends c.in_err-shut_gate.ensures.ends)

pub returns-clause-endures : goal.returns-clause-endures
returns-clause-endures g c = endures_trans _ _ _ _ c.clear_entries.ensures.endures (endures_widened (stale_block c.args.marks.now (g.M.Machine.contents c.args.m.now).words) _ _ c.shut_gate.ensures.endures)

pub returns-clause-rest : goal.returns-clause-rest
returns-clause-rest g c = rest_then (g.M.Machine.contents c.args.m.now) (g.M.Machine.contents c.clear_entries.new.m) (g.M.Machine.contents c.shut_gate.new.m) c.clear_entries.ensures.rest c.shut_gate.ensures.rest

pub returns-clause-ends : goal.returns-clause-ends
returns-clause-ends g c = phase_then _ _ _ _ _ _ _ _ _ _ (never _ Stopped) c.in_ok-clear_entries.ensures.ends c.in_ok-shut_gate.ensures.ends

pub returns-in_err-shut_gate-clause-empty : goal.returns-in_err-shut_gate-clause-empty
returns-in_err-shut_gate-clause-empty g c = not_ok _ c.from_residual-in_err-shut_gate.result c.from_residual-in_err-shut_gate.ensures.0

pub returns-in_err-shut_gate-clause-shut : goal.returns-in_err-shut_gate-clause-shut
returns-in_err-shut_gate-clause-shut g c = not_ok _ c.from_residual-in_err-shut_gate.result c.from_residual-in_err-shut_gate.ensures.0

pub returns-in_err-clear_entries-clause-empty : goal.returns-in_err-clear_entries-clause-empty
returns-in_err-clear_entries-clause-empty g c = not_ok _ c.from_residual.result c.from_residual.ensures.0

pub returns-in_err-clear_entries-clause-shut : goal.returns-in_err-clear_entries-clause-shut
returns-in_err-clear_entries-clause-shut g c = not_ok _ c.from_residual.result c.from_residual.ensures.0

pub returns-in_err-clear_entries-clause-ends : goal.returns-in_err-clear_entries-clause-ends
returns-in_err-clear_entries-clause-ends g c =
    let p = err_from_is_err_and c.from_residual.result c.from_residual.ensures.1 in
    phase_told _ _ _ _ _ _ (p.1 ∙ ap Err p.2) c.in_err-clear_entries.ensures.ends
