use Rattle.std.proofs.Common.{◌∙◌, Err, ap, inl, inr}
use Rattle.std.proofs.lemmas.Result.{err_from_is_err_and}
use Rattle.rio_base.proofs.MachineRules.{never}
use Rattle.rio_base.specs.declared.failures.VolFail.TheVariants.{Fault, Stopped}
use Rattle.rio_model.specs.Standing.{none_apart, stale_block}
use Rattle.rio_model.proofs.RebootSteps.{endures_widened}
use Rattle.page_restore.proofs.ClearTurns.{synced_then}
use Rattle.page_restore.proofs.Restores.{endures_emptied, stale_emptied}
use Rattle.page_restore.proofs.Steps.{image_next, phase_as, phase_then, phase_told}
use Rattle.page_restore.proofs.Exits.{not_ok}
use Rattle.page_restore.proofs.restoring.restore.Goals as goal

pub empty_registry-requires-clause-image : goal.empty_registry-requires-clause-image
empty_registry-requires-clause-image g c = image_next none_apart _ _ _ _ _ _ c.requires.image c.bring_home.ensures.brings.endures c.bring_home.ensures.ends

pub returns-in_err-counts-clause-endures : goal.returns-in_err-counts-clause-endures
returns-in_err-counts-clause-endures g c = endures_widened (stale_block c.args.marks.now (g.M.Machine.contents c.args.m.now).words) _ _ c.bring_home.ensures.brings.endures

pub returns-in_err-counts-clause-exit : goal.returns-in_err-counts-clause-exit
returns-in_err-counts-clause-exit g c = inl c.bring_home.ensures.brings.endures

pub returns-in_err-empty_registry-clause-endures : goal.returns-in_err-empty_registry-clause-endures
returns-in_err-empty_registry-clause-endures g c = endures_emptied c.args.marks.now _ _ _ c.bring_home.ensures.brings c.empty_registry.ensures.endures

pub returns-in_err-empty_registry-clause-exit : goal.returns-in_err-empty_registry-clause-exit
returns-in_err-empty_registry-clause-exit g c = inr (synced_then (g.M.Machine.contents c.bring_home.new.m) (g.M.Machine.contents c.empty_registry.new.m) c.empty_registry.ensures.rest c.in_ok-counts.ensures.synced)

pub returns-in_err-empty_registry-clause-dropped : goal.returns-in_err-empty_registry-clause-dropped
returns-in_err-empty_registry-clause-dropped g c = stale_emptied c.args.marks.now (g.M.Machine.contents c.args.m.now) (g.M.Machine.contents c.bring_home.new.m) (g.M.Machine.contents c.empty_registry.new.m) c.empty_registry.ensures.rest c.bring_home.ensures.dropped

pub returns-in_err-empty_registry-clause-ends : goal.returns-in_err-empty_registry-clause-ends
returns-in_err-empty_registry-clause-ends g c =
    let p = err_from_is_err_and c.from_residual-in_err-empty_registry.result c.from_residual-in_err-empty_registry.ensures.1 in
    phase_told _ _ _ _ _ _ (p.1 ∙ ap Err p.2) (phase_then _ _ _ _ _ _ _ _ _ _ (never _ Stopped) c.in_ok-counts.ensures.ends c.in_err-empty_registry.ensures.ends)

pub returns-clause-endures : goal.returns-clause-endures
returns-clause-endures g c = endures_emptied c.args.marks.now _ _ _ c.bring_home.ensures.brings c.empty_registry.ensures.endures

pub returns-clause-exit : goal.returns-clause-exit
returns-clause-exit g c = inr (synced_then (g.M.Machine.contents c.bring_home.new.m) (g.M.Machine.contents c.empty_registry.new.m) c.empty_registry.ensures.rest c.in_ok-counts.ensures.synced)

pub returns-clause-synced : goal.returns-clause-synced
returns-clause-synced g c = synced_then (g.M.Machine.contents c.bring_home.new.m) (g.M.Machine.contents c.empty_registry.new.m) c.empty_registry.ensures.rest c.in_ok-counts.ensures.synced

pub returns-clause-dropped : goal.returns-clause-dropped
returns-clause-dropped g c = stale_emptied c.args.marks.now (g.M.Machine.contents c.args.m.now) (g.M.Machine.contents c.bring_home.new.m) (g.M.Machine.contents c.empty_registry.new.m) c.empty_registry.ensures.rest c.bring_home.ensures.dropped

pub returns-clause-running : goal.returns-clause-running
returns-clause-running g c = c.in_ok-empty_registry.ensures.ends.ends.runs (never _ Stopped) ∙ c.in_ok-counts.ensures.running

pub returns-clause-ends : goal.returns-clause-ends
returns-clause-ends g c = phase_as _ _ _ _ _ _ _ _ (never _ Stopped) (never _ Fault) (never _ Stopped) (phase_then _ _ _ _ _ _ _ _ _ _ (never _ Stopped) c.in_ok-counts.ensures.ends c.in_ok-empty_registry.ensures.ends)

pub returns-in_err-counts-clause-empty : goal.returns-in_err-counts-clause-empty
returns-in_err-counts-clause-empty g c = not_ok _ c.from_residual.result c.from_residual.ensures.0

pub returns-in_err-counts-clause-shut : goal.returns-in_err-counts-clause-shut
returns-in_err-counts-clause-shut g c = not_ok _ c.from_residual.result c.from_residual.ensures.0

pub returns-in_err-counts-clause-synced : goal.returns-in_err-counts-clause-synced
returns-in_err-counts-clause-synced g c = not_ok _ c.from_residual.result c.from_residual.ensures.0

pub returns-in_err-counts-clause-counts : goal.returns-in_err-counts-clause-counts
returns-in_err-counts-clause-counts g c = not_ok _ c.from_residual.result c.from_residual.ensures.0

pub returns-in_err-counts-clause-running : goal.returns-in_err-counts-clause-running
returns-in_err-counts-clause-running g c = not_ok _ c.from_residual.result c.from_residual.ensures.0

pub returns-in_err-counts-clause-ends : goal.returns-in_err-counts-clause-ends
returns-in_err-counts-clause-ends g c =
    let p = err_from_is_err_and c.from_residual.result c.from_residual.ensures.1 in
    phase_told _ _ _ _ _ _ (p.1 ∙ ap Err p.2) c.in_err-counts.ensures.ends

pub returns-in_err-empty_registry-clause-empty : goal.returns-in_err-empty_registry-clause-empty
returns-in_err-empty_registry-clause-empty g c = not_ok _ c.from_residual-in_err-empty_registry.result c.from_residual-in_err-empty_registry.ensures.0

pub returns-in_err-empty_registry-clause-shut : goal.returns-in_err-empty_registry-clause-shut
returns-in_err-empty_registry-clause-shut g c = not_ok _ c.from_residual-in_err-empty_registry.result c.from_residual-in_err-empty_registry.ensures.0

pub returns-in_err-empty_registry-clause-synced : goal.returns-in_err-empty_registry-clause-synced
returns-in_err-empty_registry-clause-synced g c = not_ok _ c.from_residual-in_err-empty_registry.result c.from_residual-in_err-empty_registry.ensures.0

pub returns-in_err-empty_registry-clause-counts : goal.returns-in_err-empty_registry-clause-counts
returns-in_err-empty_registry-clause-counts g c = not_ok _ c.from_residual-in_err-empty_registry.result c.from_residual-in_err-empty_registry.ensures.0

pub returns-in_err-empty_registry-clause-running : goal.returns-in_err-empty_registry-clause-running
returns-in_err-empty_registry-clause-running g c = not_ok _ c.from_residual-in_err-empty_registry.result c.from_residual-in_err-empty_registry.ensures.0
