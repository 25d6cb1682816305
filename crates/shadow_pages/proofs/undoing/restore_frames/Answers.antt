use Rattle.std.proofs.Common.{◌∙◌, arith, refl}
use Rattle.rio_base.proofs.MachineRules.{ends_err, steps_refl, steps_trans}
use Rattle.shadow_pages.proofs.Exits.{not_ok}
use Rattle.shadow_pages.proofs.Restores.{restores_gate, restores_refl, restores_trans}
use Rattle.shadow_pages.proofs.Steps.{coherent_restored, not_stopped, restored_next, stores_refl, stores_trans}
use Rattle.shadow_pages.proofs.undoing.restore_frames.Goals as goal

pub restore_frame-requires-clause-coherent : goal.restore_frame-requires-clause-coherent
restore_frame-requires-clause-coherent g c = coherent_restored _ _ _ _ c.requires.coherent c.loop-i.invariant.stores c.loop-i.invariant.restores c.loop-i.invariant.steps.scratch_count

pub returns-in_err-restore_frame-clause-restores : goal.returns-in_err-restore_frame-clause-restores
returns-in_err-restore_frame-clause-restores g c = restores_trans _ _ _ c.loop-i.invariant.restores c.in_err-restore_frame.ensures.restores

pub returns-in_err-restore_frame-clause-stores : goal.returns-in_err-restore_frame-clause-stores
returns-in_err-restore_frame-clause-stores g c = stores_trans _ _ _ c.loop-i.invariant.stores c.in_err-restore_frame.ensures.stores

pub loop-i-preserved : goal.loop-i-preserved
loop-i-preserved g c =
    let before = c.loop-i.invariant in
    let call = c.in_ok-restore_frame.ensures in
    record {
      restores = restores_trans _ _ _ before.restores call.restores;
      restored = λ j less. restored_next _ _ c.args.shadowed.now c.loop-i.i j call.restores before.restored call.restored less;
      stores = stores_trans _ _ _ before.stores call.stores;
      steps = steps_trans _ _ _ before.steps call.ends.steps;
      runs = call.ends.runs not_stopped ∙ before.runs;
    }

pub returns-in_err-restore_frame-clause-ends : goal.returns-in_err-restore_frame-clause-ends
returns-in_err-restore_frame-clause-ends g c = ends_err _ _ _ _ _ refl c.from_residual.ensures.0 c.loop-i.invariant.steps c.in_err-restore_frame.ensures.ends

pub restore_frame-requires-clause-updating : goal.restore_frame-requires-clause-updating
restore_frame-requires-clause-updating g c = restores_gate _ _ c.loop-i.invariant.restores ∙ c.requires.updating

pub loop-i-init : goal.loop-i-init
loop-i-init g c = record { restores = restores_refl _; restored = λ j less. absurd (omega (arith, less)); stores = stores_refl _ c.requires.closed; steps = steps_refl _; runs = refl }

pub returns-in_err-restore_frame-clause-restored : goal.returns-in_err-restore_frame-clause-restored
returns-in_err-restore_frame-clause-restored g c = not_ok _ c.from_residual.result c.from_residual.ensures.0

pub returns-clause-ends : goal.returns-clause-ends
returns-clause-ends g c = record { steps = c.loop-i.invariant.steps; told = λ e. absurd (not_stopped e); runs = λ n. c.loop-i.invariant.runs }
