use Rattle.std.proofs.Common.{◌∙◌, arith, refl, sym}
use Rattle.rio_base.proofs.MachineRules.{ends_err, steps_refl, steps_trans}
use Rattle.shadow_pages.proofs.Exits.{not_ok}
use Rattle.shadow_pages.proofs.Steps.{clears_refl, clears_trans, cleared_next, coherent_then, not_stopped}
use Rattle.shadow_pages.proofs.opening.clear_shadows.Goals as goal

pub clear_shadow-requires-clause-coherent : goal.clear_shadow-requires-clause-coherent
clear_shadow-requires-clause-coherent g c = coherent_then _ _ _ _ c.requires.coherent c.loop-i.invariant.clears.keeps c.loop-i.invariant.steps.scratch_count

pub returns-in_err-clear_shadow-clause-clears : goal.returns-in_err-clear_shadow-clause-clears
returns-in_err-clear_shadow-clause-clears g c = clears_trans _ _ _ c.loop-i.invariant.clears c.in_err-clear_shadow.ensures.clears

pub loop-i-preserved : goal.loop-i-preserved
loop-i-preserved g c =
    let before = c.loop-i.invariant in
    let call = c.in_ok-clear_shadow.ensures in
    record {
      clears = clears_trans _ _ _ before.clears call.clears;
      cleared = λ j less. cleared_next _ _ c.args.shadowed.now c.loop-i.i j call.clears before.cleared call.cleared less;
      steps = steps_trans _ _ _ before.steps call.ends.steps;
      runs = call.ends.runs not_stopped ∙ before.runs;
    }

pub returns-in_err-clear_shadow-clause-ends : goal.returns-in_err-clear_shadow-clause-ends
returns-in_err-clear_shadow-clause-ends g c = ends_err _ _ _ _ _ refl c.from_residual.ensures.0 c.loop-i.invariant.steps c.in_err-clear_shadow.ensures.ends

pub clear_shadow-requires-clause-shut : goal.clear_shadow-requires-clause-shut
clear_shadow-requires-clause-shut g c = λ e. c.requires.shut (sym (c.loop-i.invariant.clears.keeps.header 4 (omega arith)) ∙ e)

pub loop-i-init : goal.loop-i-init
loop-i-init g c = record { clears = clears_refl _ c.requires.closed; cleared = λ j less. absurd (omega (arith, less)); steps = steps_refl _; runs = refl }

pub returns-in_err-clear_shadow-clause-cleared : goal.returns-in_err-clear_shadow-clause-cleared
returns-in_err-clear_shadow-clause-cleared g c = not_ok _ c.from_residual.result c.from_residual.ensures.0

pub returns-clause-ends : goal.returns-clause-ends
returns-clause-ends g c = record { steps = c.loop-i.invariant.steps; told = λ e. absurd (not_stopped e); runs = λ n. c.loop-i.invariant.runs }
