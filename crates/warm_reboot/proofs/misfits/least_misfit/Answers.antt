use Rattle.std.proofs.Common.{◌∙◌, ◌≤◌, ℕ, ap, subst}
use Rattle.rio_model.specs.Cover.{stands}
use Rattle.rio_model.specs.Placed.{volume_layout}
use Rattle.rio_model.specs.Registry.{frames_of}
use Rattle.registry.specs.ViewLaws.{viewed_trans}
use Rattle.warm_reboot.proofs.Looking.{ends_viewed, owned_kept}
use Rattle.warm_reboot.proofs.MisfitWalk.{least_all, least_read}
use Rattle.warm_reboot.proofs.misfits.least_misfit.Goals as goal

pub loop-k-preserved : goal.loop-k-preserved
loop-k-preserved g c =
    let before = c.loop-k.invariant in
    record {
      sound = c.misfit_of.ensures.sound;
      viewed = viewed_trans _ _ _ _ _ _ before.viewed c.misfit_of.ensures.viewed;
      least = least_read (g.M.Machine.contents c.args.view.now.machine) (g.M.Machine.contents c.loop-k.view.machine) c.args.shape.now c.loop-k.k c.loop-k.least c.in_ok-misfit.misfit c.lesser-least.result before.viewed.rest before.least c.in_ok-misfit.ensures.misfit c.lesser-least.ensures;
    }

pub returns-clause-misfit : goal.returns-clause-misfit
returns-clause-misfit g c = least_all (volume_layout c.args.shape.now (stands (g.M.Machine.contents c.args.view.now.machine))) (g.M.Machine.contents c.args.view.now.machine).words c.loop-k.k c.loop-k.least
    (subst (λ (n : ℕ). n ≤ c.loop-k.k) (c.frame_count-frames.ensures ∙ ap (λ m. frames_of (g.M.Machine.contents m).words) c.machine.ensures) c.loop-k-test.false) c.loop-k.invariant.least

pub misfit_of-requires-clause-owned : goal.misfit_of-requires-clause-owned
misfit_of-requires-clause-owned g c = owned_kept (g.M.Machine.contents c.args.view.now.machine) (g.M.Machine.contents c.loop-k.view.machine) _ _ c.loop-k.invariant.viewed.rest c.requires.owned

pub returns-in_err-misfit-clause-viewed : goal.returns-in_err-misfit-clause-viewed
returns-in_err-misfit-clause-viewed g c = viewed_trans _ _ _ _ _ _ c.loop-k.invariant.viewed c.misfit_of.ensures.viewed

pub returns-clause-ends : goal.returns-clause-ends
returns-clause-ends g c = ends_viewed _ _ _ _ _ c.loop-k.invariant.viewed
