use Rattle.std.proofs.Common.{◌<◌, subst, sym}
use Rattle.rio_model.specs.Registry.{HasLayout, frames_of}
use Rattle.std.proofs.lemmas.Result.{err_from_is_err_and}
use Rattle.registry.specs.ViewLaws.{viewed_refl}
use Rattle.warm_reboot.proofs.Examines.{none_made}
use Rattle.warm_reboot.proofs.Looking.{ends_failed, ends_other, ends_still, shape_known}
use Rattle.warm_reboot.proofs.misfits.misfit_of.Goals as goal

pub entry_fits-requires-clause-shape : goal.entry_fits-requires-clause-shape
entry_fits-requires-clause-shape g c = shape_known (g.M.Machine.contents c.args.view.now.machine) (g.M.Machine.run c.args.view.now.machine) _ _ c.requires.owned

pub returns-then-not-is_valid-clause-viewed : goal.returns-then-not-is_valid-clause-viewed
returns-then-not-is_valid-clause-viewed g c = viewed_refl _ _

pub returns-then-not-is_valid-clause-ends : goal.returns-then-not-is_valid-clause-ends
returns-then-not-is_valid-clause-ends g c = ends_still _ _

pub returns-in_err-fits-clause-misfit : goal.returns-in_err-fits-clause-misfit
returns-in_err-fits-clause-misfit g c =
    let p = err_from_is_err_and c.from_residual.result c.from_residual.ensures.1 in
    none_made c.from_residual.result p.0 _ p.1

pub returns-in_err-fits-clause-ends : goal.returns-in_err-fits-clause-ends
returns-in_err-fits-clause-ends g c =
    let p = err_from_is_err_and c.from_residual.result c.from_residual.ensures.1 in
    ends_failed _ _ c.from_residual.result p.0 _ p.1 p.2 c.in_err-fits.ensures.ends

pub returns-then-fits-clause-ends : goal.returns-then-fits-clause-ends
returns-then-fits-clause-ends g c = ends_other _ _ _ _ c.in_ok-fits.ensures.ends

pub returns-clause-ends : goal.returns-clause-ends
returns-clause-ends g c = ends_other _ _ _ _ c.in_ok-fits.ensures.ends

pub read_entry-entry-requires-clause-layout : goal.read_entry-entry-requires-clause-layout
read_entry-entry-requires-clause-layout g c = subst (λ m. HasLayout (g.M.Machine.contents m).words (g.M.Machine.run m).scratch) (sym c.machine.ensures) c.requires.sound.layout

pub read_entry-entry-requires-clause-entry : goal.read_entry-entry-requires-clause-entry
read_entry-entry-requires-clause-entry g c = subst (λ m. c.args.k < frames_of (g.M.Machine.contents m).words) (sym c.machine.ensures) c.requires.entry
