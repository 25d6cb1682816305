use Rattle.page_restore.proofs.Common.{List, ap, length, refl, subst, sym, ℕ, ◌<◌, tag_at, tag_block}
use Rattle.std.specs.Prelude.{Err}
use Rattle.std.proofs.lemmas.Result.{err_from_is_err_and}
use Rattle.rio_model.specs.declared.census.Owner.{Owner}
use Rattle.rio_model.specs.Censuses.{HasOwners}
use Rattle.rio_model.specs.Cover.{stands}
use Rattle.rio_model.specs.Placed.{volume_layout}
use Rattle.rio_model.specs.Registry.{HasLayout, IsValid}
use Rattle.registry.specs.ViewLaws.{viewed_trans}
use Rattle.page_restore.specs.Stale.{MarksStale}
use Rattle.warm_reboot.proofs.Examines.{blocks_owned, fails_so, fails_twelve, is_examined, kinds_read, list_failed, marks_read, misfit_failed, none_made, owners_read, regions_read, shape_read, volume_failed}
use Rattle.warm_reboot.proofs.examining.look_at_pair.Goals as goal

pub returns-in-Some-clause-unexamined : goal.returns-in-Some-clause-unexamined
returns-in-Some-clause-unexamined g c = (
  c.requires.sound.rules,
  fails_twelve (g.M.Machine.contents c.args.view.now.machine) (g.M.Machine.contents c.look_at_volume.new.v.machine) c.in_ok-census.census c.in_ok-block.field-0 c.in-Some.block c.in_ok-census.ensures.ok c.in_ok-census.ensures.passes.rest c.in_ok-block.ensures.misfit c.in-Some.is,
)

pub returns-in-Some-clause-viewed : goal.returns-in-Some-clause-viewed
returns-in-Some-clause-viewed g c = viewed_trans _ _ _ _ _ _ c.in_ok-census.ensures.passes c.least_misfit.ensures.viewed

pub returns-clause-examined : goal.returns-clause-examined
returns-clause-examined g c = is_examined (g.M.Machine.contents c.args.view.now.machine) (g.M.Machine.contents c.look_at_volume.new.v.machine) c.in_ok-census.census c.in_ok-block.field-0 c.requires.sound.rules c.in_ok-census.ensures.ok c.in_ok-census.ensures.passes.rest c.in_ok-block.ensures.misfit c.in_default.not-Some

pub list_regions-requires-clause-shape : goal.list_regions-requires-clause-shape
list_regions-requires-clause-shape g c = shape_read (g.M.Machine.contents c.args.view.now.machine) (g.M.Machine.contents c.least_misfit.new.view.machine) (g.M.Machine.run c.least_misfit.new.view.machine) c.in_ok-census.census c.in_ok-census.ensures.ok (viewed_trans _ _ _ _ _ _ c.in_ok-census.ensures.passes c.least_misfit.ensures.viewed).rest

pub list_regions-requires-clause-kinds : goal.list_regions-requires-clause-kinds
list_regions-requires-clause-kinds g c = kinds_read (g.M.Machine.contents c.args.view.now.machine) (g.M.Machine.contents c.least_misfit.new.view.machine) c.in_ok-census.census c.in_ok-census.ensures.ok (viewed_trans _ _ _ _ _ _ c.in_ok-census.ensures.passes c.least_misfit.ensures.viewed).rest

pub returns-clause-marks : goal.returns-clause-marks
returns-clause-marks g c =
    let l = volume_layout c.in_ok-census.census.shape (stands (g.M.Machine.contents c.args.view.now.machine)) in
    let has = subst (λ (xs : List Owner). HasOwners l xs) (sym c.deref-2.ensures.value) c.in_ok-census.ensures.owners in
    marks_read (g.M.Machine.contents c.args.view.now.machine) (g.M.Machine.contents c.list_regions.new.v.machine) l c.in_ok-marks.marks.items (viewed_trans _ _ _ _ _ _ (viewed_trans _ _ _ _ _ _ c.in_ok-census.ensures.passes c.least_misfit.ensures.viewed) c.list_regions.ensures.passes).rest
    (subst (λ m. MarksStale l (g.M.Machine.contents m).words c.in_ok-marks.marks.items) c.machine.ensures (c.in_ok-marks.ensures l has))

pub returns-clause-regions : goal.returns-clause-regions
returns-clause-regions g c = regions_read (g.M.Machine.contents c.args.view.now.machine) (g.M.Machine.contents c.least_misfit.new.view.machine) c.in_ok-census.census.shape _ (viewed_trans _ _ _ _ _ _ c.in_ok-census.ensures.passes c.least_misfit.ensures.viewed).rest c.in_ok-regions.ensures.list

pub returns-clause-viewed : goal.returns-clause-viewed
returns-clause-viewed g c = viewed_trans _ _ _ _ _ _ (viewed_trans _ _ _ _ _ _ c.in_ok-census.ensures.passes c.least_misfit.ensures.viewed) c.list_regions.ensures.passes

pub returns-in_err-regions-clause-viewed : goal.returns-in_err-regions-clause-viewed
returns-in_err-regions-clause-viewed g c = viewed_trans _ _ _ _ _ _ (viewed_trans _ _ _ _ _ _ c.in_ok-census.ensures.passes c.least_misfit.ensures.viewed) c.list_regions.ensures.passes

pub returns-in_err-marks-clause-viewed : goal.returns-in_err-marks-clause-viewed
returns-in_err-marks-clause-viewed g c = viewed_trans _ _ _ _ _ _ (viewed_trans _ _ _ _ _ _ c.in_ok-census.ensures.passes c.least_misfit.ensures.viewed) c.list_regions.ensures.passes

-- ---- what is asked of the calls

pub look_at_volume-requires-clause-bare : goal.look_at_volume-requires-clause-bare
look_at_volume-requires-clause-bare g c = λ y b viewed. refl

pub least_misfit-requires-clause-owned : goal.least_misfit-requires-clause-owned
least_misfit-requires-clause-owned g c = owners_read (g.M.Machine.contents c.args.view.now.machine) (g.M.Machine.contents c.look_at_volume.new.v.machine) c.in_ok-census.census c.in_ok-census.owners.items c.deref.result.now c.in_ok-census.ensures.ok c.in_ok-census.ensures.passes.rest c.deref.ensures.value c.in_ok-census.ensures.owners

pub mark_stale-requires-clause-layout : goal.mark_stale-requires-clause-layout
mark_stale-requires-clause-layout g c = subst (λ m. HasLayout (g.M.Machine.contents m).words (g.M.Machine.run m).scratch) (sym c.machine.ensures) c.list_regions.ensures.sound.layout

pub mark_stale-requires-clause-within : goal.mark_stale-requires-clause-within
mark_stale-requires-clause-within g c =
    let kept = (viewed_trans _ _ _ _ _ _ (viewed_trans _ _ _ _ _ _ c.in_ok-census.ensures.passes c.least_misfit.ensures.viewed) c.list_regions.ensures.passes).rest in
    subst (λ m. (k : ℕ) → IsValid (g.M.Machine.contents m).words k → tag_block (tag_at (g.M.Machine.contents m).words k) < length c.deref-2.result.now) (sym c.machine.ensures)
    (blocks_owned (g.M.Machine.contents c.args.view.now.machine) (g.M.Machine.contents c.look_at_volume.new.v.machine) (g.M.Machine.contents c.list_regions.new.v.machine) c.in_ok-census.census c.in_ok-block.field-0 c.in_ok-census.owners.items c.deref-2.result.now c.in_ok-census.ensures.ok c.in_ok-census.ensures.passes.rest c.in_ok-block.ensures.misfit c.in_default.not-Some kept c.deref-2.ensures.value c.in_ok-census.ensures.owners)

-- ---- a part of the look failed

pub returns-in_err-census-clause-examined : goal.returns-in_err-census-clause-examined
returns-in_err-census-clause-examined g c =
    let p = err_from_is_err_and c.from_residual.result c.from_residual.ensures.1 in
    none_made c.from_residual.result p.0 _ p.1

pub returns-in_err-census-clause-marks : goal.returns-in_err-census-clause-marks
returns-in_err-census-clause-marks g c =
    let p = err_from_is_err_and c.from_residual.result c.from_residual.ensures.1 in
    none_made c.from_residual.result p.0 _ p.1

pub returns-in_err-census-clause-regions : goal.returns-in_err-census-clause-regions
returns-in_err-census-clause-regions g c =
    let p = err_from_is_err_and c.from_residual.result c.from_residual.ensures.1 in
    none_made c.from_residual.result p.0 _ p.1

pub returns-in_err-census-clause-unexamined : goal.returns-in_err-census-clause-unexamined
returns-in_err-census-clause-unexamined g c =
    let p = err_from_is_err_and c.from_residual.result c.from_residual.ensures.1 in
    fails_so (g.M.Machine.contents c.args.view.now.machine) (g.M.Machine.contents c.look_at_volume.new.v.machine) (g.M.Machine.run c.look_at_volume.new.v.machine) c.from_residual.result p.0 _ p.1 p.2 (volume_failed (g.M.Machine.contents c.args.view.now.machine) (g.M.Machine.contents c.look_at_volume.new.v.machine) (g.M.Machine.run c.look_at_volume.new.v.machine) _ c.requires.sound.rules c.in_err-census.ensures.refused (λ e. c.in_err-census.ensures.ends.cause (ap Err e)) (λ e. c.in_err-census.ensures.ends.told (ap Err e)))

pub returns-in_err-block-clause-examined : goal.returns-in_err-block-clause-examined
returns-in_err-block-clause-examined g c =
    let p = err_from_is_err_and c.from_residual-in_err-block.result c.from_residual-in_err-block.ensures.1 in
    none_made c.from_residual-in_err-block.result p.0 _ p.1

pub returns-in_err-block-clause-marks : goal.returns-in_err-block-clause-marks
returns-in_err-block-clause-marks g c =
    let p = err_from_is_err_and c.from_residual-in_err-block.result c.from_residual-in_err-block.ensures.1 in
    none_made c.from_residual-in_err-block.result p.0 _ p.1

pub returns-in_err-block-clause-regions : goal.returns-in_err-block-clause-regions
returns-in_err-block-clause-regions g c =
    let p = err_from_is_err_and c.from_residual-in_err-block.result c.from_residual-in_err-block.ensures.1 in
    none_made c.from_residual-in_err-block.result p.0 _ p.1

pub returns-in_err-block-clause-unexamined : goal.returns-in_err-block-clause-unexamined
returns-in_err-block-clause-unexamined g c =
    let p = err_from_is_err_and c.from_residual-in_err-block.result c.from_residual-in_err-block.ensures.1 in
    fails_so (g.M.Machine.contents c.args.view.now.machine) (g.M.Machine.contents c.least_misfit.new.view.machine) (g.M.Machine.run c.least_misfit.new.view.machine) c.from_residual-in_err-block.result p.0 _ p.1 p.2 (misfit_failed (g.M.Machine.contents c.args.view.now.machine) (g.M.Machine.contents c.look_at_volume.new.v.machine) (g.M.Machine.contents c.least_misfit.new.view.machine) (g.M.Machine.run c.look_at_volume.new.v.machine) (g.M.Machine.run c.least_misfit.new.view.machine) _ c.in_ok-census.ensures.passes.faults.later c.in_err-block.ensures.ends)

pub returns-in_err-regions-clause-examined : goal.returns-in_err-regions-clause-examined
returns-in_err-regions-clause-examined g c =
    let p = err_from_is_err_and c.from_residual-in_err-regions.result c.from_residual-in_err-regions.ensures.1 in
    none_made c.from_residual-in_err-regions.result p.0 _ p.1

pub returns-in_err-regions-clause-marks : goal.returns-in_err-regions-clause-marks
returns-in_err-regions-clause-marks g c =
    let p = err_from_is_err_and c.from_residual-in_err-regions.result c.from_residual-in_err-regions.ensures.1 in
    none_made c.from_residual-in_err-regions.result p.0 _ p.1

pub returns-in_err-regions-clause-regions : goal.returns-in_err-regions-clause-regions
returns-in_err-regions-clause-regions g c =
    let p = err_from_is_err_and c.from_residual-in_err-regions.result c.from_residual-in_err-regions.ensures.1 in
    none_made c.from_residual-in_err-regions.result p.0 _ p.1

pub returns-in_err-regions-clause-unexamined : goal.returns-in_err-regions-clause-unexamined
returns-in_err-regions-clause-unexamined g c =
    let p = err_from_is_err_and c.from_residual-in_err-regions.result c.from_residual-in_err-regions.ensures.1 in
    fails_so (g.M.Machine.contents c.args.view.now.machine) (g.M.Machine.contents c.list_regions.new.v.machine) (g.M.Machine.run c.list_regions.new.v.machine) c.from_residual-in_err-regions.result p.0 _ p.1 p.2 (list_failed (g.M.Machine.contents c.args.view.now.machine) (g.M.Machine.contents c.least_misfit.new.view.machine) (g.M.Machine.contents c.list_regions.new.v.machine) (g.M.Machine.run c.list_regions.new.v.machine) _ (viewed_trans _ _ _ _ _ _ c.in_ok-census.ensures.passes c.least_misfit.ensures.viewed).faults.later (λ e. c.in_err-regions.ensures.ends.cause (ap Err e)) (λ e. c.in_err-regions.ensures.ends.told (ap Err e)))

pub returns-in_err-marks-clause-examined : goal.returns-in_err-marks-clause-examined
returns-in_err-marks-clause-examined g c =
    let p = err_from_is_err_and c.from_residual-in_err-marks.result c.from_residual-in_err-marks.ensures.1 in
    none_made c.from_residual-in_err-marks.result p.0 _ p.1

pub returns-in_err-marks-clause-marks : goal.returns-in_err-marks-clause-marks
returns-in_err-marks-clause-marks g c =
    let p = err_from_is_err_and c.from_residual-in_err-marks.result c.from_residual-in_err-marks.ensures.1 in
    none_made c.from_residual-in_err-marks.result p.0 _ p.1

pub returns-in_err-marks-clause-regions : goal.returns-in_err-marks-clause-regions
returns-in_err-marks-clause-regions g c =
    let p = err_from_is_err_and c.from_residual-in_err-marks.result c.from_residual-in_err-marks.ensures.1 in
    none_made c.from_residual-in_err-marks.result p.0 _ p.1

pub returns-in_err-marks-clause-unexamined : goal.returns-in_err-marks-clause-unexamined
returns-in_err-marks-clause-unexamined g c =
    let p = err_from_is_err_and c.from_residual-in_err-marks.result c.from_residual-in_err-marks.ensures.1 in
    fails_so (g.M.Machine.contents c.args.view.now.machine) (g.M.Machine.contents c.list_regions.new.v.machine) (g.M.Machine.run c.list_regions.new.v.machine) c.from_residual-in_err-marks.result p.0 _ p.1 p.2 tt

pub returns-in_err-block-clause-viewed : goal.returns-in_err-block-clause-viewed
returns-in_err-block-clause-viewed g c = viewed_trans _ _ _ _ _ _ c.in_ok-census.ensures.passes c.least_misfit.ensures.viewed
