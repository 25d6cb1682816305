use Rattle.vista_region.proofs.Common.{◌∙◌, sym, subst, IsRegion, Some, Bool, true, false, refl, ◌≡◌, err_from_is_err_and, IsErrOf}
use Rattle.vista_region.proofs.Ended.{dooming_fits, fits_open}
use Rattle.vista_region.proofs.Outcomes.{is_open}
use Rattle.std.proofs.Common.{le_refl}
use Rattle.rio_base.specs.Blocks.{EndsBy}
use Rattle.rio_model.proofs.UndoRules.{undoes_refl}
use Rattle.undo_list.proofs.Outcomes.{stays_none}
use Rattle.vista_region.specs.Ends.{IsFault, says_done}
use Rattle.vista_region.specs.Marks.{mark_of, set_mark}
use Rattle.vista_region.proofs.Exits.{told_ends, told_quiet, told_active, inactive, doomed_fault, ends_dooming}
use Rattle.vista_region.specs.declared.failures.TxnFail.TheVariants.{Stopped}
use Rattle.vista_region.proofs.open_table.OpenTable.release.Goals as goal

pub returns-clause-fits : goal.returns-clause-fits
returns-clause-fits g c runs =
    let last = g.R.RegionWords.words c.give_block-given.new.r in
    let m = g.R.RegionWords.count c.give_block-given.new.r in
    let given = c.give_block-given.result in
    let open_mark = is_open c.args.self.now c.args.i.0 c.active.result c.in_ok-active.field-0 c.in_ok-active.was c.active.ensures in
    let call = c.give_block-given.ensures in
    let region = subst (λ n. IsRegion n last) (sym call.stays.count) call.before.region in
    dooming_fits c.args.self.now c.dooming.new.self c.args.i.0 m last given region c.dooming.ensures.kept c.dooming.ensures.doomed
    (λ stop. runs (c.dooming.ensures.same ∙ stop))
    (λ told. fits_open c.args.self.now c.args.i.0 m last open_mark region (call.heap told))

pub returns-in_err-active-clause-ends : goal.returns-in_err-active-clause-ends
returns-in_err-active-clause-ends g c =
    let p = err_from_is_err_and c.from_residual.result c.from_residual.ensures.1 in
    inactive _ says_done c.args.self.now c.args.i.0 (g.R.RegionWords.words c.args.r.now) c.active.result c.from_residual.result _ _ c.in_err-active.was p.1 p.2 c.active.ensures

pub returns-in_err-active-clause-table : goal.returns-in_err-active-clause-table
returns-in_err-active-clause-table g c = λ h. refl

pub returns-in_err-active-clause-doomed : goal.returns-in_err-active-clause-doomed
returns-in_err-active-clause-doomed g c =
    let p = err_from_is_err_and c.from_residual.result c.from_residual.ensures.1 in
    told_quiet c.from_residual.result _ (told_active c.args.self.now c.args.i.0 c.active.result c.from_residual.result _ _ c.in_err-active.was p.1 p.2 c.active.ensures)

pub returns-in_err-active-clause-before : goal.returns-in_err-active-clause-before
returns-in_err-active-clause-before g c = undoes_refl (g.R.RegionWords.count c.args.r.now) (g.R.RegionWords.words c.args.r.now) c.requires.fits.region

pub returns-in_err-active-clause-fits : goal.returns-in_err-active-clause-fits
returns-in_err-active-clause-fits g c = λ runs. c.requires.fits

pub returns-in_err-active-clause-stays : goal.returns-in_err-active-clause-stays
returns-in_err-active-clause-stays g c = stays_none c.args.r.now (g.met.R.RegionWords.rest_refl c.args.r.now) c.requires.ready

pub returns-in_err-active-clause-causes : goal.returns-in_err-active-clause-causes
returns-in_err-active-clause-causes g c =
    let p = err_from_is_err_and c.from_residual.result c.from_residual.ensures.1 in
    told_ends _ _ c.from_residual.result (told_active c.args.self.now c.args.i.0 c.active.result c.from_residual.result _ _ c.in_err-active.was p.1 p.2 c.active.ensures) (le_refl _) refl

pub give_block-given-requires-clause-heap : goal.give_block-given-requires-clause-heap
give_block-given-requires-clause-heap g c = c.requires.fits.heap (is_open c.args.self.now c.args.i.0 c.active.result c.in_ok-active.field-0 c.in_ok-active.was c.active.ensures)

pub dooming-requires : goal.dooming-requires
dooming-requires g c = record { some = (false, is_open c.args.self.now c.args.i.0 c.active.result c.in_ok-active.field-0 c.in_ok-active.was c.active.ensures) }

pub returns-clause-ends : goal.returns-clause-ends
returns-clause-ends g c = ends_dooming _ says_done c.args.self.now c.dooming.new.self c.args.i.0 (g.R.RegionWords.words c.args.r.now) (g.R.RegionWords.words c.give_block-given.new.r) c.give_block-given.result c.dooming.result c.dooming.ensures.same c.dooming.ensures.kept (c.give_block-given.ensures.ends c.args.self.now c.args.i.0 (is_open c.args.self.now c.args.i.0 c.active.result c.in_ok-active.field-0 c.in_ok-active.was c.active.ensures))

pub returns-clause-table : goal.returns-clause-table
returns-clause-table g c = λ calm. c.dooming.ensures.kept (λ fault. calm (subst (λ r. IsFault r) (sym c.dooming.ensures.same) fault))

pub returns-clause-doomed : goal.returns-clause-doomed
returns-clause-doomed g c = doomed_fault c.give_block-given.result c.dooming.result (λ k. (k ≡ 0) × ((b : Bool) × (mark_of c.args.self.now c.args.i.0 ≡ Some b)) × (c.dooming.new.self ≡ set_mark c.args.self.now c.args.i.0 (Some true))) c.dooming.ensures.same c.give_block-given.ensures.fault (λ fault. (refl, (false, is_open c.args.self.now c.args.i.0 c.active.result c.in_ok-active.field-0 c.in_ok-active.was c.active.ensures), c.dooming.ensures.doomed fault))

pub returns-clause-causes : goal.returns-clause-causes
returns-clause-causes g c = subst (λ r. EndsBy (g.R.RegionWords.health c.args.r.now) (g.R.RegionWords.health c.give_block-given.new.r) (IsFault r) (IsErrOf r Stopped)) (sym c.dooming.ensures.same) c.give_block-given.ensures.causes
