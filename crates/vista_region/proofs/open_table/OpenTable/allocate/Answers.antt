use Rattle.vista_region.proofs.Common.{◌∙◌, sym, subst, err_from_is_err_and, IsRegion, ℕ, Ok, Some, Bool, true, false, refl, ◌≡◌}
use Rattle.vista_region.proofs.Ended.{dooming_fits, fits_open, not_stopped}
use Rattle.vista_region.proofs.Outcomes.{is_open, ok_apart}
use Rattle.std.proofs.Common.{le_refl}
use Rattle.rio_model.proofs.UndoRules.{undoes_refl}
use Rattle.undo_list.proofs.Outcomes.{stays_none}
use Rattle.rio_requests.specs.RegionAnswers.{alloc_on}
use Rattle.vista_region.specs.Ends.{DoneAs, Fits, TxnEnds, says_number}
use Rattle.vista_region.specs.Marks.{Marks, mark_of, set_mark, txn_in}
use Rattle.vista_region.specs.Regions.{region_now}
use Rattle.vista_region.specs.Steps.{IsTold, says_unit}
use Rattle.vista_region.proofs.Exits.{told_ends, told_quiet, told_active, inactive, ends_as, fault_as, fault_handed, ok_calm, refused_handed, undoes_region}
use Rattle.vista_region.specs.declared.failures.TxnFail.TheVariants.{Stopped}
use Rattle.vista_region.proofs.open_table.OpenTable.allocate.Goals as goal

pub returns-in_err-unit-clause-fits : goal.returns-in_err-unit-clause-fits
returns-in_err-unit-clause-fits g c runs =
    let last = g.R.RegionWords.words c.take_block-taken.new.r in
    let m = g.R.RegionWords.count c.take_block-taken.new.r in
    let taken = c.take_block-taken.result in
    let e = c.in_err-unit.field-0.0 in
    let open_mark = is_open c.args.self.now c.args.i.0 c.active.result c.in_ok-active.field-0 c.in_ok-active.was c.active.ensures in
    let is = sym c.dooming.ensures.same ∙ c.in_err-unit.was in
    let p = err_from_is_err_and c.from_residual-in_err-unit.result c.from_residual-in_err-unit.ensures.1 in
    let call = c.take_block-taken.ensures in
    let region = subst (λ n. IsRegion n last) (sym call.stays.count) call.before.region in
    dooming_fits c.args.self.now c.dooming.new.self c.args.i.0 m last taken region c.dooming.ensures.kept c.dooming.ensures.doomed
    (not_stopped taken c.from_residual-in_err-unit.result e p.0 is p.1 p.2 runs)
    (λ told. fits_open c.args.self.now c.args.i.0 m last open_mark region (call.heap told))

pub returns-in_err-active-clause-ends : goal.returns-in_err-active-clause-ends
returns-in_err-active-clause-ends g c =
    let p = err_from_is_err_and c.from_residual.result c.from_residual.ensures.1 in
    inactive _ says_number c.args.self.now c.args.i.0 (g.R.RegionWords.words c.args.r.now) c.active.result c.from_residual.result _ _ c.in_err-active.was p.1 p.2 c.active.ensures

pub returns-in_err-active-clause-table : goal.returns-in_err-active-clause-table
returns-in_err-active-clause-table g c = λ h. refl

pub returns-in_err-active-clause-doomed : goal.returns-in_err-active-clause-doomed
returns-in_err-active-clause-doomed g c =
    let p = err_from_is_err_and c.from_residual.result c.from_residual.ensures.1 in
    told_quiet c.from_residual.result _ (told_active c.args.self.now c.args.i.0 c.active.result c.from_residual.result _ _ c.in_err-active.was p.1 p.2 c.active.ensures)

pub returns-in_err-active-clause-before : goal.returns-in_err-active-clause-before
returns-in_err-active-clause-before g c = undoes_refl (g.R.RegionWords.count c.args.r.now) (g.R.RegionWords.words c.args.r.now) c.requires.fits.region

pub returns-in_err-active-clause-fits : goal.returns-in_err-active-clause-fits
returns-in_err-active-clause-fits g c = λ runs. c.requires.fits

pub returns-in_err-active-clause-stays : goal.returns-in_err-active-clause-stays
returns-in_err-active-clause-stays g c = stays_none c.args.r.now (g.met.R.RegionWords.rest_refl c.args.r.now) c.requires.ready

pub returns-in_err-active-clause-causes : goal.returns-in_err-active-clause-causes
returns-in_err-active-clause-causes g c =
    let p = err_from_is_err_and c.from_residual.result c.from_residual.ensures.1 in
    told_ends _ _ c.from_residual.result (told_active c.args.self.now c.args.i.0 c.active.result c.from_residual.result _ _ c.in_err-active.was p.1 p.2 c.active.ensures) (le_refl _) refl

pub take_block-taken-requires-clause-heap : goal.take_block-taken-requires-clause-heap
take_block-taken-requires-clause-heap g c = c.requires.fits.heap (is_open c.args.self.now c.args.i.0 c.active.result c.in_ok-active.field-0 c.in_ok-active.was c.active.ensures)

pub dooming-requires : goal.dooming-requires
dooming-requires g c = record { some = (false, is_open c.args.self.now c.args.i.0 c.active.result c.in_ok-active.field-0 c.in_ok-active.was c.active.ensures) }

pub returns-in_err-unit-clause-ends : goal.returns-in_err-unit-clause-ends
returns-in_err-unit-clause-ends g c =
    let p = err_from_is_err_and c.from_residual-in_err-unit.result c.from_residual-in_err-unit.ensures.1 in
    refused_handed _ says_unit says_number c.args.self.now c.dooming.new.self c.args.i.0 (g.R.RegionWords.words c.args.r.now) (g.R.RegionWords.words c.take_block-taken.new.r) c.take_block-taken.result c.from_residual-in_err-unit.result _ _ (sym c.dooming.ensures.same ∙ c.in_err-unit.was) p.1 p.2 c.dooming.ensures.kept (c.take_block-taken.ensures.ends c.args.self.now c.args.i.0 (is_open c.args.self.now c.args.i.0 c.active.result c.in_ok-active.field-0 c.in_ok-active.was c.active.ensures))

pub returns-in_err-unit-clause-table : goal.returns-in_err-unit-clause-table
returns-in_err-unit-clause-table g c =
    let p = err_from_is_err_and c.from_residual-in_err-unit.result c.from_residual-in_err-unit.ensures.1 in
    λ calm. c.dooming.ensures.kept (λ fault. calm (fault_as c.take_block-taken.result c.from_residual-in_err-unit.result _ _ (sym c.dooming.ensures.same ∙ c.in_err-unit.was) p.1 p.2 fault))

pub returns-in_err-unit-clause-doomed : goal.returns-in_err-unit-clause-doomed
returns-in_err-unit-clause-doomed g c =
    let p = err_from_is_err_and c.from_residual-in_err-unit.result c.from_residual-in_err-unit.ensures.1 in
    fault_handed c.take_block-taken.result c.from_residual-in_err-unit.result _ _ (λ k. (k ≡ 0) × ((b : Bool) × (mark_of c.args.self.now c.args.i.0 ≡ Some b)) × (c.dooming.new.self ≡ set_mark c.args.self.now c.args.i.0 (Some true))) (sym c.dooming.ensures.same ∙ c.in_err-unit.was) p.1 p.2 c.take_block-taken.ensures.fault (λ fault. (refl, (false, is_open c.args.self.now c.args.i.0 c.active.result c.in_ok-active.field-0 c.in_ok-active.was c.active.ensures), c.dooming.ensures.doomed fault))

pub returns-in_err-unit-clause-causes : goal.returns-in_err-unit-clause-causes
returns-in_err-unit-clause-causes g c =
    let p = err_from_is_err_and c.from_residual-in_err-unit.result c.from_residual-in_err-unit.ensures.1 in
    ends_as _ _ c.take_block-taken.result c.from_residual-in_err-unit.result _ _ (sym c.dooming.ensures.same ∙ c.in_err-unit.was) p.1 p.2 c.take_block-taken.ensures.causes

pub returns-clause-ends : goal.returns-clause-ends
returns-clause-ends g c =
    let done : DoneAs (alloc_on (region_now (g.R.RegionWords.words c.args.r.now)) (txn_in c.args.self.now c.args.i.0 (g.R.RegionWords.words c.args.r.now)) c.args.units) c.args.self.now c.args.i.0 (g.R.RegionWords.words c.take_block-taken.new.r) (says_unit c.in_ok-unit.unit) = subst (λ r. TxnEnds (alloc_on (region_now (g.R.RegionWords.words c.args.r.now)) (txn_in c.args.self.now c.args.i.0 (g.R.RegionWords.words c.args.r.now)) c.args.units) says_unit c.args.self.now c.args.self.now c.args.i.0 (g.R.RegionWords.words c.args.r.now) (g.R.RegionWords.words c.take_block-taken.new.r) r) (sym c.dooming.ensures.same ∙ c.in_ok-unit.was) (c.take_block-taken.ensures.ends c.args.self.now c.args.i.0 (is_open c.args.self.now c.args.i.0 c.active.result c.in_ok-active.field-0 c.in_ok-active.was c.active.ensures)) in
    subst (λ k. DoneAs (alloc_on (region_now (g.R.RegionWords.words c.args.r.now)) (txn_in c.args.self.now c.args.i.0 (g.R.RegionWords.words c.args.r.now)) c.args.units) c.dooming.new.self c.args.i.0 (g.R.RegionWords.words c.take_block-taken.new.r) (says_unit k)) (sym c.from.ensures) (subst (λ (ms : Marks). DoneAs (alloc_on (region_now (g.R.RegionWords.words c.args.r.now)) (txn_in c.args.self.now c.args.i.0 (g.R.RegionWords.words c.args.r.now)) c.args.units) ms c.args.i.0 (g.R.RegionWords.words c.take_block-taken.new.r) (says_unit c.in_ok-unit.unit)) (sym (c.dooming.ensures.kept (ok_calm c.take_block-taken.result _ (sym c.dooming.ensures.same ∙ c.in_ok-unit.was)))) done)

pub returns-clause-table : goal.returns-clause-table
returns-clause-table g c = λ calm. c.dooming.ensures.kept (ok_calm c.take_block-taken.result _ (sym c.dooming.ensures.same ∙ c.in_ok-unit.was))

pub returns-clause-fits : goal.returns-clause-fits
returns-clause-fits g c =
    let region = undoes_region (g.R.RegionWords.count c.args.r.now) (g.R.RegionWords.count c.take_block-taken.new.r) (g.R.RegionWords.words c.args.r.now) (g.R.RegionWords.words c.take_block-taken.new.r) c.take_block-taken.ensures.stays.count c.take_block-taken.ensures.before in
    λ runs. subst (λ (ms : Marks). Fits ms c.args.i.0 (g.R.RegionWords.count c.take_block-taken.new.r) (g.R.RegionWords.words c.take_block-taken.new.r)) (sym (c.dooming.ensures.kept (ok_calm c.take_block-taken.result _ (sym c.dooming.ensures.same ∙ c.in_ok-unit.was)))) (fits_open c.args.self.now c.args.i.0 (g.R.RegionWords.count c.take_block-taken.new.r) (g.R.RegionWords.words c.take_block-taken.new.r) (is_open c.args.self.now c.args.i.0 c.active.result c.in_ok-active.field-0 c.in_ok-active.was c.active.ensures) region (c.take_block-taken.ensures.heap (subst (λ r. IsTold r) (sym (sym c.dooming.ensures.same ∙ c.in_ok-unit.was)) tt)))

pub returns-clause-causes : goal.returns-clause-causes
returns-clause-causes g c = told_ends {T = ℕ} _ _ (Ok _) tt c.take_block-taken.ensures.causes.later (c.take_block-taken.ensures.causes.runs (λ stop. ok_apart c.in_ok-unit.unit Stopped (sym (sym c.dooming.ensures.same ∙ c.in_ok-unit.was) ∙ stop)))
