use Rattle.vista_region.proofs.Ended.{commit_done, fits_closed}
use Rattle.vista_region.proofs.Outcomes.{is_open}
use Rattle.vista_region.proofs.Common.{Ok, inl, inr, refl, sym, ◌≡◌, true_false, err_from_is_err_and}
use Rattle.std.proofs.Common.{le_refl}
use Rattle.undo_list.proofs.Outcomes.{stays_none}
use Rattle.vista_region.specs.Ends.{says_done}
use Rattle.vista_region.proofs.Exits.{told_ends, told_quiet, told_active, inactive, ends_handed, handed_ends, handed_fault, fits_same, handed_is_fault, either_open}
use Rattle.vista_region.proofs.open_table.OpenTable.commit.Goals as goal

pub returns-clause-ends : goal.returns-clause-ends
returns-clause-ends g c =
    let m = is_open c.args.self.now c.args.i.0 c.active.result c.in_ok-active.field-0 c.in_ok-active.was c.active.ensures in
    commit_done c.args.self.now c.close.new.self c.args.i.0 (g.R.RegionWords.count c.args.r.now) (g.R.RegionWords.words c.args.r.now) (g.R.RegionWords.words c.drop_all.new.r) m c.close.ensures.gone c.in_ok-drop_all.ensures.ok

pub returns-in_err-active-clause-ends : goal.returns-in_err-active-clause-ends
returns-in_err-active-clause-ends g c =
    let p = err_from_is_err_and c.from_residual.result c.from_residual.ensures.1 in
    inactive _ says_done c.args.self.now c.args.i.0 (g.R.RegionWords.words c.args.r.now) c.active.result c.from_residual.result _ _ c.in_err-active.was p.1 p.2 c.active.ensures

pub returns-in_err-active-clause-fault : goal.returns-in_err-active-clause-fault
returns-in_err-active-clause-fault g c =
    let p = err_from_is_err_and c.from_residual.result c.from_residual.ensures.1 in
    told_quiet c.from_residual.result _ (told_active c.args.self.now c.args.i.0 c.active.result c.from_residual.result _ _ c.in_err-active.was p.1 p.2 c.active.ensures)

pub returns-in_err-active-clause-either : goal.returns-in_err-active-clause-either
returns-in_err-active-clause-either g c = inl refl

pub returns-in_err-active-clause-closed : goal.returns-in_err-active-clause-closed
returns-in_err-active-clause-closed g c =
    let p = err_from_is_err_and c.from_residual.result c.from_residual.ensures.1 in
    rw (p.1) tt

pub returns-in_err-active-clause-table : goal.returns-in_err-active-clause-table
returns-in_err-active-clause-table g c = λ h. refl

pub returns-in_err-active-clause-fits : goal.returns-in_err-active-clause-fits
returns-in_err-active-clause-fits g c = λ runs. c.requires.fits

pub returns-in_err-active-clause-stays : goal.returns-in_err-active-clause-stays
returns-in_err-active-clause-stays g c = stays_none c.args.r.now (g.met.R.RegionWords.rest_refl c.args.r.now) c.requires.ready

pub returns-in_err-active-clause-causes : goal.returns-in_err-active-clause-causes
returns-in_err-active-clause-causes g c =
    let p = err_from_is_err_and c.from_residual.result c.from_residual.ensures.1 in
    told_ends _ _ c.from_residual.result (told_active c.args.self.now c.args.i.0 c.active.result c.from_residual.result _ _ c.in_err-active.was p.1 p.2 c.active.ensures) (le_refl _) refl

pub returns-in_err-drop_all-clause-ends : goal.returns-in_err-drop_all-clause-ends
returns-in_err-drop_all-clause-ends g c =
    let p = err_from_is_err_and c.from_residual-in_err-drop_all.result c.from_residual-in_err-drop_all.ensures.1 in
    handed_ends _ says_done c.args.self.now c.args.self.now c.args.i.0 (g.R.RegionWords.words c.args.r.now) (g.R.RegionWords.words c.drop_all.new.r) c.from_residual-in_err-drop_all.result _ _ p.1 p.2

pub returns-in_err-drop_all-clause-fault : goal.returns-in_err-drop_all-clause-fault
returns-in_err-drop_all-clause-fault g c =
    let p = err_from_is_err_and c.from_residual-in_err-drop_all.result c.from_residual-in_err-drop_all.ensures.1 in
    handed_fault c.drop_all.result c.from_residual-in_err-drop_all.result _ _ (λ k. (k ≡ 0) × ((g.R.RegionWords.words c.drop_all.new.r) ≡ (g.R.RegionWords.words c.args.r.now))) c.in_err-drop_all.was p.1 p.2 (λ fault. (refl, c.drop_all.ensures.fault fault))

pub returns-in_err-drop_all-clause-either : goal.returns-in_err-drop_all-clause-either
returns-in_err-drop_all-clause-either g c = either_open (g.R.RegionWords.count c.args.r.now) (g.R.RegionWords.words c.args.r.now) (g.R.RegionWords.words c.drop_all.new.r) _ (is_open c.args.self.now c.args.i.0 c.active.result c.in_ok-active.field-0 c.in_ok-active.was c.active.ensures) c.drop_all.ensures.either

pub returns-in_err-drop_all-clause-closed : goal.returns-in_err-drop_all-clause-closed
returns-in_err-drop_all-clause-closed g c =
    let p = err_from_is_err_and c.from_residual-in_err-drop_all.result c.from_residual-in_err-drop_all.ensures.1 in
    rw (p.1) tt

pub returns-in_err-drop_all-clause-table : goal.returns-in_err-drop_all-clause-table
returns-in_err-drop_all-clause-table g c = λ h. refl

pub returns-in_err-drop_all-clause-fits : goal.returns-in_err-drop_all-clause-fits
returns-in_err-drop_all-clause-fits g c =
    let p = err_from_is_err_and c.from_residual-in_err-drop_all.result c.from_residual-in_err-drop_all.ensures.1 in
    λ runs. fits_same c.args.self.now c.args.i.0 (g.R.RegionWords.count c.args.r.now) (g.R.RegionWords.count c.drop_all.new.r) (g.R.RegionWords.words c.args.r.now) (g.R.RegionWords.words c.drop_all.new.r) c.drop_all.ensures.stays.count (c.drop_all.ensures.fault (handed_is_fault c.drop_all.result c.from_residual-in_err-drop_all.result _ _ c.in_err-drop_all.was p.1 p.2 runs)) c.requires.fits

pub returns-in_err-drop_all-clause-causes : goal.returns-in_err-drop_all-clause-causes
returns-in_err-drop_all-clause-causes g c =
    let p = err_from_is_err_and c.from_residual-in_err-drop_all.result c.from_residual-in_err-drop_all.ensures.1 in
    ends_handed _ _ c.drop_all.result c.from_residual-in_err-drop_all.result _ _ c.in_err-drop_all.was p.1 p.2 c.drop_all.ensures.ends

pub returns-clause-either : goal.returns-clause-either
returns-clause-either g c = inr (is_open c.args.self.now c.args.i.0 c.active.result c.in_ok-active.field-0 c.in_ok-active.was c.active.ensures, c.in_ok-drop_all.ensures.ok)

pub returns-clause-table : goal.returns-clause-table
returns-clause-table g c = λ h. absurd (true_false (sym h))

pub returns-clause-fits : goal.returns-clause-fits
returns-clause-fits g c = λ runs. fits_closed c.close.new.self c.args.i.0 (g.R.RegionWords.count c.drop_all.new.r) (g.R.RegionWords.words c.drop_all.new.r) c.close.ensures.gone c.drop_all.ensures.region c.in_ok-drop_all.ensures.ok.records

pub returns-clause-causes : goal.returns-clause-causes
returns-clause-causes g c = told_ends {T = Unit {0}} _ _ (Ok tt) tt c.drop_all.ensures.ends.later c.in_ok-drop_all.ensures.ends.cause
