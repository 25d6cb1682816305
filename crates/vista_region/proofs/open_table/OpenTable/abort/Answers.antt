use Rattle.vista_region.proofs.Common.{refl, ◌∙◌, sym, ap, not, Ok, Err, true, true_false}
use Rattle.vista_region.proofs.Ended.{abort_done, fits_closed, fits_doomed, mark_set, some_of}
use Rattle.std.proofs.Common.{le_refl}
use Rattle.rio_model.proofs.UndoRules.{undoes_refl}
use Rattle.undo_list.proofs.Outcomes.{stays_none}
use Rattle.rio_requests.specs.RegionAnswers.{abort_on}
use Rattle.vista_region.specs.Failures.{handed}
use Rattle.vista_region.specs.Marks.{mark_of}
use Rattle.vista_region.specs.Regions.{region_now}
use Rattle.vista_region.proofs.Nodes.{unmarked}
use Rattle.vista_region.proofs.Exits.{ends_handed, none_of, told_ends}
use Rattle.vista_region.specs.declared.failures.TxnFail.TheVariants.{Fault, NoTransaction, Stopped}
use Rattle.vista_region.proofs.open_table.OpenTable.abort.Goals as goal

pub returns-then-is_none-clause-ends : goal.returns-then-is_none-clause-ends
returns-then-is_none-clause-ends g c = (ap (abort_on (region_now (g.R.RegionWords.words c.args.r.now))) (unmarked c.args.self.now c.args.i.0 (g.R.RegionWords.words c.args.r.now) (sym c.mark.ensures ∙ none_of c.mark.result (c.is_none.ensures ∙ ap not c.if-is_none.true))), refl, refl)

pub returns-then-is_none-clause-table : goal.returns-then-is_none-clause-table
returns-then-is_none-clause-table g c = λ h calm. refl

pub returns-then-is_none-clause-before : goal.returns-then-is_none-clause-before
returns-then-is_none-clause-before g c = undoes_refl (g.R.RegionWords.count c.args.r.now) (g.R.RegionWords.words c.args.r.now) c.requires.fits.region

pub returns-then-is_none-clause-fits : goal.returns-then-is_none-clause-fits
returns-then-is_none-clause-fits g c = λ runs. c.requires.fits

pub returns-then-is_none-clause-stays : goal.returns-then-is_none-clause-stays
returns-then-is_none-clause-stays g c = stays_none c.args.r.now (g.met.R.RegionWords.rest_refl c.args.r.now) c.requires.ready

pub returns-then-is_none-clause-causes : goal.returns-then-is_none-clause-causes
returns-then-is_none-clause-causes g c = told_ends {T = Unit {0}} _ _ (Err NoTransaction) tt (le_refl _) refl

-- ---- the words are those of before

pub returns-in-Ok-clause-ends : goal.returns-in-Ok-clause-ends
returns-in-Ok-clause-ends g c =
    let n = g.R.RegionWords.count c.args.r.now in
    let f = g.R.RegionWords.words c.args.r.now in
    let last = g.R.RegionWords.words c.rewind.new.r in
    let open_mark = some_of c.mark.result (c.is_none.ensures ∙ ap not c.if-is_none.false) in
    abort_done c.args.self.now c.close.new.self c.args.i.0 n f last open_mark.0 (sym c.mark.ensures ∙ open_mark.1) c.close.ensures.gone c.in-Ok.ensures.ok

pub returns-in-Ok-clause-table : goal.returns-in-Ok-clause-table
returns-in-Ok-clause-table g c = λ h. absurd (true_false (sym h))

pub returns-in-Ok-clause-fits : goal.returns-in-Ok-clause-fits
returns-in-Ok-clause-fits g c = λ runs. fits_closed c.close.new.self c.args.i.0 (g.R.RegionWords.count c.rewind.new.r) (g.R.RegionWords.words c.rewind.new.r) c.close.ensures.gone c.rewind.ensures.region c.in-Ok.ensures.ok.records

pub returns-in-Ok-clause-causes : goal.returns-in-Ok-clause-causes
returns-in-Ok-clause-causes g c = told_ends {T = Unit {0}} _ _ (Ok tt) tt c.rewind.ensures.ends.later c.in-Ok.ensures.ends.cause

-- ---- the disk failed

pub doom-requires : goal.doom-requires
doom-requires g c = record { some = ((some_of c.mark.result (c.is_none.ensures ∙ ap not c.if-is_none.false)).0, sym c.mark.ensures ∙ (some_of c.mark.result (c.is_none.ensures ∙ ap not c.if-is_none.false)).1) }

pub returns-in-Err-Fault-clause-table : goal.returns-in-Err-Fault-clause-table
returns-in-Err-Fault-clause-table g c = λ h calm. absurd (calm tt)

pub returns-in-Err-Fault-clause-doomed : goal.returns-in-Err-Fault-clause-doomed
returns-in-Err-Fault-clause-doomed g c = (refl, ((some_of c.mark.result (c.is_none.ensures ∙ ap not c.if-is_none.false)).0, sym c.mark.ensures ∙ (some_of c.mark.result (c.is_none.ensures ∙ ap not c.if-is_none.false)).1), c.doom.ensures)

pub returns-in-Err-Fault-clause-fits : goal.returns-in-Err-Fault-clause-fits
returns-in-Err-Fault-clause-fits g c = λ runs. fits_doomed c.doom.new.self c.args.i.0 (g.R.RegionWords.count c.rewind.new.r) (g.R.RegionWords.words c.rewind.new.r) (ap (λ ms. mark_of ms c.args.i.0) c.doom.ensures ∙ mark_set c.args.self.now c.args.i.0 true) c.rewind.ensures.region

pub returns-in-Err-Fault-clause-causes : goal.returns-in-Err-Fault-clause-causes
returns-in-Err-Fault-clause-causes g c = ends_handed {T = Unit {0}} {U = Unit {0}} _ _ (Err c.in-Err-Fault.field-0) (Err (Fault 0)) c.in-Err-Fault.field-0 (Fault 0) refl refl (sym (ap handed c.in-Err-Fault.field-0-is)) c.in-Err-Fault.ensures.ends

-- ---- the machine stopped

pub returns-in-Err-Stopped-clause-table : goal.returns-in-Err-Stopped-clause-table
returns-in-Err-Stopped-clause-table g c = λ h calm. refl

pub returns-in-Err-Stopped-clause-fits : goal.returns-in-Err-Stopped-clause-fits
returns-in-Err-Stopped-clause-fits g c = λ runs. absurd (runs refl)

pub returns-in-Err-Stopped-clause-causes : goal.returns-in-Err-Stopped-clause-causes
returns-in-Err-Stopped-clause-causes g c = ends_handed {T = Unit {0}} {U = Unit {0}} _ _ (Err c.in-Err-Stopped.field-0) (Err Stopped) c.in-Err-Stopped.field-0 Stopped refl refl (sym (ap handed c.in-Err-Stopped.field-0-is)) c.in-Err-Stopped.ensures.ends
