use Rattle.vista_region.proofs.Common.{◌≡◌, Err, ◌+◌, ◌<◌, ◌≤◌, ◌∙◌, ap, refl, sym, subst, err_from_is_err_and, RegionContent, Rests, taken, undo_records, undo_words, Ok, ◌*◌, arith, stays_trans, map_pages}
use Rattle.rio_model.specs.Undo.{Gains, places}
use Rattle.rio_requests.specs.RegionAnswers.{range_on}
use Rattle.vista_region.specs.Ends.{OnFault, TxnEnds, says_done}
use Rattle.vista_region.specs.Marks.{txn_in}
use Rattle.vista_region.specs.Regions.{region_now}
use Rattle.vista_region.proofs.Outcomes.{is_open, refused_at, ok_apart}
use Rattle.vista_region.proofs.Ranges.{range_done, range_fails, range_faults, range_stops}
use Rattle.vista_region.proofs.Spans.{in_data, no_words, past_data}
use Rattle.std.proofs.Common.{le_refl, le_trans}
use Rattle.rio_base.proofs.Rules.{ends_by_after}
use Rattle.rio_model.proofs.UndoRules.{undoes_refl}
use Rattle.undo_list.proofs.Frames.{undoes_from, either_from}
use Rattle.undo_list.proofs.Outcomes.{stays_none}
use Rattle.undo_list.specs.Records.{IsHeader}
use Rattle.vista_region.proofs.Exits.{told_ends, told_quiet, told_active, told_words, told_past, inactive, ends_handed, handed_ends, handed_fault, ends_undo, undoes_same, fits_same, fits_range}
use Rattle.undo_list.specs.declared.failures.UndoFail.TheVariants.{Stopped as UndoStopped}
use Rattle.vista_region.proofs.open_table.OpenTable.set_range.Goals as goal

pub returns-in_err-whole_words-clause-ends : goal.returns-in_err-whole_words-clause-ends
returns-in_err-whole_words-clause-ends g c =
    let f = g.R.RegionWords.words c.args.r.now in
    let marks = c.args.self.now in
    let i = c.args.i.0 in
    let m = is_open marks i c.active.result c.in_ok-active.field-0 c.in_ok-active.was c.active.ensures in
    let p = err_from_is_err_and c.from_residual-in_err-whole_words.result c.from_residual-in_err-whole_words.ensures.1 in
    refused_at (range_on (region_now f) (txn_in marks i f) c.args.off c.args.len) says_done marks marks i f f c.from_residual-in_err-whole_words.result p.0 c.in_err-whole_words.field-0.0 p.1 p.2 (λ number is. (range_stops marks i f c.args.off c.args.len number m (no_words f c.args.off c.args.len c.whole_words.result c.in_err-whole_words.field-0.0 number c.in_err-whole_words.was c.whole_words.ensures is), refl, refl))

pub returns-in_err-span-clause-ends : goal.returns-in_err-span-clause-ends
returns-in_err-span-clause-ends g c =
    let f = g.R.RegionWords.words c.args.r.now in
    let marks = c.args.self.now in
    let i = c.args.i.0 in
    let m = is_open marks i c.active.result c.in_ok-active.field-0 c.in_ok-active.was c.active.ensures in
    let p = err_from_is_err_and c.from_residual-in_err-span.result c.from_residual-in_err-span.ensures.1 in
    refused_at (range_on (region_now f) (txn_in marks i f) c.args.off c.args.len) says_done marks marks i f (g.R.RegionWords.words c.read_header.new.r) c.from_residual-in_err-span.result p.0 c.in_err-span.field-0.0 p.1 p.2 (λ number is. (range_stops marks i f c.args.off c.args.len number m (past_data f c.args.off c.args.len c.in_ok-header.header.«data» c.whole_words.result c.in_ok-whole_words.field-0 c.in_err-span.field-0.0 number c.in_ok-whole_words.was c.whole_words.ensures c.in_ok-header.ensures.header.data_pages c.in_err-span.ensures is), c.in_ok-header.ensures.words, refl))

pub returns-in_err-set_range_by_header-clause-ends : goal.returns-in_err-set_range_by_header-clause-ends
returns-in_err-set_range_by_header-clause-ends g c =
    let n = g.R.RegionWords.count c.args.r.now in
    let f = g.R.RegionWords.words c.args.r.now in
    let h = g.R.RegionWords.words c.read_header.new.r in
    let last = g.R.RegionWords.words c.set_range_by_header.new.r in
    let marks = c.args.self.now in
    let i = c.args.i.0 in
    let m = is_open marks i c.active.result c.in_ok-active.field-0 c.in_ok-active.was c.active.ensures in
    let p = err_from_is_err_and c.from_residual-in_err-set_range_by_header.result c.from_residual-in_err-set_range_by_header.ensures.1 in
    let same : h ≡ f = c.in_ok-header.ensures.words in
    let call = c.in_err-set_range_by_header.ensures in
    let at = in_data f c.args.off c.args.len c.in_ok-header.header.«data» c.whole_words.result c.in_ok-whole_words.field-0 c.in_ok-span.span c.in_ok-whole_words.was c.whole_words.ensures c.in_ok-header.ensures.header.data_pages c.in_ok-span.ensures in
    subst (λ r. TxnEnds (range_on (region_now f) (txn_in marks i f) c.args.off c.args.len) says_done marks marks i f last r) (ap (λ z. Err z) (sym p.2) ∙ sym p.1)
    (range_fails marks i n f last c.args.off c.args.len c.in_ok-span.span c.in_err-set_range_by_header.field-0.0 m at.0 at.1
    (λ full. subst (λ (w : RegionContent). undo_words w < taken (undo_records w) + 3 + c.in_ok-span.span.count) same (call.full full)) (λ full. call.refused full ∙ same))

pub returns-in_err-set_range_by_header-clause-fault : goal.returns-in_err-set_range_by_header-clause-fault
returns-in_err-set_range_by_header-clause-fault g c =
    let n = g.R.RegionWords.count c.args.r.now in
    let f = g.R.RegionWords.words c.args.r.now in
    let last = g.R.RegionWords.words c.set_range_by_header.new.r in
    let marks = c.args.self.now in
    let i = c.args.i.0 in
    let p = err_from_is_err_and c.from_residual-in_err-set_range_by_header.result c.from_residual-in_err-set_range_by_header.ensures.1 in
    subst (λ r. OnFault r (λ k. (k ≡ 0) × (region_now last ≡ region_now f) × (txn_in marks i last ≡ txn_in marks i f))) (ap (λ z. Err z) (sym p.2) ∙ sym p.1)
    (range_faults marks i (g.R.RegionWords.count c.read_header.new.r) f last c.in_err-set_range_by_header.field-0.0 (λ fault. subst (λ (w : RegionContent). Rests (g.R.RegionWords.count c.read_header.new.r) w last) c.in_ok-header.ensures.words (c.in_err-set_range_by_header.ensures.fault fault)))

pub returns-clause-ends : goal.returns-clause-ends
returns-clause-ends g c =
    let n = g.R.RegionWords.count c.read_header.new.r in
    let f = g.R.RegionWords.words c.args.r.now in
    let last = g.R.RegionWords.words c.set_range_by_header.new.r in
    let marks = c.args.self.now in
    let i = c.args.i.0 in
    let m = is_open marks i c.active.result c.in_ok-active.field-0 c.in_ok-active.was c.active.ensures in
    let span = c.in_ok-span.span in
    let same = c.in_ok-header.ensures.words in
    let call = c.in_ok-set_range_by_header.ensures in
    let at = in_data f c.args.off c.args.len c.in_ok-header.header.«data» c.whole_words.result c.in_ok-whole_words.field-0 c.in_ok-span.span c.in_ok-whole_words.was c.whole_words.ensures c.in_ok-header.ensures.header.data_pages c.in_ok-span.ensures in
    range_done marks i n f last c.args.off c.args.len span m at.0 at.1
    (subst (λ (w : RegionContent). Gains n w last span.place span.count) same call.ok)
    (subst (λ (w : RegionContent). taken (undo_records w) + 3 + span.count ≤ undo_words w) same call.room)

pub returns-in_err-active-clause-ends : goal.returns-in_err-active-clause-ends
returns-in_err-active-clause-ends g c =
    let p = err_from_is_err_and c.from_residual.result c.from_residual.ensures.1 in
    inactive _ says_done c.args.self.now c.args.i.0 (g.R.RegionWords.words c.args.r.now) c.active.result c.from_residual.result _ _ c.in_err-active.was p.1 p.2 c.active.ensures

pub returns-in_err-active-clause-fault : goal.returns-in_err-active-clause-fault
returns-in_err-active-clause-fault g c =
    let p = err_from_is_err_and c.from_residual.result c.from_residual.ensures.1 in
    told_quiet c.from_residual.result _ (told_active c.args.self.now c.args.i.0 c.active.result c.from_residual.result _ _ c.in_err-active.was p.1 p.2 c.active.ensures)

pub returns-in_err-active-clause-before : goal.returns-in_err-active-clause-before
returns-in_err-active-clause-before g c = undoes_refl (g.R.RegionWords.count c.args.r.now) (g.R.RegionWords.words c.args.r.now) c.requires.fits.region

pub returns-in_err-active-clause-fits : goal.returns-in_err-active-clause-fits
returns-in_err-active-clause-fits g c = λ runs. c.requires.fits

pub returns-in_err-active-clause-stays : goal.returns-in_err-active-clause-stays
returns-in_err-active-clause-stays g c = stays_none c.args.r.now (g.met.R.RegionWords.rest_refl c.args.r.now) c.requires.ready

pub returns-in_err-active-clause-causes : goal.returns-in_err-active-clause-causes
returns-in_err-active-clause-causes g c =
    let p = err_from_is_err_and c.from_residual.result c.from_residual.ensures.1 in
    told_ends _ _ c.from_residual.result (told_active c.args.self.now c.args.i.0 c.active.result c.from_residual.result _ _ c.in_err-active.was p.1 p.2 c.active.ensures) (le_refl _) refl

pub returns-in_err-whole_words-clause-fault : goal.returns-in_err-whole_words-clause-fault
returns-in_err-whole_words-clause-fault g c =
    let p = err_from_is_err_and c.from_residual-in_err-whole_words.result c.from_residual-in_err-whole_words.ensures.1 in
    told_quiet c.from_residual-in_err-whole_words.result _ (told_words c.args.off c.args.len c.whole_words.result c.from_residual-in_err-whole_words.result _ _ c.in_err-whole_words.was p.1 p.2 c.whole_words.ensures)

pub returns-in_err-whole_words-clause-before : goal.returns-in_err-whole_words-clause-before
returns-in_err-whole_words-clause-before g c = undoes_refl (g.R.RegionWords.count c.args.r.now) (g.R.RegionWords.words c.args.r.now) c.requires.fits.region

pub returns-in_err-whole_words-clause-fits : goal.returns-in_err-whole_words-clause-fits
returns-in_err-whole_words-clause-fits g c = λ runs. c.requires.fits

pub returns-in_err-whole_words-clause-stays : goal.returns-in_err-whole_words-clause-stays
returns-in_err-whole_words-clause-stays g c = stays_none c.args.r.now (g.met.R.RegionWords.rest_refl c.args.r.now) c.requires.ready

pub returns-in_err-whole_words-clause-causes : goal.returns-in_err-whole_words-clause-causes
returns-in_err-whole_words-clause-causes g c =
    let p = err_from_is_err_and c.from_residual-in_err-whole_words.result c.from_residual-in_err-whole_words.ensures.1 in
    told_ends _ _ c.from_residual-in_err-whole_words.result (told_words c.args.off c.args.len c.whole_words.result c.from_residual-in_err-whole_words.result _ _ c.in_err-whole_words.was p.1 p.2 c.whole_words.ensures) (le_refl _) refl

pub returns-in_err-header-clause-ends : goal.returns-in_err-header-clause-ends
returns-in_err-header-clause-ends g c =
    let p = err_from_is_err_and c.from_residual-in_err-header.result c.from_residual-in_err-header.ensures.1 in
    handed_ends _ says_done c.args.self.now c.args.self.now c.args.i.0 (g.R.RegionWords.words c.args.r.now) (g.R.RegionWords.words c.read_header.new.r) c.from_residual-in_err-header.result _ _ p.1 p.2

pub returns-in_err-header-clause-fault : goal.returns-in_err-header-clause-fault
returns-in_err-header-clause-fault g c =
    let p = err_from_is_err_and c.from_residual-in_err-header.result c.from_residual-in_err-header.ensures.1 in
    handed_fault c.read_header.result c.from_residual-in_err-header.result _ _ (λ k. (k ≡ 0) × (region_now (g.R.RegionWords.words c.read_header.new.r) ≡ region_now (g.R.RegionWords.words c.args.r.now)) × (txn_in c.args.self.now c.args.i.0 (g.R.RegionWords.words c.read_header.new.r) ≡ txn_in c.args.self.now c.args.i.0 (g.R.RegionWords.words c.args.r.now))) c.in_err-header.was p.1 p.2 (λ fault. (refl, ap region_now c.read_header.ensures.words, ap (txn_in c.args.self.now c.args.i.0) c.read_header.ensures.words))

pub returns-in_err-header-clause-before : goal.returns-in_err-header-clause-before
returns-in_err-header-clause-before g c = undoes_same (g.R.RegionWords.count c.args.r.now) (g.R.RegionWords.words c.args.r.now) (g.R.RegionWords.words c.read_header.new.r) c.requires.fits.region c.read_header.ensures.words

pub returns-in_err-header-clause-fits : goal.returns-in_err-header-clause-fits
returns-in_err-header-clause-fits g c = λ runs. fits_same c.args.self.now c.args.i.0 (g.R.RegionWords.count c.args.r.now) (g.R.RegionWords.count c.read_header.new.r) (g.R.RegionWords.words c.args.r.now) (g.R.RegionWords.words c.read_header.new.r) c.read_header.ensures.stays.count c.read_header.ensures.words c.requires.fits

pub returns-in_err-header-clause-causes : goal.returns-in_err-header-clause-causes
returns-in_err-header-clause-causes g c =
    let p = err_from_is_err_and c.from_residual-in_err-header.result c.from_residual-in_err-header.ensures.1 in
    ends_handed _ _ c.read_header.result c.from_residual-in_err-header.result _ _ c.in_err-header.was p.1 p.2 c.read_header.ensures.ends

pub data_span-requires : goal.data_span-requires
data_span-requires g c = omega (arith, g.met.R.RegionWords.small c.args.r.now c.requires.ready, c.requires.fits.region.size, c.in_ok-header.ensures.header.data_pages)

pub returns-in_err-span-clause-fault : goal.returns-in_err-span-clause-fault
returns-in_err-span-clause-fault g c =
    let p = err_from_is_err_and c.from_residual-in_err-span.result c.from_residual-in_err-span.ensures.1 in
    told_quiet c.from_residual-in_err-span.result _ (told_past c.from_residual-in_err-span.result _ _ p.1 p.2 c.in_err-span.ensures.0)

pub returns-in_err-span-clause-before : goal.returns-in_err-span-clause-before
returns-in_err-span-clause-before g c = undoes_same (g.R.RegionWords.count c.args.r.now) (g.R.RegionWords.words c.args.r.now) (g.R.RegionWords.words c.read_header.new.r) c.requires.fits.region c.read_header.ensures.words

pub returns-in_err-span-clause-fits : goal.returns-in_err-span-clause-fits
returns-in_err-span-clause-fits g c = λ runs. fits_same c.args.self.now c.args.i.0 (g.R.RegionWords.count c.args.r.now) (g.R.RegionWords.count c.read_header.new.r) (g.R.RegionWords.words c.args.r.now) (g.R.RegionWords.words c.read_header.new.r) c.read_header.ensures.stays.count c.read_header.ensures.words c.requires.fits

pub returns-in_err-span-clause-causes : goal.returns-in_err-span-clause-causes
returns-in_err-span-clause-causes g c =
    let p = err_from_is_err_and c.from_residual-in_err-span.result c.from_residual-in_err-span.ensures.1 in
    told_ends _ _ c.from_residual-in_err-span.result (told_past c.from_residual-in_err-span.result _ _ p.1 p.2 c.in_err-span.ensures.0) c.read_header.ensures.ends.later c.in_ok-header.ensures.ends.cause

pub set_range_by_header-requires-clause-header : goal.set_range_by_header-requires-clause-header
set_range_by_header-requires-clause-header g c = subst (λ (w : RegionContent). IsHeader w c.in_ok-header.header) (sym c.read_header.ensures.words) c.in_ok-header.ensures.header

pub set_range_by_header-requires-clause-place : goal.set_range_by_header-requires-clause-place
set_range_by_header-requires-clause-place g c = subst (λ (w : RegionContent). c.in_ok-span.span.place + c.in_ok-span.span.count ≤ places w) (sym c.read_header.ensures.words) (subst (λ d. c.in_ok-span.span.place + c.in_ok-span.span.count ≤ 512 * (map_pages d + d)) c.in_ok-header.ensures.header.data_pages c.in_ok-span.ensures.within)

pub returns-in_err-set_range_by_header-clause-before : goal.returns-in_err-set_range_by_header-clause-before
returns-in_err-set_range_by_header-clause-before g c = undoes_from (g.R.RegionWords.count c.args.r.now) (g.R.RegionWords.count c.read_header.new.r) (g.R.RegionWords.words c.read_header.new.r) (g.R.RegionWords.words c.args.r.now) (g.R.RegionWords.words c.set_range_by_header.new.r) c.read_header.ensures.words c.read_header.ensures.stays.count c.set_range_by_header.ensures.before

pub returns-in_err-set_range_by_header-clause-fits : goal.returns-in_err-set_range_by_header-clause-fits
returns-in_err-set_range_by_header-clause-fits g c = λ runs. fits_range c.args.self.now c.args.i.0 (g.R.RegionWords.count c.args.r.now) (g.R.RegionWords.count c.set_range_by_header.new.r) (g.R.RegionWords.words c.args.r.now) (g.R.RegionWords.words c.set_range_by_header.new.r) c.in_ok-span.span.place c.in_ok-span.span.count (is_open c.args.self.now c.args.i.0 c.active.result c.in_ok-active.field-0 c.in_ok-active.was c.active.ensures) c.requires.fits (c.set_range_by_header.ensures.stays.count ∙ c.read_header.ensures.stays.count) (either_from (g.R.RegionWords.count c.args.r.now) (g.R.RegionWords.count c.read_header.new.r) (g.R.RegionWords.words c.read_header.new.r) (g.R.RegionWords.words c.args.r.now) (g.R.RegionWords.words c.set_range_by_header.new.r) c.in_ok-span.span.place c.in_ok-span.span.count c.read_header.ensures.words c.read_header.ensures.stays.count c.set_range_by_header.ensures.either)

pub returns-in_err-set_range_by_header-clause-stays : goal.returns-in_err-set_range_by_header-clause-stays
returns-in_err-set_range_by_header-clause-stays g c = stays_trans g.met.R.RegionWords.rest_trans c.read_header.ensures.stays c.set_range_by_header.ensures.stays

pub returns-in_err-set_range_by_header-clause-causes : goal.returns-in_err-set_range_by_header-clause-causes
returns-in_err-set_range_by_header-clause-causes g c =
    let p = err_from_is_err_and c.from_residual-in_err-set_range_by_header.result c.from_residual-in_err-set_range_by_header.ensures.1 in
    ends_by_after _ _ _ _ _ c.read_header.ensures.ends.later c.in_ok-header.ensures.ends.cause (ends_undo _ _ c.set_range_by_header.result c.from_residual-in_err-set_range_by_header.result _ _ c.in_err-set_range_by_header.was p.1 p.2 c.set_range_by_header.ensures.ends)

pub returns-clause-before : goal.returns-clause-before
returns-clause-before g c = undoes_from (g.R.RegionWords.count c.args.r.now) (g.R.RegionWords.count c.read_header.new.r) (g.R.RegionWords.words c.read_header.new.r) (g.R.RegionWords.words c.args.r.now) (g.R.RegionWords.words c.set_range_by_header.new.r) c.read_header.ensures.words c.read_header.ensures.stays.count c.set_range_by_header.ensures.before

pub returns-clause-fits : goal.returns-clause-fits
returns-clause-fits g c = λ runs. fits_range c.args.self.now c.args.i.0 (g.R.RegionWords.count c.args.r.now) (g.R.RegionWords.count c.set_range_by_header.new.r) (g.R.RegionWords.words c.args.r.now) (g.R.RegionWords.words c.set_range_by_header.new.r) c.in_ok-span.span.place c.in_ok-span.span.count (is_open c.args.self.now c.args.i.0 c.active.result c.in_ok-active.field-0 c.in_ok-active.was c.active.ensures) c.requires.fits (c.set_range_by_header.ensures.stays.count ∙ c.read_header.ensures.stays.count) (either_from (g.R.RegionWords.count c.args.r.now) (g.R.RegionWords.count c.read_header.new.r) (g.R.RegionWords.words c.read_header.new.r) (g.R.RegionWords.words c.args.r.now) (g.R.RegionWords.words c.set_range_by_header.new.r) c.in_ok-span.span.place c.in_ok-span.span.count c.read_header.ensures.words c.read_header.ensures.stays.count c.set_range_by_header.ensures.either)

pub returns-clause-stays : goal.returns-clause-stays
returns-clause-stays g c = stays_trans g.met.R.RegionWords.rest_trans c.read_header.ensures.stays c.set_range_by_header.ensures.stays

pub returns-clause-causes : goal.returns-clause-causes
returns-clause-causes g c = told_ends {T = Unit {0}} _ _ (Ok tt) tt (le_trans c.read_header.ensures.ends.later c.set_range_by_header.ensures.ends.later) (c.in_ok-set_range_by_header.ensures.ends.runs (ok_apart c.in_ok-set_range_by_header.field-0 UndoStopped) ∙ c.in_ok-header.ensures.ends.cause)
