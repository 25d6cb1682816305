use Rattle.vista_region.proofs.Common.{ℕ, Err, ◌*◌, ◌/◌, ◌≤◌, ◌∙◌, ap, refl, sym, subst, length, err_from_is_err_and, FaultAt, RegionContent, RunFail, CoversAll, Puts, undo_records, words_of, Ok, ◌+◌, arith, stays_trans, map_pages}
use Rattle.rio_requests.specs.RegionAnswers.{put_on}
use Rattle.vista_region.specs.Ends.{OnFault, PutPart, says_number}
use Rattle.vista_region.specs.Marks.{txn_in}
use Rattle.vista_region.specs.Regions.{region_now}
use Rattle.vista_region.proofs.Outcomes.{is_open, refused_at, whole_len}
use Rattle.vista_region.proofs.Puts.{is_no, is_yes, none_put, put_done, put_fits, put_part, put_refused, put_stops, unread}
use Rattle.vista_region.proofs.Spans.{in_data, no_words, past_data}
use Rattle.std.proofs.Common.{le_refl, le_trans}
use Rattle.rio_base.proofs.Rules.{ends_by_after}
use Rattle.rio_model.specs.Undo.{places}
use Rattle.rio_model.proofs.UndoRules.{undoes_refl}
use Rattle.undo_list.proofs.Frames.{undoes_from}
use Rattle.undo_list.proofs.Outcomes.{stays_none}
use Rattle.vista_region.proofs.Exits.{told_ends, told_quiet, told_active, told_words, told_past, inactive, ends_handed, handed_ends, handed_fault, ends_fault, ends_stop, undoes_same, fits_same}
use Rattle.vista_region.specs.declared.failures.TxnFail.TheVariants.{NotCovered}
use Rattle.vista_region.proofs.open_table.OpenTable.put.Goals as goal

pub returns-in_err-whole_words-clause-ends : goal.returns-in_err-whole_words-clause-ends
returns-in_err-whole_words-clause-ends g c =
    let f = g.R.RegionWords.words c.args.r.now in
    let marks = c.args.self.now in
    let i = c.args.i.0 in
    let bytes = c.args.bytes.now in
    let m = is_open marks i c.active.result c.in_ok-active.field-0 c.in_ok-active.was c.active.ensures in
    let p = err_from_is_err_and c.from_residual-in_err-whole_words.result c.from_residual-in_err-whole_words.ensures.1 in
    refused_at (put_on (region_now f) (txn_in marks i f) c.args.off bytes) says_number marks marks i f f c.from_residual-in_err-whole_words.result p.0 c.in_err-whole_words.field-0.0 p.1 p.2 (λ number is. (put_stops marks i f c.args.off bytes number m (no_words f c.args.off (length bytes) c.whole_words.result c.in_err-whole_words.field-0.0 number c.in_err-whole_words.was c.whole_words.ensures is), refl, refl))

pub returns-in_err-header-clause-fault : goal.returns-in_err-header-clause-fault
returns-in_err-header-clause-fault g c =
    let f = g.R.RegionWords.words c.args.r.now in
    let last = g.R.RegionWords.words c.read_header.new.r in
    let marks = c.args.self.now in
    let i = c.args.i.0 in
    let bytes = c.args.bytes.now in
    let defined = put_on (region_now f) (txn_in marks i f) c.args.off bytes in
    let p = err_from_is_err_and c.from_residual-in_err-header.result c.from_residual-in_err-header.ensures.1 in
    subst (λ r. OnFault r (λ k. PutPart defined marks i f last c.args.off bytes k)) (ap (λ z. Err z) (sym p.2) ∙ sym p.1)
    (unread ℕ c.in_err-header.field-0.0 (λ k. PutPart defined marks i f last c.args.off bytes k) (none_put defined marks i f last c.args.off bytes c.in_err-header.ensures.words))

pub returns-in_err-span-clause-ends : goal.returns-in_err-span-clause-ends
returns-in_err-span-clause-ends g c =
    let f = g.R.RegionWords.words c.args.r.now in
    let marks = c.args.self.now in
    let i = c.args.i.0 in
    let bytes = c.args.bytes.now in
    let m = is_open marks i c.active.result c.in_ok-active.field-0 c.in_ok-active.was c.active.ensures in
    let p = err_from_is_err_and c.from_residual-in_err-span.result c.from_residual-in_err-span.ensures.1 in
    refused_at (put_on (region_now f) (txn_in marks i f) c.args.off bytes) says_number marks marks i f (g.R.RegionWords.words c.read_header.new.r) c.from_residual-in_err-span.result p.0 c.in_err-span.field-0.0 p.1 p.2 (λ number is. (put_stops marks i f c.args.off bytes number m (past_data f c.args.off (length bytes) c.in_ok-header.header.«data» c.whole_words.result c.in_ok-whole_words.field-0 c.in_err-span.field-0.0 number c.in_ok-whole_words.was c.whole_words.ensures c.in_ok-header.ensures.header.data_pages c.in_err-span.ensures is), c.in_ok-header.ensures.words, refl))

pub returns-then-not-branch-clause-ends : goal.returns-then-not-branch-clause-ends
returns-then-not-branch-clause-ends g c =
    let f = g.R.RegionWords.words c.args.r.now in
    let marks = c.args.self.now in
    let i = c.args.i.0 in
    let bytes = c.args.bytes.now in
    let span = c.in_ok-span.span in
    let m = is_open marks i c.active.result c.in_ok-active.field-0 c.in_ok-active.was c.active.ensures in
    let none = is_no c.in_ok-covered_from_head.field-0 _ _ c.if-not-branch.true c.in_ok-covered_from_head.ensures.value in
    let at = in_data f c.args.off (length bytes) c.in_ok-header.header.«data» c.whole_words.result c.in_ok-whole_words.field-0 c.in_ok-span.span c.in_ok-whole_words.was c.whole_words.ensures c.in_ok-header.ensures.header.data_pages c.in_ok-span.ensures in
    (put_refused marks i f c.args.off bytes span m at.0 at.1 (subst (λ (w : RegionContent). CoversAll (undo_records w) span.place span.count → ⊥) c.in_ok-header.ensures.words none), c.in_ok-covered_from_head.ensures.words ∙ c.in_ok-header.ensures.words, refl)

pub put_bytes-requires-clause-whole : goal.put_bytes-requires-clause-whole
put_bytes-requires-clause-whole g c = whole_len c.args.off (length c.args.bytes.now) c.whole_words.result c.in_ok-whole_words.field-0 c.in_ok-whole_words.was c.whole_words.ensures

pub returns-in-Ok-clause-ends : goal.returns-in-Ok-clause-ends
returns-in-Ok-clause-ends g c =
    let n = g.R.RegionWords.count c.covered_from_head.new.r in
    let f = g.R.RegionWords.words c.args.r.now in
    let last = g.R.RegionWords.words c.put_bytes.new.r in
    let marks = c.args.self.now in
    let i = c.args.i.0 in
    let bytes = c.args.bytes.now in
    let span = c.in_ok-span.span in
    let m = is_open marks i c.active.result c.in_ok-active.field-0 c.in_ok-active.was c.active.ensures in
    let all = is_yes c.in_ok-covered_from_head.field-0 _ _ c.if-not-branch.false c.in_ok-covered_from_head.ensures.value in
    let same = c.in_ok-covered_from_head.ensures.words ∙ c.in_ok-header.ensures.words in
    let at = in_data f c.args.off (length bytes) c.in_ok-header.header.«data» c.whole_words.result c.in_ok-whole_words.field-0 c.in_ok-span.span c.in_ok-whole_words.was c.whole_words.ensures c.in_ok-header.ensures.header.data_pages c.in_ok-span.ensures in
    put_done marks i n f last c.args.off bytes span m at.0 at.1 (subst (λ (w : RegionContent). CoversAll (undo_records w) span.place span.count) c.in_ok-header.ensures.words all)
    (whole_len c.args.off (length bytes) c.whole_words.result c.in_ok-whole_words.field-0 c.in_ok-whole_words.was c.whole_words.ensures)
    (subst (λ (w : RegionContent). Puts n w last span.place (length bytes / 8) (words_of bytes)) same c.in-Ok.ensures.ok)

pub returns-in-Ok-clause-fits : goal.returns-in-Ok-clause-fits
returns-in-Ok-clause-fits g c runs =
    let n = g.R.RegionWords.count c.covered_from_head.new.r in
    let f = g.R.RegionWords.words c.args.r.now in
    let last = g.R.RegionWords.words c.put_bytes.new.r in
    let marks = c.args.self.now in
    let i = c.args.i.0 in
    let bytes = c.args.bytes.now in
    let span = c.in_ok-span.span in
    let m = is_open marks i c.active.result c.in_ok-active.field-0 c.in_ok-active.was c.active.ensures in
    let same = c.in_ok-covered_from_head.ensures.words ∙ c.in_ok-header.ensures.words in
    let at = in_data f c.args.off (length bytes) c.in_ok-header.header.«data» c.whole_words.result c.in_ok-whole_words.field-0 c.in_ok-span.span c.in_ok-whole_words.was c.whole_words.ensures c.in_ok-header.ensures.header.data_pages c.in_ok-span.ensures in
    put_fits marks i (g.R.RegionWords.count c.args.r.now) n (g.R.RegionWords.count c.put_bytes.new.r) f last c.args.off (length bytes) (length bytes / 8) span (words_of bytes) m c.requires.fits c.in-Ok.ensures.stays.count at.0
    (subst (λ (w : RegionContent). Puts n w last span.place (length bytes / 8) (words_of bytes)) same c.in-Ok.ensures.ok)

pub returns-in-Err-Fault-clause-fault : goal.returns-in-Err-Fault-clause-fault
returns-in-Err-Fault-clause-fault g c =
    let n = g.R.RegionWords.count c.covered_from_head.new.r in
    let f = g.R.RegionWords.words c.args.r.now in
    let last = g.R.RegionWords.words c.put_bytes.new.r in
    let marks = c.args.self.now in
    let i = c.args.i.0 in
    let bytes = c.args.bytes.now in
    let span = c.in_ok-span.span in
    let m = is_open marks i c.active.result c.in_ok-active.field-0 c.in_ok-active.was c.active.ensures in
    let all = is_yes c.in_ok-covered_from_head.field-0 _ _ c.if-not-branch.false c.in_ok-covered_from_head.ensures.value in
    let same = c.in_ok-covered_from_head.ensures.words ∙ c.in_ok-header.ensures.words in
    let fault : (c.in-Err-Fault.words ≤ length bytes / 8) × Puts n (g.R.RegionWords.words c.covered_from_head.new.r) last span.place c.in-Err-Fault.words (words_of bytes) = subst (λ (e : RunFail). FaultAt {T = Unit {0}} (Err e) (λ k. (k ≤ length bytes / 8) × Puts n (g.R.RegionWords.words c.covered_from_head.new.r) last span.place k (words_of bytes))) c.in-Err-Fault.field-0-is c.in-Err-Fault.ensures.fault in
    let at = in_data f c.args.off (length bytes) c.in_ok-header.header.«data» c.whole_words.result c.in_ok-whole_words.field-0 c.in_ok-span.span c.in_ok-whole_words.was c.whole_words.ensures c.in_ok-header.ensures.header.data_pages c.in_ok-span.ensures in
    subst (λ k. PutPart (put_on (region_now f) (txn_in marks i f) c.args.off bytes) marks i f last c.args.off bytes (8 * k)) (sym c.from.ensures)
    (put_part marks i n f last c.args.off c.in-Err-Fault.words bytes span m at.0 at.1 (subst (λ (w : RegionContent). CoversAll (undo_records w) span.place span.count) c.in_ok-header.ensures.words all) fault.0
    (subst (λ (w : RegionContent). Puts n w last span.place c.in-Err-Fault.words (words_of bytes)) same fault.1))

pub returns-in-Err-Fault-clause-fits : goal.returns-in-Err-Fault-clause-fits
returns-in-Err-Fault-clause-fits g c runs =
    let n = g.R.RegionWords.count c.covered_from_head.new.r in
    let f = g.R.RegionWords.words c.args.r.now in
    let last = g.R.RegionWords.words c.put_bytes.new.r in
    let marks = c.args.self.now in
    let i = c.args.i.0 in
    let bytes = c.args.bytes.now in
    let span = c.in_ok-span.span in
    let m = is_open marks i c.active.result c.in_ok-active.field-0 c.in_ok-active.was c.active.ensures in
    let same = c.in_ok-covered_from_head.ensures.words ∙ c.in_ok-header.ensures.words in
    let fault : (c.in-Err-Fault.words ≤ length bytes / 8) × Puts n (g.R.RegionWords.words c.covered_from_head.new.r) last span.place c.in-Err-Fault.words (words_of bytes) = subst (λ (e : RunFail). FaultAt {T = Unit {0}} (Err e) (λ k. (k ≤ length bytes / 8) × Puts n (g.R.RegionWords.words c.covered_from_head.new.r) last span.place k (words_of bytes))) c.in-Err-Fault.field-0-is c.in-Err-Fault.ensures.fault in
    let at = in_data f c.args.off (length bytes) c.in_ok-header.header.«data» c.whole_words.result c.in_ok-whole_words.field-0 c.in_ok-span.span c.in_ok-whole_words.was c.whole_words.ensures c.in_ok-header.ensures.header.data_pages c.in_ok-span.ensures in
    put_fits marks i (g.R.RegionWords.count c.args.r.now) n (g.R.RegionWords.count c.put_bytes.new.r) f last c.args.off (length bytes) c.in-Err-Fault.words span (words_of bytes) m c.requires.fits c.in-Err-Fault.ensures.stays.count at.0
    (subst (λ (w : RegionContent). Puts n w last span.place c.in-Err-Fault.words (words_of bytes)) same fault.1)

pub returns-in_err-active-clause-ends : goal.returns-in_err-active-clause-ends
returns-in_err-active-clause-ends g c =
    let p = err_from_is_err_and c.from_residual.result c.from_residual.ensures.1 in
    inactive _ says_number c.args.self.now c.args.i.0 (g.R.RegionWords.words c.args.r.now) c.active.result c.from_residual.result _ _ c.in_err-active.was p.1 p.2 c.active.ensures

pub returns-in_err-active-clause-fault : goal.returns-in_err-active-clause-fault
returns-in_err-active-clause-fault g c =
    let p = err_from_is_err_and c.from_residual.result c.from_residual.ensures.1 in
    told_quiet c.from_residual.result _ (told_active c.args.self.now c.args.i.0 c.active.result c.from_residual.result _ _ c.in_err-active.was p.1 p.2 c.active.ensures)

pub returns-in_err-active-clause-before : goal.returns-in_err-active-clause-before
returns-in_err-active-clause-before g c = undoes_refl (g.R.RegionWords.count c.args.r.now) (g.R.RegionWords.words c.args.r.now) c.requires.fits.region

pub returns-in_err-active-clause-fits : goal.returns-in_err-active-clause-fits
returns-in_err-active-clause-fits g c = λ runs. c.requires.fits

pub returns-in_err-active-clause-stays : goal.returns-in_err-active-clause-stays
returns-in_err-active-clause-stays g c = stays_none c.args.r.now (g.met.R.RegionWords.rest_refl c.args.r.now) c.requires.ready

pub returns-in_err-active-clause-causes : goal.returns-in_err-active-clause-causes
returns-in_err-active-clause-causes g c =
    let p = err_from_is_err_and c.from_residual.result c.from_residual.ensures.1 in
    told_ends _ _ c.from_residual.result (told_active c.args.self.now c.args.i.0 c.active.result c.from_residual.result _ _ c.in_err-active.was p.1 p.2 c.active.ensures) (le_refl _) refl

pub returns-in_err-whole_words-clause-fault : goal.returns-in_err-whole_words-clause-fault
returns-in_err-whole_words-clause-fault g c =
    let p = err_from_is_err_and c.from_residual-in_err-whole_words.result c.from_residual-in_err-whole_words.ensures.1 in
    told_quiet c.from_residual-in_err-whole_words.result _ (told_words c.args.off (length c.args.bytes.now) c.whole_words.result c.from_residual-in_err-whole_words.result _ _ c.in_err-whole_words.was p.1 p.2 c.whole_words.ensures)

pub returns-in_err-whole_words-clause-before : goal.returns-in_err-whole_words-clause-before
returns-in_err-whole_words-clause-before g c = undoes_refl (g.R.RegionWords.count c.args.r.now) (g.R.RegionWords.words c.args.r.now) c.requires.fits.region

pub returns-in_err-whole_words-clause-fits : goal.returns-in_err-whole_words-clause-fits
returns-in_err-whole_words-clause-fits g c = λ runs. c.requires.fits

pub returns-in_err-whole_words-clause-stays : goal.returns-in_err-whole_words-clause-stays
returns-in_err-whole_words-clause-stays g c = stays_none c.args.r.now (g.met.R.RegionWords.rest_refl c.args.r.now) c.requires.ready

pub returns-in_err-whole_words-clause-causes : goal.returns-in_err-whole_words-clause-causes
returns-in_err-whole_words-clause-causes g c =
    let p = err_from_is_err_and c.from_residual-in_err-whole_words.result c.from_residual-in_err-whole_words.ensures.1 in
    told_ends _ _ c.from_residual-in_err-whole_words.result (told_words c.args.off (length c.args.bytes.now) c.whole_words.result c.from_residual-in_err-whole_words.result _ _ c.in_err-whole_words.was p.1 p.2 c.whole_words.ensures) (le_refl _) refl

pub returns-in_err-header-clause-ends : goal.returns-in_err-header-clause-ends
returns-in_err-header-clause-ends g c =
    let p = err_from_is_err_and c.from_residual-in_err-header.result c.from_residual-in_err-header.ensures.1 in
    handed_ends _ says_number c.args.self.now c.args.self.now c.args.i.0 (g.R.RegionWords.words c.args.r.now) (g.R.RegionWords.words c.read_header.new.r) c.from_residual-in_err-header.result _ _ p.1 p.2

pub returns-in_err-header-clause-before : goal.returns-in_err-header-clause-before
returns-in_err-header-clause-before g c = undoes_same (g.R.RegionWords.count c.args.r.now) (g.R.RegionWords.words c.args.r.now) (g.R.RegionWords.words c.read_header.new.r) c.requires.fits.region c.read_header.ensures.words

pub returns-in_err-header-clause-fits : goal.returns-in_err-header-clause-fits
returns-in_err-header-clause-fits g c = λ runs. fits_same c.args.self.now c.args.i.0 (g.R.RegionWords.count c.args.r.now) (g.R.RegionWords.count c.read_header.new.r) (g.R.RegionWords.words c.args.r.now) (g.R.RegionWords.words c.read_header.new.r) c.read_header.ensures.stays.count c.read_header.ensures.words c.requires.fits

pub returns-in_err-header-clause-causes : goal.returns-in_err-header-clause-causes
returns-in_err-header-clause-causes g c =
    let p = err_from_is_err_and c.from_residual-in_err-header.result c.from_residual-in_err-header.ensures.1 in
    ends_handed _ _ c.read_header.result c.from_residual-in_err-header.result _ _ c.in_err-header.was p.1 p.2 c.read_header.ensures.ends

pub data_span-requires : goal.data_span-requires
data_span-requires g c = omega (arith, g.met.R.RegionWords.small c.args.r.now c.requires.ready, c.requires.fits.region.size, c.in_ok-header.ensures.header.data_pages)

pub returns-in_err-span-clause-fault : goal.returns-in_err-span-clause-fault
returns-in_err-span-clause-fault g c =
    let p = err_from_is_err_and c.from_residual-in_err-span.result c.from_residual-in_err-span.ensures.1 in
    told_quiet c.from_residual-in_err-span.result _ (told_past c.from_residual-in_err-span.result _ _ p.1 p.2 c.in_err-span.ensures.0)

pub returns-in_err-span-clause-before : goal.returns-in_err-span-clause-before
returns-in_err-span-clause-before g c = undoes_same (g.R.RegionWords.count c.args.r.now) (g.R.RegionWords.words c.args.r.now) (g.R.RegionWords.words c.read_header.new.r) c.requires.fits.region c.read_header.ensures.words

pub returns-in_err-span-clause-fits : goal.returns-in_err-span-clause-fits
returns-in_err-span-clause-fits g c = λ runs. fits_same c.args.self.now c.args.i.0 (g.R.RegionWords.count c.args.r.now) (g.R.RegionWords.count c.read_header.new.r) (g.R.RegionWords.words c.args.r.now) (g.R.RegionWords.words c.read_header.new.r) c.read_header.ensures.stays.count c.read_header.ensures.words c.requires.fits

pub returns-in_err-span-clause-causes : goal.returns-in_err-span-clause-causes
returns-in_err-span-clause-causes g c =
    let p = err_from_is_err_and c.from_residual-in_err-span.result c.from_residual-in_err-span.ensures.1 in
    told_ends _ _ c.from_residual-in_err-span.result (told_past c.from_residual-in_err-span.result _ _ p.1 p.2 c.in_err-span.ensures.0) c.read_header.ensures.ends.later c.in_ok-header.ensures.ends.cause

pub covered_from_head-requires-clause-head : goal.covered_from_head-requires-clause-head
covered_from_head-requires-clause-head g c = c.in_ok-header.ensures.header.head ∙ sym (ap (λ (w : RegionContent). w 3) c.read_header.ensures.words)

pub covered_from_head-requires-clause-place : goal.covered_from_head-requires-clause-place
covered_from_head-requires-clause-place g c = subst (λ (w : RegionContent). c.in_ok-span.span.place + c.in_ok-span.span.count ≤ places w) (sym c.read_header.ensures.words) (subst (λ d. c.in_ok-span.span.place + c.in_ok-span.span.count ≤ 512 * (map_pages d + d)) c.in_ok-header.ensures.header.data_pages c.in_ok-span.ensures.within)

pub returns-in_err-covered_from_head-clause-ends : goal.returns-in_err-covered_from_head-clause-ends
returns-in_err-covered_from_head-clause-ends g c =
    let p = err_from_is_err_and c.from_residual-in_err-covered_from_head.result c.from_residual-in_err-covered_from_head.ensures.1 in
    handed_ends _ says_number c.args.self.now c.args.self.now c.args.i.0 (g.R.RegionWords.words c.args.r.now) (g.R.RegionWords.words c.covered_from_head.new.r) c.from_residual-in_err-covered_from_head.result _ _ p.1 p.2

pub returns-in_err-covered_from_head-clause-fault : goal.returns-in_err-covered_from_head-clause-fault
returns-in_err-covered_from_head-clause-fault g c =
    let p = err_from_is_err_and c.from_residual-in_err-covered_from_head.result c.from_residual-in_err-covered_from_head.ensures.1 in
    handed_fault c.covered_from_head.result c.from_residual-in_err-covered_from_head.result _ _ (λ k. PutPart (put_on (region_now (g.R.RegionWords.words c.args.r.now)) (txn_in c.args.self.now c.args.i.0 (g.R.RegionWords.words c.args.r.now)) c.args.off c.args.bytes.now) c.args.self.now c.args.i.0 (g.R.RegionWords.words c.args.r.now) (g.R.RegionWords.words c.covered_from_head.new.r) c.args.off c.args.bytes.now k) c.in_err-covered_from_head.was p.1 p.2 (λ fault. none_put _ c.args.self.now c.args.i.0 (g.R.RegionWords.words c.args.r.now) (g.R.RegionWords.words c.covered_from_head.new.r) c.args.off c.args.bytes.now (c.covered_from_head.ensures.words ∙ c.read_header.ensures.words) 0 refl)

pub returns-in_err-covered_from_head-clause-before : goal.returns-in_err-covered_from_head-clause-before
returns-in_err-covered_from_head-clause-before g c = undoes_same (g.R.RegionWords.count c.args.r.now) (g.R.RegionWords.words c.args.r.now) (g.R.RegionWords.words c.covered_from_head.new.r) c.requires.fits.region (c.covered_from_head.ensures.words ∙ c.read_header.ensures.words)

pub returns-in_err-covered_from_head-clause-fits : goal.returns-in_err-covered_from_head-clause-fits
returns-in_err-covered_from_head-clause-fits g c = λ runs. fits_same c.args.self.now c.args.i.0 (g.R.RegionWords.count c.args.r.now) (g.R.RegionWords.count c.covered_from_head.new.r) (g.R.RegionWords.words c.args.r.now) (g.R.RegionWords.words c.covered_from_head.new.r) (c.covered_from_head.ensures.stays.count ∙ c.read_header.ensures.stays.count) (c.covered_from_head.ensures.words ∙ c.read_header.ensures.words) c.requires.fits

pub returns-in_err-covered_from_head-clause-stays : goal.returns-in_err-covered_from_head-clause-stays
returns-in_err-covered_from_head-clause-stays g c = stays_trans g.met.R.RegionWords.rest_trans c.read_header.ensures.stays c.covered_from_head.ensures.stays

pub returns-in_err-covered_from_head-clause-causes : goal.returns-in_err-covered_from_head-clause-causes
returns-in_err-covered_from_head-clause-causes g c =
    let p = err_from_is_err_and c.from_residual-in_err-covered_from_head.result c.from_residual-in_err-covered_from_head.ensures.1 in
    ends_by_after _ _ _ _ _ c.read_header.ensures.ends.later c.in_ok-header.ensures.ends.cause (ends_handed _ _ c.covered_from_head.result c.from_residual-in_err-covered_from_head.result _ _ c.in_err-covered_from_head.was p.1 p.2 c.covered_from_head.ensures.ends)

pub returns-then-not-branch-clause-before : goal.returns-then-not-branch-clause-before
returns-then-not-branch-clause-before g c = undoes_same (g.R.RegionWords.count c.args.r.now) (g.R.RegionWords.words c.args.r.now) (g.R.RegionWords.words c.covered_from_head.new.r) c.requires.fits.region (c.covered_from_head.ensures.words ∙ c.read_header.ensures.words)

pub returns-then-not-branch-clause-fits : goal.returns-then-not-branch-clause-fits
returns-then-not-branch-clause-fits g c = λ runs. fits_same c.args.self.now c.args.i.0 (g.R.RegionWords.count c.args.r.now) (g.R.RegionWords.count c.covered_from_head.new.r) (g.R.RegionWords.words c.args.r.now) (g.R.RegionWords.words c.covered_from_head.new.r) (c.covered_from_head.ensures.stays.count ∙ c.read_header.ensures.stays.count) (c.covered_from_head.ensures.words ∙ c.read_header.ensures.words) c.requires.fits

pub returns-then-not-branch-clause-stays : goal.returns-then-not-branch-clause-stays
returns-then-not-branch-clause-stays g c = stays_trans g.met.R.RegionWords.rest_trans c.read_header.ensures.stays c.covered_from_head.ensures.stays

pub returns-then-not-branch-clause-causes : goal.returns-then-not-branch-clause-causes
returns-then-not-branch-clause-causes g c = told_ends {T = ℕ} _ _ (Err NotCovered) tt (le_trans c.read_header.ensures.ends.later c.covered_from_head.ensures.ends.later) (c.in_ok-covered_from_head.ensures.ends.cause ∙ c.in_ok-header.ensures.ends.cause)

pub put_bytes-requires-clause-undo : goal.put_bytes-requires-clause-undo
put_bytes-requires-clause-undo g c = c.in_ok-header.ensures.header.undo ∙ sym (ap (λ (w : RegionContent). w 1) (c.covered_from_head.ensures.words ∙ c.read_header.ensures.words))

pub put_bytes-requires-clause-place : goal.put_bytes-requires-clause-place
put_bytes-requires-clause-place g c = subst (λ (w : RegionContent). c.in_ok-span.span.place + length c.args.bytes.now / 8 ≤ places w) (sym (c.covered_from_head.ensures.words ∙ c.read_header.ensures.words)) (subst (λ k. c.in_ok-span.span.place + k ≤ places (g.R.RegionWords.words c.args.r.now)) c.in_ok-span.ensures.count (subst (λ d. c.in_ok-span.span.place + c.in_ok-span.span.count ≤ 512 * (map_pages d + d)) c.in_ok-header.ensures.header.data_pages c.in_ok-span.ensures.within))

pub put_bytes-requires-clause-covered : goal.put_bytes-requires-clause-covered
put_bytes-requires-clause-covered g c =
    let all = is_yes c.in_ok-covered_from_head.field-0 _ _ c.if-not-branch.false c.in_ok-covered_from_head.ensures.value in
    subst (λ k. CoversAll (undo_records (g.R.RegionWords.words c.covered_from_head.new.r)) c.in_ok-span.span.place k) c.in_ok-span.ensures.count (subst (λ (w : RegionContent). CoversAll (undo_records w) c.in_ok-span.span.place c.in_ok-span.span.count) (sym c.covered_from_head.ensures.words) all)

pub returns-in-Ok-clause-before : goal.returns-in-Ok-clause-before
returns-in-Ok-clause-before g c = undoes_from (g.R.RegionWords.count c.args.r.now) (g.R.RegionWords.count c.covered_from_head.new.r) (g.R.RegionWords.words c.covered_from_head.new.r) (g.R.RegionWords.words c.args.r.now) (g.R.RegionWords.words c.put_bytes.new.r) (c.covered_from_head.ensures.words ∙ c.read_header.ensures.words) (c.covered_from_head.ensures.stays.count ∙ c.read_header.ensures.stays.count) c.put_bytes.ensures.keeps.undoes

pub returns-in-Ok-clause-stays : goal.returns-in-Ok-clause-stays
returns-in-Ok-clause-stays g c = stays_trans g.met.R.RegionWords.rest_trans (stays_trans g.met.R.RegionWords.rest_trans c.read_header.ensures.stays c.covered_from_head.ensures.stays) c.put_bytes.ensures.stays

pub returns-in-Err-Fault-clause-before : goal.returns-in-Err-Fault-clause-before
returns-in-Err-Fault-clause-before g c = undoes_from (g.R.RegionWords.count c.args.r.now) (g.R.RegionWords.count c.covered_from_head.new.r) (g.R.RegionWords.words c.covered_from_head.new.r) (g.R.RegionWords.words c.args.r.now) (g.R.RegionWords.words c.put_bytes.new.r) (c.covered_from_head.ensures.words ∙ c.read_header.ensures.words) (c.covered_from_head.ensures.stays.count ∙ c.read_header.ensures.stays.count) c.put_bytes.ensures.keeps.undoes

pub returns-in-Err-Fault-clause-stays : goal.returns-in-Err-Fault-clause-stays
returns-in-Err-Fault-clause-stays g c = stays_trans g.met.R.RegionWords.rest_trans (stays_trans g.met.R.RegionWords.rest_trans c.read_header.ensures.stays c.covered_from_head.ensures.stays) c.put_bytes.ensures.stays

pub returns-in-Err-Stopped-clause-before : goal.returns-in-Err-Stopped-clause-before
returns-in-Err-Stopped-clause-before g c = undoes_from (g.R.RegionWords.count c.args.r.now) (g.R.RegionWords.count c.covered_from_head.new.r) (g.R.RegionWords.words c.covered_from_head.new.r) (g.R.RegionWords.words c.args.r.now) (g.R.RegionWords.words c.put_bytes.new.r) (c.covered_from_head.ensures.words ∙ c.read_header.ensures.words) (c.covered_from_head.ensures.stays.count ∙ c.read_header.ensures.stays.count) c.put_bytes.ensures.keeps.undoes

pub returns-in-Err-Stopped-clause-stays : goal.returns-in-Err-Stopped-clause-stays
returns-in-Err-Stopped-clause-stays g c = stays_trans g.met.R.RegionWords.rest_trans (stays_trans g.met.R.RegionWords.rest_trans c.read_header.ensures.stays c.covered_from_head.ensures.stays) c.put_bytes.ensures.stays

pub returns-in-Err-Stopped-clause-fits : goal.returns-in-Err-Stopped-clause-fits
returns-in-Err-Stopped-clause-fits g c = λ runs. absurd (runs refl)

pub returns-in-Ok-clause-causes : goal.returns-in-Ok-clause-causes
returns-in-Ok-clause-causes g c = told_ends {T = ℕ} _ _ (Ok _) tt (le_trans c.read_header.ensures.ends.later (le_trans c.covered_from_head.ensures.ends.later c.put_bytes.ensures.ends.later)) (c.in-Ok.ensures.ends.cause ∙ (c.in_ok-covered_from_head.ensures.ends.cause ∙ c.in_ok-header.ensures.ends.cause))

pub returns-in-Err-Fault-clause-causes : goal.returns-in-Err-Fault-clause-causes
returns-in-Err-Fault-clause-causes g c = ends_by_after _ _ _ _ _ (le_trans c.read_header.ensures.ends.later c.covered_from_head.ensures.ends.later) (c.in_ok-covered_from_head.ensures.ends.cause ∙ c.in_ok-header.ensures.ends.cause) (ends_fault {T = Unit {0}} _ _ c.in-Err-Fault.field-0 c.in-Err-Fault.words _ c.in-Err-Fault.field-0-is c.in-Err-Fault.ensures.ends)

pub returns-in-Err-Stopped-clause-causes : goal.returns-in-Err-Stopped-clause-causes
returns-in-Err-Stopped-clause-causes g c = ends_by_after _ _ _ _ _ (le_trans c.read_header.ensures.ends.later c.covered_from_head.ensures.ends.later) (c.in_ok-covered_from_head.ensures.ends.cause ∙ c.in_ok-header.ensures.ends.cause) (ends_stop {T = Unit {0}} _ _ c.in-Err-Stopped.field-0 c.in-Err-Stopped.field-0-is c.in-Err-Stopped.ensures.ends)
