use Rattle.vista_region.proofs.Common.{◌≡◌, ℕ, Some, Err, ◌+◌, ◌-◌, ◌*◌, ◌<◌, ◌≤◌, ◌∙◌, ◌++◌, ap, sym, subst, err_from_is_err_and, RegionContent, bytes_in, live, map_pages, refl, stays_trans}
use Rattle.std.specs.Prelude.{IfErr}
use Rattle.rio_base.specs.Rules.{none_some}
use Rattle.rio_requests.specs.RegionAnswers.{get_on}
use Rattle.vista_region.specs.Ends.{get_refusal_of}
use Rattle.vista_region.specs.Marks.{txn_in}
use Rattle.vista_region.specs.Regions.{region_now}
use Rattle.vista_region.proofs.Gets.{get_done, get_past, get_doomed}
use Rattle.vista_region.proofs.Outcomes.{one_number, ok_apart}
use Rattle.std.proofs.Common.{le_refl, le_trans}
use Rattle.rio_base.proofs.Rules.{ends_by_after}
use Rattle.undo_list.proofs.Outcomes.{stays_none}
use Rattle.vista_region.proofs.Exits.{ends_get, ends_read, read_ends, read_doomed, read_past, read_memory, unread_get, memory_get, none_refused}
use Rattle.vista_region.specs.declared.failures.GetFail.TheVariants.{Stopped as GetStopped}
use Rattle.vista_region.proofs.open_table.OpenTable.get.Goals as goal

pub returns-then-not-ends_within-clause-refused : goal.returns-then-not-ends_within-clause-refused
returns-then-not-ends_within-clause-refused g c n is =
    let f = g.R.RegionWords.words c.args.r.now in
    let past = subst (λ p. 4096 * p < c.args.off + c.args.len) c.in_ok-pages.ensures.value c.if-not-ends_within.ensures in
    get_past c.args.self.now c.args.i.0 f c.args.off c.args.len (sym c.is_doomed.ensures ∙ c.if-is_doomed.false) past ∙ ap (λ z. Err z) (one_number 19 n is)

pub returns-in_err-push_bytes-clause-refused : goal.returns-in_err-push_bytes-clause-refused
returns-in_err-push_bytes-clause-refused g c =
    let f = g.R.RegionWords.words c.args.r.now in
    let p = err_from_is_err_and c.from_residual-in_err-push_bytes.result c.from_residual-in_err-push_bytes.ensures.1 in
    let none = ap get_refusal_of p.2 ∙ c.in_err-push_bytes.ensures.told in
    subst (λ r. IfErr r (λ e. (n : ℕ) → get_refusal_of e ≡ Some n → get_on (region_now f) (txn_in c.args.self.now c.args.i.0 f) c.args.off c.args.len ≡ Err n)) (sym p.1) (λ n some. absurd (none_some n (get_refusal_of p.0) none some))

pub returns-clause-ok : goal.returns-clause-ok
returns-clause-ok g c =
    let f = g.R.RegionWords.words c.args.r.now in
    let inside = subst (λ p. c.args.off + c.args.len ≤ 4096 * p) c.in_ok-pages.ensures.value c.if-not-ends_within.ensures in
    let from = c.data_place.ensures ∙ ap (λ p. 512 * map_pages p) c.in_ok-pages.ensures.value in
    let read = subst (λ (w : RegionContent). c.push_bytes.new.out.items ≡ c.in_ok-bytes.bytes.items ++ bytes_in (λ y. live w (c.data_place.result + y)) c.args.off (c.args.off + c.args.len - c.args.off)) c.in_ok-pages.ensures.words c.in_ok-push_bytes.ensures.bytes in
    get_done c.args.self.now c.args.i.0 f c.args.off c.args.len c.data_place.result c.in_ok-bytes.bytes.items c.from.result (sym c.is_doomed.ensures ∙ c.if-is_doomed.false) inside from c.in_ok-bytes.ensures.items (c.from.ensures ∙ read)

pub returns-then-is_doomed-clause-refused : goal.returns-then-is_doomed-clause-refused
returns-then-is_doomed-clause-refused g c = λ n is. get_doomed c.args.self.now c.args.i.0 (g.R.RegionWords.words c.args.r.now) c.args.off c.args.len n (sym c.is_doomed.ensures ∙ c.if-is_doomed.true) is

pub returns-then-is_doomed-clause-stays : goal.returns-then-is_doomed-clause-stays
returns-then-is_doomed-clause-stays g c = stays_none c.args.r.now (g.met.R.RegionWords.rest_refl c.args.r.now) c.requires.ready

pub returns-then-is_doomed-clause-causes : goal.returns-then-is_doomed-clause-causes
returns-then-is_doomed-clause-causes g c = read_doomed _ _ (le_refl _) refl

pub returns-in_err-pages-clause-ok : goal.returns-in_err-pages-clause-ok
returns-in_err-pages-clause-ok g c =
    let p = err_from_is_err_and c.from_residual.result c.from_residual.ensures.1 in
    rw (p.1) tt

pub returns-in_err-pages-clause-refused : goal.returns-in_err-pages-clause-refused
returns-in_err-pages-clause-refused g c =
    let p = err_from_is_err_and c.from_residual.result c.from_residual.ensures.1 in
    none_refused c.from_residual.result (λ n. get_on (region_now (g.R.RegionWords.words c.args.r.now)) (txn_in c.args.self.now c.args.i.0 (g.R.RegionWords.words c.args.r.now)) c.args.off c.args.len ≡ Err n) (unread_get c.from_residual.result _ _ p.1 p.2)

pub returns-in_err-pages-clause-causes : goal.returns-in_err-pages-clause-causes
returns-in_err-pages-clause-causes g c =
    let p = err_from_is_err_and c.from_residual.result c.from_residual.ensures.1 in
    ends_get _ _ c.data_pages.result c.from_residual.result _ _ c.in_err-pages.was p.1 p.2 c.data_pages.ensures.ends

pub returns-then-not-ends_within-clause-causes : goal.returns-then-not-ends_within-clause-causes
returns-then-not-ends_within-clause-causes g c = read_past _ _ c.data_pages.ensures.ends.later c.in_ok-pages.ensures.ends.cause

pub returns-in_err-bytes-clause-ok : goal.returns-in_err-bytes-clause-ok
returns-in_err-bytes-clause-ok g c =
    let p = err_from_is_err_and c.from_residual-in_err-bytes.result c.from_residual-in_err-bytes.ensures.1 in
    rw (p.1) tt

pub returns-in_err-bytes-clause-refused : goal.returns-in_err-bytes-clause-refused
returns-in_err-bytes-clause-refused g c =
    let p = err_from_is_err_and c.from_residual-in_err-bytes.result c.from_residual-in_err-bytes.ensures.1 in
    none_refused c.from_residual-in_err-bytes.result (λ n. get_on (region_now (g.R.RegionWords.words c.args.r.now)) (txn_in c.args.self.now c.args.i.0 (g.R.RegionWords.words c.args.r.now)) c.args.off c.args.len ≡ Err n) (memory_get c.from_residual-in_err-bytes.result _ p.1 p.2)

pub returns-in_err-bytes-clause-causes : goal.returns-in_err-bytes-clause-causes
returns-in_err-bytes-clause-causes g c =
    let p = err_from_is_err_and c.from_residual-in_err-bytes.result c.from_residual-in_err-bytes.ensures.1 in
    read_memory _ _ c.from_residual-in_err-bytes.result _ p.1 p.2 c.data_pages.ensures.ends.later c.in_ok-pages.ensures.ends.cause

pub returns-in_err-push_bytes-clause-ok : goal.returns-in_err-push_bytes-clause-ok
returns-in_err-push_bytes-clause-ok g c =
    let p = err_from_is_err_and c.from_residual-in_err-push_bytes.result c.from_residual-in_err-push_bytes.ensures.1 in
    rw (p.1) tt

pub returns-in_err-push_bytes-clause-causes : goal.returns-in_err-push_bytes-clause-causes
returns-in_err-push_bytes-clause-causes g c =
    let p = err_from_is_err_and c.from_residual-in_err-push_bytes.result c.from_residual-in_err-push_bytes.ensures.1 in
    ends_by_after _ _ _ _ _ c.data_pages.ensures.ends.later c.in_ok-pages.ensures.ends.cause (ends_read _ _ c.push_bytes.result c.from_residual-in_err-push_bytes.result _ _ c.in_err-push_bytes.was p.1 p.2 c.push_bytes.ensures.ends)

pub returns-in_err-push_bytes-clause-words : goal.returns-in_err-push_bytes-clause-words
returns-in_err-push_bytes-clause-words g c = c.push_bytes.ensures.words ∙ c.data_pages.ensures.words

pub returns-in_err-push_bytes-clause-stays : goal.returns-in_err-push_bytes-clause-stays
returns-in_err-push_bytes-clause-stays g c = stays_trans g.met.R.RegionWords.rest_trans c.data_pages.ensures.stays c.push_bytes.ensures.stays

pub returns-clause-words : goal.returns-clause-words
returns-clause-words g c = c.push_bytes.ensures.words ∙ c.data_pages.ensures.words

pub returns-clause-stays : goal.returns-clause-stays
returns-clause-stays g c = stays_trans g.met.R.RegionWords.rest_trans c.data_pages.ensures.stays c.push_bytes.ensures.stays

pub returns-clause-causes : goal.returns-clause-causes
returns-clause-causes g c = read_ends _ _ _ (le_trans c.data_pages.ensures.ends.later c.push_bytes.ensures.ends.later) (c.in_ok-push_bytes.ensures.ends.runs (ok_apart c.in_ok-push_bytes.field-0 GetStopped) ∙ c.in_ok-pages.ensures.ends.cause)
