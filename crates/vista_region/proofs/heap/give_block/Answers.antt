use Rattle.vista_region.proofs.Common.{ℕ, Err, ◌≡◌, ◌<◌, ◌≤◌, ◌+◌, ◌*◌, ◌/◌, ◌∙◌, ap, sym, subst, refl, arith, err_from_is_err_and, heap_blocks, units_of, live, taken, undo_records, undo_words, Ok, inl, inr}
use Rattle.rio_model.specs.Heap.{IsBlock, Releases, touched_pages, without_block}
use Rattle.rio_requests.specs.RegionAnswers.{free_on}
use Rattle.vista_region.specs.Ends.{TxnEnds, says_done}
use Rattle.vista_region.specs.Marks.{txn_in}
use Rattle.vista_region.specs.Regions.{region_now}
use Rattle.vista_region.proofs.Blocks.{at_least, free_done, free_fails, no_start, past_all}
use Rattle.std.proofs.Common.{le_refl}
use Rattle.rio_model.proofs.UndoRules.{undoes_refl}
use Rattle.undo_list.proofs.Outcomes.{stays_none}
use Rattle.vista_region.proofs.Outcomes.{ok_apart}
use Rattle.vista_region.proofs.Exits.{told_ends, ends_heap, heap_fault, heap_stays}
use Rattle.recov_alloc.specs.declared.failures.HeapFail.TheVariants.{Stopped as HeapStopped}
use Rattle.vista_region.specs.declared.failures.TxnFail.TheVariants.{NotBlock}
use Rattle.vista_region.proofs.heap.give_block.Goals as goal

pub returns-in_default-clause-ends : goal.returns-in_default-clause-ends
returns-in_default-clause-ends g c marks i m =
    let f = g.R.RegionWords.words c.args.r.now in
    let small = g.met.R.RegionWords.small c.args.r.now c.requires.ready in
    let size = c.requires.region.size in
    let past = at_least (c.args.at / 64) 4294967296 c.in_default.ensures in
    (no_start marks i f c.args.at m c.requires.heap c.if-at-ne0.false (past_all f (c.args.at / 64) (omega (arith, small, size, past))), refl, refl)

pub returns-in_err-release-clause-ends : goal.returns-in_err-release-clause-ends
returns-in_err-release-clause-ends g c marks i m =
    let f = g.R.RegionWords.words c.args.r.now in
    let last = g.R.RegionWords.words c.release.new.r in
    let p = err_from_is_err_and c.from_residual.result c.from_residual.ensures.1 in
    let call = c.in_err-release.ensures in
    let at = c.in-Ok.ensures.1 in
    subst (λ r. TxnEnds (free_on (region_now f) (txn_in marks i f) c.args.at) says_done marks marks i f last r) (ap (λ z. Err z) (sym p.2) ∙ sym p.1)
    (free_fails marks i f last c.args.at c.in_err-release.field-0.0 m c.requires.heap c.if-at-ne0.false
    (λ none. subst (λ t. (n : ℕ) → IsBlock (live f) (units_of f) t n → ⊥) at (call.not_block none))
    (λ full. subst (λ t. (n : ℕ) × IsBlock (live f) (units_of f) t n × (undo_words f < taken (undo_records f) + 3 + 2 * touched_pages t n)) at (call.undo_full full))
    call.refused call.full)

pub returns-clause-ends : goal.returns-clause-ends
returns-clause-ends g c marks i m =
    let f = g.R.RegionWords.words c.args.r.now in
    let last = g.R.RegionWords.words c.release.new.r in
    let call = c.in_ok-release.ensures in
    let at = c.in-Ok.ensures.1 in
    let done = subst (λ t. (n : ℕ) × Releases f last n t × (taken (undo_records f) + 3 + 2 * touched_pages t n ≤ undo_words f)) at call.ok in
    free_done marks i (g.R.RegionWords.count c.args.r.now) f last c.args.at done.0 m c.if-at-ne0.false done.1 done.2 call.before
    (subst (λ t. heap_blocks (live last) (units_of f) ≡ without_block (heap_blocks (live f) (units_of f)) t) at call.listed)

pub returns-then-at-ne0-clause-heap : goal.returns-then-at-ne0-clause-heap
returns-then-at-ne0-clause-heap g c = λ told. c.requires.heap

pub returns-then-at-ne0-clause-before : goal.returns-then-at-ne0-clause-before
returns-then-at-ne0-clause-before g c = undoes_refl (g.R.RegionWords.count c.args.r.now) (g.R.RegionWords.words c.args.r.now) c.requires.region

pub returns-then-at-ne0-clause-stays : goal.returns-then-at-ne0-clause-stays
returns-then-at-ne0-clause-stays g c = stays_none c.args.r.now (g.met.R.RegionWords.rest_refl c.args.r.now) c.requires.ready

pub returns-then-at-ne0-clause-causes : goal.returns-then-at-ne0-clause-causes
returns-then-at-ne0-clause-causes g c = told_ends {T = Unit {0}} _ _ (Err NotBlock) tt (le_refl _) refl

pub returns-in_default-clause-heap : goal.returns-in_default-clause-heap
returns-in_default-clause-heap g c = λ told. c.requires.heap

pub returns-in_default-clause-before : goal.returns-in_default-clause-before
returns-in_default-clause-before g c = undoes_refl (g.R.RegionWords.count c.args.r.now) (g.R.RegionWords.words c.args.r.now) c.requires.region

pub returns-in_default-clause-stays : goal.returns-in_default-clause-stays
returns-in_default-clause-stays g c = stays_none c.args.r.now (g.met.R.RegionWords.rest_refl c.args.r.now) c.requires.ready

pub returns-in_default-clause-causes : goal.returns-in_default-clause-causes
returns-in_default-clause-causes g c = told_ends {T = Unit {0}} _ _ (Err NotBlock) tt (le_refl _) refl

pub returns-in_err-release-clause-fault : goal.returns-in_err-release-clause-fault
returns-in_err-release-clause-fault g c =
    let p = err_from_is_err_and c.from_residual.result c.from_residual.ensures.1 in
    heap_fault c.from_residual.result _ _ p.1 p.2

pub returns-in_err-release-clause-heap : goal.returns-in_err-release-clause-heap
returns-in_err-release-clause-heap g c =
    let p = err_from_is_err_and c.from_residual.result c.from_residual.ensures.1 in
    heap_stays c.release.result c.from_residual.result _ _ (g.R.RegionWords.words c.args.r.now) (g.R.RegionWords.words c.release.new.r) c.in_err-release.was p.1 p.2 (λ x. absurd (c.release.ensures.full x)) (λ x. c.release.ensures.refused (inl x)) (λ x. c.release.ensures.refused (inr x)) c.requires.heap

pub returns-in_err-release-clause-causes : goal.returns-in_err-release-clause-causes
returns-in_err-release-clause-causes g c =
    let p = err_from_is_err_and c.from_residual.result c.from_residual.ensures.1 in
    ends_heap _ _ c.release.result c.from_residual.result _ _ c.in_err-release.was p.1 p.2 c.release.ensures.ends

pub returns-clause-heap : goal.returns-clause-heap
returns-clause-heap g c = λ told. c.in_ok-release.ensures.heap

pub returns-clause-causes : goal.returns-clause-causes
returns-clause-causes g c = told_ends {T = Unit {0}} _ _ (Ok _) tt c.release.ensures.ends.later (c.in_ok-release.ensures.ends.runs (ok_apart c.in_ok-release.field-0 HeapStopped))
