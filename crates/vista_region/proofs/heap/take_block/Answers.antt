use Rattle.vista_region.proofs.Common.{ℕ, Err, ◌∙◌, ap, sym, subst, refl, arith, err_from_is_err_and, Ok, inl, inr}
use Rattle.rio_requests.specs.RegionAnswers.{alloc_on}
use Rattle.vista_region.specs.Ends.{DoneAs, TxnEnds}
use Rattle.vista_region.specs.Failures.{heap_handed}
use Rattle.vista_region.specs.Marks.{txn_in}
use Rattle.vista_region.specs.Regions.{region_now}
use Rattle.vista_region.specs.Steps.{says_unit}
use Rattle.vista_region.proofs.Blocks.{alloc_done, alloc_fails, at_least, no_gap, too_many}
use Rattle.std.proofs.Common.{le_refl}
use Rattle.rio_model.proofs.UndoRules.{undoes_refl}
use Rattle.undo_list.proofs.Outcomes.{stays_none}
use Rattle.vista_region.proofs.Outcomes.{ok_apart}
use Rattle.vista_region.proofs.Exits.{told_ends, ends_heap, heap_fault, heap_stays}
use Rattle.recov_alloc.specs.declared.failures.HeapFail.TheVariants.{Stopped as HeapStopped}
use Rattle.vista_region.specs.declared.failures.TxnFail.TheVariants.{HeapFull}
use Rattle.vista_region.proofs.heap.take_block.Goals as goal

pub returns-in_default-clause-ends : goal.returns-in_default-clause-ends
returns-in_default-clause-ends g c marks i m =
    let f = g.R.RegionWords.words c.args.r.now in
    let small = g.met.R.RegionWords.small c.args.r.now c.requires.ready in
    let size = c.requires.region.size in
    let many = at_least c.args.units 4294967296 c.in_default.ensures in
    (no_gap marks i f c.args.units m c.requires.heap (too_many f c.args.units (omega (arith, small, size, many))), refl, refl)

pub returns-in_err-unit-clause-ends : goal.returns-in_err-unit-clause-ends
returns-in_err-unit-clause-ends g c marks i m =
    let f = g.R.RegionWords.words c.args.r.now in
    let last = g.R.RegionWords.words c.allocate.new.r in
    let p = err_from_is_err_and c.from_residual.result c.from_residual.ensures.1 in
    let call = c.in_err-unit.ensures in
    let same = c.in-Ok.ensures.1 in
    subst (λ r. TxnEnds (alloc_on (region_now f) (txn_in marks i f) c.args.units) says_unit marks marks i f last r) (ap (λ z. Err z) (sym p.2) ∙ sym p.1)
    (subst (λ (u : ℕ). TxnEnds (alloc_on (region_now f) (txn_in marks i f) u) says_unit marks marks i f last (Err (heap_handed c.in_err-unit.field-0.0))) same
    (alloc_fails marks i f last c.in-Ok.units c.in_err-unit.field-0.0 m c.requires.heap (omega (arith, same, c.requires.units)) call.full call.undo_full call.refused call.no_block))

pub returns-clause-ends : goal.returns-clause-ends
returns-clause-ends g c marks i m =
    let f = g.R.RegionWords.words c.args.r.now in
    let last = g.R.RegionWords.words c.allocate.new.r in
    let call = c.in_ok-unit.ensures in
    let same = c.in-Ok.ensures.1 in
    subst (λ (u : ℕ). DoneAs (alloc_on (region_now f) (txn_in marks i f) u) marks i last (says_unit c.in_ok-unit.unit)) same
    (alloc_done marks i (g.R.RegionWords.count c.args.r.now) f last c.in-Ok.units c.in_ok-unit.unit m c.requires.heap (omega (arith, same, c.requires.units)) call.ok call.room call.before call.listed)

pub returns-in_default-clause-heap : goal.returns-in_default-clause-heap
returns-in_default-clause-heap g c = λ told. c.requires.heap

pub returns-in_default-clause-before : goal.returns-in_default-clause-before
returns-in_default-clause-before g c = undoes_refl (g.R.RegionWords.count c.args.r.now) (g.R.RegionWords.words c.args.r.now) c.requires.region

pub returns-in_default-clause-stays : goal.returns-in_default-clause-stays
returns-in_default-clause-stays g c = stays_none c.args.r.now (g.met.R.RegionWords.rest_refl c.args.r.now) c.requires.ready

pub returns-in_default-clause-causes : goal.returns-in_default-clause-causes
returns-in_default-clause-causes g c = told_ends {T = ℕ} _ _ (Err HeapFull) tt (le_refl _) refl

pub returns-in_err-unit-clause-fault : goal.returns-in_err-unit-clause-fault
returns-in_err-unit-clause-fault g c =
    let p = err_from_is_err_and c.from_residual.result c.from_residual.ensures.1 in
    heap_fault c.from_residual.result _ _ p.1 p.2

pub returns-in_err-unit-clause-heap : goal.returns-in_err-unit-clause-heap
returns-in_err-unit-clause-heap g c =
    let p = err_from_is_err_and c.from_residual.result c.from_residual.ensures.1 in
    heap_stays c.allocate.result c.from_residual.result _ _ (g.R.RegionWords.words c.args.r.now) (g.R.RegionWords.words c.allocate.new.r) c.in_err-unit.was p.1 p.2 (λ x. c.allocate.ensures.refused (inl x)) (λ x. absurd (c.allocate.ensures.no_block x)) (λ x. c.allocate.ensures.refused (inr x)) c.requires.heap

pub returns-in_err-unit-clause-causes : goal.returns-in_err-unit-clause-causes
returns-in_err-unit-clause-causes g c =
    let p = err_from_is_err_and c.from_residual.result c.from_residual.ensures.1 in
    ends_heap _ _ c.allocate.result c.from_residual.result _ _ c.in_err-unit.was p.1 p.2 c.allocate.ensures.ends

pub returns-clause-heap : goal.returns-clause-heap
returns-clause-heap g c = λ told. c.in_ok-unit.ensures.heap

pub returns-clause-causes : goal.returns-clause-causes
returns-clause-causes g c = told_ends {T = ℕ} _ _ (Ok _) tt c.allocate.ensures.ends.later (c.in_ok-unit.ensures.ends.runs (ok_apart c.in_ok-unit.unit HeapStopped))

pub allocate-requires-clause-units : goal.allocate-requires-clause-units
allocate-requires-clause-units g c = omega (arith, c.in-Ok.ensures.1, c.requires.units)
