use Rattle.std.proofs.Common.{◌∙◌, ◌+◌, ◌*◌, ◌<◌, ◌≤◌, ap, le_trans, sym, subst, ℕ}
use Rattle.std.proofs.lemmas.Result.{err_from_is_err_and}
use Rattle.rio_base.proofs.RegionRules.{stays_trans}
use Rattle.rio_base.proofs.Rules.{ends_by_after}
use Rattle.rio_model.proofs.HeapRules.{alone_removed, blocks_removed}
use Rattle.rio_model.proofs.UndoRules.{undoes_refl}
use Rattle.rio_model.specs.Heap.{IsBlock, OfBlocks, Releases, touched_pages}
use Rattle.rio_model.specs.Undo.{live, taken, undo_records, undo_words, IsRegion, Undoes}
use Rattle.undo_list.proofs.Frames.{region_at, undoes_from}
use Rattle.undo_list.specs.Records.{IsHeader}
use Rattle.recov_alloc.proofs.Marks.{released}
use Rattle.recov_alloc.proofs.Outcomes.{block_refused, ends_heap, ends_undo, heap_did, heap_none, heap_not_block, heap_not_full, heap_not_undo, no_block_alone, no_block_ends, no_err, none_refused, undo_is_full, undo_not_block, undo_not_full}
use Rattle.recov_alloc.specs.Extents.{BlockAt}
use Rattle.recov_alloc.proofs.allocating.release.Goals as goal

pub returns-in_err-units-clause-stays : goal.returns-in_err-units-clause-stays
returns-in_err-units-clause-stays g c = stays_trans g.met.R.RegionWords.rest_trans c.read_header.ensures.stays c.block_at.ensures.stays

pub returns-in_default-clause-stays : goal.returns-in_default-clause-stays
returns-in_default-clause-stays g c = stays_trans g.met.R.RegionWords.rest_trans c.read_header.ensures.stays c.block_at.ensures.stays

pub returns-in_default-clause-not_block : goal.returns-in_default-clause-not_block
returns-in_default-clause-not_block g c =
    let here = g.R.RegionWords.words c.read_header.new.r in
    let none = subst (λ o. BlockAt (live here) (64 * here 2) c.args.unit o) c.in_default.is c.in_ok-units.ensures.value in
    λ is n block. none n (subst (λ (w : ℕ → ℕ). IsBlock (live w) (64 * w 2) c.args.unit n) (sym c.read_header.ensures.words) block)

pub returns-in_err-change_map-clause-stays : goal.returns-in_err-change_map-clause-stays
returns-in_err-change_map-clause-stays g c =
    let trans = g.met.R.RegionWords.rest_trans in
    stays_trans trans c.read_header.ensures.stays (stays_trans trans c.block_at.ensures.stays c.change_map.ensures.stays)

pub returns-clause-stays : goal.returns-clause-stays
returns-clause-stays g c =
    let trans = g.met.R.RegionWords.rest_trans in
    stays_trans trans c.read_header.ensures.stays (stays_trans trans c.block_at.ensures.stays c.change_map.ensures.stays)

pub returns-clause-ok : goal.returns-clause-ok
returns-clause-ok g c =
    let f = g.R.RegionWords.words in
    let here = f c.read_header.new.r in
    let n = c.in-Some.units in
    let block = subst (λ o. BlockAt (live here) (64 * here 2) c.args.unit o) c.in-Some.is c.in_ok-units.ensures.value in
    (n, released (f c.args.r.now) here (f c.block_at.new.r) (f c.change_map.new.r) n c.args.unit c.read_header.ensures.words c.block_at.ensures.words block c.in_ok-change_map.ensures.ok, subst (λ (w : ℕ → ℕ). taken (undo_records w) + 3 + 2 * touched_pages c.args.unit n ≤ undo_words w) (c.block_at.ensures.words ∙ c.read_header.ensures.words) c.in_ok-change_map.ensures.room)

pub returns-clause-heap : goal.returns-clause-heap
returns-clause-heap g c =
    let f = g.R.RegionWords.words in
    let old = f c.args.r.now in
    let here = f c.read_header.new.r in
    let n = c.in-Some.units in
    let block = subst (λ o. BlockAt (live here) (64 * here 2) c.args.unit o) c.in-Some.is c.in_ok-units.ensures.value in
    let all : Releases old (f c.change_map.new.r) n c.args.unit = released old here (f c.block_at.new.r) (f c.change_map.new.r) n c.args.unit c.read_header.ensures.words c.block_at.ensures.words block c.in_ok-change_map.ensures.ok in
    let pages = c.change_map.ensures.before.sizes.data_pages ∙ ap (λ (w : ℕ → ℕ). w 2) (c.block_at.ensures.words ∙ c.read_header.ensures.words) in
    subst (λ k. OfBlocks (live (f c.change_map.new.r)) k) (sym pages) (alone_removed (live old) (live (f c.change_map.new.r)) (old 2) c.args.unit n c.requires.heap all.block all.removed)

pub returns-clause-listed : goal.returns-clause-listed
returns-clause-listed g c =
    let f = g.R.RegionWords.words in
    let old = f c.args.r.now in
    let here = f c.read_header.new.r in
    let n = c.in-Some.units in
    let block = subst (λ o. BlockAt (live here) (64 * here 2) c.args.unit o) c.in-Some.is c.in_ok-units.ensures.value in
    let all : Releases old (f c.change_map.new.r) n c.args.unit = released old here (f c.block_at.new.r) (f c.change_map.new.r) n c.args.unit c.read_header.ensures.words c.block_at.ensures.words block c.in_ok-change_map.ensures.ok in
    blocks_removed (live old) (live (f c.change_map.new.r)) (old 2) c.args.unit n c.requires.heap all.block all.removed

pub block_at-requires-clause-header : goal.block_at-requires-clause-header
block_at-requires-clause-header g c = subst (λ (w : ℕ → ℕ). IsHeader w c.in_ok-header.header) (sym c.read_header.ensures.words) c.in_ok-header.ensures.header

pub change_map-requires-clause-region : goal.change_map-requires-clause-region
change_map-requires-clause-region g c = region_at _ _ _ _ c.read_header.ensures.region c.block_at.ensures.stays.count c.block_at.ensures.words

pub change_map-requires-clause-header : goal.change_map-requires-clause-header
change_map-requires-clause-header g c = subst (λ (w : ℕ → ℕ). IsHeader w c.in_ok-header.header) (sym (c.block_at.ensures.words ∙ c.read_header.ensures.words)) c.in_ok-header.ensures.header

pub returns-in_err-header-clause-ok : goal.returns-in_err-header-clause-ok
returns-in_err-header-clause-ok g c =
    let p = err_from_is_err_and c.from_residual.result c.from_residual.ensures.1 in
    rw (p.1) tt

pub returns-in_err-header-clause-heap : goal.returns-in_err-header-clause-heap
returns-in_err-header-clause-heap g c =
    let p = err_from_is_err_and c.from_residual.result c.from_residual.ensures.1 in
    rw (p.1) tt

pub returns-in_err-header-clause-listed : goal.returns-in_err-header-clause-listed
returns-in_err-header-clause-listed g c =
    let p = err_from_is_err_and c.from_residual.result c.from_residual.ensures.1 in
    rw (p.1) tt

pub returns-in_err-header-clause-before : goal.returns-in_err-header-clause-before
returns-in_err-header-clause-before g c =
    subst (λ w. Undoes (g.R.RegionWords.count c.args.r.now) (g.R.RegionWords.words c.args.r.now) w) (sym c.read_header.ensures.words) (undoes_refl (g.R.RegionWords.count c.args.r.now) (g.R.RegionWords.words c.args.r.now) c.requires.region)

pub returns-in_err-header-clause-refused : goal.returns-in_err-header-clause-refused
returns-in_err-header-clause-refused g c = λ told. c.read_header.ensures.words

pub returns-in_err-header-clause-ends : goal.returns-in_err-header-clause-ends
returns-in_err-header-clause-ends g c =
    let p = err_from_is_err_and c.from_residual.result c.from_residual.ensures.1 in
    ends_heap _ _ c.read_header.result c.from_residual.result _ _ c.in_err-header.was p.1 p.2 c.read_header.ensures.ends

pub returns-in_err-units-clause-ok : goal.returns-in_err-units-clause-ok
returns-in_err-units-clause-ok g c =
    let p = err_from_is_err_and c.from_residual-in_err-units.result c.from_residual-in_err-units.ensures.1 in
    rw (p.1) tt

pub returns-in_err-units-clause-heap : goal.returns-in_err-units-clause-heap
returns-in_err-units-clause-heap g c =
    let p = err_from_is_err_and c.from_residual-in_err-units.result c.from_residual-in_err-units.ensures.1 in
    rw (p.1) tt

pub returns-in_err-units-clause-listed : goal.returns-in_err-units-clause-listed
returns-in_err-units-clause-listed g c =
    let p = err_from_is_err_and c.from_residual-in_err-units.result c.from_residual-in_err-units.ensures.1 in
    rw (p.1) tt

pub returns-in_err-units-clause-ends : goal.returns-in_err-units-clause-ends
returns-in_err-units-clause-ends g c =
    let p = err_from_is_err_and c.from_residual-in_err-units.result c.from_residual-in_err-units.ensures.1 in
    ends_by_after _ _ _ _ _ c.read_header.ensures.ends.later c.in_ok-header.ensures.ends.cause (ends_heap _ _ c.block_at.result c.from_residual-in_err-units.result _ _ c.in_err-units.was p.1 p.2 c.block_at.ensures.ends)

pub returns-in_err-units-clause-before : goal.returns-in_err-units-clause-before
returns-in_err-units-clause-before g c =
    subst (λ w. Undoes (g.R.RegionWords.count c.args.r.now) (g.R.RegionWords.words c.args.r.now) w) (sym (c.block_at.ensures.words ∙ c.read_header.ensures.words)) (undoes_refl (g.R.RegionWords.count c.args.r.now) (g.R.RegionWords.words c.args.r.now) c.requires.region)

pub returns-in_err-units-clause-region : goal.returns-in_err-units-clause-region
returns-in_err-units-clause-region g c = region_at _ _ _ _ c.read_header.ensures.region c.block_at.ensures.stays.count c.block_at.ensures.words

pub returns-in_err-units-clause-refused : goal.returns-in_err-units-clause-refused
returns-in_err-units-clause-refused g c = λ told. c.block_at.ensures.words ∙ c.read_header.ensures.words

pub returns-in_default-clause-before : goal.returns-in_default-clause-before
returns-in_default-clause-before g c =
    subst (λ w. Undoes (g.R.RegionWords.count c.args.r.now) (g.R.RegionWords.words c.args.r.now) w) (sym (c.block_at.ensures.words ∙ c.read_header.ensures.words)) (undoes_refl (g.R.RegionWords.count c.args.r.now) (g.R.RegionWords.words c.args.r.now) c.requires.region)

pub returns-in_default-clause-region : goal.returns-in_default-clause-region
returns-in_default-clause-region g c = region_at _ _ _ _ c.read_header.ensures.region c.block_at.ensures.stays.count c.block_at.ensures.words

pub returns-in_default-clause-refused : goal.returns-in_default-clause-refused
returns-in_default-clause-refused g c = λ told. c.block_at.ensures.words ∙ c.read_header.ensures.words

pub returns-in_err-change_map-clause-ok : goal.returns-in_err-change_map-clause-ok
returns-in_err-change_map-clause-ok g c =
    let p = err_from_is_err_and c.from_residual-in_err-change_map.result c.from_residual-in_err-change_map.ensures.1 in
    rw (p.1) tt

pub returns-in_err-change_map-clause-heap : goal.returns-in_err-change_map-clause-heap
returns-in_err-change_map-clause-heap g c =
    let p = err_from_is_err_and c.from_residual-in_err-change_map.result c.from_residual-in_err-change_map.ensures.1 in
    rw (p.1) tt

pub returns-in_err-change_map-clause-listed : goal.returns-in_err-change_map-clause-listed
returns-in_err-change_map-clause-listed g c =
    let p = err_from_is_err_and c.from_residual-in_err-change_map.result c.from_residual-in_err-change_map.ensures.1 in
    rw (p.1) tt

pub returns-in_err-change_map-clause-before : goal.returns-in_err-change_map-clause-before
returns-in_err-change_map-clause-before g c =
    undoes_from (g.R.RegionWords.count c.args.r.now) (g.R.RegionWords.count c.block_at.new.r) (g.R.RegionWords.words c.block_at.new.r) (g.R.RegionWords.words c.args.r.now) (g.R.RegionWords.words c.change_map.new.r) (c.block_at.ensures.words ∙ c.read_header.ensures.words) (c.block_at.ensures.stays.count ∙ c.read_header.ensures.stays.count) c.change_map.ensures.before

pub returns-in_err-change_map-clause-region : goal.returns-in_err-change_map-clause-region
returns-in_err-change_map-clause-region g c = subst (λ k. IsRegion k (g.R.RegionWords.words c.change_map.new.r)) (sym c.change_map.ensures.stays.count) c.change_map.ensures.before.region

pub returns-clause-before : goal.returns-clause-before
returns-clause-before g c =
    undoes_from (g.R.RegionWords.count c.args.r.now) (g.R.RegionWords.count c.block_at.new.r) (g.R.RegionWords.words c.block_at.new.r) (g.R.RegionWords.words c.args.r.now) (g.R.RegionWords.words c.change_map.new.r) (c.block_at.ensures.words ∙ c.read_header.ensures.words) (c.block_at.ensures.stays.count ∙ c.read_header.ensures.stays.count) c.change_map.ensures.before

pub returns-clause-region : goal.returns-clause-region
returns-clause-region g c = subst (λ k. IsRegion k (g.R.RegionWords.words c.change_map.new.r)) (sym c.change_map.ensures.stays.count) c.change_map.ensures.before.region

pub returns-in_err-header-clause-not_block : goal.returns-in_err-header-clause-not_block
returns-in_err-header-clause-not_block g c =
    let p = err_from_is_err_and c.from_residual.result c.from_residual.ensures.1 in
    λ told. absurd (heap_not_block c.from_residual.result _ p.0 p.1 p.2 told)

pub returns-in_err-header-clause-full : goal.returns-in_err-header-clause-full
returns-in_err-header-clause-full g c =
    let p = err_from_is_err_and c.from_residual.result c.from_residual.ensures.1 in
    heap_not_full c.from_residual.result _ p.0 p.1 p.2

pub returns-in_err-header-clause-undo_full : goal.returns-in_err-header-clause-undo_full
returns-in_err-header-clause-undo_full g c =
    let p = err_from_is_err_and c.from_residual.result c.from_residual.ensures.1 in
    λ told. absurd (heap_not_undo c.from_residual.result _ p.0 p.1 p.2 told)

pub returns-in_err-units-clause-not_block : goal.returns-in_err-units-clause-not_block
returns-in_err-units-clause-not_block g c =
    let p = err_from_is_err_and c.from_residual-in_err-units.result c.from_residual-in_err-units.ensures.1 in
    λ told. absurd (heap_not_block c.from_residual-in_err-units.result _ p.0 p.1 p.2 told)

pub returns-in_err-units-clause-full : goal.returns-in_err-units-clause-full
returns-in_err-units-clause-full g c =
    let p = err_from_is_err_and c.from_residual-in_err-units.result c.from_residual-in_err-units.ensures.1 in
    heap_not_full c.from_residual-in_err-units.result _ p.0 p.1 p.2

pub returns-in_err-units-clause-undo_full : goal.returns-in_err-units-clause-undo_full
returns-in_err-units-clause-undo_full g c =
    let p = err_from_is_err_and c.from_residual-in_err-units.result c.from_residual-in_err-units.ensures.1 in
    λ told. absurd (heap_not_undo c.from_residual-in_err-units.result _ p.0 p.1 p.2 told)

pub returns-in_default-clause-undo_full : goal.returns-in_default-clause-undo_full
returns-in_default-clause-undo_full g c = λ told. absurd (no_block_alone.0 told)

pub returns-in_default-clause-full : goal.returns-in_default-clause-full
returns-in_default-clause-full g c = no_block_alone.1

pub returns-in_default-clause-ends : goal.returns-in_default-clause-ends
returns-in_default-clause-ends g c = no_block_ends _ _ (le_trans c.read_header.ensures.ends.later c.block_at.ensures.ends.later) (c.in_ok-units.ensures.ends.cause ∙ c.in_ok-header.ensures.ends.cause)

pub returns-in_err-change_map-clause-not_block : goal.returns-in_err-change_map-clause-not_block
returns-in_err-change_map-clause-not_block g c =
    let p = err_from_is_err_and c.from_residual-in_err-change_map.result c.from_residual-in_err-change_map.ensures.1 in
    λ told. absurd (undo_not_block c.from_residual-in_err-change_map.result _ p.0 p.1 p.2 told)

pub returns-in_err-change_map-clause-full : goal.returns-in_err-change_map-clause-full
returns-in_err-change_map-clause-full g c =
    let p = err_from_is_err_and c.from_residual-in_err-change_map.result c.from_residual-in_err-change_map.ensures.1 in
    undo_not_full c.from_residual-in_err-change_map.result _ p.0 p.1 p.2

pub returns-in_err-change_map-clause-undo_full : goal.returns-in_err-change_map-clause-undo_full
returns-in_err-change_map-clause-undo_full g c =
    let here = g.R.RegionWords.words c.read_header.new.r in
    let fit = subst (λ o. BlockAt (live here) (64 * here 2) c.args.unit o) c.in-Some.is c.in_ok-units.ensures.value in
    let p = err_from_is_err_and c.from_residual-in_err-change_map.result c.from_residual-in_err-change_map.ensures.1 in
    λ told. (c.in-Some.units, subst (λ (w : ℕ → ℕ). IsBlock (live w) (64 * w 2) c.args.unit c.in-Some.units) c.read_header.ensures.words fit, subst (λ (w : ℕ → ℕ). undo_words w < taken (undo_records w) + 3 + 2 * touched_pages c.args.unit c.in-Some.units) (c.block_at.ensures.words ∙ c.read_header.ensures.words) (c.change_map.ensures.full (undo_is_full c.change_map.result c.from_residual-in_err-change_map.result _ p.0 c.in_err-change_map.was p.1 p.2 told)))

pub returns-in_err-change_map-clause-refused : goal.returns-in_err-change_map-clause-refused
returns-in_err-change_map-clause-refused g c =
    let p = err_from_is_err_and c.from_residual-in_err-change_map.result c.from_residual-in_err-change_map.ensures.1 in
    λ told. c.change_map.ensures.refused (block_refused c.change_map.result c.from_residual-in_err-change_map.result _ p.0 c.in_err-change_map.was p.1 p.2 told) ∙ c.block_at.ensures.words ∙ c.read_header.ensures.words

pub returns-in_err-change_map-clause-ends : goal.returns-in_err-change_map-clause-ends
returns-in_err-change_map-clause-ends g c =
    let p = err_from_is_err_and c.from_residual-in_err-change_map.result c.from_residual-in_err-change_map.ensures.1 in
    ends_by_after _ _ _ _ _ (le_trans c.read_header.ensures.ends.later c.block_at.ensures.ends.later) (c.in_ok-units.ensures.ends.cause ∙ c.in_ok-header.ensures.ends.cause) (ends_undo _ _ c.change_map.result c.from_residual-in_err-change_map.result _ p.0 c.in_err-change_map.was p.1 p.2 c.change_map.ensures.ends)

pub returns-clause-not_block : goal.returns-clause-not_block
returns-clause-not_block g c = λ told. absurd (heap_none _ _ told)

pub returns-clause-full : goal.returns-clause-full
returns-clause-full g c = heap_none _ _

pub block_at-requires-clause-heap : goal.block_at-requires-clause-heap
block_at-requires-clause-heap g c = subst (λ (w : ℕ → ℕ). OfBlocks (live w) (w 2)) (sym c.read_header.ensures.words) c.requires.heap

pub change_map-requires-clause-units : goal.change_map-requires-clause-units
change_map-requires-clause-units g c =
    let here = g.R.RegionWords.words c.read_header.new.r in
    let fit : IsBlock (live here) (64 * here 2) c.args.unit c.in-Some.units = subst (λ o. BlockAt (live here) (64 * here 2) c.args.unit o) c.in-Some.is c.in_ok-units.ensures.value in
    fit.some

pub returns-clause-undo_full : goal.returns-clause-undo_full
returns-clause-undo_full g c = λ told. absurd (heap_none _ _ told)

pub returns-clause-refused : goal.returns-clause-refused
returns-clause-refused g c = λ told. absurd (none_refused _ _ _ told)

pub returns-clause-ends : goal.returns-clause-ends
returns-clause-ends g c = heap_did _ _ _ (le_trans c.read_header.ensures.ends.later (le_trans c.block_at.ensures.ends.later c.change_map.ensures.ends.later)) ((c.in_ok-change_map.ensures.ends.runs (no_err tt _)) ∙ c.in_ok-units.ensures.ends.cause ∙ c.in_ok-header.ensures.ends.cause)

pub change_map-requires-clause-within : goal.change_map-requires-clause-within
change_map-requires-clause-within g c =
    let here = g.R.RegionWords.words c.read_header.new.r in
    let fit : IsBlock (live here) (64 * here 2) c.args.unit c.in-Some.units = subst (λ o. BlockAt (live here) (64 * here 2) c.args.unit o) c.in-Some.is c.in_ok-units.ensures.value in
    subst (λ (w : ℕ → ℕ). c.args.unit + c.in-Some.units ≤ 64 * w 2) (sym c.block_at.ensures.words) fit.within
