use Rattle.std.proofs.Common.{◌∙◌, ◌+◌, ◌*◌, ◌<◌, ◌≤◌, ap, le_trans, sym, subst, ℕ}
use Rattle.std.proofs.lemmas.Result.{err_from_is_err_and}
use Rattle.rio_base.proofs.RegionRules.{stays_trans}
use Rattle.rio_base.proofs.Rules.{ends_by_after}
use Rattle.rio_model.proofs.HeapRules.{alone_added, blocks_added}
use Rattle.rio_model.proofs.UndoRules.{undoes_refl}
use Rattle.rio_model.specs.Heap.{Allocates, Finds, IsFirstFit, IsGap, OfBlocks, touched_pages}
use Rattle.rio_model.specs.Undo.{live, taken, undo_records, undo_words, IsRegion, Undoes}
use Rattle.undo_list.proofs.Frames.{region_at, undoes_from}
use Rattle.undo_list.specs.Records.{IsHeader}
use Rattle.recov_alloc.proofs.Marks.{allocated}
use Rattle.recov_alloc.proofs.Outcomes.{ends_heap, ends_undo, full_refused, heap_did, heap_none, heap_not_block, heap_not_full, heap_not_undo, no_err, no_gap_alone, no_gap_ends, none_refused, undo_is_full, undo_not_block, undo_not_full}
use Rattle.recov_alloc.proofs.allocating.allocate.Goals as goal

pub returns-in_err-at-clause-stays : goal.returns-in_err-at-clause-stays
returns-in_err-at-clause-stays g c = stays_trans g.met.R.RegionWords.rest_trans c.read_header.ensures.stays c.first_fit.ensures.stays

pub returns-in_default-clause-stays : goal.returns-in_default-clause-stays
returns-in_default-clause-stays g c = stays_trans g.met.R.RegionWords.rest_trans c.read_header.ensures.stays c.first_fit.ensures.stays

pub returns-in_default-clause-full : goal.returns-in_default-clause-full
returns-in_default-clause-full g c =
    let here = g.R.RegionWords.words c.read_header.new.r in
    let none = subst (λ o. Finds (live here) (64 * here 2) c.args.units o) c.in_default.is c.in_ok-at.ensures.value in
    λ is t gap. none t (subst (λ (w : ℕ → ℕ). IsGap (live w) (64 * w 2) t c.args.units) (sym c.read_header.ensures.words) gap)

pub returns-in_err-change_map-clause-stays : goal.returns-in_err-change_map-clause-stays
returns-in_err-change_map-clause-stays g c =
    let trans = g.met.R.RegionWords.rest_trans in
    stays_trans trans c.read_header.ensures.stays (stays_trans trans c.first_fit.ensures.stays c.change_map.ensures.stays)

pub returns-clause-stays : goal.returns-clause-stays
returns-clause-stays g c =
    let trans = g.met.R.RegionWords.rest_trans in
    stays_trans trans c.read_header.ensures.stays (stays_trans trans c.first_fit.ensures.stays c.change_map.ensures.stays)

pub returns-clause-ok : goal.returns-clause-ok
returns-clause-ok g c =
    let f = g.R.RegionWords.words in
    let here = f c.read_header.new.r in
    let fit = subst (λ o. Finds (live here) (64 * here 2) c.args.units o) c.in-Some.is c.in_ok-at.ensures.value in
    allocated (f c.args.r.now) here (f c.first_fit.new.r) (f c.change_map.new.r) c.args.units c.in-Some.at c.read_header.ensures.words c.first_fit.ensures.words fit c.in_ok-change_map.ensures.ok

pub returns-clause-heap : goal.returns-clause-heap
returns-clause-heap g c =
    let f = g.R.RegionWords.words in
    let old = f c.args.r.now in
    let here = f c.read_header.new.r in
    let fit = subst (λ o. Finds (live here) (64 * here 2) c.args.units o) c.in-Some.is c.in_ok-at.ensures.value in
    let all : Allocates old (f c.change_map.new.r) c.args.units c.in-Some.at = allocated old here (f c.first_fit.new.r) (f c.change_map.new.r) c.args.units c.in-Some.at c.read_header.ensures.words c.first_fit.ensures.words fit c.in_ok-change_map.ensures.ok in
    let pages = c.change_map.ensures.before.sizes.data_pages ∙ ap (λ (w : ℕ → ℕ). w 2) (c.first_fit.ensures.words ∙ c.read_header.ensures.words) in
    subst (λ n. OfBlocks (live (f c.change_map.new.r)) n) (sym pages) (alone_added (live old) (live (f c.change_map.new.r)) (old 2) c.in-Some.at c.args.units c.requires.units c.requires.heap all.fit.gap all.added)

pub returns-clause-listed : goal.returns-clause-listed
returns-clause-listed g c =
    let f = g.R.RegionWords.words in
    let old = f c.args.r.now in
    let here = f c.read_header.new.r in
    let fit = subst (λ o. Finds (live here) (64 * here 2) c.args.units o) c.in-Some.is c.in_ok-at.ensures.value in
    let all : Allocates old (f c.change_map.new.r) c.args.units c.in-Some.at = allocated old here (f c.first_fit.new.r) (f c.change_map.new.r) c.args.units c.in-Some.at c.read_header.ensures.words c.first_fit.ensures.words fit c.in_ok-change_map.ensures.ok in
    blocks_added (live old) (live (f c.change_map.new.r)) (old 2) c.in-Some.at c.args.units c.requires.units c.requires.heap all.fit.gap all.added

pub first_fit-requires-clause-header : goal.first_fit-requires-clause-header
first_fit-requires-clause-header g c = subst (λ (w : ℕ → ℕ). IsHeader w c.in_ok-header.header) (sym c.read_header.ensures.words) c.in_ok-header.ensures.header

pub change_map-requires-clause-region : goal.change_map-requires-clause-region
change_map-requires-clause-region g c = region_at _ _ _ _ c.read_header.ensures.region c.first_fit.ensures.stays.count c.first_fit.ensures.words

pub change_map-requires-clause-header : goal.change_map-requires-clause-header
change_map-requires-clause-header g c = subst (λ (w : ℕ → ℕ). IsHeader w c.in_ok-header.header) (sym (c.first_fit.ensures.words ∙ c.read_header.ensures.words)) c.in_ok-header.ensures.header

pub returns-in_err-header-clause-ok : goal.returns-in_err-header-clause-ok
returns-in_err-header-clause-ok g c =
    let p = err_from_is_err_and c.from_residual.result c.from_residual.ensures.1 in
    rw (p.1) tt

pub returns-in_err-header-clause-room : goal.returns-in_err-header-clause-room
returns-in_err-header-clause-room g c =
    let p = err_from_is_err_and c.from_residual.result c.from_residual.ensures.1 in
    rw (p.1) tt

pub returns-in_err-header-clause-heap : goal.returns-in_err-header-clause-heap
returns-in_err-header-clause-heap g c =
    let p = err_from_is_err_and c.from_residual.result c.from_residual.ensures.1 in
    rw (p.1) tt

pub returns-in_err-header-clause-listed : goal.returns-in_err-header-clause-listed
returns-in_err-header-clause-listed g c =
    let p = err_from_is_err_and c.from_residual.result c.from_residual.ensures.1 in
    rw (p.1) tt

pub returns-in_err-header-clause-before : goal.returns-in_err-header-clause-before
returns-in_err-header-clause-before g c =
    subst (λ w. Undoes (g.R.RegionWords.count c.args.r.now) (g.R.RegionWords.words c.args.r.now) w) (sym c.read_header.ensures.words) (undoes_refl (g.R.RegionWords.count c.args.r.now) (g.R.RegionWords.words c.args.r.now) c.requires.region)

pub returns-in_err-header-clause-refused : goal.returns-in_err-header-clause-refused
returns-in_err-header-clause-refused g c = λ told. c.read_header.ensures.words

pub returns-in_err-header-clause-ends : goal.returns-in_err-header-clause-ends
returns-in_err-header-clause-ends g c =
    let p = err_from_is_err_and c.from_residual.result c.from_residual.ensures.1 in
    ends_heap _ _ c.read_header.result c.from_residual.result _ _ c.in_err-header.was p.1 p.2 c.read_header.ensures.ends

pub returns-in_err-at-clause-ok : goal.returns-in_err-at-clause-ok
returns-in_err-at-clause-ok g c =
    let p = err_from_is_err_and c.from_residual-in_err-at.result c.from_residual-in_err-at.ensures.1 in
    rw (p.1) tt

pub returns-in_err-at-clause-room : goal.returns-in_err-at-clause-room
returns-in_err-at-clause-room g c =
    let p = err_from_is_err_and c.from_residual-in_err-at.result c.from_residual-in_err-at.ensures.1 in
    rw (p.1) tt

pub returns-in_err-at-clause-heap : goal.returns-in_err-at-clause-heap
returns-in_err-at-clause-heap g c =
    let p = err_from_is_err_and c.from_residual-in_err-at.result c.from_residual-in_err-at.ensures.1 in
    rw (p.1) tt

pub returns-in_err-at-clause-listed : goal.returns-in_err-at-clause-listed
returns-in_err-at-clause-listed g c =
    let p = err_from_is_err_and c.from_residual-in_err-at.result c.from_residual-in_err-at.ensures.1 in
    rw (p.1) tt

pub returns-in_err-at-clause-ends : goal.returns-in_err-at-clause-ends
returns-in_err-at-clause-ends g c =
    let p = err_from_is_err_and c.from_residual-in_err-at.result c.from_residual-in_err-at.ensures.1 in
    ends_by_after _ _ _ _ _ c.read_header.ensures.ends.later c.in_ok-header.ensures.ends.cause (ends_heap _ _ c.first_fit.result c.from_residual-in_err-at.result _ _ c.in_err-at.was p.1 p.2 c.first_fit.ensures.ends)

pub returns-in_err-at-clause-before : goal.returns-in_err-at-clause-before
returns-in_err-at-clause-before g c =
    subst (λ w. Undoes (g.R.RegionWords.count c.args.r.now) (g.R.RegionWords.words c.args.r.now) w) (sym (c.first_fit.ensures.words ∙ c.read_header.ensures.words)) (undoes_refl (g.R.RegionWords.count c.args.r.now) (g.R.RegionWords.words c.args.r.now) c.requires.region)

pub returns-in_err-at-clause-region : goal.returns-in_err-at-clause-region
returns-in_err-at-clause-region g c = region_at _ _ _ _ c.read_header.ensures.region c.first_fit.ensures.stays.count c.first_fit.ensures.words

pub returns-in_err-at-clause-refused : goal.returns-in_err-at-clause-refused
returns-in_err-at-clause-refused g c = λ told. c.first_fit.ensures.words ∙ c.read_header.ensures.words

pub returns-in_default-clause-before : goal.returns-in_default-clause-before
returns-in_default-clause-before g c =
    subst (λ w. Undoes (g.R.RegionWords.count c.args.r.now) (g.R.RegionWords.words c.args.r.now) w) (sym (c.first_fit.ensures.words ∙ c.read_header.ensures.words)) (undoes_refl (g.R.RegionWords.count c.args.r.now) (g.R.RegionWords.words c.args.r.now) c.requires.region)

pub returns-in_default-clause-region : goal.returns-in_default-clause-region
returns-in_default-clause-region g c = region_at _ _ _ _ c.read_header.ensures.region c.first_fit.ensures.stays.count c.first_fit.ensures.words

pub returns-in_default-clause-refused : goal.returns-in_default-clause-refused
returns-in_default-clause-refused g c = λ told. c.first_fit.ensures.words ∙ c.read_header.ensures.words

pub returns-in_err-change_map-clause-ok : goal.returns-in_err-change_map-clause-ok
returns-in_err-change_map-clause-ok g c =
    let p = err_from_is_err_and c.from_residual-in_err-change_map.result c.from_residual-in_err-change_map.ensures.1 in
    rw (p.1) tt

pub returns-in_err-change_map-clause-room : goal.returns-in_err-change_map-clause-room
returns-in_err-change_map-clause-room g c =
    let p = err_from_is_err_and c.from_residual-in_err-change_map.result c.from_residual-in_err-change_map.ensures.1 in
    rw (p.1) tt

pub returns-in_err-change_map-clause-heap : goal.returns-in_err-change_map-clause-heap
returns-in_err-change_map-clause-heap g c =
    let p = err_from_is_err_and c.from_residual-in_err-change_map.result c.from_residual-in_err-change_map.ensures.1 in
    rw (p.1) tt

pub returns-in_err-change_map-clause-listed : goal.returns-in_err-change_map-clause-listed
returns-in_err-change_map-clause-listed g c =
    let p = err_from_is_err_and c.from_residual-in_err-change_map.result c.from_residual-in_err-change_map.ensures.1 in
    rw (p.1) tt

pub returns-in_err-change_map-clause-before : goal.returns-in_err-change_map-clause-before
returns-in_err-change_map-clause-before g c =
    undoes_from (g.R.RegionWords.count c.args.r.now) (g.R.RegionWords.count c.first_fit.new.r) (g.R.RegionWords.words c.first_fit.new.r) (g.R.RegionWords.words c.args.r.now) (g.R.RegionWords.words c.change_map.new.r) (c.first_fit.ensures.words ∙ c.read_header.ensures.words) (c.first_fit.ensures.stays.count ∙ c.read_header.ensures.stays.count) c.change_map.ensures.before

pub returns-in_err-change_map-clause-region : goal.returns-in_err-change_map-clause-region
returns-in_err-change_map-clause-region g c = subst (λ k. IsRegion k (g.R.RegionWords.words c.change_map.new.r)) (sym c.change_map.ensures.stays.count) c.change_map.ensures.before.region

pub returns-clause-before : goal.returns-clause-before
returns-clause-before g c =
    undoes_from (g.R.RegionWords.count c.args.r.now) (g.R.RegionWords.count c.first_fit.new.r) (g.R.RegionWords.words c.first_fit.new.r) (g.R.RegionWords.words c.args.r.now) (g.R.RegionWords.words c.change_map.new.r) (c.first_fit.ensures.words ∙ c.read_header.ensures.words) (c.first_fit.ensures.stays.count ∙ c.read_header.ensures.stays.count) c.change_map.ensures.before

pub returns-clause-region : goal.returns-clause-region
returns-clause-region g c = subst (λ k. IsRegion k (g.R.RegionWords.words c.change_map.new.r)) (sym c.change_map.ensures.stays.count) c.change_map.ensures.before.region

pub returns-in_err-header-clause-full : goal.returns-in_err-header-clause-full
returns-in_err-header-clause-full g c =
    let p = err_from_is_err_and c.from_residual.result c.from_residual.ensures.1 in
    λ told. absurd (heap_not_full c.from_residual.result _ p.0 p.1 p.2 told)

pub returns-in_err-header-clause-no_block : goal.returns-in_err-header-clause-no_block
returns-in_err-header-clause-no_block g c =
    let p = err_from_is_err_and c.from_residual.result c.from_residual.ensures.1 in
    heap_not_block c.from_residual.result _ p.0 p.1 p.2

pub returns-in_err-header-clause-undo_full : goal.returns-in_err-header-clause-undo_full
returns-in_err-header-clause-undo_full g c =
    let p = err_from_is_err_and c.from_residual.result c.from_residual.ensures.1 in
    λ told. absurd (heap_not_undo c.from_residual.result _ p.0 p.1 p.2 told)

pub returns-in_err-at-clause-full : goal.returns-in_err-at-clause-full
returns-in_err-at-clause-full g c =
    let p = err_from_is_err_and c.from_residual-in_err-at.result c.from_residual-in_err-at.ensures.1 in
    λ told. absurd (heap_not_full c.from_residual-in_err-at.result _ p.0 p.1 p.2 told)

pub returns-in_err-at-clause-no_block : goal.returns-in_err-at-clause-no_block
returns-in_err-at-clause-no_block g c =
    let p = err_from_is_err_and c.from_residual-in_err-at.result c.from_residual-in_err-at.ensures.1 in
    heap_not_block c.from_residual-in_err-at.result _ p.0 p.1 p.2

pub returns-in_err-at-clause-undo_full : goal.returns-in_err-at-clause-undo_full
returns-in_err-at-clause-undo_full g c =
    let p = err_from_is_err_and c.from_residual-in_err-at.result c.from_residual-in_err-at.ensures.1 in
    λ told. absurd (heap_not_undo c.from_residual-in_err-at.result _ p.0 p.1 p.2 told)

pub returns-in_default-clause-undo_full : goal.returns-in_default-clause-undo_full
returns-in_default-clause-undo_full g c = λ told. absurd (no_gap_alone.0 told)

pub returns-in_default-clause-no_block : goal.returns-in_default-clause-no_block
returns-in_default-clause-no_block g c = no_gap_alone.1

pub returns-in_default-clause-ends : goal.returns-in_default-clause-ends
returns-in_default-clause-ends g c = no_gap_ends _ _ (le_trans c.read_header.ensures.ends.later c.first_fit.ensures.ends.later) (c.in_ok-at.ensures.ends.cause ∙ c.in_ok-header.ensures.ends.cause)

pub returns-in_err-change_map-clause-full : goal.returns-in_err-change_map-clause-full
returns-in_err-change_map-clause-full g c =
    let p = err_from_is_err_and c.from_residual-in_err-change_map.result c.from_residual-in_err-change_map.ensures.1 in
    λ told. absurd (undo_not_full c.from_residual-in_err-change_map.result _ p.0 p.1 p.2 told)

pub returns-in_err-change_map-clause-no_block : goal.returns-in_err-change_map-clause-no_block
returns-in_err-change_map-clause-no_block g c =
    let p = err_from_is_err_and c.from_residual-in_err-change_map.result c.from_residual-in_err-change_map.ensures.1 in
    undo_not_block c.from_residual-in_err-change_map.result _ p.0 p.1 p.2

pub returns-in_err-change_map-clause-undo_full : goal.returns-in_err-change_map-clause-undo_full
returns-in_err-change_map-clause-undo_full g c =
    let here = g.R.RegionWords.words c.read_header.new.r in
    let fit = subst (λ o. Finds (live here) (64 * here 2) c.args.units o) c.in-Some.is c.in_ok-at.ensures.value in
    let p = err_from_is_err_and c.from_residual-in_err-change_map.result c.from_residual-in_err-change_map.ensures.1 in
    λ told. (c.in-Some.at, subst (λ (w : ℕ → ℕ). IsFirstFit (live w) (64 * w 2) c.args.units c.in-Some.at) c.read_header.ensures.words fit, subst (λ (w : ℕ → ℕ). undo_words w < taken (undo_records w) + 3 + 2 * touched_pages c.in-Some.at c.args.units) (c.first_fit.ensures.words ∙ c.read_header.ensures.words) (c.change_map.ensures.full (undo_is_full c.change_map.result c.from_residual-in_err-change_map.result _ p.0 c.in_err-change_map.was p.1 p.2 told)))

pub returns-in_err-change_map-clause-refused : goal.returns-in_err-change_map-clause-refused
returns-in_err-change_map-clause-refused g c =
    let p = err_from_is_err_and c.from_residual-in_err-change_map.result c.from_residual-in_err-change_map.ensures.1 in
    λ told. c.change_map.ensures.refused (full_refused c.change_map.result c.from_residual-in_err-change_map.result _ p.0 c.in_err-change_map.was p.1 p.2 told) ∙ c.first_fit.ensures.words ∙ c.read_header.ensures.words

pub returns-in_err-change_map-clause-ends : goal.returns-in_err-change_map-clause-ends
returns-in_err-change_map-clause-ends g c =
    let p = err_from_is_err_and c.from_residual-in_err-change_map.result c.from_residual-in_err-change_map.ensures.1 in
    ends_by_after _ _ _ _ _ (le_trans c.read_header.ensures.ends.later c.first_fit.ensures.ends.later) (c.in_ok-at.ensures.ends.cause ∙ c.in_ok-header.ensures.ends.cause) (ends_undo _ _ c.change_map.result c.from_residual-in_err-change_map.result _ p.0 c.in_err-change_map.was p.1 p.2 c.change_map.ensures.ends)

pub returns-clause-room : goal.returns-clause-room
returns-clause-room g c = subst (λ (w : ℕ → ℕ). taken (undo_records w) + 3 + 2 * touched_pages c.in-Some.at c.args.units ≤ undo_words w) (c.first_fit.ensures.words ∙ c.read_header.ensures.words) c.in_ok-change_map.ensures.room

pub returns-clause-full : goal.returns-clause-full
returns-clause-full g c = λ told. absurd (heap_none _ _ told)

pub returns-clause-no_block : goal.returns-clause-no_block
returns-clause-no_block g c = heap_none _ _

pub returns-clause-undo_full : goal.returns-clause-undo_full
returns-clause-undo_full g c = λ told. absurd (heap_none _ _ told)

pub returns-clause-refused : goal.returns-clause-refused
returns-clause-refused g c = λ told. absurd (none_refused _ _ _ told)

pub returns-clause-ends : goal.returns-clause-ends
returns-clause-ends g c = heap_did _ _ _ (le_trans c.read_header.ensures.ends.later (le_trans c.first_fit.ensures.ends.later c.change_map.ensures.ends.later)) ((c.in_ok-change_map.ensures.ends.runs (no_err tt _)) ∙ c.in_ok-at.ensures.ends.cause ∙ c.in_ok-header.ensures.ends.cause)

pub change_map-requires-clause-within : goal.change_map-requires-clause-within
change_map-requires-clause-within g c =
    let here = g.R.RegionWords.words c.read_header.new.r in
    let fit : IsFirstFit (live here) (64 * here 2) c.args.units c.in-Some.at = subst (λ o. Finds (live here) (64 * here 2) c.args.units o) c.in-Some.is c.in_ok-at.ensures.value in
    subst (λ (w : ℕ → ℕ). c.in-Some.at + c.args.units ≤ 64 * w 2) (sym c.first_fit.ensures.words) fit.gap.within
