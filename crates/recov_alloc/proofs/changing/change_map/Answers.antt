use Rattle.std.proofs.Common.{sym, refl, ◌∙◌, ◌*◌, ◌/◌, cond, le_trans, subst, ◌+◌, ◌≤◌}
use Rattle.std.proofs.lemmas.Result.{err_from_is_err_and}
use Rattle.rio_base.proofs.RegionRules.{stays_trans}
use Rattle.rio_base.proofs.Rules.{ends_by_after}
use Rattle.rio_model.proofs.UndoRules.{gains_covers, undoes_trans}
use Rattle.rio_model.specs.Heap.{touched_pages}
use Rattle.rio_model.specs.Undo.{IsRegion, Undoes}
use Rattle.recov_alloc.proofs.Marks.{changed}
use Rattle.recov_alloc.proofs.Outcomes.{ends_did, ends_handed, ends_same, never_full, no_err, same_err}
use Rattle.recov_alloc.proofs.changing.change_map.Goals as goal

pub mark_block-requires-clause-undo : goal.mark_block-requires-clause-undo
mark_block-requires-clause-undo g c = c.requires.header.undo ∙ sym c.in_ok-save_map.ensures.ok.sizes.undo

pub mark_block-requires-clause-covered : goal.mark_block-requires-clause-covered
mark_block-requires-clause-covered g c =
    let f = g.R.RegionWords.words in
    gains_covers (g.R.RegionWords.count c.args.r.now) (f c.args.r.now) (f c.save_map.new.r) (2 * (c.args.at / 64)) (2 * touched_pages c.args.at c.args.units) c.in_ok-save_map.ensures.ok

pub returns-clause-ok : goal.returns-clause-ok
returns-clause-ok g c =
    let f = g.R.RegionWords.words in
    changed (f c.args.r.now) (f c.args.r.now) (f c.save_map.new.r) (f c.mark_block.new.r) (g.R.RegionWords.count c.args.r.now) c.args.at c.args.units (cond c.args.on 1 0) refl c.in_ok-save_map.ensures.ok c.in_ok-mark_block.ensures.ok c.mark_block.ensures.keeps.records

pub returns-in_err-save_map-clause-ok : goal.returns-in_err-save_map-clause-ok
returns-in_err-save_map-clause-ok g c =
    let p = err_from_is_err_and c.from_residual.result c.from_residual.ensures.1 in
    rw (p.1) tt

pub returns-in_err-save_map-clause-room : goal.returns-in_err-save_map-clause-room
returns-in_err-save_map-clause-room g c =
    let p = err_from_is_err_and c.from_residual.result c.from_residual.ensures.1 in
    rw (p.1) tt

pub returns-in_err-save_map-clause-full : goal.returns-in_err-save_map-clause-full
returns-in_err-save_map-clause-full g c =
    let p = err_from_is_err_and c.from_residual.result c.from_residual.ensures.1 in
    λ full. c.save_map.ensures.full (same_err c.save_map.result c.from_residual.result _ p.0 c.in_err-save_map.was p.1 p.2 ∙ full)

pub returns-in_err-save_map-clause-refused : goal.returns-in_err-save_map-clause-refused
returns-in_err-save_map-clause-refused g c =
    let p = err_from_is_err_and c.from_residual.result c.from_residual.ensures.1 in
    λ full. c.save_map.ensures.refused (same_err c.save_map.result c.from_residual.result _ p.0 c.in_err-save_map.was p.1 p.2 ∙ full)

pub returns-in_err-save_map-clause-ends : goal.returns-in_err-save_map-clause-ends
returns-in_err-save_map-clause-ends g c =
    let p = err_from_is_err_and c.from_residual.result c.from_residual.ensures.1 in
    ends_same _ _ c.save_map.result c.from_residual.result _ p.0 c.in_err-save_map.was p.1 p.2 c.save_map.ensures.ends

pub mark_block-requires-clause-region : goal.mark_block-requires-clause-region
mark_block-requires-clause-region g c = subst (λ k. IsRegion k (g.R.RegionWords.words c.save_map.new.r)) (sym c.save_map.ensures.stays.count) c.save_map.ensures.before.region

pub mark_block-requires-clause-within : goal.mark_block-requires-clause-within
mark_block-requires-clause-within g c = subst (λ n. c.args.at + c.args.units ≤ 64 * n) (sym c.save_map.ensures.before.sizes.data_pages) c.requires.within

pub returns-in_err-mark_block-clause-ok : goal.returns-in_err-mark_block-clause-ok
returns-in_err-mark_block-clause-ok g c =
    let p = err_from_is_err_and c.from_residual-in_err-mark_block.result c.from_residual-in_err-mark_block.ensures.1 in
    rw (p.1) tt

pub returns-in_err-mark_block-clause-room : goal.returns-in_err-mark_block-clause-room
returns-in_err-mark_block-clause-room g c =
    let p = err_from_is_err_and c.from_residual-in_err-mark_block.result c.from_residual-in_err-mark_block.ensures.1 in
    rw (p.1) tt

pub returns-in_err-mark_block-clause-full : goal.returns-in_err-mark_block-clause-full
returns-in_err-mark_block-clause-full g c =
    let p = err_from_is_err_and c.from_residual-in_err-mark_block.result c.from_residual-in_err-mark_block.ensures.1 in
    λ full. absurd (never_full c.from_residual-in_err-mark_block.result _ p.0 p.1 p.2 full)

pub returns-in_err-mark_block-clause-refused : goal.returns-in_err-mark_block-clause-refused
returns-in_err-mark_block-clause-refused g c =
    let p = err_from_is_err_and c.from_residual-in_err-mark_block.result c.from_residual-in_err-mark_block.ensures.1 in
    λ full. absurd (never_full c.from_residual-in_err-mark_block.result _ p.0 p.1 p.2 full)

pub returns-in_err-mark_block-clause-before : goal.returns-in_err-mark_block-clause-before
returns-in_err-mark_block-clause-before g c =
    undoes_trans (g.R.RegionWords.count c.args.r.now) (g.R.RegionWords.words c.args.r.now) (g.R.RegionWords.words c.save_map.new.r) (g.R.RegionWords.words c.mark_block.new.r) c.save_map.ensures.before (subst (λ k. Undoes k (g.R.RegionWords.words c.save_map.new.r) (g.R.RegionWords.words c.mark_block.new.r)) c.save_map.ensures.stays.count c.mark_block.ensures.keeps.undoes)

pub returns-in_err-mark_block-clause-stays : goal.returns-in_err-mark_block-clause-stays
returns-in_err-mark_block-clause-stays g c = stays_trans g.met.R.RegionWords.rest_trans c.save_map.ensures.stays c.mark_block.ensures.stays

pub returns-in_err-mark_block-clause-ends : goal.returns-in_err-mark_block-clause-ends
returns-in_err-mark_block-clause-ends g c =
    let p = err_from_is_err_and c.from_residual-in_err-mark_block.result c.from_residual-in_err-mark_block.ensures.1 in
    ends_by_after _ _ _ _ _ c.save_map.ensures.ends.later (c.in_ok-save_map.ensures.ends.runs (no_err tt _)) (ends_handed _ _ c.mark_block.result c.from_residual-in_err-mark_block.result _ _ c.in_err-mark_block.was p.1 p.2 c.mark_block.ensures.ends)

pub returns-clause-full : goal.returns-clause-full
returns-clause-full g c = λ told. absurd (no_err tt _ told)

pub returns-clause-refused : goal.returns-clause-refused
returns-clause-refused g c = λ told. absurd (no_err tt _ told)

pub returns-clause-before : goal.returns-clause-before
returns-clause-before g c =
    undoes_trans (g.R.RegionWords.count c.args.r.now) (g.R.RegionWords.words c.args.r.now) (g.R.RegionWords.words c.save_map.new.r) (g.R.RegionWords.words c.mark_block.new.r) c.save_map.ensures.before (subst (λ k. Undoes k (g.R.RegionWords.words c.save_map.new.r) (g.R.RegionWords.words c.mark_block.new.r)) c.save_map.ensures.stays.count c.mark_block.ensures.keeps.undoes)

pub returns-clause-stays : goal.returns-clause-stays
returns-clause-stays g c = stays_trans g.met.R.RegionWords.rest_trans c.save_map.ensures.stays c.mark_block.ensures.stays

pub returns-clause-ends : goal.returns-clause-ends
returns-clause-ends g c = ends_did _ _ tt (le_trans c.save_map.ensures.ends.later c.mark_block.ensures.ends.later) (c.in_ok-mark_block.ensures.ends.cause ∙ (c.in_ok-save_map.ensures.ends.runs (no_err tt _)))

pub change_page-requires-clause-page : goal.change_page-requires-clause-page
change_page-requires-clause-page g c = c.if-at-units-le64.true
