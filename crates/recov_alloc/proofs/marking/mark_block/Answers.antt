use Rattle.std.proofs.Common.{arith, sym, subst, refl, ◌∙◌, cond, le_trans, ◌*◌, ◌+◌, ◌≤◌}
use Rattle.std.proofs.lemmas.Result.{err_from_is_err_and}
use Rattle.rio_base.proofs.BlockRules.{ends_later}
use Rattle.rio_base.proofs.RegionRules.{stays_trans}
use Rattle.rio_model.proofs.UndoRules.{keeps_trans}
use Rattle.rio_model.specs.Undo.{IsRegion, Keeps, live}
use Rattle.recov_alloc.proofs.Marks.{block_marked, page_covered, units_more}
use Rattle.recov_alloc.proofs.Outcomes.{ends_err}
use Rattle.recov_alloc.proofs.marking.mark_block.Goals as goal

pub mark_page-requires-clause-undo : goal.mark_page-requires-clause-undo
mark_page-requires-clause-undo g c = c.requires.undo ∙ sym c.loop-next.invariant.keeps.undoes.sizes.undo

pub mark_page-requires-clause-covered : goal.mark_page-requires-clause-covered
mark_page-requires-clause-covered g c =
    page_covered (g.R.RegionWords.words c.args.r.now) (g.R.RegionWords.words c.loop-next.r) c.args.at c.args.units c.loop-next.next c.min-run.result c.loop-next.invariant.keeps.records c.requires.covered c.loop-next.invariant.low (omega (arith, c.min-run.ensures, c.loop-next-test.true)) (omega (arith, c.min-run.ensures, c.loop-next-test.true))

pub loop-next-preserved : goal.loop-next-preserved
loop-next-preserved g c =
    let f = g.R.RegionWords.words c.args.r.now in
    let m = g.R.RegionWords.words c.loop-next.r in
    let k = g.R.RegionWords.words c.mark_page.new.r in
    let inv = c.loop-next.invariant in
    let e = c.mark_page.ensures in
    record {
      low = omega (arith, inv.low);
      most = omega (arith, c.min-run.ensures, c.loop-next-test.true);
      region = subst (λ n. IsRegion n k) (sym e.stays.count) e.keeps.undoes.region;
      marked = units_more (live f) (live m) (live k) c.args.at c.loop-next.next c.min-run.result _ (cond c.args.on 1 0) inv.low (omega (arith, c.min-run.ensures, c.loop-next-test.true)) (omega (arith, c.min-run.ensures)) refl inv.marked c.in_ok-mark_page.ensures.ok;
      keeps = keeps_trans (g.R.RegionWords.count c.args.r.now) f m k inv.keeps (subst (λ n. Keeps n m k) inv.stays.count e.keeps);
      stays = stays_trans g.met.R.RegionWords.rest_trans inv.stays e.stays;
      later = le_trans inv.later e.ends.later;
      running = c.in_ok-mark_page.ensures.ends.cause ∙ inv.running;
    }

pub returns-clause-ok : goal.returns-clause-ok
returns-clause-ok g c =
    let inv = c.loop-next.invariant in
    block_marked (live (g.R.RegionWords.words c.args.r.now)) (live (g.R.RegionWords.words c.loop-next.r)) c.args.at c.args.units c.loop-next.next (cond c.args.on 1 0) c.requires.units (omega (arith, inv.most, c.loop-next-test.false)) inv.marked

pub mark_page-requires-clause-within : goal.mark_page-requires-clause-within
mark_page-requires-clause-within g c = subst (λ n. c.loop-next.next + c.min-run.result ≤ 64 * n) (sym c.loop-next.invariant.keeps.undoes.sizes.data_pages) (omega (arith, c.min-run.ensures, c.loop-next-test.true, c.requires.within))

pub returns-in_err-mark_page-clause-stays : goal.returns-in_err-mark_page-clause-stays
returns-in_err-mark_page-clause-stays g c = stays_trans g.met.R.RegionWords.rest_trans c.loop-next.invariant.stays c.mark_page.ensures.stays

pub returns-in_err-mark_page-clause-ends : goal.returns-in_err-mark_page-clause-ends
returns-in_err-mark_page-clause-ends g c =
    let p = err_from_is_err_and c.from_residual.result c.from_residual.ensures.1 in
    ends_later _ _ _ _ c.loop-next.invariant.later c.loop-next.invariant.running (ends_err _ _ c.mark_page.result c.from_residual.result _ _ c.in_err-mark_page.was p.1 p.2 c.mark_page.ensures.ends)

pub returns-in_err-mark_page-clause-ok : goal.returns-in_err-mark_page-clause-ok
returns-in_err-mark_page-clause-ok g c =
    let p = err_from_is_err_and c.from_residual.result c.from_residual.ensures.1 in
    rw (p.1) tt

pub returns-in_err-mark_page-clause-keeps : goal.returns-in_err-mark_page-clause-keeps
returns-in_err-mark_page-clause-keeps g c =
    keeps_trans (g.R.RegionWords.count c.args.r.now) (g.R.RegionWords.words c.args.r.now) (g.R.RegionWords.words c.loop-next.r) (g.R.RegionWords.words c.mark_page.new.r) c.loop-next.invariant.keeps (subst (λ n. Keeps n (g.R.RegionWords.words c.loop-next.r) (g.R.RegionWords.words c.mark_page.new.r)) c.loop-next.invariant.stays.count c.mark_page.ensures.keeps)

pub returns-clause-ends : goal.returns-clause-ends
returns-clause-ends g c = record { later = c.loop-next.invariant.later; stays = λ stopped. c.loop-next.invariant.running ∙ stopped; cause = c.loop-next.invariant.running }

pub mark_page-requires-clause-page : goal.mark_page-requires-clause-page
mark_page-requires-clause-page g c = omega (arith, c.min-run.ensures)

pub mark_page-requires-clause-units : goal.mark_page-requires-clause-units
mark_page-requires-clause-units g c = omega (arith, c.min-run.ensures, c.loop-next-test.true)

pub loop-next-smaller : goal.loop-next-smaller
loop-next-smaller g c = omega (arith, c.min-run.ensures, c.loop-next-test.true)
