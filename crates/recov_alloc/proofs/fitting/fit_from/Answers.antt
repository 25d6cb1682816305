use Rattle.std.proofs.Common.{arith, ◌∙◌, ◌+◌, ◌*◌, ℕ, ap, sym, subst, le_refl, le_trans, refl}
use Rattle.std.proofs.lemmas.Result.{err_from_is_err_and}
use Rattle.rio_base.proofs.BlockRules.{ends_later}
use Rattle.rio_base.proofs.RegionRules.{stays_trans}
use Rattle.rio_model.specs.Undo.{IsRegion, live}
use Rattle.recov_alloc.proofs.Outcomes.{ends_err}
use Rattle.recov_alloc.specs.Scans.{Before, ScanEnds}
use Rattle.undo_list.proofs.Outcomes.{stays_none}
use Rattle.recov_alloc.proofs.fitting.fit_from.Goals as goal

pub look_in_pages-requires-clause-undo : goal.look_in_pages-requires-clause-undo
look_in_pages-requires-clause-undo g c = c.requires.header.undo ∙ sym (ap (λ (w : ℕ → ℕ). w 1) c.loop-page.invariant.words)

pub loop-page-preserved : goal.loop-page-preserved
loop-page-preserved g c =
    let inv = c.loop-page.invariant in
    let e = c.look_in_pages.ensures in
    let found = subst (λ s. ScanEnds (live (g.R.RegionWords.words c.loop-page.r)) c.args.units (64 * (c.loop-page.page + c.min-count.result)) s) c.in-Run.is (c.in_ok-at.ensures.scan (subst (λ w. Before (live w) c.args.units (64 * c.loop-page.page) c.loop-page.run) (sym inv.words) inv.seen)) in
    record {
      words = e.words ∙ inv.words;
      region = subst (λ k. IsRegion k (g.R.RegionWords.words c.look_in_pages.new.r)) (sym e.stays.count) (subst (λ w. IsRegion (g.R.RegionWords.count c.loop-page.r) w) (sym e.words) inv.region);
      seen = subst (λ w. Before (live w) c.args.units (64 * (c.loop-page.page + c.min-count.result)) c.in-Run.left) inv.words found;
      pages = inv.pages;
      within = omega (arith, c.min-count.ensures, c.loop-page-test.true);
      stays = stays_trans g.met.R.RegionWords.rest_trans inv.stays e.stays;
      later = le_trans inv.later e.ends.later;
      running = c.in_ok-at.ensures.ends.cause ∙ inv.running;
    }

pub look_in_pages-requires-clause-page : goal.look_in_pages-requires-clause-page
look_in_pages-requires-clause-page g c = omega (arith, c.min-count.ensures, c.loop-page-test.true, c.loop-page.invariant.pages, ap (λ (w : ℕ → ℕ). w 2) c.loop-page.invariant.words)

pub returns-in_err-at-clause-words : goal.returns-in_err-at-clause-words
returns-in_err-at-clause-words g c = c.look_in_pages.ensures.words ∙ c.loop-page.invariant.words

pub returns-in_err-at-clause-stays : goal.returns-in_err-at-clause-stays
returns-in_err-at-clause-stays g c = stays_trans g.met.R.RegionWords.rest_trans c.loop-page.invariant.stays c.look_in_pages.ensures.stays

pub returns-in_err-at-clause-ends : goal.returns-in_err-at-clause-ends
returns-in_err-at-clause-ends g c =
    let p = err_from_is_err_and c.from_residual.result c.from_residual.ensures.1 in
    ends_later _ _ _ _ c.loop-page.invariant.later c.loop-page.invariant.running (ends_err _ _ c.look_in_pages.result c.from_residual.result _ _ c.in_err-at.was p.1 p.2 c.look_in_pages.ensures.ends)

pub returns-in_err-at-clause-value : goal.returns-in_err-at-clause-value
returns-in_err-at-clause-value g c =
    let p = err_from_is_err_and c.from_residual.result c.from_residual.ensures.1 in
    rw (p.1) tt

pub returns-in-Found-clause-words : goal.returns-in-Found-clause-words
returns-in-Found-clause-words g c = c.look_in_pages.ensures.words ∙ c.loop-page.invariant.words

pub returns-in-Found-clause-stays : goal.returns-in-Found-clause-stays
returns-in-Found-clause-stays g c = stays_trans g.met.R.RegionWords.rest_trans c.loop-page.invariant.stays c.look_in_pages.ensures.stays

pub returns-in-Found-clause-ends : goal.returns-in-Found-clause-ends
returns-in-Found-clause-ends g c =
    let running = c.in_ok-at.ensures.ends.cause ∙ c.loop-page.invariant.running in
    record { later = le_trans c.loop-page.invariant.later c.look_in_pages.ensures.ends.later; stays = λ stopped. running ∙ stopped; cause = running }

pub returns-clause-ends : goal.returns-clause-ends
returns-clause-ends g c = record { later = c.loop-page.invariant.later; stays = λ stopped. c.loop-page.invariant.running ∙ stopped; cause = c.loop-page.invariant.running }

pub loop-page-init : goal.loop-page-init
loop-page-init g c = record { words = refl; region = c.requires.region; seen = c.requires.before; pages = c.requires.header.data_pages; within = c.requires.from; stays = stays_none c.args.r.now (g.met.R.RegionWords.rest_refl c.args.r.now) c.requires.ready; later = le_refl _; running = refl }

pub loop-page-smaller : goal.loop-page-smaller
loop-page-smaller g c = omega (arith, c.min-count.ensures, c.loop-page-test.true)
