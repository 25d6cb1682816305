use Rattle.std.proofs.Common.{arith, ◌∙◌, ◌*◌, ◌+◌, ◌/◌, ◌<◌, ap, sym, subst, le_trans, ℕ}
use Rattle.std.proofs.lemmas.Result.{err_from_is_err_and}
use Rattle.rio_base.proofs.RegionRules.{stays_trans}
use Rattle.rio_base.proofs.Rules.{ends_by_after}
use Rattle.rio_model.specs.Undo.{IsRegion, live, places}
use Rattle.rio_model.specs.Heap.{IsBlock, OfBlocks, heap_blocks}
use Rattle.undo_list.proofs.Frames.{region_at}
use Rattle.recov_alloc.proofs.Outcomes.{ends_listed, ends_memory, ends_read}
use Rattle.recov_alloc.proofs.Reaches.{listed_all, listed_first, listed_more, listed_on, next_starts}
use Rattle.recov_alloc.proofs.listing.blocks.Goals as goal

pub returns-in_err-starts-clause-stays : goal.returns-in_err-starts-clause-stays
returns-in_err-starts-clause-stays g c = stays_trans g.met.R.RegionWords.rest_trans c.loop-next.invariant.stays c.word_at.ensures.stays

pub units_from-requires-clause-start : goal.units_from-requires-clause-start
units_from-requires-clause-start g c =
    let f = g.R.RegionWords.words in
    let is = c.in_ok-starts.ensures.value ∙ ap (λ w. live w (2 * (c.loop-next.next / 64) + 1)) (sym c.word_at.ensures.words) in
    next_starts (live (f c.word_at.new.r)) c.in_ok-starts.starts c.loop-next.next c.zeros_from-skipped.result is c.zeros_from-skipped.ensures c.if-bit-skipped-lt64.true

pub returns-in_err-units-clause-stays : goal.returns-in_err-units-clause-stays
returns-in_err-units-clause-stays g c =
    let trans = g.met.R.RegionWords.rest_trans in
    stays_trans trans c.loop-next.invariant.stays (stays_trans trans c.word_at.ensures.stays c.units_from.ensures.stays)

pub returns-in_err-push-clause-stays : goal.returns-in_err-push-clause-stays
returns-in_err-push-clause-stays g c =
    let trans = g.met.R.RegionWords.rest_trans in
    stays_trans trans c.loop-next.invariant.stays (stays_trans trans c.word_at.ensures.stays c.units_from.ensures.stays)

pub loop-next-preserved-then-bit-skipped-lt64 : goal.loop-next-preserved-then-bit-skipped-lt64
loop-next-preserved-then-bit-skipped-lt64 g c =
    let f = g.R.RegionWords.words in
    let old = f c.args.r.now in
    let l = live old in
    let inv = c.loop-next.invariant in
    let x = c.loop-next.next in
    let j = c.zeros_from-skipped.result in
    let n = c.in_ok-units.units in
    let e = c.word_at.ensures in
    let b = c.units_from.ensures in
    let same = b.words ∙ e.words ∙ inv.words in
    let is = c.in_ok-starts.ensures.value ∙ ap (λ w. live w (2 * (x / 64) + 1)) inv.words in
    let block = subst (λ w. IsBlock (live w) (64 * w 2) (x + j) n) (e.words ∙ inv.words) c.in_ok-units.ensures.value in
    let here = subst (λ u. IsBlock l u (x + j) n) (ap (λ p. 64 * p) (sym inv.pages)) block in
    let on = listed_on l c.in_ok-starts.starts (64 * c.in_ok-pages.pages) x j (heap_blocks l (64 * old 2)) c.loop-next.found.items is c.zeros_from-skipped.ensures (omega (arith, here.within)) inv.found in
    record {
      words = same;
      region = subst (λ k. IsRegion k (f c.units_from.new.r)) (sym (b.stays.count ∙ e.stays.count)) (subst (λ w. IsRegion (g.R.RegionWords.count c.loop-next.r) w) (sym (b.words ∙ e.words)) inv.region);
      pages = inv.pages;
      most = here.within;
      found = listed_more l (64 * c.in_ok-pages.pages) (x + j) n (heap_blocks l (64 * old 2)) c.loop-next.found.items _ here c.in_ok-push.ensures.items on;
      stays = stays_trans g.met.R.RegionWords.rest_trans inv.stays (stays_trans g.met.R.RegionWords.rest_trans e.stays b.stays);
      later = le_trans inv.later (le_trans e.ends.later b.ends.later);
      running = c.in_ok-units.ensures.ends.cause ∙ c.in_ok-starts.ensures.ends.cause ∙ inv.running;
    }

pub loop-next-preserved : goal.loop-next-preserved
loop-next-preserved g c =
    let f = g.R.RegionWords.words in
    let old = f c.args.r.now in
    let l = live old in
    let inv = c.loop-next.invariant in
    let x = c.loop-next.next in
    let j = c.zeros_from-skipped.result in
    let e = c.word_at.ensures in
    let is = c.in_ok-starts.ensures.value ∙ ap (λ w. live w (2 * (x / 64) + 1)) inv.words in
    record {
      words = e.words ∙ inv.words;
      region = subst (λ k. IsRegion k (f c.word_at.new.r)) (sym e.stays.count) (subst (λ w. IsRegion (g.R.RegionWords.count c.loop-next.r) w) (sym e.words) inv.region);
      pages = inv.pages;
      most = omega (arith, c.zeros_from-skipped.ensures.within, c.loop-next-test.true);
      found = listed_on l c.in_ok-starts.starts (64 * c.in_ok-pages.pages) x j (heap_blocks l (64 * old 2)) c.loop-next.found.items is c.zeros_from-skipped.ensures (omega (arith, c.zeros_from-skipped.ensures.within, c.loop-next-test.true)) inv.found;
      stays = stays_trans g.met.R.RegionWords.rest_trans inv.stays e.stays;
      later = le_trans inv.later e.ends.later;
      running = c.in_ok-starts.ensures.ends.cause ∙ inv.running;
    }

pub returns-clause-value : goal.returns-clause-value
returns-clause-value g c =
    let old = g.R.RegionWords.words c.args.r.now in
    let inv = c.loop-next.invariant in
    c.from.ensures ∙ sym (listed_all (live old) (64 * c.in_ok-pages.pages) c.loop-next.next (heap_blocks (live old) (64 * old 2)) c.loop-next.found.items (omega (arith, c.loop-next-test.false)) inv.found)

pub returns-in_err-pages-clause-value : goal.returns-in_err-pages-clause-value
returns-in_err-pages-clause-value g c =
    let p = err_from_is_err_and c.from_residual.result c.from_residual.ensures.1 in
    rw (p.1) tt

pub returns-in_err-pages-clause-ends : goal.returns-in_err-pages-clause-ends
returns-in_err-pages-clause-ends g c =
    let p = err_from_is_err_and c.from_residual.result c.from_residual.ensures.1 in
    ends_read _ _ c.data_pages.result c.from_residual.result _ _ c.in_err-pages.was p.1 p.2 c.data_pages.ensures.ends

pub loop-next-init : goal.loop-next-init
loop-next-init g c =
    let f = g.R.RegionWords.words c.args.r.now in
    record {
      words = c.data_pages.ensures.words;
      region = c.data_pages.ensures.region;
      pages = c.in_ok-pages.ensures.value;
      most = omega arith;
      found = listed_first (live f) c.in_ok-pages.pages (f 2) _ c.new-found.ensures.items c.in_ok-pages.ensures.value;
      stays = c.data_pages.ensures.stays;
      later = c.data_pages.ensures.ends.later;
      running = c.in_ok-pages.ensures.ends.cause;
    }

pub word_at-requires-clause-place : goal.word_at-requires-clause-place
word_at-requires-clause-place g c = subst (λ (w : ℕ → ℕ). 2 * (c.loop-next.next / 64) + 1 < places w) (sym c.loop-next.invariant.words) (omega (arith, c.loop-next-test.true, c.loop-next.invariant.pages))

pub returns-in_err-starts-clause-value : goal.returns-in_err-starts-clause-value
returns-in_err-starts-clause-value g c =
    let p = err_from_is_err_and c.from_residual-in_err-starts.result c.from_residual-in_err-starts.ensures.1 in
    rw (p.1) tt

pub returns-in_err-starts-clause-words : goal.returns-in_err-starts-clause-words
returns-in_err-starts-clause-words g c = c.word_at.ensures.words ∙ c.loop-next.invariant.words

pub returns-in_err-starts-clause-ends : goal.returns-in_err-starts-clause-ends
returns-in_err-starts-clause-ends g c =
    let p = err_from_is_err_and c.from_residual-in_err-starts.result c.from_residual-in_err-starts.ensures.1 in
    ends_by_after _ _ _ _ _ c.loop-next.invariant.later c.loop-next.invariant.running (ends_read _ _ c.word_at.result c.from_residual-in_err-starts.result _ _ c.in_err-starts.was p.1 p.2 c.word_at.ensures.ends)

pub units_from-requires-clause-heap : goal.units_from-requires-clause-heap
units_from-requires-clause-heap g c = subst (λ (w : ℕ → ℕ). OfBlocks (live w) (w 2)) (sym (c.word_at.ensures.words ∙ c.loop-next.invariant.words)) c.requires.heap

pub units_from-requires-clause-pages : goal.units_from-requires-clause-pages
units_from-requires-clause-pages g c = c.loop-next.invariant.pages ∙ ap (λ (w : ℕ → ℕ). w 2) (sym (c.word_at.ensures.words ∙ c.loop-next.invariant.words))

pub returns-in_err-units-clause-value : goal.returns-in_err-units-clause-value
returns-in_err-units-clause-value g c =
    let p = err_from_is_err_and c.from_residual-in_err-units.result c.from_residual-in_err-units.ensures.1 in
    rw (p.1) tt

pub returns-in_err-units-clause-words : goal.returns-in_err-units-clause-words
returns-in_err-units-clause-words g c = c.units_from.ensures.words ∙ c.word_at.ensures.words ∙ c.loop-next.invariant.words

pub returns-in_err-units-clause-region : goal.returns-in_err-units-clause-region
returns-in_err-units-clause-region g c = region_at _ _ _ _ c.word_at.ensures.region c.units_from.ensures.stays.count c.units_from.ensures.words

pub returns-in_err-units-clause-ends : goal.returns-in_err-units-clause-ends
returns-in_err-units-clause-ends g c =
    let p = err_from_is_err_and c.from_residual-in_err-units.result c.from_residual-in_err-units.ensures.1 in
    ends_by_after _ _ _ _ _ (le_trans c.loop-next.invariant.later c.word_at.ensures.ends.later) (c.in_ok-starts.ensures.ends.cause ∙ c.loop-next.invariant.running) (ends_read _ _ c.units_from.result c.from_residual-in_err-units.result _ _ c.in_err-units.was p.1 p.2 c.units_from.ensures.ends)

pub returns-in_err-push-clause-value : goal.returns-in_err-push-clause-value
returns-in_err-push-clause-value g c =
    let p = err_from_is_err_and c.from_residual-in_err-push.result c.from_residual-in_err-push.ensures.1 in
    rw (p.1) tt

pub returns-in_err-push-clause-words : goal.returns-in_err-push-clause-words
returns-in_err-push-clause-words g c = c.units_from.ensures.words ∙ c.word_at.ensures.words ∙ c.loop-next.invariant.words

pub returns-in_err-push-clause-region : goal.returns-in_err-push-clause-region
returns-in_err-push-clause-region g c = region_at _ _ _ _ c.word_at.ensures.region c.units_from.ensures.stays.count c.units_from.ensures.words

pub returns-in_err-push-clause-ends : goal.returns-in_err-push-clause-ends
returns-in_err-push-clause-ends g c =
    let p = err_from_is_err_and c.from_residual-in_err-push.result c.from_residual-in_err-push.ensures.1 in
    ends_memory _ _ c.from_residual-in_err-push.result _ p.1 p.2 (le_trans c.loop-next.invariant.later (le_trans c.word_at.ensures.ends.later c.units_from.ensures.ends.later)) (c.in_ok-units.ensures.ends.cause ∙ c.in_ok-starts.ensures.ends.cause ∙ c.loop-next.invariant.running)

pub returns-clause-ends : goal.returns-clause-ends
returns-clause-ends g c = ends_listed _ _ _ c.loop-next.invariant.later c.loop-next.invariant.running
