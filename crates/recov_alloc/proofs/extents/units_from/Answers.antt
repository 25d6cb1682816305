use Rattle.std.proofs.Common.{arith, ◌∙◌, ◌≡◌, ◌*◌, ◌+◌, ◌/◌, sym, subst, le_refl, le_trans, length, refl}
use Rattle.std.proofs.lemmas.Result.{err_from_is_err_and}
use Rattle.rio_base.specs.Regions.{AreWords}
use Rattle.rio_base.proofs.BlockRules.{ends_later}
use Rattle.rio_base.proofs.RegionRules.{stays_trans}
use Rattle.rio_model.specs.Undo.{IsRegion, live}
use Rattle.recov_alloc.proofs.Outcomes.{ends_err}
use Rattle.recov_alloc.proofs.Reaches.{block_by, stops_at, within_more}
use Rattle.undo_list.proofs.Outcomes.{stays_none}
use Rattle.recov_alloc.proofs.extents.units_from.Goals as goal

pub returns-in_err-read_places-clause-stays : goal.returns-in_err-read_places-clause-stays
returns-in_err-read_places-clause-stays g c = stays_trans g.met.R.RegionWords.rest_trans c.loop-next.invariant.stays c.read_places.ensures.stays

pub returns-then-bit-run-lt64-clause-stays : goal.returns-then-bit-run-lt64-clause-stays
returns-then-bit-run-lt64-clause-stays g c = stays_trans g.met.R.RegionWords.rest_trans c.loop-next.invariant.stays c.read_places.ensures.stays

pub returns-then-bit-run-lt64-clause-value : goal.returns-then-bit-run-lt64-clause-value
returns-then-bit-run-lt64-clause-value g c =
    let f = g.R.RegionWords.words c.args.r.now in
    let l = live f in
    let inv = c.loop-next.invariant in
    let x = c.loop-next.next in
    let n = c.units_on-run.result in
    let two : length c.loop-next.words ≡ 2 = omega arith in
    let words = subst (λ w. AreWords (live w) (2 * (x / 64)) 2 c.read_places.new.into) inv.words (subst (λ n. AreWords (live (g.R.RegionWords.words c.loop-next.r)) (2 * (x / 64)) n c.read_places.new.into) two c.in_ok-read_places.ensures.value) in
    block_by l (f 2) (64 * f 2) c.args.unit (x + n) c.requires.heap (omega arith) c.requires.start (omega (arith, inv.low)) (omega (arith, c.loop-next-test.true, c.if-bit-run-lt64.true, c.requires.pages)) (within_more l c.args.unit x n c.read_places.new.into words inv.inside c.units_on-run.ensures) (λ s. stops_at l x n c.read_places.new.into words c.units_on-run.ensures c.if-bit-run-lt64.true)

pub loop-next-preserved : goal.loop-next-preserved
loop-next-preserved g c =
    let f = g.R.RegionWords.words c.args.r.now in
    let l = live f in
    let inv = c.loop-next.invariant in
    let x = c.loop-next.next in
    let n = c.units_on-run.result in
    let e = c.read_places.ensures in
    let two : length c.loop-next.words ≡ 2 = omega arith in
    let words = subst (λ w. AreWords (live w) (2 * (x / 64)) 2 c.read_places.new.into) inv.words (subst (λ n. AreWords (live (g.R.RegionWords.words c.loop-next.r)) (2 * (x / 64)) n c.read_places.new.into) two c.in_ok-read_places.ensures.value) in
    record {
      words = e.words ∙ inv.words;
      region = subst (λ k. IsRegion k (g.R.RegionWords.words c.read_places.new.r)) (sym e.stays.count) (subst (λ w. IsRegion (g.R.RegionWords.count c.loop-next.r) w) (sym e.words) inv.region);
      low = omega (arith, inv.low);
      most = omega (arith, c.loop-next-test.true, c.units_on-run.ensures.within, c.requires.pages);
      inside = within_more l c.args.unit x n c.read_places.new.into words inv.inside c.units_on-run.ensures;
      stays = stays_trans g.met.R.RegionWords.rest_trans inv.stays e.stays;
      later = le_trans inv.later e.ends.later;
      running = c.in_ok-read_places.ensures.ends.cause ∙ inv.running;
    }

pub returns-clause-value : goal.returns-clause-value
returns-clause-value g c =
    let f = g.R.RegionWords.words c.args.r.now in
    let inv = c.loop-next.invariant in
    block_by (live f) (f 2) (64 * f 2) c.args.unit c.loop-next.next c.requires.heap (omega arith) c.requires.start inv.low (omega (arith, inv.most, c.requires.pages)) inv.inside (λ s. absurd (omega (arith, s, c.loop-next-test.false, c.requires.pages)))

pub returns-in_err-read_places-clause-words : goal.returns-in_err-read_places-clause-words
returns-in_err-read_places-clause-words g c = c.read_places.ensures.words ∙ c.loop-next.invariant.words

pub returns-in_err-read_places-clause-ends : goal.returns-in_err-read_places-clause-ends
returns-in_err-read_places-clause-ends g c =
    let p = err_from_is_err_and c.from_residual.result c.from_residual.ensures.1 in
    ends_later _ _ _ _ c.loop-next.invariant.later c.loop-next.invariant.running (ends_err _ _ c.read_places.result c.from_residual.result _ _ c.in_err-read_places.was p.1 p.2 c.read_places.ensures.ends)

pub returns-in_err-read_places-clause-value : goal.returns-in_err-read_places-clause-value
returns-in_err-read_places-clause-value g c =
    let p = err_from_is_err_and c.from_residual.result c.from_residual.ensures.1 in
    rw (p.1) tt

pub returns-clause-ends : goal.returns-clause-ends
returns-clause-ends g c = record { later = c.loop-next.invariant.later; stays = λ stopped. c.loop-next.invariant.running ∙ stopped; cause = c.loop-next.invariant.running }

pub loop-next-init : goal.loop-next-init
loop-next-init g c = record { words = refl; region = c.requires.region; low = c.requires.low; most = c.requires.most; inside = c.requires.inside; stays = stays_none c.args.r.now (g.met.R.RegionWords.rest_refl c.args.r.now) c.requires.ready; later = le_refl _; running = refl }

pub returns-then-bit-run-lt64-clause-words : goal.returns-then-bit-run-lt64-clause-words
returns-then-bit-run-lt64-clause-words g c = c.read_places.ensures.words ∙ c.loop-next.invariant.words

pub returns-then-bit-run-lt64-clause-ends : goal.returns-then-bit-run-lt64-clause-ends
returns-then-bit-run-lt64-clause-ends g c =
    let running = c.in_ok-read_places.ensures.ends.cause ∙ c.loop-next.invariant.running in
    record { later = le_trans c.loop-next.invariant.later c.read_places.ensures.ends.later; stays = λ stopped. running ∙ stopped; cause = running }
