use Rattle.std.proofs.Common.{arith, subst, ◌+◌, ◌*◌}
use Rattle.recov_alloc.specs.Scans.{Before}
use Rattle.recov_alloc.proofs.Fits.{found_later, full_behind, word_in}
use Rattle.recov_alloc.proofs.fitting.look_in_run.Goals as goal

pub returns-then-next-count-clause-scan : goal.returns-then-next-count-clause-scan
returns-then-next-count-clause-scan c =
    let next = c.past_full-next in
    let left = c.run_behind-left in
    λ f words b. subst (λ n. Before f c.args.units (64 * (c.args.page + n)) left.result) c.if-next-count.true (full_behind f c.args.words.now c.args.page c.args.count c.args.units c.loop-i.i next.result c.loop-i.run left.result words next.ensures.full next.ensures.high left.ensures.none left.ensures.some (c.loop-i.invariant.seen f words b) next.ensures.low)

pub returns-in-Found-clause-scan : goal.returns-in-Found-clause-scan
returns-in-Found-clause-scan c =
    let next = c.past_full-next in
    let left = c.run_behind-left in
    λ f words b. found_later f c.args.units (64 * (c.args.page + next.result + 1)) (64 * (c.args.page + c.args.count)) c.in-Found.at (omega (arith, next.ensures.high, c.if-next-count.false)) (c.in-Found.ensures.scan f (word_in f c.args.words.now c.args.page c.args.count next.result words (omega (arith, next.ensures.high, c.if-next-count.false))) (full_behind f c.args.words.now c.args.page c.args.count c.args.units c.loop-i.i next.result c.loop-i.run left.result words next.ensures.full next.ensures.high left.ensures.none left.ensures.some (c.loop-i.invariant.seen f words b) next.ensures.low))

pub loop-i-preserved : goal.loop-i-preserved
loop-i-preserved c =
    let next = c.past_full-next in
    let left = c.run_behind-left in
    let fits = c.in-Run.ensures.run in
    record {
      most = omega (arith, next.ensures.high, c.if-next-count.false);
      small = fits.0;
      within = omega (arith, fits.1);
      seen = λ f words b. subst (λ x. Before f c.args.units x c.in-Run.rest) (omega arith) (c.in-Run.ensures.scan f (word_in f c.args.words.now c.args.page c.args.count next.result words (omega (arith, next.ensures.high, c.if-next-count.false))) (full_behind f c.args.words.now c.args.page c.args.count c.args.units c.loop-i.i next.result c.loop-i.run left.result words next.ensures.full next.ensures.high left.ensures.none left.ensures.some (c.loop-i.invariant.seen f words b) next.ensures.low));
    }
