use Rattle.std.proofs.Common.{arith, subst, ◌≡◌, ◌+◌, ◌*◌}
use Rattle.recov_alloc.specs.Scans.{Before}
use Rattle.recov_alloc.proofs.Fits.{found_in, ends_free, hops, some_ones}
use Rattle.recov_alloc.proofs.fitting.look_in.Goals as goal

pub loop-bit-init : goal.loop-bit-init
loop-bit-init c =
    let at : 64 * c.args.page ≡ 64 * c.args.page + 0 = omega arith in
    record {
      small = c.requires.before;
      within = omega (arith, c.requires.within);
      most = omega arith;
      seen = λ l is b. subst (λ n. Before l c.args.units n c.args.before) at b;
    }

pub returns-then-units-run-clause-scan : goal.returns-then-units-run-clause-scan
returns-then-units-run-clause-scan c = λ l is b. found_in l c.args.word c.args.page c.args.units c.loop-bit.bit c.loop-bit.run c.zeros_from-free.result is (c.loop-bit.invariant.seen l is b) c.zeros_from-free.ensures c.if-units-run.true

pub returns-then-bit-free-eq64-clause-scan : goal.returns-then-bit-free-eq64-clause-scan
returns-then-bit-free-eq64-clause-scan c = λ l is b. ends_free l c.args.word c.args.page c.args.units c.loop-bit.bit c.loop-bit.run c.zeros_from-free.result is (c.loop-bit.invariant.seen l is b) c.zeros_from-free.ensures c.if-units-run.false c.if-bit-free-eq64.true

pub loop-bit-preserved : goal.loop-bit-preserved
loop-bit-preserved c =
    let some = some_ones c.args.word c.loop-bit.bit c.zeros_from-free.result c.ones_from.result c.zeros_from-free.ensures c.if-bit-free-eq64.false c.ones_from.ensures in
    record {
      small = omega arith;
      within = omega arith;
      most = omega (arith, c.ones_from.ensures.within);
      seen = λ l is b. hops l c.args.word c.args.page c.args.units c.loop-bit.bit c.loop-bit.run c.zeros_from-free.result c.ones_from.result is (c.loop-bit.invariant.seen l is b) c.zeros_from-free.ensures c.if-units-run.false c.ones_from.ensures some;
    }
