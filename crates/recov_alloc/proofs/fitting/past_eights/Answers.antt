use Rattle.std.proofs.Common.{arith}
use Rattle.recov_alloc.proofs.Fits.{eight_more, none_full}
use Rattle.recov_alloc.proofs.fitting.past_eights.Goals as goal

pub loop-page-init : goal.loop-page-init
loop-page-init c = record {
  low = omega arith;
  high = c.requires.from;
  full = none_full c.args.words.now c.args.from;
}

pub loop-page-preserved : goal.loop-page-preserved
loop-page-preserved c = record {
  low = omega (arith, c.loop-page.invariant.low);
  high = omega (arith, c.loop-page.invariant.high, c.loop-page-test.true);
  full = eight_more c.args.words.now c.args.from c.loop-page.page c.loop-page.invariant.full c.if-eight.false;
}

pub loop-page-smaller : goal.loop-page-smaller
loop-page-smaller c = omega (arith, c.loop-page-test.true)
