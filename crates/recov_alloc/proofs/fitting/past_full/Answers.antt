use Rattle.std.proofs.Common.{arith}
use Rattle.recov_alloc.proofs.Fits.{full_more, word_full}
use Rattle.recov_alloc.proofs.fitting.past_full.Goals as goal

pub loop-page-preserved : goal.loop-page-preserved
loop-page-preserved c = record {
  low = omega (arith, c.loop-page.invariant.low);
  high = omega (arith, c.loop-page-test.true);
  full = full_more c.args.words.now c.args.from c.loop-page.page c.loop-page.invariant.full (word_full _ c.if-word.false);
}

pub loop-page-init : goal.loop-page-init
loop-page-init c = record { low = c.past_eights-page.ensures.low; high = c.past_eights-page.ensures.high; full = c.past_eights-page.ensures.full }

pub loop-page-smaller : goal.loop-page-smaller
loop-page-smaller c = omega (arith, c.loop-page-test.true)

pub returns-clause-end : goal.returns-clause-end
returns-clause-end c = λ less. absurd (omega (arith, less, c.loop-page-test.false))
