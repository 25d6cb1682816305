use Rattle.directories.proofs.Common.{◌+◌, arith, slice_index}
use Rattle.std.proofs.Common.{rules}
use Rattle.directories.proofs.Found.{none_then}
use Rattle.directories.proofs.finding.past_fours.Goals as goal

pub loop-k-preserved : goal.loop-k-preserved
loop-k-preserved c = record {
  low = omega (arith, c.loop-k.invariant.low);
  high = omega (arith, c.loop-k.invariant.high, c.loop-k-test.true);
  none = none_then (slice_index c.args.words.now) c.args.name.now c.args.from c.loop-k.k (c.loop-k.k + 4) c.loop-k.invariant.none (c.passes_four.ensures.none (search rules));
}
