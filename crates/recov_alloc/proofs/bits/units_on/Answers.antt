use Rattle.recov_alloc.proofs.BitRuns.{goes_on}
use Rattle.recov_alloc.proofs.bits.units_on.Goals as goal

pub returns : goal.returns
returns c = goes_on c.args.used c.args.starts c.args.bit c.zeros_from.result c.ranges.used.fits c.zeros_from.ensures
