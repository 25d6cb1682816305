use Rattle.undo_list.proofs.BitRuns.{ones_are}
use Rattle.undo_list.proofs.bits.ones_from.Goals as goal

pub returns : goal.returns
returns c = ones_are c.args.word c.args.bit c.zeros_from.result c.ranges.word.fits c.zeros_from.ensures
