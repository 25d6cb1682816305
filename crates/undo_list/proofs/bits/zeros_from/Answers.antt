use Rattle.std.proofs.Common.{sym, subst}
use Rattle.undo_list.specs.Bits.{IsZeros}
use Rattle.undo_list.proofs.BitRuns.{zeros_is}
use Rattle.undo_list.proofs.bits.zeros_from.Goals as goal

pub returns : goal.returns
returns c = subst (λ n. IsZeros c.args.word c.args.bit n) (sym c.min.ensures) (zeros_is c.args.word c.args.bit c.ranges.word.fits c.requires)
