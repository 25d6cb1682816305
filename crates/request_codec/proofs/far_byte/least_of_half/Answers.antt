use Rattle.std.proofs.Common.{◌+◌, refl}
use Rattle.request_codec.proofs.FarSteps.{both_least}
use Rattle.request_codec.proofs.far_byte.least_of_half.Goals as goal

pub returns : goal.returns
returns c = both_least _ _ _ c.args.bytes.now c.args.at 64 (c.args.at + 64) 64 128 c.least_of_quarter.ensures c.least_of_quarter-2.ensures refl refl c.lesser.ensures.lanes c.lesser.ensures.each
