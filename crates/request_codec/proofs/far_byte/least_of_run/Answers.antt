use Rattle.std.proofs.Common.{◌+◌, refl}
use Rattle.request_codec.proofs.FarSteps.{both_least}
use Rattle.request_codec.proofs.far_byte.least_of_run.Goals as goal

pub returns : goal.returns
returns c = both_least _ _ _ c.args.bytes.now c.args.at 128 (c.args.at + 128) 128 256 c.least_of_half.ensures c.least_of_half-2.ensures refl refl c.lesser.ensures.lanes c.lesser.ensures.each
