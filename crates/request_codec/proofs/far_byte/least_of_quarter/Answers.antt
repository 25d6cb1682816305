use Rattle.request_codec.proofs.FarSteps.{two_least}
use Rattle.request_codec.proofs.far_byte.least_of_quarter.Goals as goal

pub returns : goal.returns
returns c = two_least c.args.bytes.now _ c.args.at c.requires c.lesser.ensures.lanes c.lesser.ensures.each
