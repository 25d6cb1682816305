use Rattle.std.proofs.Common.{ltb}
use Rattle.request_codec.proofs.Lanes32.{chosen_long, larger_at}
use Rattle.request_codec.proofs.lanes.larger.Goals as goal

pub returns-clause-lanes : goal.returns-clause-lanes
returns-clause-lanes c = chosen_long ltb c.args.a c.args.b c.args.b c.args.a c.fits-a.0 c.fits-b.0 c.fits-b.0 c.fits-a.0

pub returns-clause-each : goal.returns-clause-each
returns-clause-each c = λ j below. larger_at c.args.a c.args.b c.fits-a.0 c.fits-b.0 j below
