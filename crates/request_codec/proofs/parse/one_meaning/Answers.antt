use Rattle.request_codec.proofs.OneMeaning.{meaning}
use Rattle.request_codec.proofs.parse.one_meaning.Goals as goal

pub returns : goal.returns
returns c = meaning
