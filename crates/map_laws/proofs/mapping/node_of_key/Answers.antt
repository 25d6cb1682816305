use Rattle.map_laws.proofs.Standing.{node_of_key}
use Rattle.map_laws.proofs.mapping.node_of_key.Goals as goal

pub returns : goal.returns
returns c = node_of_key
