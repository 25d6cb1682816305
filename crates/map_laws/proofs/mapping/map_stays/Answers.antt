use Rattle.map_laws.proofs.MapWords.{map_stays}
use Rattle.map_laws.proofs.Standing.{stays}
use Rattle.map_laws.proofs.mapping.map_stays.Goals as goal

pub returns-clause-tree : goal.returns-clause-tree
returns-clause-tree c = stays

pub returns-clause-map : goal.returns-clause-map
returns-clause-map c = map_stays
