use Rattle.map_laws.proofs.MapWords.{depth_of_map, keys_of_map, one_list, tree_of_map}
use Rattle.map_laws.proofs.mapping.one_map.Goals as goal

pub returns-clause-one : goal.returns-clause-one
returns-clause-one c = one_list

pub returns-clause-keys : goal.returns-clause-keys
returns-clause-keys c = keys_of_map

pub returns-clause-depth : goal.returns-clause-depth
returns-clause-depth c = depth_of_map

pub returns-clause-tree : goal.returns-clause-tree
returns-clause-tree c = tree_of_map
