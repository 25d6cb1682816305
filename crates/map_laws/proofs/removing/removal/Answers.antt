use Rattle.map_laws.proofs.Removed.{levels-removed, pairs-removed, removed_none, rise-removed, root-removed}
use Rattle.map_laws.proofs.Sizes.{size-removed}
use Rattle.map_laws.proofs.removing.removal.Goals as goal

pub returns-clause-pairs : goal.returns-clause-pairs
returns-clause-pairs c = pairs-removed

pub returns-clause-keys : goal.returns-clause-keys
returns-clause-keys c = rise-removed

pub returns-clause-levels : goal.returns-clause-levels
returns-clause-levels c = levels-removed

pub returns-clause-root : goal.returns-clause-root
returns-clause-root c = root-removed

pub returns-clause-present : goal.returns-clause-present
returns-clause-present c = size-removed

pub returns-clause-absent : goal.returns-clause-absent
returns-clause-absent c = removed_none
