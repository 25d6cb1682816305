use Rattle.map_laws.proofs.MapWords.{map_inserted, map_made, map_removed, map_replaced}
use Rattle.map_laws.proofs.mapping.map_changes.Goals as goal

pub returns-clause-made : goal.returns-clause-made
returns-clause-made c = map_made

pub returns-clause-inserted : goal.returns-clause-inserted
returns-clause-inserted c = map_inserted

pub returns-clause-replaced : goal.returns-clause-replaced
returns-clause-replaced c = map_replaced

pub returns-clause-removed : goal.returns-clause-removed
returns-clause-removed c = map_removed
