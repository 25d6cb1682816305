use Rattle.map_laws.proofs.ListMaps.{found-put, found-put_other, found-taken, found-taken_other}
use Rattle.map_laws.proofs.looking.list_is_a_map.Goals as goal

pub returns-clause-put : goal.returns-clause-put
returns-clause-put c = found-put

pub returns-clause-put_beside : goal.returns-clause-put_beside
returns-clause-put_beside c = found-put_other

pub returns-clause-taken : goal.returns-clause-taken
returns-clause-taken c = found-taken

pub returns-clause-taken_beside : goal.returns-clause-taken_beside
returns-clause-taken_beside c = found-taken_other
