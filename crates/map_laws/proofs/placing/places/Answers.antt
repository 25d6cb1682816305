use Rattle.map_laws.proofs.Times.{times-inserted, times-inserted_there, times-removed}
use Rattle.map_laws.proofs.placing.places.Goals as goal

pub returns-clause-new_key : goal.returns-clause-new_key
returns-clause-new_key c = times-inserted

pub returns-clause-old_key : goal.returns-clause-old_key
returns-clause-old_key c = times-inserted_there

pub returns-clause-given_back : goal.returns-clause-given_back
returns-clause-given_back c = times-removed
