use Rattle.map_laws.proofs.Inserted.{levels-inserted, pairs-inserted, rise-inserted, root-inserted}
use Rattle.map_laws.proofs.Sizes.{size-inserted, size-inserted_there}
use Rattle.map_laws.proofs.inserting.insertion.Goals as goal

pub returns-clause-pairs : goal.returns-clause-pairs
returns-clause-pairs c = pairs-inserted

pub returns-clause-keys : goal.returns-clause-keys
returns-clause-keys c = rise-inserted

pub returns-clause-levels : goal.returns-clause-levels
returns-clause-levels c = levels-inserted

pub returns-clause-root : goal.returns-clause-root
returns-clause-root c = root-inserted

pub returns-clause-new_key : goal.returns-clause-new_key
returns-clause-new_key c = size-inserted

pub returns-clause-old_key : goal.returns-clause-old_key
returns-clause-old_key c = size-inserted_there
