use Rattle.machine_tests.proofs.BlankImages.{blank_walks}
use Rattle.machine_tests.proofs.raw_walks.cache_of.Goals as goal

pub returns-clause-walks : goal.returns-clause-walks
returns-clause-walks g c = rw c.start.ensures.machine (blank_walks _ _ _ c.blank_board-machine.ensures.blank)
