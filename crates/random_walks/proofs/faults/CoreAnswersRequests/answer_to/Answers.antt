use Rattle.random_walks.proofs.TestServers.{still_holds}
use Rattle.random_walks.proofs.faults.CoreAnswersRequests.answer_to.Goals as goal

pub returns-clause-holds : goal.returns-clause-holds
returns-clause-holds g c = still_holds _ _ c.requires.holds.0 c.args.request.now c.answer_one.result (c.answer_one.ensures.answered c.requires.holds.0 c.requires.holds.1)
