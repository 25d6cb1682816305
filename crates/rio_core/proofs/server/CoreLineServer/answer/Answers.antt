use Rattle.rio_core.proofs.FormRules.{asked_request}
use Rattle.rio_core.proofs.ServerRules.{halted, limit_lasts}
use Rattle.rio_core.proofs.server.CoreLineServer.answer.Goals as goal

pub answer_one-requires-clause-request : goal.answer_one-requires-clause-request
answer_one-requires-clause-request g c = asked_request c.args.request.now c.requires.asked

pub returns-clause-halted : goal.returns-clause-halted
returns-clause-halted g c = halted _ _ _ _ _ _ c.answer_one.ensures.stopped_on

pub returns-clause-limit : goal.returns-clause-limit
returns-clause-limit g c = limit_lasts _ _ _ _ _ _ c.answer_one.ensures.went c.answer_one.ensures.stopped_on
