use Rattle.boots.proofs.Telling.{told_memory}
use Rattle.boots.proofs.summary.tell_memory.Goals as goal

pub returns-in-Ok-clause-lacks : goal.returns-in-Ok-clause-lacks
returns-in-Ok-clause-lacks g c = told_memory c.send.ensures

pub returns-in-Err-clause-lacks : goal.returns-in-Err-clause-lacks
returns-in-Err-clause-lacks g c = told_memory c.send.ensures
